-- Members of lists of numbers.
use Rattle.std.proofs.Common.{◌≡◌, ◌⊎◌, ◌↔◌, inl, inr, ⊎_elim, ℕ, zero, suc, ◌<◌, ◌==◌, ◌||◌, Bool, true, false, true≢false, List, [], ◌∷◌}
use Rattle.std.proofs.Common.{◌++◌, length, get_or, refl, sym, subst, arith}
use Rattle.std.specs.List.{list_any}
use Rattle.std.proofs.lemmas.Bool.{eqb-true}
use Rattle.base_facts.specs.Elements.{In}
use Rattle.base_facts.proofs.elements.Membership.{in_left, in_right, of_append}

-- a number that is found among others is one of them
pub has_in : (n : ℕ) (xs : List ℕ) → list_any (λ x. x == n) xs ≡ true → In xs n
has_in n [] e = absurd (true≢false (sym e))
has_in n (x ∷ xs) e = by (x == n) refl e (has_in n xs)
  where
    by : (b : Bool) → (x == n) ≡ b → b || list_any (λ y. y == n) xs ≡ true → (list_any (λ y. y == n) xs ≡ true → In xs n)
        → (x ≡ n) ⊎ In xs n
    by true k h t = inl (eqb-true x n k)
    by false k h t = inr (t h)

-- a number that is there already
pub in_same : (n : ℕ) (xs : List ℕ) → In xs n → (x : ℕ) → In xs x ↔ (In xs x ⊎ (n ≡ x))
in_same n xs m x = (λ h. inl h, λ h. ⊎_elim (λ k. k) (λ e. by x e) h)
  where
    by : (x : ℕ) → n ≡ x → In xs x
    by x e = subst (In xs) e m

-- a number that is put behind others
pub in_more : (n : ℕ) (xs new : List ℕ) → new ≡ xs ++ n ∷ [] → (x : ℕ) → In new x ↔ (In xs x ⊎ (n ≡ x))
in_more n xs new e x = (
  λ h. ⊎_elim (λ k. inl k) (λ k. ⊎_elim (λ s. inr s) (λ s. absurd s) k) (of_append xs (n ∷ []) x (subst (λ ys. In ys x) e h)),
  λ h. subst (λ ys. In ys x) (sym e) (⊎_elim (λ k. in_left xs (n ∷ []) x k) (λ s. in_right xs (n ∷ []) x (inl s)) h),
)

-- each element of a list has a place
pub in_at : {A : Type 0} (xs : List A) (k : ℕ) (d : A) → k < length xs → In xs (get_or xs k d)
in_at [] k d l = absurd (omega (arith, l))
in_at (x ∷ xs) zero d l = inl refl
in_at (x ∷ xs) (suc k) d l = inr (in_at xs k d (omega (arith, l)))

-- and each place is found
pub place_in : {A : Type 0} (xs : List A) (x d : A) → In xs x → (k : ℕ) × (k < length xs) × (get_or xs k d ≡ x)
place_in [] x d m = absurd m
place_in (y ∷ xs) x d m = ⊎_elim
    (λ e. (0, omega arith, e))
    (λ n. let r = place_in xs x d n in (suc r.0, (let l = r.1 in omega (arith, l)), r.2))
    m

-- a true test stands within the list
pub true_within : (xs : List Bool) (k : ℕ) → get_or xs k false ≡ true → k < length xs
true_within [] k e = absurd (true≢false (sym e))
true_within (x ∷ xs) zero e = omega arith
true_within (x ∷ xs) (suc k) e = (let l = true_within xs k e in omega (arith, l))
