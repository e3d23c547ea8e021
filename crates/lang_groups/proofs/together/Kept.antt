-- A group as it is kept holds the same variables together.
use Rattle.std.proofs.Common.{◌≡◌, ◌∙◌, ◌++◌, ◌∷◌, ◌==◌, ◌≢◌, ℕ, Bool, true, false, not, ◌&&◌, ◌||◌, List, [], refl, sym, ap, ap₂}
use Rattle.std.proofs.Common.{length, nat_lt, if◌then◌else◌, ⊎_elim, subst, arith}
use Rattle.std.proofs.lemmas.Bool.Decides.{eqb_tells}
use Rattle.std.proofs.lemmas.Bool.{ltb-false}
use Rattle.lang_groups.specs.Groups.{has, SameMembers, SameTogether}
use Rattle.lang_groups.specs.Kept.{distinct, distinct_behind, kept_group, with_group}
use Rattle.lang_groups.proofs.together.Bools.{or_assoc, or_false, and_false}
use Rattle.lang_groups.proofs.together.Members.{has_append}
use Rattle.lang_groups.proofs.together.Same.{same_refl, same_sym, same_append, same_cons, same_trans, from_share}

-- a list with a number more has that and what it had
one_more : (kept : List ℕ) (x : ℕ) (b : Bool) → has kept x ≡ b → (z : ℕ)
    → has (if b then kept else kept ++ x ∷ []) z ≡ (has kept z || (x == z))
one_more kept x true e z = ⊎_elim
    (λ h. let k : has kept z ≡ true = subst (λ w. has kept w ≡ true) h.1 e in k ∙ sym (ap (λ b. b || (x == z)) k))
    (λ h. sym (ap (λ b. has kept z || b) h.0 ∙ or_false (has kept z))) (eqb_tells x z)
one_more kept x false e z = has_append kept (x ∷ []) z ∙ ap (λ c. has kept z || c) (or_false (x == z))

-- the variables of a list, each once, and of those before
distinct_has : (kept xs : List ℕ) (z : ℕ) → has (distinct_behind kept xs) z ≡ (has kept z || has xs z)
distinct_has kept [] z = sym (or_false (has kept z))
distinct_has kept (x ∷ xs) z =
    distinct_has (if has kept x then kept else kept ++ x ∷ []) xs z
    ∙ ap (λ b. b || has xs z) (one_more kept x (has kept x) refl z)
    ∙ or_assoc (has kept z) (x == z) (has xs z)

-- a list without repetition has the same variables
pub distinct_members : (g : List ℕ) → SameMembers (distinct g) g
distinct_members g = record { same = λ z. distinct_has [] g z }

-- different variables aren't both the same one
one_alone : (a x y : ℕ) → (not (x == y) && ((a == x) && (a == y))) ≡ false
one_alone a x y = ⊎_elim (λ h. ap (λ b. not b && ((a == x) && (a == y))) h.0) (λ h. differing h.1) (eqb_tells x y)
  where
    second : x ≢ y → a ≡ x → (not (x == y) && ((a == x) && (a == y))) ≡ false
    second n p = ⊎_elim (λ q. absurd (n (sym p ∙ q.1)))
        (λ q. ap (λ b. not (x == y) && ((a == x) && b)) q.0 ∙ ap (λ b. not (x == y) && b) (and_false (a == x)) ∙ and_false (not (x == y)))
        (eqb_tells a y)

    differing : x ≢ y → (not (x == y) && ((a == x) && (a == y))) ≡ false
    differing n = ⊎_elim (λ p. second n p.1)
        (λ p. ap (λ b. not (x == y) && (b && (a == y))) p.0 ∙ and_false (not (x == y))) (eqb_tells a x)

-- a group of at most one variable holds nothing together
pub same_few : (g : List ℕ) → nat_lt 1 (length g) ≡ false → SameTogether (g ∷ []) []
same_few [] e = from_share (λ x y. refl)
same_few (a ∷ []) e = record {
  same = λ x y. ap₂ (λ p q. not (x == y) && ((p && q) || false)) (or_false (a == x)) (or_false (a == y))
      ∙ ap (λ b. not (x == y) && b) (or_false ((a == x) && (a == y))) ∙ one_alone a x y ∙ sym (and_false (not (x == y)));
}
same_few (a ∷ b ∷ g) e = absurd (let h = ltb-false 1 (length (a ∷ b ∷ g)) e in omega (arith, h))

-- a group as it is kept
pub kept_same : (g : List ℕ) → SameTogether (kept_group g) (g ∷ [])
kept_same g = kept_if (nat_lt 1 (length (distinct g))) refl
  where
    kept_if : (b : Bool) → nat_lt 1 (length (distinct g)) ≡ b → SameTogether (if b then distinct g ∷ [] else []) (g ∷ [])
    kept_if true e = same_cons (distinct_members g) (same_refl [])
    kept_if false e = same_trans (same_sym (same_few (distinct g) e)) (same_cons (distinct_members g) (same_refl []))

-- groups with one more
pub with_group_same : (gs : List (List ℕ)) (g : List ℕ) → SameTogether (with_group gs g) (gs ++ g ∷ [])
with_group_same gs g = same_append (same_refl gs) (kept_same g)
