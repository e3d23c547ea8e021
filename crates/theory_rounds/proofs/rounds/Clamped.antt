-- A choice that is one of the listed numbers.
use Rattle.std.proofs.Common.{◌≡◌, ◌⊎◌, inl, inr, ⊎_elim, ℕ, eqb, Bool, true, false, true≢false, List, [], ◌∷◌, refl, sym, ap}
use Rattle.std.proofs.Common.{if◌then◌else◌}
use Rattle.std.proofs.lemmas.Bool.Decides.{eqb_tells}
use Rattle.base_facts.specs.Elements.{In}

has : ℕ → List ℕ → Bool
has e [] = false
has e (x ∷ xs) = if eqb e x then true else has e xs

has_in : (e : ℕ) (xs : List ℕ) → has e xs ≡ true → In xs e
unfolding has
has_in e [] h = absurd (true≢false (sym h))
has_in e (x ∷ xs) h = by (eqb e x) (eqb_tells e x) h (λ t. has_in e xs t)
  where
    by : (b : Bool) → ((b ≡ true) × (e ≡ x)) ⊎ ((b ≡ false) × (e ≡ x → ⊥)) → (if b then true else has e xs) ≡ true
        → (has e xs ≡ true → In xs e) → In (x ∷ xs) e
    by true (inl t) h rec = inl (sym t.1)
    by true (inr t) h rec = absurd (true≢false t.0)
    by false t h rec = inr (rec h)

in_has : (e : ℕ) (xs : List ℕ) → In xs e → has e xs ≡ true
unfolding has
in_has e [] m = absurd m
in_has e (x ∷ xs) m = by (eqb e x) (eqb_tells e x) m (λ t. in_has e xs t)
  where
    by : (b : Bool) → ((b ≡ true) × (e ≡ x)) ⊎ ((b ≡ false) × (e ≡ x → ⊥)) → In (x ∷ xs) e → (In xs e → has e xs ≡ true)
        → (if b then true else has e xs) ≡ true
    by true t m rec = refl
    by false (inl t) m rec = absurd (true≢false (sym t.0))
    by false (inr t) m rec = ⊎_elim (λ h. absurd (t.1 (sym h))) (λ h. rec h) m

-- the number itself where it is listed, else the first
pub clamp : ℕ → ℕ → List ℕ → ℕ
clamp e k ks = if has e (k ∷ ks) then e else k

-- the choice is one of the listed numbers
pub clamp_among : (e k : ℕ) (ks : List ℕ) → In (k ∷ ks) (clamp e k ks)
unfolding clamp
clamp_among e k ks = by (has e (k ∷ ks)) refl
  where
    by : (b : Bool) → has e (k ∷ ks) ≡ b → In (k ∷ ks) (if b then e else k)
    by true h = has_in e (k ∷ ks) h
    by false h = inl refl

-- a listed number is its own choice
pub clamp_is : (e k : ℕ) (ks : List ℕ) → In (k ∷ ks) e → clamp e k ks ≡ e
unfolding clamp
clamp_is e k ks m = ap (λ b. if b then e else k) (in_has e (k ∷ ks) m)
