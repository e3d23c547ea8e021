-- The least of the bad elements of a list.
use Rattle.std.proofs.Common.{◌⊎◌, inl, inr, ⊎_elim, List, [], ◌∷◌, refl, subst}
use Rattle.base_facts.specs.Elements.{In}
use Rattle.base_numbers.specs.Rational.{ℚ, ◌≤ℚ◌}
use Rattle.base_numbers.proofs.rational.Laws.{≤ℚ_refl, ≤ℚ_trans, ≤ℚ_total}

-- all are good, or there is a bad one whose number is least among the bad ones
pub least_bad : {A : Type 0} (Good Bad : A → Type 0) (f : A → ℚ) (xs : List A) → ((x : A) → In xs x → Good x ⊎ Bad x) →
    ((x : A) → In xs x → Good x) ⊎ ((x : A) × In xs x × Bad x × ((y : A) → In xs y → Good y ⊎ (Bad y × (f x ≤ℚ f y))))
least_bad Good Bad f [] tell = inl (λ x m. absurd m)
least_bad {A} Good Bad f (x ∷ xs) tell =
    ⊎_elim (λ all. with_good all (tell x (inl refl))) (λ r. with_bad r.0 r.1 r.2 r.3 (tell x (inl refl)))
    (least_bad Good Bad f xs (λ y m. tell y (inr m)))
  where
    with_good : ((y : A) → In xs y → Good y) → Good x ⊎ Bad x → ((y : A) → In (x ∷ xs) y → Good y)
        ⊎ ((y : A) × In (x ∷ xs) y × Bad y × ((z : A) → In (x ∷ xs) z → Good z ⊎ (Bad z × (f y ≤ℚ f z))))
    with_good all (inl g) = inl (λ y m. ⊎_elim (λ e. subst Good e g) (λ k. all y k) m)
    with_good all (inr b) = inr (
      x,
      inl refl,
      b,
      λ z m. ⊎_elim (λ e. inr (subst Bad e b, subst (λ w. f x ≤ℚ f w) e (≤ℚ_refl (f x))))
          (λ k. inl (all z k)) m,
    )

    with_bad : (y : A) → In xs y → Bad y → ((z : A) → In xs z → Good z ⊎ (Bad z × (f y ≤ℚ f z))) → Good x ⊎ Bad x →
        ((y : A) → In (x ∷ xs) y → Good y) ⊎ ((y : A) × In (x ∷ xs) y × Bad y × ((z : A) → In (x ∷ xs) z → Good z ⊎ (Bad z × (f y ≤ℚ f z))))
    with_bad y m b least (inl g) = inr (y, inr m, b, λ z k. ⊎_elim (λ e. inl (subst Good e g)) (λ j. least z j) k)
    with_bad y m b least (inr c) = ⊎_elim
        (λ h. inr (y, inr m, b, λ z k. ⊎_elim (λ e. inr (subst Bad e c, subst (λ w. f y ≤ℚ f w) e h)) (λ j. least z j) k))
        (λ h. inr (
          x,
          inl refl,
          c,
          λ z k. ⊎_elim (λ e. inr (subst Bad e c, subst (λ w. f x ≤ℚ f w) e (≤ℚ_refl (f x))))
              (λ j. ⊎_elim (λ g. inl g) (λ d. inr (d.0, ≤ℚ_trans h d.1)) (least z j)) k,
        ))
        (≤ℚ_total (f y) (f x))
