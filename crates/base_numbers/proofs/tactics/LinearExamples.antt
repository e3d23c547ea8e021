-- Inequalities that `linear` proves.
use Rattle.std.proofs.Common.{◌≡◌, ◌≢◌, [], ◌∷◌, refl, ap, ◌∙◌}
use Rattle.base_numbers.specs.Rational.{ℚ, zero_ℚ, one_ℚ, ◌+ℚ◌, ◌*ℚ◌, ◌-ℚ◌, inv_ℚ, ◌/ℚ◌, ◌≤ℚ◌}
use Rattle.base_numbers.proofs.rational.Laws.{*ℚ_invr, div_ℚ_is}
use Rattle.base_numbers.proofs.tactics.Ring.{reads}
use Rattle.base_numbers.proofs.tactics.Linear.{linear, linear_eq, gap, gap_zero, times_zero, ◌⊕◌, ◌⊗◌}

scaled : (x y c : ℚ) → x ≤ℚ y → zero_ℚ ≤ℚ c → c *ℚ x ≤ℚ c *ℚ y
scaled x y c h i = linear (x ∷ y ∷ c ∷ []) (i ⊗ gap h) (search reads depth 40) refl

convex : (a b c t : ℚ) → zero_ℚ ≤ℚ t → t ≤ℚ one_ℚ → a ≤ℚ c → b ≤ℚ c → (one_ℚ -ℚ t) *ℚ a +ℚ t *ℚ b ≤ℚ c
convex a b c t h i j k = linear (a ∷ b ∷ c ∷ t ∷ []) (gap i ⊗ gap j ⊕ h ⊗ gap k) (search reads depth 40) refl

quotient : (a b : ℚ) → a ≢ zero_ℚ → a *ℚ (b /ℚ a) ≡ b
quotient a b n = ap (λ x. a *ℚ x) (div_ℚ_is b a) ∙ linear_eq (a ∷ b ∷ inv_ℚ a ∷ []) (times_zero b (gap_zero (*ℚ_invr a n)))
    (search reads depth 40) refl
