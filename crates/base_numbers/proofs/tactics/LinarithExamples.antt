-- Inequalities that `lin_le` and its kin prove.
use Rattle.std.proofs.Common.{◌≡◌, [], ◌∷◌, ℤ, pos}
use Rattle.base_numbers.specs.Rational.{ℚ, whole, zero_ℚ, one_ℚ, ◌+ℚ◌, ◌*ℚ◌, ◌-ℚ◌, inv_ℚ, ◌/ℚ◌, ◌≤ℚ◌, ◌<ℚ◌}
use Rattle.base_numbers.proofs.rational.Laws.{le_of_lt_ℚ}
use Rattle.base_numbers.proofs.tactics.Linear.{gap, ◌⊗◌}
use Rattle.base_numbers.proofs.tactics.Linarith.{lin_le, lin_lt, lin_false, le, lt, eq, eq_times, lin_eq, ge0, reads_all}

chained : (x y z w : ℚ) → x ≤ℚ y → y +ℚ z ≤ℚ w → x +ℚ z ≤ℚ w
chained x y z w h i = lin_le (x ∷ y ∷ z ∷ w ∷ []) (le h ∷ le i ∷ []) (search reads_all depth 40) tt

strict : (x y z : ℚ) → x <ℚ y → y ≤ℚ z → x <ℚ z
strict x y z h i = lin_lt (x ∷ y ∷ z ∷ []) (lt h ∷ le i ∷ []) (search reads_all depth 40) tt

several : (x y : ℚ) → whole (pos 2) *ℚ x +ℚ whole (pos 3) *ℚ y ≤ℚ whole (pos 12) → x ≤ℚ whole (pos 2) *ℚ y +ℚ one_ℚ
    → whole (pos 7) *ℚ x ≤ℚ whole (pos 27)
several x y h i = lin_le (x ∷ y ∷ []) (le h ∷ le i ∷ []) (search reads_all depth 40) tt

false_one : (x y : ℚ) → x +ℚ y ≤ℚ one_ℚ → one_ℚ ≤ℚ x → one_ℚ ≤ℚ y → ⊥
false_one x y h i j = lin_false (x ∷ y ∷ []) (le h ∷ le i ∷ le j ∷ []) (search reads_all depth 40) tt

many : (a b c d e f : ℚ) → a ≤ℚ b → b +ℚ c ≤ℚ d → d ≤ℚ e -ℚ f → zero_ℚ ≤ℚ f → e ≤ℚ whole (pos 10) → whole (pos 4) ≤ℚ c → a ≡ f +ℚ f
    → a ≤ℚ whole (pos 6)
many a b c d e f h1 h2 h3 h4 h5 h6 h7 = lin_le (a ∷ b ∷ c ∷ d ∷ e ∷ f ∷ []) (le h1 ∷ le h2 ∷ le h3 ∷ le h4 ∷ le h5 ∷ le h6 ∷ eq h7 ∷ [])
    (search reads_all depth 40 fits 9000) tt

-- a triangle of six sums
six : (a b c d e f : ℚ) → a +ℚ b ≤ℚ c → c +ℚ d ≤ℚ e → e +ℚ f ≤ℚ a +ℚ one_ℚ → b +ℚ d ≤ℚ f +ℚ f → zero_ℚ ≤ℚ b → zero_ℚ ≤ℚ d → zero_ℚ ≤ℚ f
    → b +ℚ d +ℚ f ≤ℚ one_ℚ
six a b c d e f h1 h2 h3 h4 h5 h6 h7 = lin_le (a ∷ b ∷ c ∷ d ∷ e ∷ f ∷ []) (le h1 ∷ le h2 ∷ le h3 ∷ le h4 ∷ le h5 ∷ le h6 ∷ le h7 ∷ [])
    (search reads_all depth 40 fits 9000) tt

-- what a pivot does to two equations, with i the pivot's inverse
pivot_row : (p i a x y z : ℚ) → p *ℚ i ≡ one_ℚ → y ≡ a *ℚ x +ℚ p *ℚ z → z ≡ i *ℚ y -ℚ (a *ℚ i) *ℚ x
pivot_row p i a x y z u h = lin_eq (p ∷ i ∷ a ∷ x ∷ y ∷ z ∷ []) (eq_times z u ∷ eq_times i h ∷ []) (search reads_all depth 40 fits 9000) tt

pivot_other : (p i a c d x y z w : ℚ) → p *ℚ i ≡ one_ℚ → y ≡ a *ℚ x +ℚ p *ℚ z → w ≡ c *ℚ x +ℚ d *ℚ z
    → w ≡ (d *ℚ i) *ℚ y +ℚ (c -ℚ d *ℚ a *ℚ i) *ℚ x
pivot_other p i a c d x y z w u h k = lin_eq (p ∷ i ∷ a ∷ c ∷ d ∷ x ∷ y ∷ z ∷ w ∷ [])
    (eq_times (d *ℚ z) u ∷ eq_times (d *ℚ i) h ∷ eq k ∷ []) (search reads_all depth 40 fits 9000) tt

-- an integer that is no numeral is an atom
an_atom : (z : ℤ) (x : ℚ) → whole z ≤ℚ x → whole z ≤ℚ x +ℚ one_ℚ
an_atom z x h = lin_le (whole z ∷ x ∷ []) (le h ∷ []) (search reads_all depth 40) tt

-- a quotient, with the divisor's inverse as an atom
halved : (a b c : ℚ) → zero_ℚ <ℚ inv_ℚ c → a ≤ℚ b → a /ℚ c ≤ℚ b /ℚ c
halved a b c h i = lin_le (a ∷ b ∷ inv_ℚ c ∷ []) (ge0 (le_of_lt_ℚ h ⊗ gap i) ∷ []) (search reads_all depth 40) tt

-- ten unknowns and twelve facts
ten : (a b c d e f g h i j : ℚ) → a ≤ℚ b → b ≤ℚ c +ℚ a -ℚ d → c ≤ℚ d +ℚ one_ℚ → d +ℚ e ≤ℚ f → f ≤ℚ g +ℚ g → g ≤ℚ h -ℚ i → i +ℚ j ≤ℚ h
    → zero_ℚ ≤ℚ i → h ≤ℚ whole (pos 5) → zero_ℚ ≤ℚ j → zero_ℚ ≤ℚ e → whole (pos 2) *ℚ i ≡ j +ℚ e → e ≤ℚ whole (pos 10) -ℚ d
ten a b c d e f g h i j h1 h2 h3 h4 h5 h6 h7 h8 h9 h10 h11 h12 =
    lin_le (a ∷ b ∷ c ∷ d ∷ e ∷ f ∷ g ∷ h ∷ i ∷ j ∷ []) (le h1 ∷ le h2 ∷ le h3 ∷ le h4 ∷ le h5 ∷ le h6 ∷ le h7 ∷ le h8 ∷ le h9 ∷ le h10
    ∷ le h11 ∷ eq h12 ∷ []) (search reads_all depth 60 fits 20000) tt
