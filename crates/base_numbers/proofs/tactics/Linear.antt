-- Inequalities of rational numbers from a certificate: a sum of products of what the hypotheses say, each at least 0.
--     linear ρ s (search reads depth 40) refl        a ≤ b, where `s : 0 ≤ t` and b - a is t as a polynomial over ρ
--     linear_lt                                    a < b, where `s : 0 < t`
--     linear_eq                                    a ≡ b, where `s : t ≡ 0` and a - b is t
-- Certificates are made by gap, gap_lt, gap_eq, ⊕, ⊗ and the like.
use Rattle.std.proofs.Common.{◌≡◌, ℕ, List, [], ◌∷◌, pos, refl, ap, sym, ◌∙◌, subst, subst₂, arith}
use borrow.Author.Differences.{ints}
use Rattle.base_numbers.specs.Rational.{ℚ, whole, zero_ℚ, ◌+ℚ◌, ◌*ℚ◌, neg_ℚ, ◌-ℚ◌, ◌≤ℚ◌, ◌<ℚ◌}
use Rattle.base_numbers.proofs.rational.Laws.{+ℚ_idr, +ℚ_idl, +ℚ_invr, *ℚ-zero, sub_ℚ_is, whole-zero, le_of_lt_ℚ, +ℚ_le_right, +ℚ_le}
use Rattle.base_numbers.proofs.rational.Laws.{*ℚ_nonneg, lt_of_lt_of_le_ℚ, lt_of_not_le_ℚ, not_le_of_lt, whole_le, +ℚ_le_left}
use Rattle.base_numbers.proofs.tactics.Ring.{ring, reads, Reads, expr, leftover, same_from_zero}

-- ---- what a hypothesis says of a difference
-- where a ≤ b, b - a is at least 0
pub gap : {a b : ℚ} → a ≤ℚ b → zero_ℚ ≤ℚ b -ℚ a
gap {a} {b} h = subst₂ (λ x y. x ≤ℚ y) (+ℚ_invr a) (sym (sub_ℚ_is b a)) (+ℚ_le_right (neg_ℚ a) h)

le_from_gap : {a b : ℚ} → zero_ℚ ≤ℚ b -ℚ a → a ≤ℚ b
le_from_gap {a} {b} h = subst₂ (λ x y. x ≤ℚ y) (+ℚ_idl a) (ring (a ∷ b ∷ []) (search reads depth 40) refl) (+ℚ_le_right a h)

lt_from_gap : {a b : ℚ} → zero_ℚ <ℚ b -ℚ a → a <ℚ b
lt_from_gap {a} {b} h = lt_of_not_le_ℚ (λ i. not_le_of_lt h (subst (λ x. x ≤ℚ zero_ℚ) (ring (a ∷ b ∷ []) (search reads depth 40) refl)
    (neg_le' (gap i))))
  where
    neg_le' : zero_ℚ ≤ℚ a -ℚ b → neg_ℚ (a -ℚ b) ≤ℚ zero_ℚ
    neg_le' h = subst₂ (λ x y. x ≤ℚ y) (+ℚ_idl (neg_ℚ (a -ℚ b))) (+ℚ_invr (a -ℚ b)) (+ℚ_le_right (neg_ℚ (a -ℚ b)) h)

-- where a < b, b - a is above 0
pub gap_lt : {a b : ℚ} → a <ℚ b → zero_ℚ <ℚ b -ℚ a
gap_lt {a} {b} h = lt_of_not_le_ℚ (λ i. not_le_of_lt h (le_from_gap (subst (λ x. zero_ℚ ≤ℚ x)
    (ring (a ∷ b ∷ []) (search reads depth 40) refl) (turn i))))
  where
    turn : b -ℚ a ≤ℚ zero_ℚ → zero_ℚ ≤ℚ zero_ℚ -ℚ (b -ℚ a)
    turn i = gap i

infixl 6 ◌⊕◌
infixl 7 ◌⊗◌
-- a sum of two numbers that are at least 0 is at least 0
pub ◌⊕◌ : {s t : ℚ} → zero_ℚ ≤ℚ s → zero_ℚ ≤ℚ t → zero_ℚ ≤ℚ s +ℚ t
◌⊕◌ {s} {t} h i = subst (λ x. x ≤ℚ s +ℚ t) (+ℚ_idr zero_ℚ) (+ℚ_le h i)

-- a product of two numbers that are at least 0 is at least 0
pub ◌⊗◌ : {s t : ℚ} → zero_ℚ ≤ℚ s → zero_ℚ ≤ℚ t → zero_ℚ ≤ℚ s *ℚ t
h ⊗ i = *ℚ_nonneg h i

-- a number above 0 plus one that is at least 0 is above 0
pub lt_plus : {s t : ℚ} → zero_ℚ <ℚ s → zero_ℚ ≤ℚ t → zero_ℚ <ℚ s +ℚ t
lt_plus {s} {t} h i = lt_of_lt_of_le_ℚ h (subst (λ x. x ≤ℚ s +ℚ t) (+ℚ_idr s) (+ℚ_le_left s i))

nonneg_of_pos : {s : ℚ} → zero_ℚ <ℚ s → zero_ℚ ≤ℚ s
nonneg_of_pos h = le_of_lt_ℚ h

-- a natural number is at least 0
pub number : (n : ℕ) → zero_ℚ ≤ℚ whole (pos n)
number n = subst (λ x. x ≤ℚ whole (pos n)) whole-zero (whole_le (pos 0) (pos n) (omega (arith, ints)))

-- ---- the theorems
-- a ≤ b, where b - a is, as a polynomial, a number that is at least 0
pub linear : (ρ : List ℚ) {a b s : ℚ} → zero_ℚ ≤ℚ s → (r : Reads ρ (b -ℚ a -ℚ s)) → leftover (expr r) ≡ [] → a ≤ℚ b
linear ρ {a} {b} {s} h r t = le_from_gap (subst (λ x. zero_ℚ ≤ℚ x) (sym (ring ρ r t)) h)

-- a < b, where b - a is, as a polynomial, a number above 0
pub linear_lt : (ρ : List ℚ) {a b s : ℚ} → zero_ℚ <ℚ s → (r : Reads ρ (b -ℚ a -ℚ s)) → leftover (expr r) ≡ [] → a <ℚ b
linear_lt ρ {a} {b} {s} h r t = lt_from_gap (subst (λ x. zero_ℚ <ℚ x) (sym (ring ρ r t)) h)

-- a ≡ b, where a - b is, as a polynomial, a number that is 0
pub linear_eq : (ρ : List ℚ) {a b s : ℚ} → s ≡ zero_ℚ → (r : Reads ρ (a -ℚ b -ℚ s)) → leftover (expr r) ≡ [] → a ≡ b
linear_eq ρ {a} {b} {s} e r t = same_from_zero (ring ρ r t ∙ e)

-- the two sides of an equation have the difference 0
pub gap_zero : {a b : ℚ} → a ≡ b → a -ℚ b ≡ zero_ℚ
gap_zero {a} {b} e = ap (λ x. a -ℚ x) (sym e) ∙ ring (a ∷ []) (search reads depth 40) refl

-- a product with a number that is 0 is 0
pub times_zero : {s : ℚ} (c : ℚ) → s ≡ zero_ℚ → c *ℚ s ≡ zero_ℚ
times_zero c e = ap (λ x. c *ℚ x) e ∙ *ℚ-zero c
