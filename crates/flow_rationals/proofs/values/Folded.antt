-- The value of a sum as a sum of values, part by part; it is monotone.
use Rattle.std.proofs.Common.{◌≡◌, ◌∙◌, ◌&&◌, ◌||◌, ⊎_elim, ℕ, zero, suc, ◌<◌, Bool, true, false, ℤ, pos, negsuc, List, [], ◌∷◌, length}
use Rattle.std.proofs.Common.{refl, ap, ap₂, sym, subst, subst₂, arith, zero-lt-suc, true≢false}
use Rattle.std.specs.Prelude.{if◌then◌else◌}
use Rattle.std.specs.List.{list_all}
use Rattle.std.proofs.lemmas.Bool.{and_parts}
use Rattle.std.proofs.lemmas.Int.{ints}
use Rattle.base_numbers.specs.Rational.{ℚ, whole, zero_ℚ, ◌+ℚ◌, ◌-ℚ◌, ◌*ℚ◌, ◌/ℚ◌, ◌≤ℚ◌, ◌<ℚ◌}
use Rattle.base_numbers.specs.Extended.{Ext, neg_inf, fin, pos_inf, ◌≤ᴱ◌}
use Rattle.base_numbers.proofs.rational.Laws.{≤ℚ_refl, ≤ℚ_trans, le_of_lt_ℚ, le_or_lt, not_le_of_lt, ne_of_lt_ℚ, whole-zero, whole_le}
use Rattle.base_numbers.proofs.rational.Laws.{zero-*ℚ, +ℚ_le, *ℚ_pos}
use Rattle.base_numbers.proofs.rational.Quotients.{quotient_times}
use Rattle.base_numbers.proofs.tactics.Linear.{gap, gap_lt, ◌⊗◌}
use Rattle.base_numbers.proofs.tactics.Linarith.{lin_le, lin_lt, le, ge0, gt0, reads_all}
use Rattle.flow_rationals.specs.declared.equation.Sum.{Sum}
use Rattle.flow_rationals.specs.Equations.{is_from}
use Rattle.flow_rationals.specs.Values.{Values, later, is_pos_inf, is_neg_inf, number, is_positive, has_part, parts_sum, sum_value}
use Rattle.flow_rationals.proofs.values.Extremes.{le_top}

-- ---- sums of values
-- +inf counts before -inf
abbrev pub plus : Ext → Ext → Ext
plus neg_inf neg_inf = neg_inf
plus neg_inf (fin b) = neg_inf
plus neg_inf pos_inf = pos_inf
plus (fin a) neg_inf = neg_inf
plus (fin a) (fin b) = fin (a +ℚ b)
plus (fin a) pos_inf = pos_inf
plus pos_inf y = pos_inf

-- +inf, else -inf, else a fraction
abbrev pub choose : Bool → Bool → ℚ → Ext
choose true n q = pos_inf
choose false true q = neg_inf
choose false false q = fin q

-- a coefficient times a value
abbrev pub part : ℤ → Ext → Ext
part c x = choose (is_positive c && is_pos_inf x) (is_positive c && is_neg_inf x) (whole c *ℚ number x)

-- the sum of the parts
abbrev pub folded : List ℤ → Values → Ext
folded [] values = fin zero_ℚ
folded (c ∷ cs) values = plus (part c (values 0)) (folded cs (later values))

-- the constant added, and divided
abbrev pub scaled : Sum → Ext → Ext
scaled s neg_inf = neg_inf
scaled s (fin q) = fin ((q +ℚ whole s.constant) /ℚ whole s.den)
scaled s pos_inf = pos_inf

plus-choose : (a b : Bool) (q : ℚ) (c d : Bool) (r : ℚ) → plus (choose a b q) (choose c d r) ≡ choose (a || c) (b || d) (q +ℚ r)
plus-choose true b q c d r = refl
plus-choose false true q true d r = refl
plus-choose false true q false true r = refl
plus-choose false true q false false r = refl
plus-choose false false q true d r = refl
plus-choose false false q false true r = refl
plus-choose false false q false false r = refl

folded_is : (cs : List ℤ) (values : Values) → folded cs values ≡ choose (has_part is_pos_inf cs values) (has_part is_neg_inf cs values)
    (parts_sum cs values)
folded_is [] values = refl
folded_is (c ∷ cs) values =
    let x = values 0 in
    let rest = later values in
    ap (plus (part c x)) (folded_is cs rest)
    ∙ plus-choose (is_positive c && is_pos_inf x) (is_positive c && is_neg_inf x) (whole c *ℚ number x)
    (has_part is_pos_inf cs rest) (has_part is_neg_inf cs rest) (parts_sum cs rest)

scaled-choose : (s : Sum) (a b : Bool) (q : ℚ) → scaled s (choose a b q)
    ≡ (if a then pos_inf else if b then neg_inf else fin ((q +ℚ whole s.constant) /ℚ whole s.den))
scaled-choose s true b q = refl
scaled-choose s false true q = refl
scaled-choose s false false q = refl

-- the value of a sum is the sum of its parts' values, with the constant added, and divided
pub sum_value_is : (s : Sum) (values : Values) → sum_value s values ≡ scaled s (folded s.coeffs values)
sum_value_is s values =
    sym (ap (scaled s) (folded_is s.coeffs values)
    ∙ scaled-choose s (has_part is_pos_inf s.coeffs values) (has_part is_neg_inf s.coeffs values) (parts_sum s.coeffs values))

-- ---- at fractions
part_fin : (c : ℤ) (q : ℚ) → part c (fin q) ≡ fin (whole c *ℚ q)
part_fin (pos zero) q = refl
part_fin (pos (suc n)) q = refl
part_fin (negsuc n) q = refl

-- at fractions the sum of the parts is the fraction that they add up to
pub folded_fin : (cs : List ℤ) (f : ℕ → ℚ) → folded cs (λ k. fin (f k)) ≡ fin (parts_sum cs (λ k. fin (f k)))
folded_fin [] f = refl
folded_fin (c ∷ cs) f = ap₂ plus (part_fin c (f 0)) (folded_fin cs (λ k. f (suc k)))

-- values with the same fractions have the same sum
pub parts_sum_same : (cs : List ℤ) (values others : Values) → ((k : ℕ) → k < length cs → values k ≡ others k)
    → parts_sum cs values ≡ parts_sum cs others
parts_sum_same [] values others h = refl
parts_sum_same (c ∷ cs) values others h =
    ap₂ (λ x y. (whole c *ℚ number x) +ℚ y) (h 0 (zero-lt-suc (length cs)))
    (parts_sum_same cs (later values) (later others) (λ k l. h (suc k) (omega arith)))

-- ---- monotone
times_le : {a b : ℚ} (c : ℚ) → zero_ℚ ≤ℚ c → a ≤ℚ b → c *ℚ a ≤ℚ c *ℚ b
times_le {a} {b} c h i = lin_le (a ∷ b ∷ c ∷ []) (ge0 (h ⊗ gap i) ∷ []) (search reads_all depth 40) tt

none_times : (a b : ℚ) → whole (pos zero) *ℚ a ≤ℚ whole (pos zero) *ℚ b
none_times a b =
    subst (λ z. z *ℚ a ≤ℚ z *ℚ b) (sym whole-zero) (subst₂ (λ x y. x ≤ℚ y) (sym (zero-*ℚ a)) (sym (zero-*ℚ b)) (≤ℚ_refl zero_ℚ))

whole_nonneg : (n : ℕ) → zero_ℚ ≤ℚ whole (pos n)
whole_nonneg n = subst (λ z. z ≤ℚ whole (pos n)) whole-zero (whole_le (pos 0) (pos n) (omega (arith, ints)))

part_mono : (c : ℤ) (x y : Ext) → is_from 0 c ≡ true → x ≤ᴱ y → part c x ≤ᴱ part c y
part_mono (pos zero) x y h i = none_times (number x) (number y)
part_mono (pos (suc n)) neg_inf y h i = tt
part_mono (pos (suc n)) (fin a) neg_inf h i = absurd i
part_mono (pos (suc n)) (fin a) (fin b) h i = times_le (whole (pos (suc n))) (whole_nonneg (suc n)) i
part_mono (pos (suc n)) (fin a) pos_inf h i = tt
part_mono (pos (suc n)) pos_inf neg_inf h i = absurd i
part_mono (pos (suc n)) pos_inf (fin b) h i = absurd i
part_mono (pos (suc n)) pos_inf pos_inf h i = tt
part_mono (negsuc n) x y h i = absurd (true≢false (sym h))

plus_mono : (x x' y y' : Ext) → x ≤ᴱ x' → y ≤ᴱ y' → plus x y ≤ᴱ plus x' y'
plus_mono neg_inf x' neg_inf y' h i = tt
plus_mono neg_inf x' (fin b) y' h i = tt
plus_mono neg_inf x' pos_inf neg_inf h i = absurd i
plus_mono neg_inf x' pos_inf (fin d) h i = absurd i
plus_mono neg_inf neg_inf pos_inf pos_inf h i = tt
plus_mono neg_inf (fin c) pos_inf pos_inf h i = tt
plus_mono neg_inf pos_inf pos_inf pos_inf h i = tt
plus_mono (fin a) neg_inf y y' h i = absurd h
plus_mono (fin a) (fin c) neg_inf y' h i = tt
plus_mono (fin a) (fin c) (fin b) neg_inf h i = absurd i
plus_mono (fin a) (fin c) (fin b) (fin d) h i = +ℚ_le h i
plus_mono (fin a) (fin c) (fin b) pos_inf h i = tt
plus_mono (fin a) (fin c) pos_inf neg_inf h i = absurd i
plus_mono (fin a) (fin c) pos_inf (fin d) h i = absurd i
plus_mono (fin a) (fin c) pos_inf pos_inf h i = tt
plus_mono (fin a) pos_inf y y' h i = le_top (plus (fin a) y)
plus_mono pos_inf neg_inf y y' h i = absurd h
plus_mono pos_inf (fin c) y y' h i = absurd h
plus_mono pos_inf pos_inf y y' h i = tt

-- greater values make a greater sum, where no coefficient is below 0
pub folded_mono : (cs : List ℤ) (values others : Values) → list_all (is_from 0) cs ≡ true → ((k : ℕ) → k < length cs → values k ≤ᴱ others k)
    → folded cs values ≤ᴱ folded cs others
folded_mono [] values others h i = ≤ℚ_refl zero_ℚ
folded_mono (c ∷ cs) values others h i =
    let parts = and_parts (is_from 0 c) (list_all (is_from 0) cs) h in
    plus_mono (part c (values 0)) (part c (others 0)) (folded cs (later values)) (folded cs (later others))
    (part_mono c (values 0) (others 0) parts.0 (i 0 (zero-lt-suc (length cs))))
    (folded_mono cs (later values) (later others) parts.1 (λ k l. i (suc k) (omega arith)))

-- ---- products with a number above 0, and quotients by it
le_times : {a b d : ℚ} → zero_ℚ <ℚ d → a ≤ℚ b → a *ℚ d ≤ℚ b *ℚ d
le_times {a} {b} {d} h i = lin_le (a ∷ b ∷ d ∷ []) (ge0 (le_of_lt_ℚ h ⊗ gap i) ∷ []) (search reads_all depth 40) tt

times_lt : {a b d : ℚ} → zero_ℚ <ℚ d → a <ℚ b → a *ℚ d <ℚ b *ℚ d
times_lt {a} {b} {d} h i = lin_lt (a ∷ b ∷ d ∷ []) (gt0 (*ℚ_pos (gap_lt i) h) ∷ []) (search reads_all depth 40) tt

-- a number is at most another where its product with a number above 0 is at most the other's
pub le_by_times : {a b d : ℚ} → zero_ℚ <ℚ d → a *ℚ d ≤ℚ b *ℚ d → a ≤ℚ b
le_by_times {a} {b} {d} h i = ⊎_elim (λ l. l) (λ l. absurd (not_le_of_lt (times_lt h l) i)) (le_or_lt a b)

module _ (d : ℚ) (h : zero_ℚ <ℚ d) where
  back : (a : ℚ) → (a /ℚ d) *ℚ d ≡ a
  back a = quotient_times a d (λ e. ne_of_lt_ℚ h (sym e))

  -- a number is at most a quotient exactly where its product is at most the dividend
  product_le : (q a : ℚ) → q ≤ℚ a /ℚ d → q *ℚ d ≤ℚ a
  product_le q a i = subst (λ y. q *ℚ d ≤ℚ y) (back a) (le_times h i)

  le_quotient : (q a : ℚ) → q *ℚ d ≤ℚ a → q ≤ℚ a /ℚ d
  le_quotient q a i = le_by_times h (subst (λ y. q *ℚ d ≤ℚ y) (sym (back a)) i)

  -- a quotient is at most a number exactly where the dividend is at most the product
  pub dividend_le : (a q : ℚ) → a /ℚ d ≤ℚ q → a ≤ℚ q *ℚ d
  dividend_le a q i = subst (λ y. y ≤ℚ q *ℚ d) (back a) (le_times h i)

  -- a quotient is at most q where the dividend is at most q times the divisor
  pub quotient_le : (a q : ℚ) → a ≤ℚ q *ℚ d → a /ℚ d ≤ℚ q
  quotient_le a q i = le_by_times h (subst (λ y. y ≤ℚ q *ℚ d) (sym (back a)) i)

scaled_mono : (s : Sum) (x y : Ext) → zero_ℚ <ℚ whole s.den → x ≤ᴱ y → scaled s x ≤ᴱ scaled s y
scaled_mono s neg_inf y h i = tt
scaled_mono s (fin a) neg_inf h i = i
scaled_mono s (fin a) (fin b) h i =
    let k = whole s.constant in
    let d = whole s.den in
    le_quotient d h ((a +ℚ k) /ℚ d) (b +ℚ k) (≤ℚ_trans (product_le d h ((a +ℚ k) /ℚ d) (a +ℚ k) (≤ℚ_refl ((a +ℚ k) /ℚ d)))
    (+ℚ_le i (≤ℚ_refl k)))
scaled_mono s (fin a) pos_inf h i = tt
scaled_mono s pos_inf neg_inf h i = i
scaled_mono s pos_inf (fin b) h i = absurd i
scaled_mono s pos_inf pos_inf h i = tt

-- a fraction is at most a sum where what it asks of the parts is at most them
pub scaled_below : (s : Sum) (q : ℚ) (x : Ext) → zero_ℚ <ℚ whole s.den → fin q ≤ᴱ scaled s x
    → fin (q *ℚ whole s.den -ℚ whole s.constant) ≤ᴱ x
scaled_below s q neg_inf h i = i
scaled_below s q (fin a) h i = over (whole s.den) (whole s.constant) (product_le (whole s.den) h q (a +ℚ whole s.constant) i)
  where
    over : (d k : ℚ) → q *ℚ d ≤ℚ a +ℚ k → q *ℚ d -ℚ k ≤ℚ a
    over d k l = lin_le (q ∷ d ∷ a ∷ k ∷ []) (le l ∷ []) (search reads_all depth 40) tt
scaled_below s q pos_inf h i = tt

-- q is at most a sum where q times the denominator is at most the parts and the constant
pub below_scaled : (s : Sum) (q a : ℚ) → zero_ℚ <ℚ whole s.den → q *ℚ whole s.den ≤ℚ a +ℚ whole s.constant → fin q ≤ᴱ scaled s (fin a)
below_scaled s q a h i = le_quotient (whole s.den) h q (a +ℚ whole s.constant) i

-- a sum's value is monotone
pub sum_mono : (s : Sum) (values others : Values) → list_all (is_from 0) s.coeffs ≡ true → zero_ℚ <ℚ whole s.den
    → ((k : ℕ) → k < length s.coeffs → values k ≤ᴱ others k) →
    sum_value s values ≤ᴱ sum_value s others
sum_mono s values others c d h =
    subst₂ (λ x y. x ≤ᴱ y) (sym (sum_value_is s values)) (sym (sum_value_is s others))
    (scaled_mono s (folded s.coeffs values) (folded s.coeffs others) d (folded_mono s.coeffs values others c h))
