-- What the parts that a fraction keeps say as the code reads them: n and d are the parts of q, at most the limit L.
use Rattle.std.proofs.Common.{◌≡◌, ◌≢◌, ◌↔◌, ℕ, zero, suc, negsuc, ◌<◌, ◌≤◌, ◌^◌, ◌⊎◌, ⊎_elim, T, Bool, true, false, IsTrue, nat_eq, eqb}
use Rattle.std.proofs.Common.{eqb→eq, ℤ, pos, neg_ℤ, nat_abs, ◌-ℤ◌, ◌*ℤ◌, ◌≤ℤ◌, FitsSigned, Ordering, to_z, of_z, Result, MatchResult, refl}
use Rattle.std.proofs.Common.{sym, ap, ap₂, ◌∙◌, subst, subst₂, arith}
use mir.Syntax.{w64, w128}
use Rattle.std.proofs.lemmas.Int.{ints, to_z-of_z, to_z_pos}
use Rattle.std.specs.Ordering.{int_cmp}
use Rattle.base_numbers.specs.Compare.{cmp_ℚ}
use Rattle.base_numbers.specs.Rational.{ℚ, ratio, is_reduced, signed_by, zero_ℚ, neg_ℚ, inv_ℚ}
use Rattle.base_numbers.proofs.rational.Parts.{ratio-parts, num-neg, den-neg, abs-num-neg, num-ratio_reduced, den-ratio_reduced}
use Rattle.base_numbers.proofs.rational.Quotients.{zero_by_num, num-inv, den-inv}
use Rattle.base_fractions.specs.Fits.{Fits, IsKept}
use Rattle.base_fractions.specs.Kept.{kept-num, kept-den}

-- the parts of a number that fits are kept
kept_parts : {L : ℤ} (q : ℚ) → Fits L q → IsKept L q.num q.den
kept_parts q f = record { lowest = q.reduced; num_high = f.num_fits; den_high = f.den_fits }

-- a test for 0 reads the numerator's bits
pub zero_test : {n : ℤ} {q : ℚ} → n ≡ q.num → FitsSigned w64 n → IsTrue (nat_eq (of_z w64 n) 0) ↔ (q ≡ zero_ℚ)
zero_test {n} {q} e f = (
  λ t. (zero_by_num q).0 (sym e ∙ sym (to_z-of_z w64 n f) ∙ ap (to_z w64) (eqb→eq (of_z w64 n) 0 (true-T t))),
  λ z. T-true (eq_test (ap (of_z w64) (e ∙ (zero_by_num q).1 z))),
)
  where
    eq_test : {m : ℕ} → m ≡ 0 → T (eqb m 0)
    eq_test p = subst (λ m. T (eqb m 0)) (sym p) tt

    true-T : {b : Bool} → IsTrue b → T b
    true-T p = subst T (sym p) tt

    T-true : {b : Bool} → T b → IsTrue b
    T-true {b = true} t = refl
    T-true {b = false} t = absurd t

module _ {L n : ℤ} {d : ℕ} {q : ℚ} (h : IsKept L n d) (e : ratio n d ≡ q) where
  -- the numerator of a number is the one that is kept of it
  pub part_num : q.num ≡ n
  part_num = sym (ap (λ (r : ℚ). r.num) e) ∙ kept-num h

  -- the denominator of a number is the one that is kept of it
  pub part_den : q.den ≡ d
  part_den = sym (ap (λ (r : ℚ). r.den) e) ∙ kept-den h

  -- a number whose parts are kept fits
  pub kept_fits : Fits L q
  kept_fits =
      record {
        num_fits = subst (λ (z : ℤ). pos (nat_abs z) ≤ℤ L) (sym part_num) h.num_high;
        den_fits =
            subst (λ (k : ℕ). pos k ≤ℤ L) (sym part_den) h.den_high;
      }

  module _ (f : FitsSigned w64 n) where
    -- the kept numerator, as code reads it, is the number's
    pub read_num : to_z w64 (of_z w64 n) ≡ q.num
    read_num = to_z-of_z w64 n f ∙ sym part_num

    -- the kept parts, as code reads them, have the number as their ratio
    pub read_value : ratio (to_z w64 (of_z w64 n)) d ≡ q
    read_value = ap (λ z. ratio z d) (to_z-of_z w64 n f) ∙ e

    -- the kept parts, as code reads them, are in lowest terms
    pub read_lowest : T (is_reduced (to_z w64 (of_z w64 n)) d)
    read_lowest = subst (λ z. T (is_reduced z d)) (sym (to_z-of_z w64 n f)) h.lowest

    module _ (high : L ≤ℤ pos 9223372036854775807) where
      -- the kept numerator, as code reads it, is below 2 ^ 63 without its sign
      pub small_num : nat_abs (to_z w64 (of_z w64 n)) < 2 ^ 63
      small_num = let g = ap nat_abs (to_z-of_z w64 n f) in let k = h.num_high in omega (arith, ints)

  module _ (high : L ≤ℤ pos 9223372036854775807) where
    -- a kept denominator is below 2 ^ 63
    pub small_den : d < 2 ^ 63
    small_den = let k = h.den_high in omega (arith, ints)

    -- the kept denominator, as code reads it, is the number's
    pub read_den : to_z w64 d ≡ pos q.den
    read_den = to_z_pos w64 d small_den ∙ ap (λ (k : ℕ). pos k) (sym part_den)

-- a pair in lowest terms whose parts are at most the limit, as the code stores it
module _ (L M n : ℤ) (d u : ℕ) (fn : FitsSigned w128 n) (fM : FitsSigned w64 M) (eM : M ≡ L) (high : L ≤ℤ pos 9223372036854775807)
    (low : pos 2 ≤ℤ L)
    (lowest : T (is_reduced n d)) (eu : u ≡ nat_abs (to_z w128 (of_z w128 n))) where
  limit_read : pos (nat_abs (to_z w64 (of_z w64 M))) ≡ L
  limit_read = let e = ap nat_abs (to_z-of_z w64 M fM) in omega (arith, ints)

  size_read : u ≡ nat_abs n
  size_read = eu ∙ ap nat_abs (to_z-of_z w128 n fn)

  module _ (hu : u ≤ nat_abs (to_z w64 (of_z w64 M))) (hd : d ≤ nat_abs (to_z w64 (of_z w64 M))) where
    num_stored : to_z w64 (of_z w64 (to_z w128 (of_z w128 n))) ≡ n
    num_stored =
        let e = limit_read in
        let s = size_read in
        let f : FitsSigned w64 n = omega (arith, ints) in
        ap (λ z. to_z w64 (of_z w64 z)) (to_z-of_z w128 n fn) ∙ to_z-of_z w64 n f

    kept_here : IsKept L n d
    kept_here = let e = limit_read in let s = size_read in record {
      lowest = lowest;
      num_high = omega (arith, ints);
      den_high =
          omega (arith, ints);
    }

    stored_kept : IsKept L (to_z w64 (of_z w64 (to_z w128 (of_z w128 n)))) d
    stored_kept = subst (λ z. IsKept L z d) (sym num_stored) kept_here

    -- where neither part is above the limit, the stored parts have the ratio n / d, and it fits
    pub stored : (ratio (to_z w64 (of_z w64 (to_z w128 (of_z w128 n)))) d ≡ ratio n d)
        × Fits L (ratio (to_z w64 (of_z w64 (to_z w128 (of_z w128 n)))) d)
    stored = let e = ap (λ z. ratio z d) num_stored in (e, kept_fits stored_kept refl)

  -- where the denominator or the numerator's size is above the limit, n / d doesn't fit
  pub not_stored : ((u ≤ nat_abs (to_z w64 (of_z w64 M))) × (nat_abs (to_z w64 (of_z w64 M)) < d)) ⊎ (nat_abs (to_z w64 (of_z w64 M)) < u)
      → ¬ (Fits L (ratio n d))
  not_stored o f =
      let e = limit_read in
      let s = size_read in
      let kn : pos (nat_abs n) ≤ℤ L = subst (λ (z : ℤ). pos (nat_abs z) ≤ℤ L) (num-ratio_reduced n d lowest) f.num_fits in
      let kd : pos d ≤ℤ L = subst (λ (k : ℕ). pos k ≤ℤ L) (den-ratio_reduced n d lowest) f.den_fits in
      ⊎_elim (λ l. omega (arith, ints, l)) (λ l. omega (arith, ints, l)) o

-- a pair in lowest terms, as the code passes it
pub lowest_read : (n : ℤ) (d : ℕ) → FitsSigned w128 n → T (is_reduced n d) → T (is_reduced (to_z w128 (of_z w128 n)) d)
lowest_read n d f t = subst (λ z. T (is_reduced z d)) (sym (to_z-of_z w128 n f)) t

-- a result's parts, as the code passes them
pub result_read : (n : ℤ) (d : ℕ) (s q : ℚ) → FitsSigned w128 n → ratio n d ≡ s → s ≡ q → ratio (to_z w128 (of_z w128 n)) d ≡ q
result_read n d s q f e g = ap (λ z. ratio z d) (to_z-of_z w128 n f) ∙ e ∙ g

-- what is answered of one number is so of an equal one
pub answered : (L : ℤ) {q s : ℚ} {E : Type 0} (w : E) (r : Result ℚ E) → s ≡ q
    → MatchResult r (λ x. (x ≡ s) × Fits L x) (λ e. (¬ (Fits L s)) × (e ≡ w))
    → MatchResult r (λ x. (x ≡ q) × Fits L x) (λ e. (¬ (Fits L q)) × (e ≡ w))
answered L {q} {s} {E} w r g m = subst (λ p. MatchResult r (λ x. (x ≡ p) × Fits L x) (λ e. (¬ (Fits L p)) × (e ≡ w))) g m

-- the negation and the inverse
module _ {L n : ℤ} {d : ℕ} {q : ℚ} (high : L ≤ℤ pos 9223372036854775807) (h : IsKept L n d) (e : ratio n d ≡ q) (f : FitsSigned w64 n) where
  num_neg : to_z w64 (of_z w64 (pos 0 -ℤ to_z w64 (of_z w64 n))) ≡ (neg_ℚ q).num
  num_neg =
      let k = h.num_high in
      let g : FitsSigned w64 (pos 0 -ℤ n) = omega (arith, ints) in
      ap (λ z. to_z w64 (of_z w64 (pos 0 -ℤ z))) (to_z-of_z w64 n f) ∙ to_z-of_z w64 (pos 0 -ℤ n) g ∙ zero_minus n
      ∙ ap neg_ℤ (sym (part_num h e)) ∙ sym (num-neg q)
    where
      zero_minus : (z : ℤ) → pos 0 -ℤ z ≡ neg_ℤ z
      zero_minus z = omega (arith, ints)

  den_neg : d ≡ (neg_ℚ q).den
  den_neg = sym (part_den h e) ∙ sym (den-neg q)

  -- the negation of a number that fits fits
  pub neg_fits : Fits L (neg_ℚ q)
  neg_fits =
      let k = kept_fits h e in
      record {
        num_fits = subst (λ (k : ℕ). pos k ≤ℤ L) (sym (abs-num-neg q)) k.num_fits;
        den_fits =
            subst (λ (k : ℕ). pos k ≤ℤ L) (sym (den-neg q)) k.den_fits;
      }

  -- the negated numerator and the denominator, as code stores them, are kept
  pub neg_kept : IsKept L (to_z w64 (of_z w64 (pos 0 -ℤ to_z w64 (of_z w64 n)))) d
  neg_kept = subst₂ (λ x y. IsKept L x y) (sym num_neg) (sym den_neg) (kept_parts (neg_ℚ q) neg_fits)

  -- the negated numerator and the denominator, as code stores them, have the negation as their ratio
  pub neg_made : ratio (to_z w64 (of_z w64 (pos 0 -ℤ to_z w64 (of_z w64 n)))) d ≡ neg_ℚ q
  neg_made = ap₂ ratio num_neg den_neg ∙ ratio-parts (neg_ℚ q)

module _ {L n : ℤ} {d : ℕ} {q : ℚ} (high : L ≤ℤ pos 9223372036854775807) (h : IsKept L n d) (e : ratio n d ≡ q) (f : FitsSigned w64 n)
    (z : q ≢ zero_ℚ) where
  -- the size of the numerator as the denominator of the inverse
  inv_den : {u : ℕ} → u ≡ nat_abs (to_z w64 (of_z w64 n)) → u ≡ (inv_ℚ q).den
  inv_den s = s ∙ ap nat_abs (read_num h e f) ∙ sym (den-inv q z)

  inv_fits : Fits L (inv_ℚ q)
  inv_fits =
      let k = kept_fits h e in
      record {
        num_fits = subst (λ (k : ℕ). pos k ≤ℤ L) (sym (ap nat_abs (num-inv q z) ∙ size q.num q.den)) k.den_fits;
        den_fits = subst (λ (k : ℕ). pos k ≤ℤ L) (sym (den-inv q z)) k.num_fits;
      }
    where
      size : (z : ℤ) (d : ℕ) → nat_abs (signed_by z (pos d)) ≡ d
      size (pos k) d = refl
      size (negsuc k) zero = refl
      size (negsuc k) (suc d) = refl

  -- the inverse's numerator, as code reads it, is that of the inverse
  pub inv_num : {M : ℤ} → FitsSigned w64 M → M ≡ signed_by (to_z w64 (of_z w64 n)) (pos d) → to_z w64 (of_z w64 M) ≡ (inv_ℚ q).num
  inv_num {M} k s = to_z-of_z w64 M k ∙ s ∙ ap₂ (λ x (y : ℕ). signed_by x (pos y)) (read_num h e f) (sym (part_den h e)) ∙ sym (num-inv q z)

  -- what the code keeps of the inverse, where N is its numerator
  module _ {N : ℤ} {u : ℕ} (eN : N ≡ (inv_ℚ q).num) (eu : u ≡ nat_abs (to_z w64 (of_z w64 n))) where
    -- the parts of the inverse, as code stores them, are kept
    pub inv_kept : IsKept L N u
    inv_kept = subst₂ (λ x y. IsKept L x y) (sym eN) (sym (inv_den eu)) (kept_parts (inv_ℚ q) inv_fits)

    -- the parts of the inverse, as code stores them, have the inverse as their ratio
    pub inv_made : ratio N u ≡ inv_ℚ q
    inv_made = ap₂ ratio eN (inv_den eu) ∙ ratio-parts (inv_ℚ q)

-- two cross products, compared
pub cmp_is : {L n m : ℤ} {d e : ℕ} {a b : ℚ} {x y : ℤ} {r : Ordering} → IsKept L n d → ratio n d ≡ a → IsKept L m e → ratio m e ≡ b
    → FitsSigned w64 n → FitsSigned w64 m → FitsSigned w128 x → FitsSigned w128 y →
    x ≡ to_z w64 (of_z w64 n) *ℤ pos e → y ≡ to_z w64 (of_z w64 m) *ℤ pos d
    → r ≡ int_cmp (to_z w128 (of_z w128 x)) (to_z w128 (of_z w128 y)) → r ≡ cmp_ℚ a b
unfolding cmp_ℚ
cmp_is h ea k eb f g fx fy p q s =
    s ∙ ap₂ int_cmp (to_z-of_z w128 _ fx ∙ p ∙ ap₂ (λ u (v : ℕ). u *ℤ pos v) (read_num h ea f) (sym (part_den k eb)))
    (to_z-of_z w128 _ fy ∙ q ∙ ap₂ (λ u (v : ℕ). u *ℤ pos v) (read_num k eb g) (sym (part_den h ea)))
