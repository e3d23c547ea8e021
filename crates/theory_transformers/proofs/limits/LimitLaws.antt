-- What the rows of a problem from limits say.
use Rattle.std.proofs.Common.{ℕ, zero, suc, ◌<◌, Bool, List, [], ◌∷◌, ◌++◌, length, get_or, sym, subst, arith}
use Rattle.base_numbers.specs.Rational.{ℚ, ◌*ℚ◌, ◌≤ℚ◌}
use Rattle.base_numbers.specs.Vector.{sum_to}
use Rattle.lp_theory.specs.Listed.{at}
use Rattle.theory_transformers.specs.Limits.{Limit, no_limit, side_for, AllUnder, AllWithin}
use Rattle.theory_transformers.proofs.limits.Products.{product_is_sum}

-- each row by its number
pub under_from : (t : Bool) (n : ℕ) (limits : List Limit) (x : ℕ → ℚ) → AllWithin n limits →
    ((r : ℕ) → r < length limits → sum_to n (λ j. at (get_or limits r no_limit).coeffs j *ℚ x j) ≤ℚ side_for t
    (get_or limits r no_limit).side) → AllUnder t limits x
under_from t n [] x w h = tt
under_from t n (l ∷ ls) x w h = (
  subst (λ s. s ≤ℚ side_for t l.side) (product_is_sum l.coeffs n x w.0) (h 0 (omega arith)),
  under_from t n ls x w.1 (λ r i. h (suc r) (omega (arith, i))),
)

-- rows that are met are met by their numbers
pub under_into : (t : Bool) (n : ℕ) (limits : List Limit) (x : ℕ → ℚ) → AllWithin n limits → AllUnder t limits x →
    (r : ℕ) → r < length limits → sum_to n (λ j. at (get_or limits r no_limit).coeffs j *ℚ x j) ≤ℚ side_for t
    (get_or limits r no_limit).side
under_into t n [] x w p r i = absurd (omega (arith, i))
under_into t n (l ∷ ls) x w p zero i = subst (λ s. s ≤ℚ side_for t l.side) (sym (product_is_sum l.coeffs n x w.0)) p.0
under_into t n (l ∷ ls) x w p (suc r) i = under_into t n ls x w.1 p.1 r (omega (arith, i))

-- limits in two parts
pub under_first : (t : Bool) (ls ms : List Limit) (x : ℕ → ℚ) → AllUnder t (ls ++ ms) x → AllUnder t ls x
under_first t [] ms x h = tt
under_first t (l ∷ ls) ms x h = (h.0, under_first t ls ms x h.1)

-- where two parts are met, the second is
pub under_second : (t : Bool) (ls ms : List Limit) (x : ℕ → ℚ) → AllUnder t (ls ++ ms) x → AllUnder t ms x
under_second t [] ms x h = h
under_second t (l ∷ ls) ms x h = under_second t ls ms x h.1

-- where each of two parts is met, both are
pub under_both : (t : Bool) (ls ms : List Limit) (x : ℕ → ℚ) → AllUnder t ls x → AllUnder t ms x → AllUnder t (ls ++ ms) x
under_both t [] ms x h i = i
under_both t (l ∷ ls) ms x h i = (h.0, under_both t ls ms x h.1 i)

-- where each of two parts is within n columns, both are
pub within_both : (n : ℕ) (ls ms : List Limit) → AllWithin n ls → AllWithin n ms → AllWithin n (ls ++ ms)
within_both n [] ms h i = i
within_both n (l ∷ ls) ms h i = (h.0, within_both n ls ms h.1 i)
