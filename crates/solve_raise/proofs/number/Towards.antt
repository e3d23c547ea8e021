-- The number to which a bound is raised.
use Rattle.std.proofs.Common.{◌≡◌, ◌∙◌, ◌&&◌, Bool, true, false, [], ◌∷◌, Some, None, Result, ap, sym, subst, subst₂}
use Rattle.std.specs.Prelude.{pos, MatchResult, if◌then◌else◌}
use Rattle.base_numbers.specs.Rational.{ℚ, whole, floor, one_ℚ, ◌+ℚ◌, ◌/ℚ◌, lt_ℚ}
use Rattle.base_numbers.specs.Extended.{fin}
use Rattle.base_fractions.specs.Fits.{Fits, long_limit}
use Rattle.base_fractions.specs.declared.wide.Op.TheVariants.{Add}
use Rattle.base_fractions.specs.declared.wide.Wide.{Wide}
use Rattle.base_fractions.specs.Operation.{Operation, first_wide}
use Rattle.flow_systems.specs.Sums.{SumAnswers}
use Rattle.flow_systems.proofs.Widths.{one_answer}
use Rattle.theory_strategy.specs.Growth.{between}
use Rattle.solve_raise.specs.Numbers.{fitting, next_whole, middle_operations, number_operations}
use Rattle.solve_raise.proofs.number.Widths.{alone_fits, alone_wide}
use Rattle.solve_raise.proofs.number.Wholes.{one_more}

-- the sum of a floor and 1
abbrev last_sum : ℚ → Operation
last_sum q = record { op = Add; left = whole (floor q); right = one_ℚ }

-- the next whole number is answered, or its sum is wide
pub next_answer : (q f o : ℚ) (res : Result ℚ (Wide ℚ)) → f ≡ whole (floor q) → o ≡ one_ℚ →
    MatchResult res (λ r. (r ≡ f +ℚ o) × Fits long_limit r) (λ e. (¬ (Fits long_limit (f +ℚ o)))
    × (e ≡ record { op = Add; left = f; right = o })) →
    SumAnswers (next_whole q) (last_sum q ∷ []) res
next_answer q f o res e g m =
    subst (λ v. SumAnswers v (last_sum q ∷ []) res) (one_more (floor q))
    (subst₂ (λ x y. SumAnswers (x +ℚ y) (record { op = Add; left = x; right = y } ∷ []) res) e g (one_answer Add f o res m))

-- whether the next whole number fits
pub next_fits : (q : ℚ) → first_wide long_limit (last_sum q ∷ []) ≡ None → fitting (next_whole q) ≡ true
next_fits q e = ap fitting (sym (one_more (floor q))) ∙ alone_fits (last_sum q) e

-- where the last sum is wide, the next whole number does not fit
pub next_wide : (q : ℚ) (p : Operation) → first_wide long_limit (last_sum q ∷ []) ≡ Some p → fitting (next_whole q) ≡ false
next_wide q p e = ap fitting (sym (one_more (floor q))) ∙ alone_wide (last_sum q) p e

-- a conjunction whose first part holds is its second part
pub both_is : (b c d : Bool) → b ≡ true → c ≡ d → b && c ≡ d
both_is b c d e f = ap (λ t. t && c) e ∙ f

-- a conjunction whose first part fails is false
pub neither : (b c : Bool) → b ≡ false → b && c ≡ false
neither b c e = ap (λ t. t && c) e

module _ (b v : ℚ) where
  -- where the next whole number is taken, and where it isn't
  pub next_taken : (next : ℚ) → next ≡ next_whole b → fitting (next_whole b) && lt_ℚ (next_whole b) v ≡ true
      → (next ≡ between fitting b v) × (first_wide long_limit (number_operations (fin b) v) ≡ None)
  unfolding between number_operations
  next_taken next e f = (
    e ∙ sym (ap (λ t. if t then next_whole b else (b +ℚ v) /ℚ whole (pos 2)) f),
    ap (λ t. first_wide long_limit (if t then [] else middle_operations b v)) f,
  )

  -- where no whole number stands between, the middle is taken
  pub middle_taken : (res : Result ℚ (Wide ℚ)) → fitting (next_whole b) && lt_ℚ (next_whole b) v ≡ false
      → SumAnswers ((b +ℚ v) /ℚ whole (pos 2)) (middle_operations b v) res
      → SumAnswers (between fitting b v) (number_operations (fin b) v) res
  unfolding between number_operations
  middle_taken res f a =
      subst (λ t. SumAnswers (if t then next_whole b else (b +ℚ v) /ℚ whole (pos 2)) (if t then [] else middle_operations b v) res) (sym f)
      a
