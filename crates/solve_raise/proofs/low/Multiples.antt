-- How often a direction is taken.
use Rattle.std.proofs.Common.{◌≡◌, ◌∙◌, List, [], ◌∷◌, Some, Result, ap, subst}
use Rattle.base_numbers.specs.Rational.{ℚ, whole, floor, one_ℚ, ◌-ℚ◌, ◌/ℚ◌}
use Rattle.base_fractions.specs.Fits.{Fits, long_limit}
use Rattle.base_fractions.specs.declared.wide.Op.TheVariants.{Add, Sub, Div}
use Rattle.base_fractions.specs.declared.wide.Wide.{Wide}
use Rattle.base_fractions.specs.Operation.{Operation, first_wide, operation_of}
use Rattle.flow_systems.specs.Sums.{SumAnswers}
use Rattle.flow_systems.proofs.Widths.{first_wide_past}
use Rattle.solve_raise.specs.Numbers.{next_whole, multiple, multiple_operations}
use Rattle.solve_raise.proofs.number.Widths.{then, stops}

abbrev minus : ℚ → ℚ → Operation
minus x y = record { op = Sub; left = x; right = y }

abbrev over : ℚ → ℚ → Operation
over x y = record { op = Div; left = x; right = y }

abbrev last : ℚ → List Operation
last q = record { op = Add; left = whole (floor q); right = one_ℚ } ∷ []

module _ (b v r : ℚ) where
  -- the gap is wide, the quotient is wide, and neither is
  pub gap_wide : (w : Wide ℚ) → ¬ (Fits long_limit (b -ℚ v)) → w ≡ record { op = Sub; left = b; right = v }
      → first_wide long_limit (multiple_operations b v r) ≡ Some (operation_of (λ (q : ℚ). q) w)
  gap_wide w n e = stops (minus b v) (over (b -ℚ v) r ∷ last ((b -ℚ v) /ℚ r)) w n (ap (operation_of (λ (q : ℚ). q)) e)

  module _ (g : ℚ) (e : g ≡ b -ℚ v) (h : Fits long_limit g) where
    -- a quotient that does not fit is the first wide operation
    pub quotient_wide : (w : Wide ℚ) → ¬ (Fits long_limit (g /ℚ r)) → w ≡ record { op = Div; left = g; right = r }
        → first_wide long_limit (multiple_operations b v r) ≡ Some (operation_of (λ (q : ℚ). q) w)
    quotient_wide w n f =
        first_wide_past long_limit (minus b v) (over (b -ℚ v) r ∷ last ((b -ℚ v) /ℚ r)) (subst (Fits long_limit) e h)
        ∙ stops (over (b -ℚ v) r) (last ((b -ℚ v) /ℚ r)) w (subst (λ x. ¬ (Fits long_limit (x /ℚ r))) e n)
        (ap (operation_of (λ (q : ℚ). q)) f ∙ ap (λ x. over x r) e)

    -- where the quotient fits, the next whole number is the multiple
    pub multiple_answer : (q : ℚ) (res : Result ℚ (Wide ℚ)) → q ≡ g /ℚ r → Fits long_limit q → SumAnswers (next_whole q) (last q) res
        → SumAnswers (multiple b v r) (multiple_operations b v r) res
    multiple_answer q res f k a =
        let d : q ≡ (b -ℚ v) /ℚ r = f ∙ ap (λ x. x /ℚ r) e in
        then (minus b v) (over (b -ℚ v) r ∷ last ((b -ℚ v) /ℚ r)) (multiple b v r) res (subst (Fits long_limit) e h)
        (then (over (b -ℚ v) r) (last ((b -ℚ v) /ℚ r)) (multiple b v r) res (subst (Fits long_limit) d k)
        (subst (λ x. SumAnswers (next_whole x) (last x) res) d a))
