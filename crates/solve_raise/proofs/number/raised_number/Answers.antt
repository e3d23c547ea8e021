use Rattle.std.proofs.Common.{[], ◌∷◌, refl, subst}
use Rattle.base_numbers.specs.Rational.{◌-ℚ◌}
use Rattle.base_fractions.specs.declared.wide.Op.TheVariants.{Sub}
use Rattle.flow_systems.specs.Sums.{SumAnswers}
use Rattle.flow_systems.proofs.Widths.{one_answer}
use Rattle.theory_strategy.specs.Growth.{raised_to}
use Rattle.solve_raise.specs.Numbers.{number_operations}
use Rattle.solve_raise.proofs.number.raised_number.Goals as goal

pub returns-in-NegInf : goal.returns-in-NegInf
unfolding raised_to number_operations
returns-in-NegInf c =
    rw c.in-NegInf.is (subst (λ o. SumAnswers (c.args.value -ℚ o) (record { op = Sub; left = c.args.value; right = o } ∷ []) c.minus.result)
    c.one.ensures.value (one_answer Sub c.args.value c.one.result c.minus.result c.minus.ensures))

pub returns-in-Fin : goal.returns-in-Fin
unfolding raised_to
returns-in-Fin c = rw c.in-Fin.is c.between.ensures

pub returns-in-PosInf : goal.returns-in-PosInf
unfolding raised_to number_operations
returns-in-PosInf c = rw c.in-PosInf.is (refl, refl)
