use native.Mathlib.Nat.{div-mul_cancel}
use Rattle.base_fractions.proofs.parts.quotient.Goals as goal

pub returns-else-g-eq1-clause-value : goal.returns-else-g-eq1-clause-value
returns-else-g-eq1-clause-value c = div-mul_cancel c.args.g c.requires.divides
