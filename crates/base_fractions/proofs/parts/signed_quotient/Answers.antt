use Rattle.std.proofs.Common.{pos, FitsSigned, arith}
use mir.Syntax.{w64}
use Rattle.std.proofs.lemmas.Int.{ints, to_z-of_z}
use Rattle.base_fractions.proofs.parts.Divided.{divided}
use Rattle.base_fractions.proofs.parts.signed_quotient.Goals as goal

pub returns-else-g-eq1-clause-value : goal.returns-else-g-eq1-clause-value
returns-else-g-eq1-clause-value c =
    let f : FitsSigned w64 (pos c.args.g) = omega (arith, ints, c.requires, c.ranges.g.fits) in
    divided w64 c.args.n c.args.g c.ranges.n f (to_z-of_z w64 (pos c.args.g) f) c.requires.positive c.requires.divides
