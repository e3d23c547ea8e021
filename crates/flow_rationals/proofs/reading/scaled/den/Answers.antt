use Rattle.std.proofs.Common.{arith}
use Rattle.flow_rationals.proofs.written_sums.Fractions.{den_pos}
use Rattle.flow_rationals.proofs.reading.scaled.den.Goals as goal

pub returns-clause-positive : goal.returns-clause-positive
returns-clause-positive c = omega (arith, den_pos c.args.value)
