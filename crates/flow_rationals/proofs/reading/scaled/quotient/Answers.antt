use Rattle.std.proofs.Common.{rules}
use Rattle.flow_rationals.proofs.written_sums.Fractions.{made_some}
use Rattle.flow_rationals.proofs.reading.scaled.quotient.Goals as goal

pub unwrap-requires : goal.unwrap-requires
unwrap-requires c =
    made_some c.args.num c.args.den _ _ _ c.make.result (search rules) (search rules) c.requires.num c.requires.den c.requires.den_within
    c.make.ensures
