use Rattle.flow_rationals.proofs.written_sums.Made.{least_first, least_more}
use Rattle.flow_rationals.proofs.reading.make.alternative_of.Goals as goal

pub sum_of-requires-in-Least-clause-sound : goal.sum_of-requires-in-Least-clause-sound
sum_of-requires-in-Least-clause-sound c =
    least_first c.args.equations.now c.args.choice.now c.in-Least.first c.in-Least.more c.in-Least.is c.requires.sound

pub least_of-requires-in-Least-clause-sound : goal.least_of-requires-in-Least-clause-sound
least_of-requires-in-Least-clause-sound c =
    least_more c.args.equations.now c.args.choice.now c.in-Least.first c.in-Least.more _ c.in-Least.is c.as_slice.ensures c.requires.sound
