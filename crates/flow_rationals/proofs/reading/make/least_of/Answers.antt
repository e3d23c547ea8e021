use Rattle.flow_rationals.specs.EquFaults.{sum_faults}
use Rattle.flow_rationals.proofs.written_sums.Made.{flat_at}
use Rattle.flow_rationals.proofs.reading.make.least_of.Goals as goal

pub sum_of-requires-clause-sound : goal.sum_of-requires-clause-sound
sum_of-requires-clause-sound c =
    flat_at (sum_faults c.args.equations.now) c.args.more.now c.loop-sum.sum-index c.sum-item.result c.loop-sum-test.true c.sum-item.is
    c.requires.sound
