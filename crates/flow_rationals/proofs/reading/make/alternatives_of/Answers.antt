use Rattle.flow_rationals.specs.EquFaults.{choice_faults}
use Rattle.flow_rationals.proofs.written_sums.Made.{flat_at}
use Rattle.flow_rationals.proofs.reading.make.alternatives_of.Goals as goal

pub alternative_of-requires-clause-sound : goal.alternative_of-requires-clause-sound
alternative_of-requires-clause-sound c =
    flat_at (choice_faults c.args.equations.now) c.args.choices.now c.loop-choice.choice-index c.choice-item.result c.loop-choice-test.true
    c.choice-item.is
    c.requires.sound
