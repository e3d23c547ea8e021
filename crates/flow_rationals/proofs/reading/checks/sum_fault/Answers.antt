use Rattle.std.proofs.Common.{sym}
use Rattle.flow_rationals.proofs.equ_faults.Sound.{sound_sum}
use Rattle.flow_rationals.proofs.reading.checks.sum_fault.Goals as goal

pub is_small-requires-clause-sound : goal.is_small-requires-clause-sound
is_small-requires-clause-sound c =
    sound_sum c.args.equations.now c.args.sum.now.first c.args.sum.now.more c.as_slice.result.now c.earlier-fault.result
    (sym c.if-is_some.ensures) c.as_slice.ensures
    (c.earlier-fault.ensures _ _ c.part_fault-first.ensures c.parts_fault.ensures)
