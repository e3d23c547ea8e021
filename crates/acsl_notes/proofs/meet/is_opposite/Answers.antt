use Rattle.std.proofs.Common.{sym}
use Rattle.acsl_notes.proofs.opposite.Lengths.{not_opposite}
use Rattle.acsl_notes.proofs.meet.is_opposite.Goals as goal

pub returns-then-row-other : goal.returns-then-row-other
returns-then-row-other c = sym (not_opposite c.args.row.now c.args.other.now c.if-row-other.true)
