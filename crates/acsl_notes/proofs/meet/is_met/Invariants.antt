use Rattle.std.proofs.Common.{◌≡◌, drop}
use Rattle.std.specs.List.{list_any}
use Rattle.acsl_notes.specs.Clauses.{meets}
use Rattle.acsl_notes.specs.View.{bounded}
use Rattle.acsl_notes.proofs.meet.is_met.Given as goal

abbrev pub invariant-loop-index : goal.invariant-loop-index
invariant-loop-index l =
    list_any (meets l.row l.bound) (bounded (drop l.index l.others) (drop l.index l.bounds))
    ≡ list_any (meets l.row l.bound) (bounded l.others l.bounds)
