use Rattle.std.proofs.Common.{◌≡◌, ◌≤◌, pos, drop, Some}
use Rattle.std.specs.Prelude.{slice_range}
use Rattle.source_constants.specs.Enumerations.{counted, parted}
use Rattle.source_constants.proofs.enumerations.Steps.{with_front, after}
use Rattle.source_constants.proofs.enumeration.counted.Given as goal

abbrev pub invariant-loop-index : goal.invariant-loop-index
invariant-loop-index l = record {
  order : l.first ≤ l.index;
  rest : after l.list.items (counted l.next (with_front (slice_range l.inside l.first l.index) (parted (drop l.index l.inside))))
      ≡ counted (Some (pos 0)) (parted l.inside);
}
