use Rattle.std.proofs.Common.{◌≡◌, ◌≤◌, take}
use Rattle.flow_rationals.specs.WrittenSums.{common_multiple_of, part_value}
use Rattle.flow_rationals.proofs.reading.scaled.common_den.Given as goal

abbrev pub invariant-loop-part : goal.invariant-loop-part
invariant-loop-part l = record {
  so_far : l.multiple ≡ common_multiple_of (part_value l.first).den (take l.part-index l.more);
  within : l.multiple ≤ 9223372036854775807;
}
