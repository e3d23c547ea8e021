use Rattle.std.proofs.Common.{◌≡◌, ◌+◌, ◌≤◌, ◌==◌, not, take}
use Rattle.std.specs.List.{suffix_len}
use Rattle.ask_checks.proofs.lines.column_of.Given as goal

abbrev pub invariant-loop-byte : goal.invariant-loop-byte
invariant-loop-byte l = record {
  is : l.column ≡ 1 + suffix_len (λ b. not (b == 10)) (take l.byte-index l.before);
  small : l.column ≤ 1 + l.byte-index;
}
