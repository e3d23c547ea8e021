use Rattle.std.proofs.Common.{◌≡◌, ◌++◌, drop}
use Rattle.out_report.specs.Heads.{head_lines}
use Rattle.out_report.proofs.heads.push_heads.Given as goal

abbrev pub invariant-loop-number : goal.invariant-loop-number
invariant-loop-number l = l.text.items ++ head_lines l.number (drop l.number l.points) ≡ l.initial.text.items ++ head_lines 0 l.points
