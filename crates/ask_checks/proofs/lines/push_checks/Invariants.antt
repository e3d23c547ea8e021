use Rattle.std.proofs.Common.{◌≡◌, ◌++◌, drop}
use Rattle.ask_checks.specs.Lines.{check_lines}
use Rattle.ask_checks.proofs.lines.push_checks.Given as goal

abbrev pub invariant-loop-number : goal.invariant-loop-number
invariant-loop-number l =
    l.out.items ++ check_lines l.text l.names l.number (drop l.number l.checks) (drop l.number l.verdicts)
    ≡ l.initial.out.items ++ check_lines l.text l.names 0 l.checks l.verdicts
