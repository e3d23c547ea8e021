use Rattle.std.proofs.Common.{◌≡◌, ◌++◌, drop, false, nat_lt}
use Rattle.serde_json.specs.Written.{items_text}
use Rattle.ask_json.specs.Checks.{check_values}
use Rattle.ask_json.proofs.checks.push_checks.Given as goal

abbrev pub invariant-loop-number : goal.invariant-loop-number
invariant-loop-number l =
    l.out.items ++ items_text (nat_lt 0 l.number) (check_values l.text l.names (drop l.number l.checks) (drop l.number l.verdicts))
    ≡ l.initial.out.items ++ items_text false (check_values l.text l.names l.checks l.verdicts)
