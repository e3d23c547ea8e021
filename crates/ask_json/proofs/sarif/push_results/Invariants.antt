use Rattle.std.proofs.Common.{◌≡◌, ◌++◌, drop, false}
use Rattle.serde_json.specs.Written.{items_text}
use Rattle.ask_json.specs.Sarif.{results}
use Rattle.ask_json.proofs.sarif.push_results.Given as goal

abbrev pub invariant-loop-number : goal.invariant-loop-number
invariant-loop-number l =
    l.out.items ++ items_text l.later (results l.source.uri.now l.source.text.now l.source.names.now (drop l.number l.checks)
    (drop l.number l.verdicts))
    ≡ l.initial.out.items ++ items_text false (results l.source.uri.now l.source.text.now l.source.names.now l.checks l.verdicts)
