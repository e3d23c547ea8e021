use Rattle.std.proofs.Common.{◌≡◌, ◌++◌, false}
use Rattle.serde_json.specs.Written.{members_text}
use Rattle.out_json.specs.Entries.{entry_members}
use Rattle.out_json.proofs.state.push_variables.Given as goal

abbrev pub invariant-loop-name : goal.invariant-loop-name
invariant-loop-name l =
    l.out.items ++ members_text l.later (entry_members l.name-iterator)
    ≡ l.initial.out.items ++ members_text false (entry_members l.initial.name-iterator)
