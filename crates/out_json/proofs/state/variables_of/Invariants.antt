use Rattle.std.proofs.Common.{◌≡◌, drop}
use Rattle.serde_json.specs.Data.{no_members}
use Rattle.out_json.specs.Entries.{entry_members}
use Rattle.out_json.specs.States.{members_with}
use Rattle.out_json.proofs.state.variables_of.Given as goal

abbrev pub invariant-loop-index : goal.invariant-loop-index
invariant-loop-index l =
    members_with (entry_members l.variables.entries) (drop l.index l.names) (drop l.index l.state) ≡ members_with no_members l.names l.state
