use Rattle.std.proofs.Common.{ap, ◌∙◌}
use Rattle.out_json.specs.Entries.{entry_members}
use Rattle.out_json.proofs.states.Entries.{inserted}
use Rattle.out_json.proofs.state.put_variable.Goals as goal

pub returns : goal.returns
returns c = ap entry_members c.in_ok-insert.ensures.entries ∙ inserted c.args.variables.now.entries c.args.name c.args.value
