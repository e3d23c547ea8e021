use Rattle.std.specs.Prelude.{codes}
use Rattle.std.proofs.Common.{true}
use Rattle.serde_json.specs.Data.{item, no_items}
use Rattle.base_json.proofs.Pushed.{list_pushed}
use Rattle.ask_json.specs.Sarif.{last_members, location}
use Rattle.ask_json.proofs.sarif.push_placed.Goals as goal

pub returns : goal.returns
returns c =
    let s = c.args.source.now in
    list_pushed _ _ _ _ true (codes "locations") (item (location s.uri.now s.text.now c.args.check.now.check.at) no_items)
    (last_members s.names.now c.args.check.now c.args.verdict.now) c.in_ok-push_list.ensures c.in_ok-push_locations.ensures
    c.in_ok-push_last.ensures
