use Rattle.std.specs.Prelude.{codes}
use Rattle.serde_json.specs.Data.{object}
use Rattle.ask_json.proofs.Pushed.{only_pushed}
use Rattle.ask_json.specs.Sarif.{physical_members}
use Rattle.ask_json.proofs.sarif.push_location.Goals as goal

pub returns : goal.returns
returns c =
    only_pushed _ _ _ _ _ (codes "physicalLocation") (object (physical_members c.args.uri.now c.args.text.now c.args.at))
    c.in_ok-extend_from_slice.ensures.items c.in_ok-push_key.ensures c.in_ok-push_place.ensures
    c.in_ok-extend_from_slice-2.ensures.items
