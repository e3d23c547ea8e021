use Rattle.ask_json.specs.Sarif.{physical_members}
use Rattle.ask_json.proofs.Pushed.{object_pushed}
use Rattle.ask_json.proofs.sarif.push_place.Goals as goal

pub returns : goal.returns
returns c =
    object_pushed _ _ _ (physical_members c.args.uri.now c.args.text.now c.args.at)
    c.in_ok-extend_from_slice.ensures.items c.in_ok-push_physical.ensures
