use Rattle.std.specs.Prelude.{codes}
use Rattle.std.proofs.Common.{false}
use Rattle.serde_json.specs.Data.{string}
use Rattle.base_json.proofs.Pushed.{member_pushed}
use Rattle.ask_json.specs.Sarif.{only, region_members}
use Rattle.ask_json.proofs.sarif.push_physical.Goals as goal

pub returns : goal.returns
returns c =
    member_pushed _ _ _ false (codes "artifactLocation") (only (codes "uri") (string c.args.uri.now))
    (region_members c.args.text.now c.args.at)
    c.in_ok-push_artifact.ensures c.in_ok-push_last_region.ensures
