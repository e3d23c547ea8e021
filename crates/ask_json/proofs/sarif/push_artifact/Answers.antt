use Rattle.std.specs.Prelude.{codes}
use Rattle.std.proofs.Common.{false}
use Rattle.serde_json.specs.Data.{string}
use Rattle.serde_json.specs.Written.{compact_text}
use Rattle.ask_json.specs.Sarif.{only}
use Rattle.ask_json.proofs.Pushed.{keyed_pushed}
use Rattle.ask_json.proofs.sarif.push_artifact.Goals as goal

pub returns : goal.returns
returns c =
    keyed_pushed _ _ _ false (codes "artifactLocation") (compact_text (only (codes "uri") (string c.args.uri.now)))
    c.in_ok-push_key.ensures c.in_ok-push_only.ensures
