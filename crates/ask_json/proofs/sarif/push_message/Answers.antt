use Rattle.std.specs.Prelude.{codes}
use Rattle.std.proofs.Common.{true}
use Rattle.serde_json.specs.Data.{string}
use Rattle.serde_json.specs.Written.{compact_text}
use Rattle.ask_json.specs.Sarif.{message, only}
use Rattle.ask_json.proofs.Pushed.{keyed_pushed}
use Rattle.ask_json.proofs.sarif.push_message.Goals as goal

pub returns : goal.returns
returns c =
    keyed_pushed _ _ _ true (codes "message")
    (compact_text (only (codes "text") (string (message c.args.source.now.names.now c.args.check.now c.args.verdict.now))))
    c.in_ok-push_key.ensures c.in_ok-push_text.ensures
