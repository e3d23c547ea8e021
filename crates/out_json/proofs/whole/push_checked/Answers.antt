use Rattle.std.specs.Prelude.{codes}
use Rattle.std.proofs.Common.{length, map}
use Rattle.serde_json.specs.Data.{string}
use Rattle.base_fractions.specs.Extended.{extended}
use Rattle.flow_systems.specs.View.{vector_of}
use Rattle.base_json.proofs.Pushed.{line_pushed}
use Rattle.out_json.specs.Reports.{body_members}
use Rattle.out_json.proofs.whole.push_checked.Goals as goal

pub returns : goal.returns
returns c =
    let s = c.args.system.now in
    line_pushed _ _ _ _ (codes "certificate") (string (codes "accepted"))
    (body_members s.flow.names s.flow.points s.template (vector_of (length s.template) (map extended c.args.bounds.now)))
    c.in_ok-push_accepted.ensures c.in_ok-push_body.ensures c.in_ok-extend_from_slice.ensures.items
