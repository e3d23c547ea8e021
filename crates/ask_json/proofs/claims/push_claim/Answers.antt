use Rattle.ask_json.specs.Claims.{claim_members}
use Rattle.ask_json.proofs.Pushed.{object_pushed}
use Rattle.ask_json.proofs.claims.push_claim.Goals as goal

pub returns : goal.returns
returns c =
    object_pushed _ _ _ (claim_members c.args.names.now c.args.claim.now c.args.verdict.now)
    c.in_ok-extend_from_slice.ensures.items c.in_ok-push_members.ensures
