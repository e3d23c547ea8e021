use Rattle.ask_claims.proofs.laws.Claims.{claims_hold}
use Rattle.ask_claims.proofs.law.proved_claims_hold.Goals as goal

pub returns : goal.returns
returns c = claims_hold
