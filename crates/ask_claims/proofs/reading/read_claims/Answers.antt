use Rattle.std.proofs.Common.{map}
use Rattle.ask_claims.specs.Claims.{stated_of}
use Rattle.ask_claims.specs.declared.claim.Claim.{Claim}
use Rattle.std.specs.declared.alloc.Global.{Global}
use Rattle.std.specs.declared.vec.Vec.{Vec}
use Rattle.ask_claims.proofs.claims.Means.{exact_by}
use Rattle.ask_claims.proofs.reading.read_claims.Goals as goal

pub returns-clause-exact : goal.returns-clause-exact
returns-clause-exact c =
    exact_by (λ (claims : Vec Claim Global). map stated_of claims.items) c.args.text.now c.args.flow.now.names c.args.flow.now.points
    c.file.result c.file.ensures.found
