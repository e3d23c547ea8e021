use Rattle.std.proofs.Common.{map, sym, subst}
use Rattle.std.specs.declared.alloc.Global.{Global}
use Rattle.std.specs.declared.vec.Vec.{Vec}
use Rattle.lang_tokens.specs.declared.lexicon.Lexicon.TheVariants.{Own}
use Rattle.lang_tokens.specs.Reading.{Reads}
use Rattle.ask_claims.specs.declared.claim.Claim.{Claim}
use Rattle.ask_claims.specs.Claims.{stated_of}
use Rattle.ask_claims.proofs.claims.Means.{file_of}
use Rattle.ask_claims.proofs.reading.file.Goals as goal

pub returns-in-Ok-clause-found : goal.returns-in-Ok-clause-found
returns-in-Ok-clause-found c =
    file_of (λ (claims : Vec Claim Global). map stated_of claims.items) c.args.text.now c.args.flow.now.names c.args.flow.now.points
    c.as_slice.result.now
    c.claims_of.result (subst (Reads Own c.args.text.now) (sym c.as_slice.ensures.value) c.in-Ok.ensures.ok) c.claims_of.ensures.found
