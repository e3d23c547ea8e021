use Rattle.std.proofs.Common.{◌∙◌, Err, arith, map, sym, ap, subst}
use Rattle.std.specs.declared.alloc.Global.{Global}
use Rattle.std.specs.declared.vec.Vec.{Vec}
use Rattle.lang_tokens.specs.declared.token.Token.{Token}
use Rattle.ask_claims.specs.declared.claim.Claim.{Claim}
use Rattle.lang_grammar.specs.View.{tokens_of}
use Rattle.ask_claims.specs.Claims.{ClaimsMean, stated_of}
use Rattle.ask_claims.specs.Steps.{is_end, surplus}
use Rattle.ask_claims.proofs.claims.Ends.{ended, some_token}
use Rattle.ask_claims.proofs.claims.Leads.{begins, keeps_on, lead_end, lead_fault, lead_count}
use Rattle.ask_claims.proofs.claims.Parsed.{handed}
use Rattle.ask_claims.proofs.reading.claims_of.Goals as goal

pub loop-alloc-init : goal.loop-alloc-init
loop-alloc-init c =
    begins c.args.text.now c.args.flow.now.names c.args.flow.now.points c.args.tokens.now c.new-claims.result.items
    c.new-claims.ensures.items
    (some_token c.args.tokens.now (ended c.args.text.now c.args.tokens.now c.requires.tokens))

pub returns-then-len-ge-MOST_CLAIMS-clause-found : goal.returns-then-len-ge-MOST_CLAIMS-clause-found
returns-then-len-ge-MOST_CLAIMS-clause-found c =
    let going = ap (λ (t : Token). is_end t.kind) (sym c.token_at.ensures) ∙ sym c.is_end.ensures ∙ c.loop-alloc-test.true in
    λ n. subst (λ f. ClaimsMean c.args.text.now c.args.flow.now.names c.args.flow.now.points (tokens_of c.args.text.now c.args.tokens.now)
    (Err f))
    (sym (c.surplus.ensures ∙ ap (λ (t : Token). surplus t.kind t.at) c.token_at-then-len-ge-MOST_CLAIMS.ensures))
    (lead_count c.args.text.now c.args.flow.now.names c.args.flow.now.points c.args.tokens.now c.loop-alloc.claims.items c.loop-alloc.next
    (omega (arith, c.len.ensures, c.if-len-ge-MOST_CLAIMS.true)) going c.loop-alloc.invariant)

pub returns-in_err-claim-clause-found : goal.returns-in_err-claim-clause-found
returns-in_err-claim-clause-found c =
    handed (λ (claims : Vec Claim Global). map stated_of claims.items)
    (ClaimsMean c.args.text.now c.args.flow.now.names c.args.flow.now.points (tokens_of c.args.text.now c.args.tokens.now))
    c.from_residual.result c.in_err-claim.field-0.0 c.from_residual.ensures.1
    (λ n. lead_fault c.args.text.now c.args.flow.now.names c.args.flow.now.points c.args.tokens.now c.loop-alloc.claims.items
    c.loop-alloc.next c.in_err-claim.field-0.0
    (omega (arith, c.len.ensures, c.if-len-ge-MOST_CLAIMS.false)) (c.in_err-claim.ensures.found n) c.loop-alloc.invariant)

pub loop-alloc-preserved : goal.loop-alloc-preserved
loop-alloc-preserved c =
    keeps_on c.args.text.now c.args.flow.now.names c.args.flow.now.points c.args.tokens.now c.loop-alloc.claims.items c.push.new.self.items
    c.in_ok-claim.claim
    c.loop-alloc.next c.in_ok-claim.behind c.loop-alloc.invariant (omega (arith, c.len.ensures, c.if-len-ge-MOST_CLAIMS.false))
    c.in_ok-claim.ensures.found
    c.in_ok-claim.ensures.stands c.in_ok-claim.ensures.within c.in_ok-push.ensures.items

pub returns-clause-found : goal.returns-clause-found
returns-clause-found c =
    let over = ap (λ (t : Token). is_end t.kind) (sym c.token_at.ensures) ∙ sym c.is_end.ensures ∙ c.loop-alloc-test.false in
    lead_end c.args.text.now c.args.flow.now.names c.args.flow.now.points c.args.tokens.now c.loop-alloc.claims.items c.loop-alloc.next
    c.requires.tokens over c.loop-alloc.invariant
