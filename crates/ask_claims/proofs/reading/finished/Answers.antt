use Rattle.std.proofs.Common.{◌∙◌, sym, ap}
use Rattle.flow_edges.proofs.constants.FormLimits.{condition_room}
use Rattle.lang_tokens.specs.declared.token.Token.{Token}
use Rattle.lang_tree.specs.View.{condition_of}
use Rattle.ask_claims.specs.Steps.{is_semicolon, token_at}
use Rattle.ask_claims.proofs.claims.Ends.{goes_on, semicolon_goes_on, is_over}
use Rattle.ask_claims.proofs.reading.finished.Goals as goal

pub few_cases-requires : goal.few_cases-requires
few_cases-requires c =
    condition_room c.requires.fits.0 (condition_of c.in_ok-cond.cond)
    (is_over c.requires.fits.0 (condition_of c.in_ok-cond.cond) (c.in_ok-cond.ensures.fits c.requires.fits.0 c.requires.fits.1))

pub returns-clause-within : goal.returns-clause-within
returns-clause-within c =
    goes_on c.args.tokens.now c.args.read.next c.requires.ended c.requires.next
    (semicolon_goes_on (token_at c.args.tokens.now c.args.read.next).kind
    (ap (λ (t : Token). is_semicolon t.kind) (sym c.token_at-end.ensures) ∙ sym c.is_semicolon.ensures ∙ c.in_ok-expected.ensures.stands))
