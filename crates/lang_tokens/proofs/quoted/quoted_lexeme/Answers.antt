use Rattle.lang_tokens.proofs.quoted.Ends.{quoted_here, no_quoted_here}
use Rattle.lang_tokens.proofs.quoted.quoted_lexeme.Goals as goal

pub returns-in_err-place : goal.returns-in_err-place
returns-in_err-place c = rw c.from_residual.ensures
    (no_quoted_here c.args.rest.now c.requires.some c.requires.quote c.in_err-place.ensures.place)

pub returns : goal.returns
returns c = quoted_here c.args.rest.now c.in_ok-place.place c.requires.some c.requires.quote c.in_ok-place.ensures.place
