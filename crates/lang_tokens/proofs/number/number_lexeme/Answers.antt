use Rattle.lang_tokens.proofs.number.Going.{number_here, number_first_here}
use Rattle.lang_tokens.proofs.number.number_lexeme.Goals as goal

pub number_kind-requires : goal.number_kind-requires
number_kind-requires c = number_here c.args.rest.now c.going_on-len.result c.requires c.going_on-len.ensures.len

pub returns : goal.returns
returns c = number_first_here c.args.rest.now c.going_on-len.result c.number_kind.result c.requires c.going_on-len.ensures.len
    c.number_kind.ensures
