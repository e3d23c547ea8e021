use Rattle.std.proofs.Common.{◌∙◌, sym, rules}
use denote.Enum.Bare.{same_true}
use Rattle.flow_transitions.specs.contracts.reading.symbol.Symbol.{the_type}
use Rattle.flow_transitions.proofs.progress.Range.{name_proper}
use Rattle.flow_transitions.proofs.reading.tokens.name.Goals as goal

pub name_of-requires-clause-within : goal.name_of-requires-clause-within
name_of-requires-clause-within c =
    let is_name = sym c.symbol.ensures.symbol ∙ same_true the_type (search rules) _ _ (sym c.eq.ensures ∙ c.if-eq.true) in
    (name_proper c.args.text.now c.args.tokens.now c.args.at c.token.result c.requires.source.tokens_of c.token.ensures is_name).0

pub name_of-requires-clause-word : goal.name_of-requires-clause-word
name_of-requires-clause-word c =
    let is_name = sym c.symbol.ensures.symbol ∙ same_true the_type (search rules) _ _ (sym c.eq.ensures ∙ c.if-eq.true) in
    (name_proper c.args.text.now c.args.tokens.now c.args.at c.token.result c.requires.source.tokens_of c.token.ensures is_name).1
