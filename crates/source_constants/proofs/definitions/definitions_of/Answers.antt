use Rattle.std.proofs.Common.{List, sym, subst}
use Rattle.lang_tokens.specs.declared.token.Token.{Token}
use Rattle.source_tokens.specs.Texts.{AreTokensIn}
use Rattle.source_constants.specs.Directives.{is_code}
use Rattle.source_constants.proofs.directives.{filtered_in}
use Rattle.source_constants.proofs.definitions.definitions_of.Goals as goal

pub by_items-requires-clause-tokens : goal.by_items-requires-clause-tokens
by_items-requires-clause-tokens c =
    subst (λ (ts : List Token). AreTokensIn c.args.text.now ts) (sym c.requires.code)
    (filtered_in c.args.text.now (λ (t : Token). is_code t.kind) c.args.tokens.now c.requires.tokens)
