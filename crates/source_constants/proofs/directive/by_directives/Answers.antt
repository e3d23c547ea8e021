use Rattle.std.proofs.Common.{◌∙◌, List, not, sym, subst}
use Rattle.lang_tokens.specs.declared.token.Token.{Token}
use Rattle.source_tokens.specs.Texts.{AreTokensIn}
use Rattle.source_constants.specs.Directives.{is_code}
use Rattle.source_constants.proofs.directives.{filtered_in}
use Rattle.source_constants.proofs.directive.by_directives.Goals as goal

pub add_all-requires : goal.add_all-requires
add_all-requires c =
    subst (λ (ts : List Token). AreTokensIn c.args.text.now ts) (sym (c.as_slice.ensures.value ∙ c.in_ok-asides.ensures))
    (filtered_in c.args.text.now (λ (t : Token). not (is_code t.kind)) c.args.tokens.now c.requires)
