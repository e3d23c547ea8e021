use Rattle.source_tokens.proofs.placed.Fronts.{each_in}
use Rattle.source_constants.proofs.item.has_macro.Goals as goal

pub is_macro-requires : goal.is_macro-requires
is_macro-requires c =
    each_in c.args.text.now c.args.tokens.now c.loop-token.token-index _ c.requires c.loop-token-test.true
