use Rattle.source_tokens.proofs.placed.Fronts.{range_in}
use Rattle.source_constants.proofs.item.by_items.Goals as goal

pub add_defined-requires : goal.add_defined-requires
add_defined-requires c = range_in c.args.text.now c.args.code.now _ _ c.requires.tokens
