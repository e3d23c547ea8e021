use Rattle.source_tokens.proofs.placed.Fronts.{each_in}
use Rattle.source_constants.proofs.part.parts_of.Goals as goal

pub part_of-requires : goal.part_of-requires
part_of-requires c = each_in c.args.text.now c.args.tokens.now c.loop-token.token-index _ c.requires c.loop-token-test.true
