use Rattle.source_tokens.proofs.placed.Fronts.{each_in}
use Rattle.source_reader.proofs.scope.stands_once.Goals as goal

pub is_named-requires : goal.is_named-requires
is_named-requires c = each_in c.args.text.now c.args.tokens.now c.loop-token.token-index _ c.requires c.loop-token-test.true
