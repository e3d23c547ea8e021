use Rattle.source_tokens.proofs.placed.Fronts.{each_in}
use Rattle.source_file.proofs.outside.first_outside.Goals as goal

pub outside-fault-requires : goal.outside-fault-requires
outside-fault-requires c = each_in c.args.text.now c.args.tokens.now c.loop-token.token-index _ c.requires c.loop-token-test.true
