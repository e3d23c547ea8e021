use Rattle.flow_rationals.proofs.grammar.Whole.{within_at}
use Rattle.flow_rationals.proofs.reading.symbols.symbols_of.Goals as goal

pub symbol_of-requires : goal.symbol_of-requires
symbol_of-requires c = within_at c.args.text.now c.args.tokens.now c.loop-token.token-index _ c.loop-token-test.true c.requires
