use Rattle.lang_meaning.proofs.proper.Lexed.{proper_at}
use Rattle.lang_parser.proofs.pass.fed.Goals as goal

pub read_token-lexeme-requires : goal.read_token-lexeme-requires
read_token-lexeme-requires c = proper_at c.args.source.now.text.now c.args.tokens.now c.loop-token.token-index _ c.loop-token-test.true
    c.requires
