use Rattle.std.proofs.Common.{◌≡◌, drop}
use Rattle.lang_grammar.specs.View.{tokens_of}
use Rattle.lang_tokens.specs.Lines.{line_at}
use Rattle.lang_meaning.specs.Feed.{feed}
use Rattle.lang_reader.specs.Modes.{machine_of}
use Rattle.lang_parser.proofs.pass.fed.Given as goal

abbrev pub invariant-loop-token : goal.invariant-loop-token
invariant-loop-token l = feed (line_at l.source.text.now) l.source.width
    (tokens_of l.source.text.now l.tokens) (machine_of l.fn.reader l.fn.mode)
    ≡ feed (line_at l.source.text.now) l.source.width
    (tokens_of l.source.text.now (drop l.token-index l.tokens)) (machine_of l.reader l.mode)
