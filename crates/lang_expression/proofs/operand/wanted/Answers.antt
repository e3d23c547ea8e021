use Rattle.std.proofs.Common.{◌∙◌, ap, Ok, List}
use Rattle.lang_grammar.specs.Symbols.{symbol_kind}
use Rattle.lang_tokens.specs.Lines.{line_at}
use Rattle.lang_meaning.specs.Feed.{Frame, Mode, at, wanted}
use Rattle.lang_reader.specs.Frames.{frames_of}
use Rattle.lang_reader.specs.Modes.{lexeme_kind}
use Rattle.lang_reader.specs.Views.{state_of}
use Rattle.lang_expression.proofs.operand.Operands.{plain_wanted}
use Rattle.lang_expression.proofs.operand.wanted.Goals as goal

pub returns-in-Plain : goal.returns-in-Plain
returns-in-Plain c =
    ap (λ l. wanted (line_at c.args.source.now.text.now) c.args.source.now.width (state_of c.args.reader.now.context)
    (frames_of c.args.reader.now.frames) (lexeme_kind l) c.args.place) c.in-Plain.is
    ∙ plain_wanted (line_at c.args.source.now.text.now) c.args.source.now.width (state_of c.args.reader.now.context)
    (frames_of c.args.reader.now.frames) (symbol_kind c.in-Plain.symbol) c.args.place
    ∙ ap (λ (r : List Frame × Mode). Ok (at (state_of c.args.reader.now.context) r.0 r.1)) c.in_ok-signed-in-Plain.ensures
