use Rattle.std.proofs.Common.{sym, ◌∙◌}
use Rattle.lang_tokens.proofs.reading.Standing.{blank_stands}
use Rattle.lang_tokens.proofs.piece.piece.Goals as goal

pub returns-then-is_blank_at : goal.returns-then-is_blank_at
returns-then-is_blank_at c = rw c.behind_blank.ensures
    (blank_stands c.args.lexicon c.args.before c.args.rest.now (sym c.is_blank_at.ensures ∙ c.if-is_blank_at.true))
