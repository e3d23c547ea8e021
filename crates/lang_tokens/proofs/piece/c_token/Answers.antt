use Rattle.std.proofs.Common.{sym, refl, inl, ◌∙◌}
use Rattle.lang_tokens.proofs.piece.CTokens.{hash_stands, no_lexeme_starts}
use Rattle.lang_tokens.proofs.piece.c_token.Goals as goal

pub returns-then-starts_directive : goal.returns-then-starts_directive
returns-then-starts_directive c = hash_stands c.args.before c.args.rest.now (sym c.starts_directive.ensures ∙ c.if-starts_directive.true)

pub returns-in-None : goal.returns-in-None
returns-in-None c = inl (refl, no_lexeme_starts c.args.before c.args.rest.now c.requires c.in-None.ensures)
