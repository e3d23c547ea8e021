use Rattle.std.proofs.Common.{refl, inl}
use Rattle.lang_tokens.proofs.piece.CTokens.{first_of_kind, code_stands, no_code_starts}
use Rattle.lang_tokens.proofs.piece.code_token.Goals as goal

pub returns-in-Some : goal.returns-in-Some
returns-in-Some c = code_stands c.args.before c.args.rest.now c.in-Some.kind c.args.lexeme.len c.requires.outside
    (first_of_kind c.args.rest.now c.args.lexeme _ c.in-Some.is c.requires.first) c.requires.bare.no_comment

pub returns-in-None : goal.returns-in-None
returns-in-None c = inl (
  refl,
  no_code_starts c.args.before c.args.rest.now c.args.lexeme.len c.requires.outside c.requires.bare c.requires.no_directive
      (first_of_kind c.args.rest.now c.args.lexeme _ c.in-None.is c.requires.first),
)
