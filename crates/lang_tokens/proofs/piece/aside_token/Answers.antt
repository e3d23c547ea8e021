use Rattle.std.proofs.Common.{sym, refl, inl, ◌∙◌}
use Rattle.lang_tokens.proofs.piece.CTokens.{aside_stands, joint_starts_nothing}
use Rattle.lang_tokens.proofs.piece.aside_token.Goals as goal

pub returns-then-is_joint : goal.returns-then-is_joint
returns-then-is_joint c =
    inl (refl, joint_starts_nothing c.args.rest.now c.requires.bare (sym c.is_joint.ensures ∙ c.if-is_joint.true))

pub returns : goal.returns
returns c = rw c.aside_of.ensures (aside_stands c.args.rest.now c.args.lexeme c.requires.first c.requires.bare.no_comment
    (sym c.is_joint.ensures ∙ c.if-is_joint.false))
