use Rattle.std.proofs.Common.{arith, refl}
use Rattle.source_grammar.proofs.grammar.Links.{any_level}
use Rattle.source_grammar.proofs.laws.signs_group.Goals as goal

pub returns-clause-remainder : goal.returns-clause-remainder
returns-clause-remainder c = λ e f g a b h i j.
    ((omega arith, any_level 5 e h, (omega arith, any_level 6 f i, j)), λ k. absurd (omega (arith, k.1.0)))

pub returns-clause-choice : goal.returns-clause-choice
returns-clause-choice x = λ c d e f g a b i j k l m n o. (
  (refl, any_level 1 c k, any_level 0 d l, (refl, any_level 1 e m, any_level 0 f n, any_level 0 g o)),
  λ h. absurd (omega (arith, h.1.0)),
)

pub returns-clause-either : goal.returns-clause-either
returns-clause-either x = λ c d e f a b i k l m n.
    ((refl, (omega arith, any_level 1 c k, any_level 2 d l), any_level 0 e m, any_level 0 f n), λ h. absurd (omega (arith, h.2.0)))
