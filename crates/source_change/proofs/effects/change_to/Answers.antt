use Rattle.std.proofs.Common.{◌∙◌, sym, refl}
use Rattle.source_change.proofs.changed.Made.{to_some, to_none}
use Rattle.source_change.proofs.effects.change_to.Goals as goal

pub returns-in-Some : goal.returns-in-Some
returns-in-Some c = λ integers n line a e h s. to_some integers n line _ c.args.value a e (sym c.in-Some.is ∙ h) s

pub returns-in-None : goal.returns-in-None
returns-in-None c = λ integers n line a e h s. to_none integers n line _ c.args.value a e (sym c.in-None.is ∙ h) refl refl s
