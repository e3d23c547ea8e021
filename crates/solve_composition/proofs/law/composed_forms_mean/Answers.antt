use Rattle.std.proofs.Common.{sym, subst}
use Rattle.solve_composition.specs.ComposedLaws.{MeanTraces}
use Rattle.solve_composition.proofs.composed.Means.{forms_are, mean_traces}
use Rattle.solve_composition.proofs.law.composed_forms_mean.Goals as goal

pub returns : goal.returns
returns c = λ system paths k edge forms h e p x free l f.
    subst (λ g. MeanTraces system.template edge.actions g x free) (sym (forms_are system paths h k edge forms e p))
    (mean_traces system.variables system.template edge.actions x free l f)
