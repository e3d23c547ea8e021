use Rattle.solve_composition.proofs.composed.Means.{paths_count, forms_are, have_columns}
use Rattle.solve_composition.proofs.law.composed_forms_have_columns.Goals as goal

pub returns : goal.returns
returns c = λ system paths h. (
  paths_count system paths h,
  (λ k edge forms e p.
      let f = have_columns system.variables system.template edge.actions forms (forms_are system paths h k edge forms e p) in
      record { frees = f.0; guards = f.1; rows = f.2; count = f.3 }),
)
