use Rattle.std.proofs.Common.{◌≡◌, map, take}
use Rattle.theory_validity.specs.Words.{val}
use Rattle.solve_composition.specs.ComposedLaws.{form_of}
use Rattle.solve_composition.proofs.faults.Passed.{IsPassed}
use Rattle.solve_transformer.specs.Places.{form_reading}
use Rattle.solve_transformer.proofs.place.forms_at.Given as goal

abbrev pub invariant-loop-form : goal.invariant-loop-form
invariant-loop-form l = record {
  list : l.list.items ≡ map (λ f. val (form_of f) l.word) (take l.form-index l.forms);
  passed : IsPassed (form_reading l.word) l.forms l.form-index;
}
