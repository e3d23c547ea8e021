use Rattle.std.proofs.Common.{◌≡◌, []}
use Rattle.solve_composition.specs.Composed.{first_entries}
use Rattle.solve_transformer.proofs.place.no_form.Given as goal

abbrev pub invariant-columns : goal.invariant-columns
invariant-columns l = l.coeffs.items ≡ first_entries l.counter []
