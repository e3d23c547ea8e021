use Rattle.std.specs.Prelude.{◌≡◌, Some, slice_get}
use Rattle.solve_composition.specs.Composed.{EdgeForms}
use Rattle.solve_composition.specs.Sums.{dense_column}
use Rattle.cert_checker.proofs.combination.Multiples.{IsAdded}
use Rattle.cert_checker.proofs.combination.guard_sum.Given as goal

abbrev pub invariant-loop-g : goal.invariant-loop-g
invariant-loop-g l = (forms : EdgeForms) → slice_get l.paths l.edge ≡ Some forms
    → IsAdded l.fn.start l.guards (dense_column l.column forms.guards) l.g l.sum
