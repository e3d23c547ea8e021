use Rattle.solve_transformer.proofs.place.Sums.{IsSummed}
use Rattle.solve_transformer.proofs.place.products_at.Given as goal

abbrev pub invariant-loop-column : goal.invariant-loop-column
invariant-loop-column l = IsSummed l.coeffs l.word l.column l.sum
