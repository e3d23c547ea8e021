use Rattle.std.proofs.Common.{◌≡◌, None}
use Rattle.base_fractions.specs.Operation.{first_wide}
use Rattle.lp_dictionary.specs.Listed.{joined}
use Rattle.lp_simplex.specs.Operations.{ratio_operation}
use Rattle.lp_simplex.specs.Choices.{CandidateOf}
use Rattle.lp_simplex.proofs.scan.leaving_row.Given as goal

abbrev pub invariant-loop-row : goal.invariant-loop-row
invariant-loop-row g l = record {
  best : CandidateOf g.F.OrderedField.meaning (g.T.Tableau.table l.tableau) l.col l.row l.best;
  fits : first_wide g.F.OrderedField.LIMIT (joined l.row (ratio_operation (g.T.Tableau.table l.tableau) l.col)) ≡ None;
}
