use Rattle.lp_simplex.specs.Choices.{EntersAt}
use Rattle.lp_simplex.proofs.scan.entering_column.Given as goal

abbrev pub invariant-loop-col : goal.invariant-loop-col
invariant-loop-col g l = EntersAt (g.T.Tableau.table l.tableau) l.goal l.col l.best
