use Rattle.lp_simplex.specs.Placed.{IsPlaced}
use Rattle.lp_simplex.proofs.read.basic_values.Given as goal

abbrev pub invariant-loop-row : goal.invariant-loop-row
invariant-loop-row g l =
    let T = g.T.Tableau.table l.tableau in
    IsPlaced g.F.OrderedField.meaning T.row_name (λ i. T.entry i l.col) l.row 0 l.cols l.values.items
