use Rattle.base_numbers.specs.Rational.{neg_ℚ}
use Rattle.lp_simplex.specs.Placed.{IsPlaced}
use Rattle.lp_simplex.proofs.read.goal_multipliers.Given as goal

abbrev pub invariant-loop-col : goal.invariant-loop-col
invariant-loop-col g l =
    let T = g.T.Tableau.table l.tableau in
    IsPlaced g.F.OrderedField.meaning T.col_name (λ k. neg_ℚ (T.entry l.rows k)) l.col l.cols l.rows l.values.items
