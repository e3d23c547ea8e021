use Rattle.std.proofs.Common.{inr, refl, ◌∙◌, subst}
use Rattle.base_numbers.proofs.rational.Laws.{ne_of_lt_ℚ}
use Rattle.lp_dictionary.proofs.Widths.{first_wide_later}
use Rattle.lp_dictionary.specs.PivotOperations.{pivot_operations}
use Rattle.lp_simplex.specs.Operations.{ratio_operations}
use Rattle.lp_simplex.specs.Choices.{LeavesOf}
use Rattle.lp_simplex.proofs.step.make_step.Goals as goal

pub pivot-requires-clause-entry : goal.pivot-requires-clause-entry
pivot-requires-clause-entry g c =
    let T = g.T.Tableau.table c.args.tableau.now in
    let l = subst (LeavesOf T c.in-Some.col c.args.rows) c.in-Some-leaving.is c.in-Ok.ensures.0 in
    ne_of_lt_ℚ l.falls

pub returns-in-Ok-pivot-clause-made : goal.returns-in-Ok-pivot-clause-made
returns-in-Ok-pivot-clause-made g c =
    let T = g.T.Tableau.table c.args.tableau.now in
    let l = subst (LeavesOf T c.in-Some.col c.args.rows) c.in-Some-leaving.is c.in-Ok.ensures.0 in
    record {
      col = c.in-Some.col;
      row = c.in-Some-leaving.row;
      enters = c.in-Some.ensures;
      leaves = l;
      named = c.basic-name.ensures;
      table = c.in-Ok-pivot.ensures.exchanged;
      fits = first_wide_later g.F.OrderedField.LIMIT (ratio_operations T c.in-Some.col)
          (pivot_operations T c.in-Some-leaving.row c.in-Some.col) c.in-Ok.ensures.1 ∙ c.in-Ok-pivot.ensures.fits;
    }

pub returns-in-Err-Wide-clause-refused : goal.returns-in-Err-Wide-clause-refused
returns-in-Err-Wide-clause-refused g c =
    let T = g.T.Tableau.table c.args.tableau.now in
    let l = subst (LeavesOf T c.in-Some.col c.args.rows) c.in-Some-leaving.is c.in-Ok.ensures.0 in
    let r = rw c.in-Err-Wide.field-0-is at c.in-Err-Wide.ensures.refused in (
      refl,
      record {
        col = c.in-Some.col;
        enters = c.in-Some.ensures;
        wide = inr (
          c.in-Some-leaving.row,
          l,
          first_wide_later g.F.OrderedField.LIMIT (ratio_operations T c.in-Some.col)
              (pivot_operations T c.in-Some-leaving.row c.in-Some.col) c.in-Ok.ensures.1 ∙ r,
        );
      },
    )
