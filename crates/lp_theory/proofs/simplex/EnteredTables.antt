-- The special first pivot of phase 1 in the table.
use Rattle.std.proofs.Common.{◌≡◌, ℕ, suc, ◌+◌, ◌<◌, cond, refl, ap, sym, ◌∙◌, subst₂, arith, le-ltb}
use Rattle.base_numbers.specs.Rational.{one_ℚ}
use Rattle.base_numbers.proofs.rational.Laws.{one_ne_zero}
use Rattle.lp_theory.specs.Problem.{Problem}
use Rattle.lp_theory.specs.Dictionary.{pivot}
use Rattle.lp_theory.specs.Simplex.{names, slack_name, slack_coef, first_dict, entered}
use Rattle.lp_theory.specs.Table.{pivot_table, Shows}
use Rattle.lp_theory.specs.FirstTable.{first_table}
use Rattle.lp_theory.proofs.simplex.Roles.{first_form, first-slack, role-zero}
use Rattle.lp_theory.proofs.table.TablePivots.{table_pivot}
use Rattle.lp_theory.proofs.first_table.FirstTables.{RowCase, slack_row, aux_case, main_case, row_case, first_table_shows}

first_bounds : (P : Problem) → ((first_table P).rows ≡ P.rows) × ((first_table P).goals ≡ 2) × ((first_table P).width ≡ suc P.cols)
unfolding first_table
first_bounds P = (refl, refl, refl)

-- the names of the pivot's row and column
pub first_row_name : (P : Problem) (r : ℕ) → r < P.rows → (first_table P).row_name r ≡ slack_name P r
first_row_name P r l = by (row_case P r (omega (arith, l)))
  where
    by : RowCase P r → (first_table P).row_name r ≡ slack_name P r
    by (slack_row m f) = f
    by (aux_case m f) = absurd (omega (arith, l, m))
    by (main_case m f) = absurd (omega (arith, l, m))

-- the last column is the auxiliary variable's
pub first_col_name : (P : Problem) → (first_table P).col_name P.cols ≡ 0
unfolding first_table
first_col_name P = ap (λ b. cond b (suc P.cols) 0) (le-ltb P.cols P.cols (omega arith))

-- the pivot at the row r and the last column shows the dictionary in which the auxiliary variable has entered
pub entered_shows : (P : Problem) (r : ℕ) → r < P.rows → Shows (names P) (pivot_table (first_table P) r P.cols) (entered P r)
entered_shows P r l =
    let b = first_bounds P in
    let h = first_table_shows P in
    let m : r < (first_table P).rows = omega (arith, l, b.0) in
    let w : P.cols < (first_table P).width = omega (arith, b.2) in
    let i : r < (first_table P).rows + (first_table P).goals = omega (arith, m) in
    let e : (first_table P).entry r P.cols ≡ one_ℚ =
    h.entries r P.cols i w ∙ ap (λ x. (first_dict P).coef x ((first_table P).col_name P.cols)) (first_row_name P r l)
    ∙ ap ((first_dict P).coef (slack_name P r)) (first_col_name P) ∙ first-slack P r 0 l ∙ ap (slack_coef P r) (role-zero P) in
    subst₂ (λ x y. Shows (names P) (pivot_table (first_table P) r P.cols) (pivot (first_dict P) x y)) (first_row_name P r l)
    (first_col_name P)
    (table_pivot (names P) (first_table P) (first_dict P) h (first_form P) r P.cols m w (λ z. one_ne_zero (sym e ∙ z)))
