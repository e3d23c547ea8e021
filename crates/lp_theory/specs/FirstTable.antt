-- The tables that a run begins with.
use Rattle.std.specs.Prelude.{ℕ, suc, cond, eqb, ltb}
use Rattle.base_numbers.specs.Rational.{ℚ, zero_ℚ, one_ℚ, neg_ℚ}
use Rattle.lp_theory.specs.Problem.{Problem}
use Rattle.lp_theory.specs.Simplex.{main_row, aux_row, slack_name}
use Rattle.lp_theory.specs.Table.{Table}

-- with some side below 0: the auxiliary variable in the last column, and two goals
unfoldable pub first_entry : Problem → ℕ → ℕ → ℚ
first_entry P i k =
    cond (ltb i P.rows)
    (cond (ltb k P.cols) (neg_ℚ (P.coef i k)) (cond (eqb k P.cols) one_ℚ (P.side i)))
    (cond (eqb i P.rows)
    (cond (eqb k P.cols) (neg_ℚ one_ℚ) zero_ℚ)
    (cond (ltb k P.cols) (P.goal k) zero_ℚ))

-- its names and entries
unfoldable pub first_table : Problem → Table
first_table P = record {
  rows = P.rows;
  goals = 2;
  width = suc P.cols;
  row_name = λ i. cond (ltb i P.rows) (slack_name P i) (cond (eqb i P.rows) (aux_row P) (main_row P));
  col_name = λ k. cond (ltb k P.cols) (suc k) 0;
  entry = first_entry P;
}

-- with no side below 0: the problem's goal alone
unfoldable pub plain_table : Problem → Table
plain_table P = record {
  rows = P.rows;
  goals = 1;
  width = P.cols;
  row_name = λ i. cond (ltb i P.rows) (slack_name P i) (main_row P);
  col_name = suc;
  entry = λ i k. cond (ltb i P.rows) (cond (ltb k P.cols) (neg_ℚ (P.coef i k)) (P.side i)) (cond (ltb k P.cols) (P.goal k) zero_ℚ);
}
