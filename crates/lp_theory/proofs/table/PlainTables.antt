-- The table of a problem with no side below 0 shows the first dictionary without the auxiliary variable.
use Rattle.std.proofs.Common.{◌≡◌, ℕ, suc, ◌+◌, ◌<◌, ◌≤◌, ⊎_elim, cond, eqb, ltb, refl, ap, sym, ◌∙◌, arith, lt-ltb, le-ltb, ne_eqb}
use Rattle.std.proofs.lemmas.Bool.{cases_lt}
use Rattle.base_numbers.specs.Rational.{zero_ℚ, one_ℚ, neg_ℚ}
use Rattle.lp_theory.specs.Problem.{Problem}
use Rattle.lp_theory.specs.Dictionary.{drop_zero}
use Rattle.lp_theory.specs.Simplex.{names, main_row, aux_row, slack_name, first_dict}
use Rattle.lp_theory.specs.Table.{Table, Shows, Agree, skip, drop_table}
use Rattle.lp_theory.specs.FirstTable.{first_entry, first_table, plain_table}
use Rattle.lp_theory.proofs.simplex.Roles.{first_form}
use Rattle.lp_theory.proofs.TableDrops.{skip_below, skip_above, table_drop}
use Rattle.lp_theory.proofs.first_table.FirstTables.{shows_agree, first_table_shows, entry_slack, entry_main}

first_size : (P : Problem) → ((first_table P).rows ≡ P.rows) × ((first_table P).goals ≡ 2) × ((first_table P).width ≡ suc P.cols)
unfolding first_table
first_size P = (refl, refl, refl)

last_column : (P : Problem) → (first_table P).col_name P.cols ≡ 0
unfolding first_table
last_column P = ap (λ b. cond b (suc P.cols) 0) (le-ltb P.cols P.cols (omega arith))

-- the first table without the auxiliary variable's column and goal
dropped_first : Problem → Table
dropped_first P = drop_table (first_table P) 1 P.cols P.cols

dropped_shows : (P : Problem) → Shows (names P) (dropped_first P) (drop_zero (first_dict P))
unfolding dropped_first
dropped_shows P =
    let s = first_size P in
    table_drop (names P) (first_table P) (first_dict P) (first_table_shows P) (first_form P) 1 P.cols P.cols s.1 s.2 (omega (arith, s.2))
    (last_column P)

plain_row : (P : Problem) (i : ℕ) → i < P.rows + 1 → (plain_table P).row_name i ≡ (first_table P).row_name (skip P.rows i)
unfolding plain_table first_table
plain_row P i l = ⊎_elim
    (λ h. ap (λ b. cond b (slack_name P i) (main_row P)) (lt-ltb i P.rows h)
    ∙ sym (ap (λ x. cond (ltb x P.rows) (slack_name P x) (cond (eqb x P.rows) (aux_row P) (main_row P))) (skip_below P.rows i h)
    ∙ ap (λ b. cond b (slack_name P i) (cond (eqb i P.rows) (aux_row P) (main_row P))) (lt-ltb i P.rows h)))
    (λ h. ap (λ b. cond b (slack_name P i) (main_row P)) (le-ltb i P.rows h)
    ∙ sym (ap (λ x. cond (ltb x P.rows) (slack_name P x) (cond (eqb x P.rows) (aux_row P) (main_row P))) (skip_above P.rows i h)
    ∙ ap (λ b. cond b (slack_name P (suc i)) (cond (eqb (suc i) P.rows) (aux_row P) (main_row P)))
    (le-ltb (suc i) P.rows (omega (arith, h))) ∙ ap (λ b. cond b (aux_row P) (main_row P))
    (ne_eqb (suc i) P.rows (λ x. omega (arith, x, h)))))
    (cases_lt i P.rows)

-- a column's entry in the plain table: of the column or the constant
plain_slack : (P : Problem) (i k : ℕ) → i < P.rows → k ≤ P.cols → (plain_table P).entry i k ≡ first_entry P i (skip P.cols k)
unfolding plain_table
plain_slack P i k l m = ⊎_elim
    (λ h. ap (λ b. cond b (cond (ltb k P.cols) (neg_ℚ (P.coef i k)) (P.side i)) (cond (ltb k P.cols) (P.goal k) zero_ℚ)) (lt-ltb i P.rows l)
    ∙ ap (λ b. cond b (neg_ℚ (P.coef i k)) (P.side i)) (lt-ltb k P.cols h)
    ∙ sym (ap (first_entry P i) (skip_below P.cols k h) ∙ entry_slack P i k l
    ∙ ap (λ b. cond b (neg_ℚ (P.coef i k)) (cond (eqb k P.cols) one_ℚ (P.side i))) (lt-ltb k P.cols h)))
    (λ h. ap (λ b. cond b (cond (ltb k P.cols) (neg_ℚ (P.coef i k)) (P.side i)) (cond (ltb k P.cols) (P.goal k) zero_ℚ)) (lt-ltb i P.rows l)
    ∙ ap (λ b. cond b (neg_ℚ (P.coef i k)) (P.side i)) (le-ltb k P.cols h)
    ∙ sym (ap (first_entry P i) (skip_above P.cols k h) ∙ entry_slack P i (suc k) l
    ∙ ap (λ b. cond b (neg_ℚ (P.coef i (suc k))) (cond (eqb (suc k) P.cols) one_ℚ (P.side i)))
    (le-ltb (suc k) P.cols (omega (arith, h))) ∙ ap (λ b. cond b one_ℚ (P.side i)) (ne_eqb (suc k) P.cols (λ x. omega (arith, x, h)))))
    (cases_lt k P.cols)

plain_main : (P : Problem) (i k : ℕ) → i ≡ P.rows → k ≤ P.cols → (plain_table P).entry i k ≡ first_entry P (suc i) (skip P.cols k)
unfolding plain_table
plain_main P i k e m =
    let r : P.rows ≤ i = omega (arith, e) in
    let f : suc i ≡ suc P.rows = omega (arith, e) in
    ⊎_elim
    (λ h. ap (λ b. cond b (cond (ltb k P.cols) (neg_ℚ (P.coef i k)) (P.side i)) (cond (ltb k P.cols) (P.goal k) zero_ℚ)) (le-ltb i P.rows r)
    ∙ ap (λ b. cond b (P.goal k) zero_ℚ) (lt-ltb k P.cols h)
    ∙ sym (ap (first_entry P (suc i)) (skip_below P.cols k h) ∙ entry_main P (suc i) k f
    ∙ ap (λ b. cond b (P.goal k) zero_ℚ) (lt-ltb k P.cols h)))
    (λ h. ap (λ b. cond b (cond (ltb k P.cols) (neg_ℚ (P.coef i k)) (P.side i)) (cond (ltb k P.cols) (P.goal k) zero_ℚ)) (le-ltb i P.rows r)
    ∙ ap (λ b. cond b (P.goal k) zero_ℚ) (le-ltb k P.cols h)
    ∙ sym (ap (first_entry P (suc i)) (skip_above P.cols k h) ∙ entry_main P (suc i) (suc k) f
    ∙ ap (λ b. cond b (P.goal (suc k)) zero_ℚ) (le-ltb (suc k) P.cols (omega (arith, h)))))
    (cases_lt k P.cols)

plain_entry : (P : Problem) (i k : ℕ) → i < P.rows + 1 → k ≤ P.cols → (plain_table P).entry i k
    ≡ first_entry P (skip P.rows i) (skip P.cols k)
plain_entry P i k l m = ⊎_elim
    (λ h. plain_slack P i k h m ∙ ap (λ x. first_entry P x (skip P.cols k)) (sym (skip_below P.rows i h)))
    (λ h. plain_main P i k (omega (arith, h, l)) m ∙ ap (λ x. first_entry P x (skip P.cols k)) (sym (skip_above P.rows i h)))
    (cases_lt i P.rows)

plain_col : (P : Problem) (k : ℕ) → k < P.cols → (plain_table P).col_name k ≡ (first_table P).col_name (skip P.cols k)
unfolding plain_table first_table
plain_col P k l = sym (ap (λ x. cond (ltb x P.cols) (suc x) 0) (skip_below P.cols k l) ∙ ap (λ b. cond b (suc k) 0) (lt-ltb k P.cols l))

plain_agrees : (P : Problem) → Agree (dropped_first P) (plain_table P)
unfolding dropped_first drop_table first_table plain_table
plain_agrees P = record {
  rows = refl;
  goals = refl;
  width = refl;
  row_name = λ i l. plain_row P i l;
  col_name = λ k l. plain_col P k l;
  entry = λ i k l m. plain_entry P i k l m;
}

-- the first table without the auxiliary variable
pub plain_table_shows : (P : Problem) → Shows (names P) (plain_table P) (drop_zero (first_dict P))
plain_table_shows P = shows_agree (names P) (dropped_first P) (plain_table P) (drop_zero (first_dict P)) (dropped_shows P) (plain_agrees P)
