-- The tables that a run begins with show the first dictionary, with the auxiliary variable or without it.
use Rattle.std.proofs.Common.{◌≡◌, ℕ, zero, suc, ◌+◌, ◌<◌, ◌≤◌, inl, inr, ⊎_elim, true, cond, eqb, ltb, ap, sym, ◌∙◌, subst, arith}
use Rattle.std.proofs.Common.{true≢false, lt-ltb, le-ltb, eq-eqb, ne_eqb}
use Rattle.std.proofs.lemmas.Bool.{cases_lt}
use Rattle.base_numbers.specs.Rational.{zero_ℚ, one_ℚ, neg_ℚ}
use Rattle.lp_theory.specs.Problem.{Problem}
use Rattle.lp_theory.specs.Dictionary.{Dict}
use Rattle.lp_theory.specs.Simplex.{names, main_row, aux_row, slack_name, slack_coef, main_coef, aux_coef, first_dict}
use Rattle.lp_theory.specs.Table.{Table, Shows, Agree}
use Rattle.lp_theory.specs.FirstTable.{first_entry, first_table}
use Rattle.lp_theory.proofs.simplex.Roles.{role-column, role-zero, first_free, first_basic, first-slack, first-main, first-aux}
use Rattle.lp_theory.proofs.simplex.Roles.{first-const_slack, first-const_main, first-const_aux}
use Rattle.lp_theory.proofs.simplex.Roles.{NameCase, is_zero, is_column, is_slack, name_cases}

-- a table that agrees within the bounds shows the same dictionary
pub shows_agree : (n : ℕ) (T U : Table) (D : Dict) → Shows n T D → Agree T U → Shows n U D
shows_agree n T U D h a = record {
  row_below = λ i l. let m : i < T.rows = omega (arith, l, a.rows) in subst (λ x. x < n) (sym (a.row_name i (omega (arith, m))))
      (h.row_below i m);
  row_basic = λ i l. let m = row_in i l in ap D.basic (a.row_name i m) ∙ h.row_basic i m;
  rows_apart = λ i j l m e. h.rows_apart i j (row_in i l) (row_in j m) (sym (a.row_name i (row_in i l)) ∙ e ∙ a.row_name j (row_in j m));
  col_free = λ k l. ap D.basic (a.col_name k (col_in k l)) ∙ h.col_free k (col_in k l);
  cols_apart = λ j k l m e. h.cols_apart j k (col_in j l) (col_in k m) (sym (a.col_name j (col_in j l)) ∙ e ∙ a.col_name k (col_in k m));
  entries = λ i k l m. a.entry i k (row_in i l) (let c = col_in k m in omega (arith, c)) ∙ h.entries i k (row_in i l) (col_in k m)
      ∙ ap (λ x. D.coef x (T.col_name k)) (sym (a.row_name i (row_in i l))) ∙ ap (D.coef (U.row_name i)) (sym (a.col_name k (col_in k m)));
  constants = λ i l. ap (U.entry i) a.width ∙ a.entry i T.width (row_in i l) (omega arith) ∙ h.constants i (row_in i l)
      ∙ ap D.const (sym (a.row_name i (row_in i l)));
  all_cols = λ q l f. let w = h.all_cols q l f in (w.0, omega (arith, w.1, a.width), a.col_name w.0 w.1 ∙ w.2);
  all_rows = λ q l b. ⊎_elim (λ w. inl (w.0, omega (arith, w.1, a.rows), a.row_name w.0 (omega (arith, w.1)) ∙ w.2)) inr (h.all_rows q l b);
}
  where
    row_in : (i : ℕ) → i < U.rows + U.goals → i < T.rows + T.goals
    row_in i l = omega (arith, l, a.rows, a.goals)

    col_in : (k : ℕ) → k < U.width → k < T.width
    col_in k l = omega (arith, l, a.width)

-- a row of the first table is a slack's, the auxiliary goal's or the problem's goal's
pub data RowCase (P : Problem) (i : ℕ) : Type 0 where
  slack_row : i < P.rows → (first_table P).row_name i ≡ slack_name P i → RowCase P i
  aux_case : i ≡ P.rows → (first_table P).row_name i ≡ aux_row P → RowCase P i
  main_case : i ≡ suc P.rows → (first_table P).row_name i ≡ main_row P → RowCase P i

-- each row of the first table is one of these
pub row_case : (P : Problem) (i : ℕ) → i < P.rows + 2 → RowCase P i
unfolding first_table
row_case P i l = ⊎_elim
    (λ h. slack_row h (ap (λ b. cond b (slack_name P i) (cond (eqb i P.rows) (aux_row P) (main_row P))) (lt-ltb i P.rows h)))
    (λ h.
    let e = ap (λ b. cond b (slack_name P i) (cond (eqb i P.rows) (aux_row P) (main_row P))) (le-ltb i P.rows h) in
    ⊎_elim
    (λ m. let q : i ≡ suc P.rows = omega (arith, m, l) in main_case q (e
    ∙ ap (λ b. cond b (aux_row P) (main_row P)) (ne_eqb i P.rows (λ x. omega (arith, x, q)))))
    (λ m. let q : i ≡ P.rows = omega (arith, m, h) in aux_case q (e ∙ ap (λ b. cond b (aux_row P) (main_row P)) (eq-eqb i P.rows q)))
    (cases_lt P.rows i))
    (cases_lt i P.rows)

row_high : (P : Problem) (i : ℕ) → RowCase P i → P.cols < (first_table P).row_name i
row_high P i (slack_row l e) = subst (λ x. P.cols < x) (sym e) (omega arith)
row_high P i (aux_case l e) = subst (λ x. P.cols < x) (sym e) (omega arith)
row_high P i (main_case l e) = subst (λ x. P.cols < x) (sym e) (omega arith)

rows_differ : (P : Problem) (i j : ℕ) → RowCase P i → RowCase P j → (first_table P).row_name i ≡ (first_table P).row_name j → i ≡ j
rows_differ P i j (slack_row l e) (slack_row m f) g = let h = sym e ∙ g ∙ f in omega (arith, h)
rows_differ P i j (slack_row l e) (aux_case m f) g = let h = sym e ∙ g ∙ f in omega (arith, h, l)
rows_differ P i j (slack_row l e) (main_case m f) g = let h = sym e ∙ g ∙ f in omega (arith, h, l)
rows_differ P i j (aux_case l e) (slack_row m f) g = let h = sym e ∙ g ∙ f in omega (arith, h, m)
rows_differ P i j (aux_case l e) (aux_case m f) g = l ∙ sym m
rows_differ P i j (aux_case l e) (main_case m f) g = let h = sym e ∙ g ∙ f in omega (arith, h)
rows_differ P i j (main_case l e) (slack_row m f) g = let h = sym e ∙ g ∙ f in omega (arith, h, m)
rows_differ P i j (main_case l e) (aux_case m f) g = let h = sym e ∙ g ∙ f in omega (arith, h)
rows_differ P i j (main_case l e) (main_case m f) g = l ∙ sym m

-- a column of the first table is a column's or the auxiliary variable's
pub data ColCase (P : Problem) (k : ℕ) : Type 0 where
  column_col : k < P.cols → (first_table P).col_name k ≡ suc k → ColCase P k
  aux_col : k ≡ P.cols → (first_table P).col_name k ≡ 0 → ColCase P k

-- each column of the first table is one of these
col_case : (P : Problem) (k : ℕ) → k < suc P.cols → ColCase P k
unfolding first_table
col_case P k l = ⊎_elim
    (λ h. column_col h (ap (λ b. cond b (suc k) 0) (lt-ltb k P.cols h)))
    (λ h. aux_col (omega (arith, h, l)) (ap (λ b. cond b (suc k) 0) (le-ltb k P.cols h)))
    (cases_lt k P.cols)

col_low : (P : Problem) (k : ℕ) → ColCase P k → (first_table P).col_name k ≤ P.cols
col_low P k (column_col l e) = subst (λ x. x ≤ P.cols) (sym e) (omega (arith, l))
col_low P k (aux_col l e) = subst (λ x. x ≤ P.cols) (sym e) (omega arith)

cols_differ : (P : Problem) (j k : ℕ) → ColCase P j → ColCase P k → (first_table P).col_name j ≡ (first_table P).col_name k → j ≡ k
cols_differ P j k (column_col l e) (column_col m f) g = let h = sym e ∙ g ∙ f in omega (arith, h)
cols_differ P j k (column_col l e) (aux_col m f) g = let h = sym e ∙ g ∙ f in omega (arith, h)
cols_differ P j k (aux_col l e) (column_col m f) g = let h = sym e ∙ g ∙ f in omega (arith, h)
cols_differ P j k (aux_col l e) (aux_col m f) g = l ∙ sym m

-- the entries by their places
pub entry_slack : (P : Problem) (i k : ℕ) → i < P.rows → first_entry P i k
    ≡ cond (ltb k P.cols) (neg_ℚ (P.coef i k)) (cond (eqb k P.cols) one_ℚ (P.side i))
unfolding first_entry
entry_slack P i k l = ap (λ b. cond b (cond (ltb k P.cols) (neg_ℚ (P.coef i k)) (cond (eqb k P.cols) one_ℚ (P.side i)))
    (cond (eqb i P.rows) (cond (eqb k P.cols) (neg_ℚ one_ℚ) zero_ℚ) (cond (ltb k P.cols) (P.goal k) zero_ℚ))) (lt-ltb i P.rows l)

-- an entry of the first goal
pub entry_aux : (P : Problem) (i k : ℕ) → i ≡ P.rows → first_entry P i k ≡ cond (eqb k P.cols) (neg_ℚ one_ℚ) zero_ℚ
unfolding first_entry
entry_aux P i k e =
    ap (λ b. cond b (cond (ltb k P.cols) (neg_ℚ (P.coef i k)) (cond (eqb k P.cols) one_ℚ (P.side i)))
    (cond (eqb i P.rows) (cond (eqb k P.cols) (neg_ℚ one_ℚ) zero_ℚ) (cond (ltb k P.cols) (P.goal k) zero_ℚ)))
    (le-ltb i P.rows (omega (arith, e)))
    ∙ ap (λ b. cond b (cond (eqb k P.cols) (neg_ℚ one_ℚ) zero_ℚ) (cond (ltb k P.cols) (P.goal k) zero_ℚ)) (eq-eqb i P.rows e)

-- an entry of the problem's goal
pub entry_main : (P : Problem) (i k : ℕ) → i ≡ suc P.rows → first_entry P i k ≡ cond (ltb k P.cols) (P.goal k) zero_ℚ
unfolding first_entry
entry_main P i k e =
    ap (λ b. cond b (cond (ltb k P.cols) (neg_ℚ (P.coef i k)) (cond (eqb k P.cols) one_ℚ (P.side i)))
    (cond (eqb i P.rows) (cond (eqb k P.cols) (neg_ℚ one_ℚ) zero_ℚ) (cond (ltb k P.cols) (P.goal k) zero_ℚ)))
    (le-ltb i P.rows (omega (arith, e)))
    ∙ ap (λ b. cond b (cond (eqb k P.cols) (neg_ℚ one_ℚ) zero_ℚ) (cond (ltb k P.cols) (P.goal k) zero_ℚ))
    (ne_eqb i P.rows (λ x. omega (arith, x, e)))

entry_shown : (P : Problem) (i k : ℕ) → RowCase P i → ColCase P k → first_entry P i k
    ≡ (first_dict P).coef ((first_table P).row_name i) ((first_table P).col_name k)
entry_shown P i k (slack_row l e) (column_col m f) =
    entry_slack P i k l ∙ ap (λ b. cond b (neg_ℚ (P.coef i k)) (cond (eqb k P.cols) one_ℚ (P.side i))) (lt-ltb k P.cols m)
    ∙ sym (ap (λ x. (first_dict P).coef x ((first_table P).col_name k)) e ∙ ap ((first_dict P).coef (slack_name P i)) f
    ∙ first-slack P i (suc k) l ∙ ap (slack_coef P i) (role-column P k m))
entry_shown P i k (slack_row l e) (aux_col m f) =
    entry_slack P i k l ∙ ap (λ b. cond b (neg_ℚ (P.coef i k)) (cond (eqb k P.cols) one_ℚ (P.side i))) (le-ltb k P.cols (omega (arith, m)))
    ∙ ap (λ b. cond b one_ℚ (P.side i)) (eq-eqb k P.cols m)
    ∙ sym (ap (λ x. (first_dict P).coef x ((first_table P).col_name k)) e ∙ ap ((first_dict P).coef (slack_name P i)) f
    ∙ first-slack P i 0 l ∙ ap (slack_coef P i) (role-zero P))
entry_shown P i k (aux_case l e) (column_col m f) =
    entry_aux P i k l ∙ ap (λ b. cond b (neg_ℚ one_ℚ) zero_ℚ) (ne_eqb k P.cols (λ x. omega (arith, x, m)))
    ∙ sym (ap (λ x. (first_dict P).coef x ((first_table P).col_name k)) e ∙ ap ((first_dict P).coef (aux_row P)) f ∙ first-aux P (suc k)
    ∙ ap aux_coef (role-column P k m))
entry_shown P i k (aux_case l e) (aux_col m f) =
    entry_aux P i k l ∙ ap (λ b. cond b (neg_ℚ one_ℚ) zero_ℚ) (eq-eqb k P.cols m)
    ∙ sym (ap (λ x. (first_dict P).coef x ((first_table P).col_name k)) e ∙ ap ((first_dict P).coef (aux_row P)) f ∙ first-aux P 0
    ∙ ap aux_coef (role-zero P))
entry_shown P i k (main_case l e) (column_col m f) =
    entry_main P i k l ∙ ap (λ b. cond b (P.goal k) zero_ℚ) (lt-ltb k P.cols m)
    ∙ sym (ap (λ x. (first_dict P).coef x ((first_table P).col_name k)) e ∙ ap ((first_dict P).coef (main_row P)) f ∙ first-main P (suc k)
    ∙ ap (main_coef P) (role-column P k m))
entry_shown P i k (main_case l e) (aux_col m f) =
    entry_main P i k l ∙ ap (λ b. cond b (P.goal k) zero_ℚ) (le-ltb k P.cols (omega (arith, m)))
    ∙ sym (ap (λ x. (first_dict P).coef x ((first_table P).col_name k)) e ∙ ap ((first_dict P).coef (main_row P)) f ∙ first-main P 0
    ∙ ap (main_coef P) (role-zero P))

const_shown : (P : Problem) (i : ℕ) → RowCase P i → first_entry P i (suc P.cols) ≡ (first_dict P).const ((first_table P).row_name i)
const_shown P i (slack_row l e) =
    entry_slack P i (suc P.cols) l ∙ ap (λ b. cond b (neg_ℚ (P.coef i (suc P.cols))) (cond (eqb (suc P.cols) P.cols) one_ℚ (P.side i)))
    (le-ltb (suc P.cols) P.cols (omega arith)) ∙ ap (λ b. cond b one_ℚ (P.side i)) (ne_eqb (suc P.cols) P.cols (λ x. omega (arith, x)))
    ∙ sym (ap (first_dict P).const e ∙ first-const_slack P i l)
const_shown P i (aux_case l e) = entry_aux P i (suc P.cols) l ∙ ap (λ b. cond b (neg_ℚ one_ℚ) zero_ℚ)
    (ne_eqb (suc P.cols) P.cols (λ x. omega (arith, x))) ∙ sym (ap (first_dict P).const e ∙ first-const_aux P)
const_shown P i (main_case l e) = entry_main P i (suc P.cols) l ∙ ap (λ b. cond b (P.goal (suc P.cols)) zero_ℚ)
    (le-ltb (suc P.cols) P.cols (omega arith)) ∙ sym (ap (first_dict P).const e ∙ first-const_main P)

some_col : (P : Problem) (q : ℕ) → q ≤ P.cols → (k : ℕ) × (k < suc P.cols) × ((first_table P).col_name k ≡ q)
unfolding first_table
some_col P zero l = (P.cols, omega arith, ap (λ b. cond b (suc P.cols) 0) (le-ltb P.cols P.cols (omega arith)))
some_col P (suc q) l = (q, omega (arith, l), ap (λ b. cond b (suc q) 0) (lt-ltb q P.cols l))

-- a row of a basic name
pub some_row : (P : Problem) (q : ℕ) → (first_dict P).basic q ≡ true → NameCase P q
    → (i : ℕ) × (i < P.rows) × ((first_table P).row_name i ≡ q)
some_row P q b (is_zero e) = absurd (true≢false (sym b ∙ first_free P q (omega (arith, e))))
some_row P q b (is_column j l e) = absurd (true≢false (sym b ∙ first_free P q (omega (arith, e, l))))
some_row P q b (is_slack r l e) = (r, l, by (row_case P r (omega (arith, l))) ∙ sym e)
  where
    by : RowCase P r → (first_table P).row_name r ≡ slack_name P r
    by (slack_row m f) = f
    by (aux_case m f) = absurd (omega (arith, l, m))
    by (main_case m f) = absurd (omega (arith, l, m))

slack_below : (P : Problem) (i : ℕ) → i < P.rows → RowCase P i → (first_table P).row_name i < names P
slack_below P i l (slack_row m f) = subst (λ x. x < names P) (sym f) (omega (arith, l))
slack_below P i l (aux_case m f) = absurd (omega (arith, l, m))
slack_below P i l (main_case m f) = absurd (omega (arith, l, m))

-- the first table with the auxiliary variable
pub first_table_shows : (P : Problem) → Shows (names P) (first_table P) (first_dict P)
unfolding first_table
first_table_shows P = record {
  row_below = λ i l. slack_below P i l (row_case P i (omega (arith, l)));
  row_basic = λ i l. first_basic P ((first_table P).row_name i) (row_high P i (row_case P i l));
  rows_apart = λ i j l m e. rows_differ P i j (row_case P i l) (row_case P j m) e;
  col_free = λ k l. first_free P ((first_table P).col_name k) (col_low P k (col_case P k l));
  cols_apart = λ j k l m e. cols_differ P j k (col_case P j l) (col_case P k m) e;
  entries = λ i k l m. entry_shown P i k (row_case P i l) (col_case P k m);
  constants = λ i l. const_shown P i (row_case P i l);
  all_cols = λ q l f. some_col P q (⊎_elim (λ h. absurd (true≢false (sym (first_basic P q h) ∙ f))) (λ h. h) (cases_lt P.cols q));
  all_rows = λ q l b. inl (some_row P q b (name_cases P q l));
}
