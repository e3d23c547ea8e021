-- A pivot of a table by the four formulas shows the pivot of the dictionary that the table shows: the names, and the whole.
use Rattle.std.proofs.Common.{◌≡◌, ◌≢◌, ℕ, ◌+◌, ◌<◌, ◌⊎◌, inl, inr, ⊎_elim, true, false, ap, sym, ◌∙◌, subst, arith, true≢false}
use Rattle.std.proofs.lemmas.Bool.{cases_eq}
use Rattle.base_numbers.specs.Rational.{zero_ℚ, ◌+ℚ◌, ◌*ℚ◌, ◌-ℚ◌}
use Rattle.base_numbers.proofs.rational.Laws.{+ℚ_idr, zero-*ℚ}
use Rattle.lp_theory.specs.Dictionary.{delta, Dict, IsDict, pivot}
use Rattle.lp_theory.specs.Table.{Table, pivot_table, Shows}
use Rattle.lp_theory.proofs.dictionary.Dictionaries.{free_below}
use Rattle.lp_theory.proofs.Pivots.{pivot-coef, pivot_enters, pivot_leaves, pivot_stays, share_zero}
use Rattle.lp_theory.proofs.dictionary.Tables.{table_row_new, table_row_old, table_col_new, table_col_old, basic_row, free_col, names_apart}
use Rattle.lp_theory.proofs.dictionary.Tables.{shown_entry, shown_const}

-- names that are apart stay apart where one of them is changed to a name that none had
changed_apart : (n p : ℕ) (old new : ℕ → ℕ) → ((k : ℕ) → k ≢ p → new k ≡ old k) → ((k : ℕ) → k < n → old k ≢ new p)
    → ((i j : ℕ) → i < n → j < n → old i ≡ old j → i ≡ j) → (i j : ℕ) → i < n → j < n → new i ≡ new j → i ≡ j
changed_apart n p old new kept fresh apart i j a b e = ⊎_elim
    (λ x. ⊎_elim (λ y. x ∙ sym y) (λ y. absurd (fresh j b (sym (kept j y) ∙ sym e ∙ ap new x))) (cases_eq j p))
    (λ x. ⊎_elim (λ y. absurd (fresh i a (sym (kept i x) ∙ e ∙ ap new y))) (λ y. apart i j a b (sym (kept i x) ∙ e ∙ kept j y))
    (cases_eq j p))
    (cases_eq i p)

module _ (n : ℕ) (T : Table) (D : Dict) (h : Shows n T D) (d : IsDict n D) (r c : ℕ) (l : r < T.rows) (m : c < T.width)
    (p : T.entry r c ≢ zero_ℚ) where
  abbrev B : ℕ
  B = T.row_name r

  abbrev N : ℕ
  N = T.col_name c

  in_rows : r < T.rows + T.goals
  in_rows = omega (arith, l)

  apart : T.row_name r ≢ T.col_name c
  apart = names_apart n T D h d r c l m p

  basic_not_free : {q : ℕ} → D.basic q ≡ true → q ≢ T.col_name c
  basic_not_free b e = true≢false (sym b ∙ ap D.basic e ∙ free_col n T D h d r c l m p)

  free_not_basic : {q : ℕ} → D.basic q ≡ false → q ≢ T.row_name r
  free_not_basic f e = true≢false (sym (basic_row n T D h d r c l m p) ∙ ap D.basic (sym e) ∙ f)

  row_below : (i : ℕ) → i < T.rows → (pivot_table T r c).row_name i < n
  row_below i a = ⊎_elim
      (λ x. subst (λ z. z < n) (sym (ap (pivot_table T r c).row_name x ∙ table_row_new T r c))
      (free_below n D d N (free_col n T D h d r c l m p)))
      (λ x. subst (λ z. z < n) (sym (table_row_old T r c i x)) (h.row_below i a))
      (cases_eq i r)

  row_basic : (i : ℕ) → i < T.rows + T.goals → (pivot D B N).basic ((pivot_table T r c).row_name i) ≡ true
  row_basic i a = ⊎_elim
      (λ x. ap (pivot D B N).basic (ap (pivot_table T r c).row_name x ∙ table_row_new T r c) ∙ pivot_enters D B N)
      (λ x. ap (pivot D B N).basic (table_row_old T r c i x) ∙ pivot_stays D B N (T.row_name i) (basic_not_free (h.row_basic i a))
      (λ e. x (h.rows_apart i r a in_rows e)) ∙ h.row_basic i a)
      (cases_eq i r)

  rows_apart : (i j : ℕ) → i < T.rows + T.goals → j < T.rows + T.goals → (pivot_table T r c).row_name i ≡ (pivot_table T r c).row_name j
      → i ≡ j
  rows_apart = changed_apart (T.rows + T.goals) r T.row_name (pivot_table T r c).row_name (table_row_old T r c)
      (λ k l q. basic_not_free (h.row_basic k l) (q ∙ table_row_new T r c)) h.rows_apart

  col_free : (k : ℕ) → k < T.width → (pivot D B N).basic ((pivot_table T r c).col_name k) ≡ false
  col_free k a = ⊎_elim
      (λ x. ap (pivot D B N).basic (ap (pivot_table T r c).col_name x ∙ table_col_new T r c) ∙ pivot_leaves D B N apart)
      (λ x. ap (pivot D B N).basic (table_col_old T r c k x) ∙ pivot_stays D B N (T.col_name k) (λ e. x (h.cols_apart k c a m e))
      (free_not_basic (h.col_free k a)) ∙ h.col_free k a)
      (cases_eq k c)

  cols_apart : (j k : ℕ) → j < T.width → k < T.width → (pivot_table T r c).col_name j ≡ (pivot_table T r c).col_name k → j ≡ k
  cols_apart = changed_apart T.width c T.col_name (pivot_table T r c).col_name (table_col_old T r c)
      (λ k l q. free_not_basic (h.col_free k l) (q ∙ table_col_new T r c)) h.cols_apart

  all_cols : (q : ℕ) → q < n → (pivot D B N).basic q ≡ false → (k : ℕ) × (k < T.width) × ((pivot_table T r c).col_name k ≡ q)
  all_cols q a f = ⊎_elim
      (λ x. (c, m, table_col_new T r c ∙ sym x))
      (λ x.
      let y : q ≢ T.col_name c = λ e. true≢false (sym (ap (pivot D B N).basic e ∙ pivot_enters D B N) ∙ f) in
      let w = h.all_cols q a (sym (pivot_stays D B N q y x) ∙ f) in
      (w.0, w.1, table_col_old T r c w.0 (λ e. y (sym w.2 ∙ ap T.col_name e)) ∙ w.2))
      (cases_eq q B)

  all_rows : (q : ℕ) → q < n → (pivot D B N).basic q ≡ true → ((i : ℕ) × (i < T.rows) × ((pivot_table T r c).row_name i ≡ q))
      ⊎ ((k : ℕ) → (pivot D B N).coef q k ≡ zero_ℚ)
  all_rows q a b = ⊎_elim
      (λ x. inl (r, l, table_row_new T r c ∙ sym x))
      (λ x.
      let y : q ≢ T.row_name r = λ e. true≢false (sym b ∙ ap (pivot D B N).basic e ∙ pivot_leaves D B N apart) in
      ⊎_elim
      (λ w. inl (w.0, w.1, table_row_old T r c w.0 (λ e. y (sym w.2 ∙ ap T.row_name e)) ∙ w.2))
      (λ z. inr (λ k. pivot-coef D B N q k ∙ ap (λ s. D.coef q k +ℚ s *ℚ (delta B k -ℚ D.coef B k)) (share_zero D B N q (z N))
      ∙ ap (λ s. D.coef q k +ℚ s) (zero-*ℚ (delta B k -ℚ D.coef B k)) ∙ +ℚ_idr (D.coef q k) ∙ z k))
      (h.all_rows q a (sym (pivot_stays D B N q x y) ∙ b)))
      (cases_eq q N)

  -- the pivot of the table shows the pivot of the dictionary
  pub table_pivot : Shows n (pivot_table T r c) (pivot D (T.row_name r) (T.col_name c))
  unfolding pivot_table
  table_pivot = record {
    row_below = row_below;
    row_basic = row_basic;
    rows_apart = rows_apart;
    col_free = col_free;
    cols_apart = cols_apart;
    entries = shown_entry n T D h d r c l m p;
    constants = shown_const n T D h d r c l m p;
    all_cols = all_cols;
    all_rows = all_rows;
  }
