-- The tables of dictionaries of sparse rows after a pivot, and after a column and a goal are left out.
use Rattle.std.proofs.Common.{◌≡◌, ℕ, suc, ◌+◌, ◌*◌, ◌<◌, ⊎_elim, Bool, true, false, cond, eqb, List, [], length, get_or, set, take, refl}
use Rattle.std.proofs.Common.{ap, sym, ◌∙◌, subst, arith}
use Rattle.std.specs.Prelude.{remove}
use Rattle.std.proofs.lemmas.Bool.{cases_lt, cases_eq, eq-eqb, ne_eqb}
use Rattle.std.proofs.lemmas.List.Edits.{length-remove}
use Rattle.base_numbers.specs.Rational.{ℚ, zero_ℚ, one_ℚ, inv_ℚ, turned, neg_ℚ, ◌+ℚ◌, ◌*ℚ◌}
use Rattle.base_numbers.proofs.rational.Laws.{div_ℚ_is, zero-*ℚ, *ℚ-zero, neg_ℚ-zero, +ℚ_idr}
use Rattle.base_numbers.proofs.rational.Quotients.{zero_by_num}
use Rattle.lp_theory.specs.Table.{Agree, skip, pivot_row_entry, pivot_other_entry, pivot_table, drop_table}
use Rattle.lp_theory.specs.Run.{place_of, leave_table}
use Rattle.lp_dictionary.specs.Formulas.{divided, combined}
use Rattle.lp_dictionary.specs.PivotOperations.{pivot_operations}
use Rattle.lp_dictionary.specs.Rows as dense
use Rattle.lp_dictionary.proofs.cells.DictPivots.{row_entry, other_entry, pivot_agrees}
use Rattle.lp_dictionary.proofs.cells.DictLeaves.{leave_agrees}
use Rattle.lp_sparse.specs.declared.row.SparseRow.{SparseRow}
use Rattle.lp_dictionary.specs.Entries.{value_at, Rises, HasNoZero}
use Rattle.lp_sparse.specs.Entries.{left_out}
use Rattle.lp_sparse.specs.Rows.{row_at, numbers, EachRises, NoZeros, Exchanges, rows_operations, exchange_operations}
use Rattle.lp_sparse.specs.Named.{named_table}
use Rattle.lp_sparse.proofs.rows.RowsAt.{row_past}
use Rattle.lp_sparse.proofs.entries.Leaving.{left_out_rises, value_left, no_zero_left}

-- names don't depend on entries: those of dictionaries with no entry but 0
abbrev nothing : ℕ → ℚ
nothing k = zero_ℚ

inv_none : inv_ℚ zero_ℚ ≡ zero_ℚ
unfolding inv_ℚ
inv_none = ap (λ n. turned n zero_ℚ.den) ((zero_by_num zero_ℚ).1 refl)

divided_none : (t : Bool) → zero_ℚ ≡ divided zero_ℚ zero_ℚ t
divided_none true = sym (div_ℚ_is one_ℚ zero_ℚ ∙ ap (λ x. one_ℚ *ℚ x) inv_none ∙ *ℚ-zero one_ℚ)
divided_none false = sym (ap neg_ℚ (div_ℚ_is zero_ℚ zero_ℚ ∙ zero-*ℚ (inv_ℚ zero_ℚ)) ∙ neg_ℚ-zero)

combined_none : (b : ℚ) (t : Bool) → zero_ℚ ≡ combined zero_ℚ zero_ℚ b t
combined_none b true = sym (zero-*ℚ b)
combined_none b false = sym (ap (λ x. zero_ℚ +ℚ x) (zero-*ℚ b) ∙ +ℚ_idr zero_ℚ)

nothing_exchanged : (n r s c : ℕ) → dense.Exchanges {F = ℕ} nothing n r s c [] []
nothing_exchanged n r s c = record {
  pivot_row = λ k l. divided_none (eqb k c);
  others = λ i k l d b. combined_none (divided zero_ℚ zero_ℚ (eqb k c)) (eqb k c);
}

module _ {F : Type 0} (m : F → ℚ) (bs ns : List ℕ) (goals : ℕ) (rows ys : List (SparseRow F)) (r c : ℕ)
    (sized : length rows ≡ length bs + goals) (h : Exchanges m (length rows) r (suc (length ns)) c rows ys) where
  -- the table is that of the pivot
  pub sparse_pivots : (x y : ℕ) → r < length bs → c < length ns → x ≡ get_or ns c x → y ≡ get_or bs r y →
      Agree (pivot_table (named_table bs ns goals (numbers m rows)) r c) (named_table (set bs r x) (set ns c y) goals (numbers m ys))
  unfolding pivot_table
  sparse_pivots x y r_in c_in x_is y_is =
      let T = named_table bs ns goals (numbers m rows) in
      let names = pivot_agrees {F = ℕ} nothing bs ns goals [] [] r c x y r_in c_in x_is y_is
      (nothing_exchanged (length bs + goals) r (suc (length ns)) c) in
      record {
        rows = names.rows;
        goals = refl;
        width = names.width;
        row_name = names.row_name;
        col_name = names.col_name;
        entry = λ i k l b. ⊎_elim
            (λ e. ap (λ j. numbers m ys j k) e ∙ h.pivot_row.values k (omega (arith, b)) ∙ sym (row_entry T r c k)
            ∙ sym (ap (λ t. cond t (pivot_row_entry T r c k) (pivot_other_entry T r c i k)) (eq-eqb i r e)))
            (λ d. (h.others i (omega (arith, l, sized)) d).values k (omega (arith, b)) ∙ sym (other_entry T r c i k)
            ∙ sym (ap (λ t. cond t (pivot_row_entry T r c k) (pivot_other_entry T r c i k)) (ne_eqb i r d)))
            (cases_eq i r);
      }

  -- its rows rise
  pub pivot_rises : length ys ≡ length rows → EachRises (suc (length ns)) ys
  pivot_rises e i = ⊎_elim
      (λ q. subst (λ j. Rises 0 (suc (length ns)) (row_at ys j)) (sym q) h.pivot_row.rises)
      (λ d. ⊎_elim
      (λ l. (h.others i l d).rises)
      (λ l. subst (Rises 0 (suc (length ns))) (sym (row_past ys i (omega (arith, l, e)))) tt)
      (cases_lt i (length rows)))
      (cases_eq i r)

-- its operations
pub pivot_operations_are : (bs ns : List ℕ) (goals n : ℕ) (a : ℕ → ℕ → ℚ) (r c : ℕ) → n ≡ length bs + goals
    → pivot_operations (named_table bs ns goals a) r c ≡ exchange_operations a n r (suc (length ns)) c
unfolding pivot_operations exchange_operations rows_operations
pivot_operations_are bs ns goals n a r c e = ap (λ N. exchange_operations a N r (suc (length ns)) c) (sym e)

module _ {F : Type 0} (m : F → ℚ) (bs ns ms : List ℕ) (rows zs : List (SparseRow F)) (z : ℕ) (z_in : z < length ns)
    (ms_is : ms ≡ remove ns z) (row_left : (i : ℕ) → row_at zs i ≡ left_out z (row_at rows (skip (length bs) i))) where
  -- the table is the one that is left
  pub sparse_leaves : z ≡ place_of (λ k. get_or ns k 0) (length ns) 0 →
      Agree (leave_table (named_table bs ns 2 (numbers m rows))) (named_table bs ms 1 (numbers m zs))
  unfolding leave_table drop_table
  sparse_leaves z_is =
      let names = leave_agrees {F = ℕ} nothing bs ns ms [] [] (take ((length bs + 1) * length ns) []) z z_in z_is
      (record { moved = λ i k l b. refl; later = λ p l. refl }) ms_is refl in
      record {
        rows = refl;
        goals = refl;
        width = names.width;
        row_name = names.row_name;
        col_name = names.col_name;
        entry = λ i k l b. ap (λ es. value_at m es k) (row_left i) ∙ value_left m z k (row_at rows (skip (length bs) i))
            ∙ ap (λ y. numbers m rows (skip (length bs) i) (skip y k)) z_is;
      }

  -- the rows rise below the new width when a column and a goal are left out
  pub leave_rises : EachRises (suc (length ns)) rows → EachRises (suc (length ms)) zs
  leave_rises h i =
      let e : suc (length ms) ≡ length ns = let f = length-remove ns z z_in in let g = ap length ms_is in omega (arith, f, g) in
      subst (λ n. Rises 0 n (row_at zs i)) (sym e) (subst (Rises 0 (length ns)) (sym (row_left i))
      (left_out_rises z 0 0 (length ns) (row_at rows (skip (length bs) i)) (omega (arith, z_in)) (omega arith)
      (λ l. absurd (omega (arith, l))) (h (skip (length bs) i))))

  -- no row has a zero entry when a column and a goal are left out
  pub leave_no_zeros : NoZeros m rows → NoZeros m zs
  leave_no_zeros h i = subst (HasNoZero m) (sym (row_left i)) (no_zero_left m z (row_at rows (skip (length bs) i)) (h (skip (length bs) i)))
