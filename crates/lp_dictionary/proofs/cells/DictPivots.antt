-- The table of a dictionary after a pivot.
use Rattle.std.proofs.Common.{◌≡◌, ℕ, suc, ◌+◌, ◌*◌, ◌<◌, ◌≤◌, ⊎_elim, Bool, true, false, cond, eqb, ltb, List, ◌++◌, length}
use Rattle.std.proofs.Common.{get_or, set, take, drop, refl, ap, ap₂, sym, ◌∙◌, subst, arith, get_or-set_same}
use Rattle.std.proofs.Common.{get_or-set_other, lt-ltb}
use Rattle.std.proofs.lemmas.List.{length-set, take_at, get_or_default}
use Rattle.std.proofs.lemmas.Bool.{cases_eq, eq-eqb, ne_eqb, eqb-true}
use Rattle.base_numbers.specs.Rational.{ℚ, one_ℚ, neg_ℚ, ◌+ℚ◌, ◌*ℚ◌, ◌/ℚ◌}
use Rattle.lp_theory.specs.Table.{Table, Agree, pivot_row_entry, pivot_other_entry, pivot_table}
use Rattle.lp_dictionary.specs.Formulas.{divided_row, combined_row, divided, combined}
use Rattle.lp_dictionary.specs.PivotOperations.{pivot_operations}
use Rattle.lp_dictionary.specs.Cells.{row_from, goal_name, cells_table}
use Rattle.lp_dictionary.specs.Rows.{Exchanges, exchange_operations}

-- a number that is read, at the default 0
name_read : (xs : List ℕ) (i x : ℕ) → i < length xs → x ≡ get_or xs i x → x ≡ get_or xs i 0
name_read xs i x l e = e ∙ get_or_default xs i x 0 l

-- an entry of the table after the pivot, in the pivot's row and in another
pub row_entry : (T : Table) (r c k : ℕ) → pivot_row_entry T r c k ≡ divided_row (T.entry r) c k
unfolding pivot_row_entry
row_entry T r c k = by (eqb k c)
  where
    by : (b : Bool) → cond b (one_ℚ /ℚ T.entry r c) (neg_ℚ (T.entry r k /ℚ T.entry r c)) ≡ divided (T.entry r k) (T.entry r c) b
    by true = refl
    by false = refl

-- an entry of another row after the pivot is the old one combined with the pivot's new row
pub other_entry : (T : Table) (r c i k : ℕ) → pivot_other_entry T r c i k ≡ combined_row (T.entry i) (divided_row (T.entry r) c) c k
unfolding pivot_other_entry
other_entry T r c i k = by (eqb k c) refl
  where
    by : (b : Bool) → eqb k c ≡ b → cond b (T.entry i c *ℚ pivot_row_entry T r c c) (T.entry i k +ℚ T.entry i c *ℚ pivot_row_entry T r c k)
        ≡ combined (T.entry i k) (T.entry i c) (divided_row (T.entry r) c k) b
    by true e = ap (λ t. T.entry i c *ℚ t) (row_entry T r c c ∙ ap (divided_row (T.entry r) c) (sym (eqb-true k c e)))
    by false e = ap (λ t. T.entry i k +ℚ T.entry i c *ℚ t) (row_entry T r c k)

module _ {F : Type 0} (m : F → ℚ) (bs ns : List ℕ) (goals : ℕ) (xs ys : List F) (r c x y : ℕ) (r_in : r < length bs) (c_in : c < length ns)
    (x_is : x ≡ get_or ns c x) (y_is : y ≡ get_or bs r y)
    (h : Exchanges m (length bs + goals) r (suc (length ns)) c xs ys) where
  T : Table
  T = cells_table m bs ns goals xs

  U : Table
  U = cells_table m (set bs r x) (set ns c y) goals ys

  row_names : (i : ℕ) → U.row_name i ≡ cond (eqb i r) (T.col_name c) (T.row_name i)
  unfolding T U
  row_names i = ⊎_elim
      (λ e. ap₂ (λ b t. cond b t (goal_name (length (set bs r x)) goals (length (set ns c y)) i))
      (lt-ltb i (length (set bs r x)) (omega (arith, e, length-set bs r x, r_in)))
      (ap (λ j. get_or (set bs r x) j 0) e ∙ get_or-set_same bs r x 0 r_in ∙ name_read ns c x c_in x_is)
      ∙ sym (ap (λ b. cond b (get_or ns c 0) (cond (ltb i (length bs)) (get_or bs i 0) (goal_name (length bs) goals (length ns) i)))
      (eq-eqb i r e)))
      (λ d. ap₂ (λ n w. cond (ltb i n) (get_or (set bs r x) i 0) (goal_name n goals w i)) (length-set bs r x) (length-set ns c y)
      ∙ ap (λ t. cond (ltb i (length bs)) t (goal_name (length bs) goals (length ns) i)) (get_or-set_other bs r i x 0 d)
      ∙ sym (ap (λ b. cond b (get_or ns c 0) (cond (ltb i (length bs)) (get_or bs i 0) (goal_name (length bs) goals (length ns) i)))
      (ne_eqb i r d)))
      (cases_eq i r)

  col_names : (k : ℕ) → U.col_name k ≡ cond (eqb k c) (T.row_name r) (T.col_name k)
  unfolding T U
  col_names k = ⊎_elim
      (λ e. ap (λ j. get_or (set ns c y) j 0) e ∙ get_or-set_same ns c y 0 c_in ∙ name_read bs r y r_in y_is
      ∙ sym (ap₂ (λ b t. cond b (cond t (get_or bs r 0) (goal_name (length bs) goals (length ns) r)) (get_or ns k 0)) (eq-eqb k c e)
      (lt-ltb r (length bs) r_in)))
      (λ d. get_or-set_other ns c k y 0 d ∙ sym (ap (λ b. cond b (T.row_name r) (get_or ns k 0)) (ne_eqb k c d)))
      (cases_eq k c)

  entries : (i k : ℕ) → i < length bs + goals → k ≤ length ns → U.entry i k
      ≡ cond (eqb i r) (pivot_row_entry T r c k) (pivot_other_entry T r c i k)
  unfolding T U
  entries i k l b = ap (λ w. row_from m ys (i * suc w) k) (length-set ns c y) ∙ ⊎_elim
      (λ e. ap (λ j. row_from m ys (j * suc (length ns)) k) e ∙ h.pivot_row k (omega (arith, b)) ∙ sym (row_entry T r c k)
      ∙ sym (ap (λ t. cond t (pivot_row_entry T r c k) (pivot_other_entry T r c i k)) (eq-eqb i r e)))
      (λ d. h.others i k l d (omega (arith, b)) ∙ sym (other_entry T r c i k)
      ∙ sym (ap (λ t. cond t (pivot_row_entry T r c k) (pivot_other_entry T r c i k)) (ne_eqb i r d)))
      (cases_eq i r)

  -- the table is that of the pivot
  pub pivot_agrees : Agree (pivot_table (cells_table m bs ns goals xs) r c) (cells_table m (set bs r x) (set ns c y) goals ys)
  unfolding T U pivot_table
  pivot_agrees = record {
    rows = length-set bs r x;
    goals = refl;
    width = length-set ns c y;
    row_name = λ i l. row_names i;
    col_name = λ k l. col_names k;
    entry = λ i k l b. entries i k l b;
  }

-- a slice that was lent whole and given back
pub written_back : {A : Type 0} (xs ys : List A) (n : ℕ) → length ys ≡ n → take n (ys ++ drop (length ys) xs) ≡ ys
written_back xs ys n e = take_at ys (drop (length ys) xs) n e

-- the exchange in the numbers of a dictionary
pub exchange_in : {F : Type 0} (m : F → ℚ) (n k r s t c : ℕ) (xs xs' ys : List F) → n ≡ k → s ≡ t → xs ≡ xs' → Exchanges m n r s c xs ys
    → Exchanges m k r t c xs' ys
exchange_in m n k r s t c xs xs' ys e f g h = subst (λ a. Exchanges m a r t c xs' ys) e
    (subst (λ b. Exchanges m n r b c xs' ys) f (subst (λ o. Exchanges m n r s c o ys) g h))

-- the operations of a pivot are those of the exchange at equal sizes and entries
pub pivot_operations_in : {F : Type 0} (m : F → ℚ) (bs ns : List ℕ) (goals : ℕ) (xs : List F) (r c n s : ℕ) (ys : List F)
    → n ≡ length bs + goals → s ≡ suc (length ns) → ys ≡ xs
    → pivot_operations (cells_table m bs ns goals xs) r c ≡ exchange_operations m ys n r s c
unfolding pivot_operations exchange_operations
pivot_operations_in m bs ns goals xs r c n s ys e f g =
    sym (ap₂ (λ a b. exchange_operations m ys a r b c) e f
    ∙ ap (λ o. exchange_operations m o (length bs + goals) r (suc (length ns)) c) g)
