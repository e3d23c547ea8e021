-- Tables that are the same within their bounds stay so.
use Rattle.std.proofs.Common.{◌≡◌, ℕ, suc, ◌+◌, ◌-◌, ◌<◌, ◌≤◌, cond, eqb, ap, ap₂, ◌∙◌, arith}
use Rattle.base_numbers.specs.Rational.{one_ℚ, neg_ℚ, ◌+ℚ◌, ◌*ℚ◌, ◌/ℚ◌}
use Rattle.lp_theory.specs.Table.{Table, Agree, pivot_row_entry, pivot_other_entry, pivot_table, skip, drop_table}
use Rattle.lp_theory.specs.Run.{place_of, leave_table}
use Rattle.lp_theory.proofs.TableDrops.{skip_bound}
use Rattle.lp_theory.proofs.search.Places.{place_same}

-- a table that agrees with one that agrees with a third agrees with the third
pub agree_trans : (T U V : Table) → Agree T U → Agree U V → Agree T V
agree_trans T U V a b = record {
  rows = b.rows ∙ a.rows;
  goals = b.goals ∙ a.goals;
  width = b.width ∙ a.width;
  row_name = λ i l. b.row_name i (omega (arith, l, a.rows, a.goals)) ∙ a.row_name i l;
  col_name = λ k l. b.col_name k (omega (arith, l, a.width)) ∙ a.col_name k l;
  entry = λ i k l m. b.entry i k (omega (arith, l, a.rows, a.goals)) (omega (arith, m, a.width)) ∙ a.entry i k l m;
}

module _ (T U : Table) (a : Agree T U) where
  agree_row_entry : (r c k : ℕ) → r < T.rows + T.goals → c ≤ T.width → k ≤ T.width → pivot_row_entry U r c k ≡ pivot_row_entry T r c k
  unfolding pivot_row_entry
  agree_row_entry r c k l m n = ap₂ (λ p x. cond (eqb k c) (one_ℚ /ℚ p) (neg_ℚ (x /ℚ p))) (a.entry r c l m) (a.entry r k l n)

  agree_other_entry : (r c i k : ℕ) → r < T.rows + T.goals → c ≤ T.width → i < T.rows + T.goals → k ≤ T.width
      → pivot_other_entry U r c i k ≡ pivot_other_entry T r c i k
  unfolding pivot_other_entry
  agree_other_entry r c i k l m n o =
      ap₂ (λ f x. cond (eqb k c) (f *ℚ pivot_row_entry U r c c) (x +ℚ f *ℚ pivot_row_entry U r c k)) (a.entry i c n m) (a.entry i k n o)
      ∙ ap₂ (λ x y. cond (eqb k c) (T.entry i c *ℚ x) (T.entry i k +ℚ T.entry i c *ℚ y)) (agree_row_entry r c c l m m)
      (agree_row_entry r c k l m o)

  -- pivots at one place of tables that agree agree
  pub agree_pivot : (r c : ℕ) → r < T.rows → c < T.width → Agree (pivot_table T r c) (pivot_table U r c)
  unfolding pivot_table
  agree_pivot r c l m = record {
    rows = a.rows;
    goals = a.goals;
    width = a.width;
    row_name = λ i n. ap₂ (λ x y. cond (eqb i r) x y) (a.col_name c m) (a.row_name i n);
    col_name = λ k n. ap₂ (λ x y. cond (eqb k c) x y) (a.row_name r (omega (arith, l))) (a.col_name k n);
    entry = λ i k n o. ap₂ (λ x y. cond (eqb i r) x y) (agree_row_entry r c k (omega (arith, l)) (omega (arith, m)) o)
        (agree_other_entry r c i k (omega (arith, l)) (omega (arith, m)) n o);
  }

  -- tables that agree agree without the auxiliary variable's column and the first goal
  pub agree_leave : 0 < T.goals → 0 < T.width → Agree (leave_table T) (leave_table U)
  unfolding leave_table drop_table
  agree_leave g w =
      let z : place_of U.col_name U.width 0 ≡ place_of T.col_name T.width 0 =
      ap (λ n. place_of U.col_name n 0) a.width ∙ place_same U.col_name T.col_name T.width 0 (λ j l. a.col_name j l) in
      record {
        rows = a.rows;
        goals = ap (λ x. x - 1) a.goals;
        width = ap (λ x. x - 1) a.width;
        row_name = λ i l. ap (λ n. U.row_name (skip n i)) a.rows ∙ a.row_name (skip T.rows i)
            (let b = skip_bound T.rows i (T.rows + (T.goals - 1)) l in omega (arith, b, g));
        col_name = λ k l. ap (λ p. U.col_name (skip p k)) z ∙ a.col_name (skip (place_of T.col_name T.width 0) k)
            (let b = skip_bound (place_of T.col_name T.width 0) k (T.width - 1) l in omega (arith, b, w));
        entry = λ i k l m. ap₂ (λ n p. U.entry (skip n i) (skip p k)) a.rows z
            ∙ a.entry (skip T.rows i) (skip (place_of T.col_name T.width 0) k)
            (let b = skip_bound T.rows i (T.rows + (T.goals - 1)) l in omega (arith, b, g))
            (let b = skip_bound (place_of T.col_name T.width 0) k (suc (T.width - 1)) (omega (arith, m)) in omega (arith, b, w));
      }
