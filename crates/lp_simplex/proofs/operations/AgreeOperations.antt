-- Tables that are the same within their bounds make the same operations.
use Rattle.std.proofs.Common.{◌≡◌, ℕ, suc, ◌+◌, ◌<◌, cond, eqb, [], ◌∷◌, ◌++◌, ap, ap₂, ◌∙◌}
use Rattle.std.proofs.Common.{arith}
use Rattle.base_numbers.specs.Rational.{zero_ℚ, neg_ℚ, lt_ℚ}
use Rattle.base_fractions.specs.declared.wide.Op.TheVariants.{Div}
use Rattle.lp_theory.specs.Table.{Table, Agree}
use Rattle.lp_dictionary.specs.Listed.{joined}
use Rattle.lp_dictionary.specs.Formulas.{divided, divided_row}
use Rattle.lp_dictionary.specs.PivotOperations.{division_row_operations, combination_row_operations, other_row_operations, pivot_operations}
use Rattle.lp_dictionary.proofs.listed.Joins.{joined_same}
use Rattle.lp_dictionary.proofs.pivot_operations.RowSteps.{division_same, combination_same}
use Rattle.lp_simplex.specs.Operations.{ratio_operation, ratio_operations}

module _ (T U : Table) (a : Agree T U) where
  -- the ratios
  pub agree_ratios : (c : ℕ) → c < T.width → ratio_operations U c ≡ ratio_operations T c
  unfolding ratio_operations
  agree_ratios c l =
      ap (λ n. joined n (ratio_operation U c)) a.rows
      ∙ joined_same T.rows (ratio_operation U c) (ratio_operation T c)
      (λ i m. ap₂ (λ x y. cond (lt_ℚ x zero_ℚ) (record { op = Div; left = y; right = neg_ℚ x } ∷ []) [])
      (a.entry i c (omega (arith, m)) (omega (arith, l)))
      (ap (U.entry i) a.width ∙ a.entry i T.width (omega (arith, m)) (omega arith)))

  module _ (r c : ℕ) (r_in : r < T.rows) (c_in : c < T.width) where
    divided_same : (k : ℕ) → k < suc T.width → divided_row (U.entry r) c k ≡ divided_row (T.entry r) c k
    divided_same k l = ap₂ (λ x y. divided x y (eqb k c)) (a.entry r k (omega (arith, r_in)) (omega (arith, l)))
        (a.entry r c (omega (arith, r_in)) (omega (arith, c_in)))

    other_same : (i : ℕ) → i < T.rows + T.goals → other_row_operations U r c i ≡ other_row_operations T r c i
    other_same i l =
        ap (λ w. cond (eqb i r) [] (combination_row_operations (suc w) (U.entry i) (divided_row (U.entry r) c) c)) a.width
        ∙ ap (λ os. cond (eqb i r) [] os) (combination_same (suc T.width) (U.entry i) (T.entry i) (divided_row (U.entry r) c)
        (divided_row (T.entry r) c) c (omega (arith, c_in)) (λ k m. a.entry i k l (omega (arith, m))) divided_same)

    -- a pivot
    pub agree_pivots : pivot_operations U r c ≡ pivot_operations T r c
    unfolding pivot_operations
    agree_pivots = ap₂ (λ os ps. os ++ ps)
        (ap (λ w. division_row_operations (suc w) (U.entry r) c) a.width
        ∙ division_same (suc T.width) (U.entry r) (T.entry r) c (omega (arith, c_in))
        (λ k l. a.entry r k (omega (arith, r_in)) (omega (arith, l))))
        (ap₂ (λ x y. joined (x + y) (other_row_operations U r c)) a.rows a.goals
        ∙ joined_same (T.rows + T.goals) (other_row_operations U r c) (other_row_operations T r c) other_same)
