-- The division of the pivot's row and then the other rows make the exchange.
use Rattle.std.proofs.Common.{◌≡◌, ◌≢◌, ℕ, ◌+◌, ◌*◌, ◌<◌, Bool, true, false, cond, eqb, ℤ, List, [], ◌++◌, Some, None, refl, ap}
use Rattle.std.proofs.Common.{sym, ◌∙◌}
use Rattle.base_numbers.specs.Rational.{ℚ}
use Rattle.base_fractions.specs.Operation.{Operation, first_wide}
use Rattle.lp_dictionary.specs.Listed.{joined}
use Rattle.lp_dictionary.specs.Formulas.{divided_row}
use Rattle.lp_dictionary.specs.PivotOperations.{division_row_operations, combination_row_operations}
use Rattle.lp_dictionary.specs.Cells.{row_from}
use Rattle.lp_dictionary.specs.Rows.{SetsRow, CombinesRows, Exchanges, rows_operations, exchange_operations}
use Rattle.lp_dictionary.proofs.Widths.{first_wide_later, first_wide_sooner}
use Rattle.std.proofs.lemmas.Bool.{eqb-false}
use Rattle.lp_dictionary.proofs.listed.Joins.{joined_same}
use Rattle.lp_dictionary.proofs.pivot_operations.RowSteps.{combination_same, combined_same}
use Rattle.lp_dictionary.proofs.cells.RowLoops.{rows_apart}

module _ {F : Type 0} (m : F → ℚ) (L : ℤ) (n r s c : ℕ) (c_in : c < s) (old ys : List F)
    (h : SetsRow m (r * s) s (divided_row (row_from m old (r * s)) c) old ys) where
  other_row : (i k : ℕ) → i ≢ r → k < s → row_from m ys (i * s) k ≡ row_from m old (i * s) k
  other_row i k d l = h.outside (i * s + k) (rows_apart r i s k (λ e. d (sym e)) l)

  -- the rows after both
  pub exchange_made : (zs : List F) → CombinesRows m n r s c ys zs → Exchanges m n r s c old zs
  exchange_made zs w = record {
    pivot_row = λ k l. w.pivot_row k l ∙ h.inside k l;
    others = λ i k l d b. w.others i k l d b
        ∙ combined_same (row_from m ys (i * s)) (row_from m old (i * s)) (row_from m ys (r * s)) (divided_row (row_from m old (r * s)) c) c
        k (other_row i k d b) (other_row i c d c_in) (h.inside k b);
  }

  row_made : (i : ℕ) (t : Bool) → eqb i r ≡ t →
      cond t [] (combination_row_operations s (row_from m ys (i * s)) (row_from m ys (r * s)) c)
      ≡ cond t [] (combination_row_operations s (row_from m old (i * s)) (divided_row (row_from m old (r * s)) c) c)
  row_made i true e = refl
  row_made i false e =
      combination_same s (row_from m ys (i * s)) (row_from m old (i * s)) (row_from m ys (r * s)) (divided_row (row_from m old (r * s)) c) c
      c_in (λ k l. other_row i k (eqb-false i r e) l) (λ k l. h.inside k l)

  rows_made : rows_operations m ys n r s c ≡ joined n (λ i. cond (eqb i r) []
      (combination_row_operations s (row_from m old (i * s)) (divided_row (row_from m old (r * s)) c) c))
  unfolding rows_operations
  rows_made = joined_same n (λ i. cond (eqb i r) [] (combination_row_operations s (row_from m ys (i * s)) (row_from m ys (r * s)) c))
      (λ i. cond (eqb i r) [] (combination_row_operations s (row_from m old (i * s)) (divided_row (row_from m old (r * s)) c) c))
      (λ i l. row_made i (eqb i r) refl)

  exchange_is : exchange_operations m old n r s c ≡ division_row_operations s (row_from m old (r * s)) c ++ rows_operations m ys n r s c
  unfolding exchange_operations
  exchange_is = ap (λ os. division_row_operations s (row_from m old (r * s)) c ++ os) (sym rows_made)

  -- the first wide operation, where the division has none
  pub exchange_later : first_wide L (division_row_operations s (row_from m old (r * s)) c) ≡ None
      → first_wide L (exchange_operations m old n r s c) ≡ first_wide L (rows_operations m ys n r s c)
  exchange_later e = ap (first_wide L) exchange_is ∙ first_wide_later L (division_row_operations s (row_from m old (r * s)) c)
      (rows_operations m ys n r s c) e

-- and where the division has one
pub exchange_sooner : {F : Type 0} (m : F → ℚ) (L : ℤ) (n r s c : ℕ) (old : List F) (o : Operation)
    → first_wide L (division_row_operations s (row_from m old (r * s)) c) ≡ Some o
    → first_wide L (exchange_operations m old n r s c) ≡ Some o
unfolding exchange_operations
exchange_sooner m L n r s c old o e =
    first_wide_sooner L (division_row_operations s (row_from m old (r * s)) c)
    (joined n (λ i. cond (eqb i r) [] (combination_row_operations s (row_from m old (i * s)) (divided_row (row_from m old (r * s)) c)
    c))) o e
