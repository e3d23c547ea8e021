-- One more row in the loop over the rows.
use Rattle.std.proofs.Common.{◌≡◌, ◌≢◌, ℕ, suc, ◌+◌, ◌*◌, ◌<◌, ◌≤◌, ◌⊎◌, inl, inr, ⊎_elim, cond, eqb, ℤ, List, []}
use Rattle.std.proofs.Common.{Some, None, refl, ap, sym, ◌∙◌, subst, arith}
use native.Mathlib.Nat.{mul-le-mul_right}
use Rattle.std.proofs.lemmas.Bool.{cases_lt, eq-eqb, ne_eqb}
use Rattle.base_numbers.specs.Rational.{ℚ}
use Rattle.base_fractions.specs.Operation.{Operation, first_wide}
use Rattle.lp_dictionary.specs.Formulas.{combined_row}
use Rattle.lp_dictionary.specs.PivotOperations.{combination_row_operations}
use Rattle.lp_dictionary.specs.Cells.{cell, row_from}
use Rattle.lp_dictionary.specs.Rows.{SetsRow, CombinesRows, rows_operations}
use Rattle.lp_dictionary.proofs.listed.Joins.{joined_fits_more, joined_wide_at, joined_fits_none}
use Rattle.lp_dictionary.proofs.pivot_operations.RowSteps.{combination_same, combined_same}

-- a row ends before a later one begins
pub row_end : (i j s : ℕ) → i < j → i * s + s ≤ j * s
row_end i j s l = let m : suc i * s ≤ j * s = mul-le-mul_right s l in let e : suc i * s ≡ i * s + s = omega arith in omega (arith, m, e)

-- entries of two rows are apart
pub rows_apart : (i j s k : ℕ) → i ≢ j → k < s → (j * s + k < i * s) ⊎ (i * s + s ≤ j * s + k)
rows_apart i j s k n l = ⊎_elim (λ a. inr (let e = row_end i j s a in omega (arith, e)))
    (λ a. inl (let e = row_end j i s (omega (arith, a, n)) in omega (arith, e, l))) (cases_lt i j)

-- of two different rows one ends before the other begins
pub rows_disjoint : (i j s : ℕ) → i ≢ j → (i * s + s ≤ j * s) ⊎ (j * s + s ≤ i * s)
rows_disjoint i j s n = ⊎_elim (λ a. inl (row_end i j s a)) (λ a. inr (row_end j i s (omega (arith, a, n)))) (cases_lt i j)

module _ {F : Type 0} (m : F → ℚ) (L : ℤ) (r s c : ℕ) (c_in : c < s) (old : List F) where
  -- no row is combined
  pub combines_none : CombinesRows m 0 r s c old old
  combines_none = record { others = λ i k l n b. absurd (omega (arith, l)); pivot_row = λ k b. refl; later = λ p b. refl }

  -- combining no rows makes no operation
  pub rows_none : first_wide L (rows_operations m old 0 r s c) ≡ None
  unfolding rows_operations
  rows_none = joined_fits_none L (λ i. cond (eqb i r) [] (combination_row_operations s (row_from m old (i * s)) (row_from m old (r * s)) c))

  module _ (i : ℕ) (ys : List F) (h : CombinesRows m i r s c old ys) where
    row_old : (k : ℕ) → k < s → row_from m ys (i * s) k ≡ row_from m old (i * s) k
    row_old k l = h.later (i * s + k) (omega arith)

    -- the pivot's row is passed over
    pub combines_past : i ≡ r → CombinesRows m (i + 1) r s c old ys
    combines_past e = record {
      others = λ j k l n b. h.others j k (omega (arith, l, n, e)) n b;
      pivot_row = h.pivot_row;
      later = λ p b. h.later p (let d : (i + 1) * s ≡ i * s + s = omega arith in omega (arith, b, d));
    }

    -- where the next row is the pivot's, one row more makes no wide operation
    pub rows_past : i ≡ r → first_wide L (rows_operations m old i r s c) ≡ None → first_wide L (rows_operations m old (i + 1) r s c) ≡ None
    unfolding rows_operations
    rows_past e w = joined_fits_more L i (λ i. cond (eqb i r) [] (combination_row_operations s (row_from m old (i * s))
        (row_from m old (r * s)) c)) w
        (ap (λ b. first_wide L (cond b [] (combination_row_operations s (row_from m old (i * s)) (row_from m old (r * s)) c)))
        (eq-eqb i r e))

    module _ (n : i ≢ r) where
      row_operations_old : cond (eqb i r) [] (combination_row_operations s (row_from m old (i * s)) (row_from m old (r * s)) c)
          ≡ combination_row_operations s (row_from m ys (i * s)) (row_from m ys (r * s)) c
      row_operations_old =
          ap (λ b. cond b [] (combination_row_operations s (row_from m old (i * s)) (row_from m old (r * s)) c)) (ne_eqb i r n)
          ∙ combination_same s (row_from m old (i * s)) (row_from m ys (i * s)) (row_from m old (r * s)) (row_from m ys (r * s)) c c_in
          (λ k l. sym (row_old k l)) (λ k l. sym (h.pivot_row k l))

      -- one more row is combined
      pub combines_more : (zs : List F) → SetsRow m (i * s) s (combined_row (row_from m ys (i * s)) (row_from m ys (r * s)) c) ys zs
          → CombinesRows m (i + 1) r s c old zs
      combines_more zs w = record {
        others = λ j k l d b. ⊎_elim
            (λ a. w.outside (j * s + k) (rows_apart i j s k (λ e. omega (arith, a, e)) b) ∙ h.others j k a d b)
            (λ a. let e : j ≡ i = omega (arith, a, l) in
            subst (λ x. cell m zs (x * s + k) ≡ combined_row (row_from m old (x * s)) (row_from m old (r * s)) c k) (sym e)
            (w.inside k b ∙ combined_same (row_from m ys (i * s)) (row_from m old (i * s)) (row_from m ys (r * s)) (row_from m old (r * s))
            c k (row_old k b) (row_old c c_in) (h.pivot_row k b)))
            (cases_lt j i);
        pivot_row = λ k b. w.outside (r * s + k) (rows_apart i r s k n b) ∙ h.pivot_row k b;
        later = λ p b. let d : (i + 1) * s ≡ i * s + s = omega arith in
            w.outside p (inr (omega (arith, b, d))) ∙ h.later p (omega (arith, b, d));
      }

      -- where none of the next row's operations is wide, none is in one row more
      pub rows_more : first_wide L (rows_operations m old i r s c) ≡ None
          → first_wide L (combination_row_operations s (row_from m ys (i * s)) (row_from m ys (r * s)) c) ≡ None
          → first_wide L (rows_operations m old (i + 1) r s c) ≡ None
      unfolding rows_operations
      rows_more v w = joined_fits_more L i (λ i. cond (eqb i r) [] (combination_row_operations s (row_from m old (i * s))
          (row_from m old (r * s)) c)) v (ap (first_wide L) row_operations_old ∙ w)

      -- the first wide operation of the next row is the first of the whole pivot
      pub rows_refused : (rows : ℕ) (o : Operation) → i < rows → first_wide L (rows_operations m old i r s c) ≡ None
          → first_wide L (combination_row_operations s (row_from m ys (i * s)) (row_from m ys (r * s)) c) ≡ Some o
          → first_wide L (rows_operations m old rows r s c) ≡ Some o
      unfolding rows_operations
      rows_refused rows o l v w = joined_wide_at L i rows (λ i. cond (eqb i r) []
          (combination_row_operations s (row_from m old (i * s)) (row_from m old (r * s)) c)) o l v
          (ap (first_wide L) row_operations_old ∙ w)
