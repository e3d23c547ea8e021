-- The division of the pivot's row and then the other rows make the exchange.
use Rattle.std.proofs.Common.{◌≡◌, ◌≢◌, ℕ, ◌<◌, ⊎_elim, cond, eqb, ℤ, List, [], length, set, Some, None, refl, ap, sym, ◌∙◌, subst}
use Rattle.std.proofs.lemmas.Bool.{cases_lt}
use Rattle.base_numbers.specs.Rational.{ℚ, zero_ℚ}
use Rattle.base_fractions.specs.Operation.{Operation, first_wide}
use Rattle.lp_dictionary.specs.Formulas.{divided_row, combined_row}
use Rattle.lp_dictionary.specs.PivotOperations.{division_row_operations, combination_row_operations}
use Rattle.lp_dictionary.proofs.Widths.{first_wide_later, first_wide_sooner}
use Rattle.lp_dictionary.proofs.listed.Joins.{joined_same}
use Rattle.lp_dictionary.proofs.pivot_operations.RowSteps.{combination_same, combined_same}
use Rattle.lp_dictionary.specs.declared.entry.Entry.{Entry}
use Rattle.lp_sparse.specs.declared.row.SparseRow.{SparseRow}
use Rattle.lp_dictionary.specs.Entries.{value_at, Rises}
use Rattle.lp_dictionary.specs.Keeps.{Keeps}
use Rattle.lp_sparse.specs.Rows.{row_at, numbers, CombinesRows, Exchanges, rows_operations, exchange_operations}
use Rattle.lp_dictionary.proofs.kept.Lists.{value_behind, keeps_same}
use Rattle.lp_sparse.proofs.rows.RowsAt.{row_written, row_kept}

module _ {F : Type 0} (m : F → ℚ) where
  -- a column with another number than 0 is below the bound
  pub col_below : (n c : ℕ) (es : List (Entry F)) → Rises 0 n es → value_at m es c ≢ zero_ℚ → c < n
  col_below n c es r d = ⊎_elim (λ a. a) (λ a. absurd (d (value_behind m 0 n c es r a))) (cases_lt c n)

  -- the rows after both
  pub exchange_made : (r n c : ℕ) (b : List (Entry F)) (old ys : List (SparseRow F)) (row : SparseRow F) → r < length ys
      → Keeps m (divided_row (numbers m old r) c) n b → CombinesRows m (length old) r n c b old ys → row.entries.items ≡ b →
      Exchanges m (length old) r n c old (set ys r row)
  exchange_made r n c b old ys row l h w e = record {
    pivot_row = subst (Keeps m (divided_row (numbers m old r) c) n) (sym (row_written ys r row l ∙ e)) h;
    others = λ i k d. subst (Keeps m (combined_row (numbers m old i) (divided_row (numbers m old r) c) c) n) (sym (row_kept ys r i row d))
        (keeps_same m (combined_row (numbers m old i) (value_at m b) c) (combined_row (numbers m old i) (divided_row (numbers m old r) c) c)
        n (row_at ys i) (w i k d)
        (λ j q. combined_same (numbers m old i) (numbers m old i) (value_at m b) (divided_row (numbers m old r) c) c j refl refl
        (h.values j q)));
  }

module _ (L : ℤ) (a : ℕ → ℕ → ℚ) (N r n c : ℕ) where
  rows_same : (b b' : ℕ → ℚ) → c < n → ((k : ℕ) → k < n → b k ≡ b' k) → rows_operations a b N r n c ≡ rows_operations a b' N r n c
  unfolding rows_operations
  rows_same b b' l h =
      joined_same N (λ i. cond (eqb i r) [] (combination_row_operations n (a i) b c))
      (λ i. cond (eqb i r) [] (combination_row_operations n (a i) b' c))
      (λ i k. ap (λ os. cond (eqb i r) [] os) (combination_same n (a i) (a i) b b' c l (λ j q. refl) h))

  -- the first wide operation, where the division has none
  pub exchange_later : (b : ℕ → ℚ) → c < n → ((k : ℕ) → k < n → b k ≡ divided_row (a r) c k)
      → first_wide L (division_row_operations n (a r) c) ≡ None → first_wide L (exchange_operations a N r n c)
      ≡ first_wide L (rows_operations a b N r n c)
  unfolding exchange_operations
  exchange_later b l h e = first_wide_later L (division_row_operations n (a r) c) (rows_operations a (divided_row (a r) c) N r n c) e
      ∙ ap (first_wide L) (sym (rows_same b (divided_row (a r) c) l h))

  -- and where the division has one
  pub exchange_sooner : (o : Operation) → first_wide L (division_row_operations n (a r) c) ≡ Some o
      → first_wide L (exchange_operations a N r n c) ≡ Some o
  unfolding exchange_operations
  exchange_sooner o e = first_wide_sooner L (division_row_operations n (a r) c) (rows_operations a (divided_row (a r) c) N r n c) o e
