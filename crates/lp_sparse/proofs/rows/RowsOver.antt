-- One more row in the loop over the rows.
use Rattle.std.proofs.Common.{◌≡◌, ◌≢◌, ℕ, ◌+◌, ◌<◌, ⊎_elim, cond, eqb, ℤ, List, [], length, set, Some, None, ap, ap₂, sym, ◌∙◌, subst}
use Rattle.std.proofs.Common.{arith}
use Rattle.std.proofs.lemmas.Bool.{cases_lt, cases_eq, eq-eqb, ne_eqb}
use Rattle.base_numbers.specs.Rational.{ℚ}
use Rattle.base_fractions.specs.Operation.{Operation, first_wide}
use Rattle.lp_dictionary.specs.Formulas.{product_operations, combined_row}
use Rattle.lp_dictionary.specs.PivotOperations.{added_row_operations, combination_row_operations}
use Rattle.lp_dictionary.proofs.Widths.{first_wide_later}
use Rattle.lp_dictionary.proofs.listed.Joins.{joined_fits_more, joined_wide_at, joined_fits_none}
use Rattle.lp_dictionary.specs.declared.entry.Entry.{Entry}
use Rattle.lp_sparse.specs.declared.row.SparseRow.{SparseRow}
use Rattle.lp_dictionary.specs.Entries.{value_at, HasNoZero}
use Rattle.lp_dictionary.specs.Keeps.{Keeps}
use Rattle.lp_sparse.specs.Rows.{row_at, numbers, NoZeros, CombinesRows, rows_operations}
use Rattle.lp_sparse.proofs.rows.RowsAt.{row_written, row_kept}

-- a product that fits leaves the decision to formula 4
pub combination_later : (L : ℤ) (n : ℕ) (a b : ℕ → ℚ) (c : ℕ) (f y : ℚ) → f ≡ a c → y ≡ b c → first_wide L (product_operations f y) ≡ None
    → first_wide L (combination_row_operations n a b c) ≡ first_wide L (added_row_operations n a f b c)
unfolding combination_row_operations
combination_later L n a b c f y e g h =
    first_wide_later L (product_operations (a c) (b c)) (added_row_operations n a (a c) b c)
    (ap₂ (λ s t. first_wide L (product_operations s t)) (sym e) (sym g) ∙ h)
    ∙ ap (λ t. first_wide L (added_row_operations n a t b c)) (sym e)

module _ {F : Type 0} (m : F → ℚ) where
  -- one more row is combined
  pub rows_more : (i r n c : ℕ) (b : List (Entry F)) (old ys : List (SparseRow F)) (row : SparseRow F) → CombinesRows m i r n c b old ys
      → i < length ys → Keeps m (combined_row (numbers m old i) (value_at m b) c) n row.entries.items →
      CombinesRows m (i + 1) r n c b old (set ys i row)
  rows_more i r n c b old ys row h l w k b' d = ⊎_elim
      (λ a. subst (Keeps m (combined_row (numbers m old k) (value_at m b) c) n) (sym (row_kept ys i k row (λ q. omega (arith, q, a))))
      (h k a d))
      (λ a. let q : k ≡ i = omega (arith, a, b') in
      subst (λ j. Keeps m (combined_row (numbers m old j) (value_at m b) c) n (row_at (set ys i row) j)) (sym q)
      (subst (Keeps m (combined_row (numbers m old i) (value_at m b) c) n) (sym (row_written ys i row l)) w))
      (cases_lt k i)

  -- the pivot's row is passed over
  pub rows_past : (i r n c : ℕ) (b : List (Entry F)) (old ys : List (SparseRow F)) → CombinesRows m i r n c b old ys → i ≡ r
      → CombinesRows m (i + 1) r n c b old ys
  rows_past i r n c b old ys h e k l d = ⊎_elim (λ a. h k a d) (λ a. absurd (d (omega (arith, a, l, e)))) (cases_lt k i)

  -- no entry of the new row is 0
  pub no_zeros_more : (i : ℕ) (ys : List (SparseRow F)) (row : SparseRow F) → NoZeros m ys → i < length ys → HasNoZero m row.entries.items
      → NoZeros m (set ys i row)
  no_zeros_more i ys row h l w k = ⊎_elim
      (λ q. subst (λ j. HasNoZero m (row_at (set ys i row) j)) (sym q) (subst (HasNoZero m) (sym (row_written ys i row l)) w))
      (λ d. subst (HasNoZero m) (sym (row_kept ys i k row d)) (h k))
      (cases_eq k i)

module _ (L : ℤ) (a : ℕ → ℕ → ℚ) (b : ℕ → ℚ) (r n c : ℕ) where
  abbrev made : ℕ → List Operation
  made i = cond (eqb i r) [] (combination_row_operations n (a i) b c)

  made_is : (i : ℕ) → i ≢ r → made i ≡ combination_row_operations n (a i) b c
  made_is i d = ap (λ t. cond t [] (combination_row_operations n (a i) b c)) (ne_eqb i r d)

  -- combining no rows makes no wide operation
  pub fits_none : first_wide L (rows_operations a b 0 r n c) ≡ None
  unfolding rows_operations
  fits_none = joined_fits_none L made

  -- where none of the next row's operations is wide, none is in one row more
  pub fits_more : (i : ℕ) → i ≢ r → first_wide L (rows_operations a b i r n c) ≡ None
      → first_wide L (combination_row_operations n (a i) b c) ≡ None → first_wide L (rows_operations a b (i + 1) r n c) ≡ None
  unfolding rows_operations
  fits_more i d h w = joined_fits_more L i made h (ap (first_wide L) (made_is i d) ∙ w)

  -- where the next row is the pivot's, one row more makes no wide operation
  pub fits_past : (i : ℕ) → i ≡ r → first_wide L (rows_operations a b i r n c) ≡ None
      → first_wide L (rows_operations a b (i + 1) r n c) ≡ None
  unfolding rows_operations
  fits_past i e h = joined_fits_more L i made h (ap (λ t. first_wide L (cond t [] (combination_row_operations n (a i) b c))) (eq-eqb i r e))

  -- the first wide operation of the next row is the first of all rows
  pub row_refused : (i k : ℕ) (o : Operation) → i < k → i ≢ r → first_wide L (rows_operations a b i r n c) ≡ None
      → first_wide L (combination_row_operations n (a i) b c) ≡ Some o → first_wide L (rows_operations a b k r n c) ≡ Some o
  unfolding rows_operations
  row_refused i k o l d h w = joined_wide_at L i k made o l h (ap (first_wide L) (made_is i d) ∙ w)
