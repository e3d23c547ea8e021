-- Rows by their number.
use Rattle.std.proofs.Common.{◌≡◌, ◌≢◌, ℕ, ◌<◌, ◌≤◌, ◌∷◌, ◌++◌, List, [], length, map, get_or, set, ap, sym, ◌∙◌, subst, get_or-set_same}
use Rattle.std.proofs.Common.{get_or-set_other}
use Rattle.std.proofs.lemmas.List.{get_or-map, length-map, map-set, map_push, get_or_past, get_or_append_left, get_or_push}
use Rattle.lp_dictionary.specs.declared.entry.Entry.{Entry}
use Rattle.lp_sparse.specs.declared.row.SparseRow.{SparseRow}
use Rattle.lp_sparse.specs.Rows.{row_at}

module _ {F : Type 0} where
  abbrev entries_of : SparseRow F → List (Entry F)
  entries_of r = r.entries.items

  -- the row that was read
  pub row_read : (rows : List (SparseRow F)) (i : ℕ) (r : SparseRow F) → i < length rows → row_at rows i ≡ (get_or rows i r).entries.items
  row_read rows i r l = get_or-map entries_of rows i r [] l

  -- the entries at a row's number are those of the row that was read there
  pub row_is : (rows : List (SparseRow F)) (i : ℕ) (r : SparseRow F) → i < length rows → r ≡ get_or rows i r
      → row_at rows i ≡ r.entries.items
  row_is rows i r l h = row_read rows i r l ∙ ap entries_of (sym h)

  -- at the number of a row that was written stand its entries
  pub row_written : (rows : List (SparseRow F)) (i : ℕ) (r : SparseRow F) → i < length rows → row_at (set rows i r) i ≡ r.entries.items
  row_written rows i r l = ap (λ (xs : List (List (Entry F))). get_or xs i []) (map-set entries_of rows i r)
      ∙ get_or-set_same (map entries_of rows) i r.entries.items [] (subst (λ n. i < n) (sym (length-map rows entries_of)) l)

  -- at any other number than that of the written row the entries are as before
  pub row_kept : (rows : List (SparseRow F)) (i k : ℕ) (r : SparseRow F) → k ≢ i → row_at (set rows i r) k ≡ row_at rows k
  row_kept rows i k r d = ap (λ (xs : List (List (Entry F))). get_or xs k []) (map-set entries_of rows i r)
      ∙ get_or-set_other (map entries_of rows) i k r.entries.items [] d

  -- there are no entries past the last row
  pub row_past : (rows : List (SparseRow F)) (i : ℕ) → length rows ≤ i → row_at rows i ≡ []
  row_past rows i l = get_or_past (map entries_of rows) i [] (subst (λ n. n ≤ i) (sym (length-map rows entries_of)) l)

  -- the last of rows with one more at the end has that row's entries
  pub row_pushed : (rows : List (SparseRow F)) (r : SparseRow F) (i : ℕ) → i ≡ length rows → row_at (rows ++ r ∷ []) i ≡ r.entries.items
  row_pushed rows r i e = ap (λ (xs : List (List (Entry F))). get_or xs i []) (map_push entries_of rows r)
      ∙ get_or_push (map entries_of rows) r.entries.items [] i (length-map rows entries_of ∙ sym e)

  -- the rows before the one at the end are as before
  pub row_before : (rows : List (SparseRow F)) (r : SparseRow F) (i : ℕ) → i < length rows → row_at (rows ++ r ∷ []) i ≡ row_at rows i
  row_before rows r i l = ap (λ (xs : List (List (Entry F))). get_or xs i []) (map_push entries_of rows r)
      ∙ get_or_append_left (map entries_of rows) (r.entries.items ∷ []) [] i (subst (λ n. i < n) (sym (length-map rows entries_of)) l)
