-- The merge of a row and the pivot's row, column by column.
use Rattle.std.specs.Prelude.{◌≡◌, ℕ, ◌≤◌, Bool, cond, eqb, ℤ, List, [], ◌∷◌, None}
use Rattle.base_numbers.specs.Rational.{ℚ, ◌*ℚ◌}
use Rattle.base_fractions.specs.Operation.{Operation, first_wide}
use Rattle.lp_dictionary.specs.Formulas.{combined_row, product_operations, added_operations}
use Rattle.lp_dictionary.specs.PivotOperations.{added_row_operations}
use Rattle.lp_dictionary.specs.declared.entry.Entry.{Entry}
use Rattle.lp_dictionary.specs.Entries.{value_at, Rises, pushed}
use Rattle.lp_sparse.specs.Entries.{head_value, behind}
use Rattle.lp_dictionary.specs.Keeps.{Keeps}
use Rattle.lp_sparse.specs.Rows.{merged}

-- formulas 3 and 4 where the pivot's row has 0: the product p of formula 3 in the pivot's column, else the entry itself
abbrev pub kept : ℚ → ℚ → Bool → ℚ
kept a p at_pivot = cond at_pivot p a

-- and where the row has 0: the product alone
abbrev pub term : ℚ → ℚ → ℚ → Bool → ℚ
term f b p at_pivot = cond at_pivot p (f *ℚ b)

-- the operation of this
abbrev pub term_operations : ℚ → ℚ → Bool → List Operation
term_operations f b at_pivot = cond at_pivot [] (product_operations f b)

-- no entry stands before the column u
abbrev pub StartsAt : {F : Type 0} → ℕ → List (Entry F) → Type 0
StartsAt u [] = Unit {0}
StartsAt u (e ∷ es) = u ≤ e.col

-- the entries that are left have the numbers of a from the column r on
pub record Left {F : Type 0} (m : F → ℚ) (a : ℕ → ℚ) (r n : ℕ) (es : List (Entry F)) : Type 0 where
  pub rises : Rises r n es
  pub values : (k : ℕ) → r ≤ k → value_at m es k ≡ a k

-- the columns below r of the rows a and b are merged, and those of the lists are left
pub record Merging {F : Type 0} (m : F → ℚ) (L : ℤ) (a b : ℕ → ℚ) (f : ℚ) (c n r : ℕ) (da db out : List (Entry F)) : Type 0 where
  pub left : Left m a r n da
  pub above : Left m b r n db
  pub kept : Keeps m (combined_row a b c) r out
  pub fits : first_wide L (added_row_operations r a f b c) ≡ None
  pub reach : r ≤ n

-- the entries from da to da' were merged, which stand before the column u from which the pivot's row has entries; p is the product
abbrev pub MergesOn : {F : Type 0} → (F → ℚ) → ℤ → ℚ → ℕ → ℕ → List (Entry F) → List (Entry F) → List (Entry F) → List (Entry F) → Type 0
MergesOn {F} m L p c u da da' old new =
    (a b : ℕ → ℚ) (f : ℚ) (n r : ℕ) (db : List (Entry F)) → f ≡ a c → p ≡ f *ℚ b c → StartsAt u db → Merging m L a b f c n r da db old →
    (q : ℕ) × Merging m L a b f c n q da' db new

-- an entry e of the pivot's row was merged: an entry with its value was appended unless it is 0, and the rest of the row is left
pub record MergesEntry {F : Type 0} (m : F → ℚ) (L : ℤ) (f p : ℚ) (c : ℕ) (e : Entry F) (da da' old new : List (Entry F)) : Type 0 where
  pub value : F
  pub value_is : m value ≡ merged (head_value m da e.col) f (m e.value) p (eqb e.col c)
  pub fits : first_wide L (added_operations (head_value m da e.col) f (m e.value) (eqb e.col c)) ≡ None
  pub appended : new ≡ pushed m old e.col value
  pub left : da' ≡ behind da e.col
