-- Parts of lists of entries, and what they are without a column.
use Rattle.std.specs.Prelude.{ℕ, ◌-◌, cond, eqb, ltb, List, [], ◌∷◌, Option, Some, None}
use Rattle.base_numbers.specs.Rational.{ℚ, zero_ℚ}
use Rattle.lp_dictionary.specs.declared.entry.Entry.{Entry}

-- the number of a value that may be missing: 0 where it is
abbrev pub or_zero : {F : Type 0} → (F → ℚ) → Option F → ℚ
or_zero m None = zero_ℚ
or_zero m (Some x) = m x

-- the number of the first entry if it stands at the column, else 0
abbrev pub head_value : {F : Type 0} → (F → ℚ) → List (Entry F) → ℕ → ℚ
head_value m [] k = zero_ℚ
head_value m (e ∷ es) k = cond (eqb e.col k) (m e.value) zero_ℚ

-- the entries after the column k, if none stands before it
abbrev pub behind : {F : Type 0} → List (Entry F) → ℕ → List (Entry F)
behind [] k = []
behind (e ∷ es) k = cond (eqb e.col k) es (e ∷ es)

-- an entry after a column before it was left out
abbrev pub moved : {F : Type 0} → ℕ → Entry F → Entry F
moved z e = record { col = cond (ltb e.col z) e.col (e.col - 1); value = e.value }

-- the list without the column z
abbrev pub left_out : {F : Type 0} → ℕ → List (Entry F) → List (Entry F)
left_out z [] = []
left_out z (e ∷ es) = cond (eqb e.col z) (left_out z es) (moved z e ∷ left_out z es)
