-- The rows of the first dictionary.
use Rattle.std.specs.Prelude.{◌≡◌, ℕ, suc, ◌+◌, ◌<◌, Bool, true, false, cond, ltb, List, [], ◌∷◌, length, get_or}
use Rattle.base_numbers.specs.Rational.{ℚ, zero_ℚ}
use Rattle.lp_dictionary.specs.Build.{goals_of, signed_by, slack_entries, auxiliary_entries, goal_entries}
use Rattle.lp_dictionary.specs.declared.entry.Entry.{Entry}
use Rattle.lp_sparse.specs.declared.row.SparseRow.{SparseRow}
use Rattle.lp_dictionary.specs.Entries.{pushed}
use Rattle.lp_dictionary.specs.Keeps.{Lists}
use Rattle.lp_sparse.specs.Rows.{row_at}

-- the entries stand at the columns of others, with their values or with those of the other sign
abbrev pub AreSigned : {F : Type 0} → (F → ℚ) → Bool → List (Entry F) → List (Entry F) → Type 0
AreSigned m negated [] [] = Unit {0}
AreSigned m negated [] (y ∷ ys) = ⊥
AreSigned m negated (x ∷ xs) [] = ⊥
AreSigned m negated (x ∷ xs) (y ∷ ys) = (y.col ≡ x.col) × (m y.value ≡ signed_by negated (m x.value)) × AreSigned m negated xs ys

-- the entries of a row's end at the column k: the auxiliary variable's, if there is one, and the constant
abbrev pub end_pushed : {F : Type 0} → (F → ℚ) → Bool → List (Entry F) → ℕ → F → F → List (Entry F)
end_pushed m true es k x s = pushed m (pushed m es k x) (k + 1) s
end_pushed m false es k x s = pushed m es k s

-- the numbers of a row of the first dictionary, with the coefficients A, the sides b and the goal c
abbrev pub first_list : Bool → List (List ℚ) → List ℚ → List ℚ → ℕ → List ℚ
first_list aux A b c i =
    cond (ltb i (length b)) (slack_entries aux (get_or A i []) (get_or b i zero_ℚ))
    (cond (ltb (suc i) (length b + goals_of aux)) (auxiliary_entries (length c)) (goal_entries aux c))

-- the rows are those of the first dictionary
abbrev pub IsFirst : {F : Type 0} → (F → ℚ) → Bool → List (List ℚ) → List ℚ → List ℚ → List (SparseRow F) → Type 0
IsFirst m aux A b c rows = (i : ℕ) → i < length b + goals_of aux → Lists m (first_list aux A b c i) (row_at rows i)
