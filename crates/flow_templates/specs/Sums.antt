-- What the terms of a row add up to.
use Rattle.std.specs.Prelude.{◌≤◌, ℕ, ℤ, pos, ◌+ℤ◌, Bool, if◌then◌else◌, IsTrue, List, [], length, take, map, fold, slice_index_or}
use Rattle.std.specs.List.{list_any, range_with_len}
use Rattle.std.specs.Str.{bytes_eq}
use Rattle.lang_tree.specs.Numbers.{is_number}
use Rattle.flow_templates.specs.Grammar.{Amount}

-- what a term adds to a name's coefficient
abbrev pub share : List ℕ → Amount → ℤ
share name a = if bytes_eq a.1 name then a.0 else pos 0

-- a name's coefficient: the sum of those of its terms
abbrev pub total : List ℕ → List Amount → ℤ
total name amounts = fold (λ sum a. sum +ℤ share name a) (pos 0) amounts

-- After each term the coefficient of each name is within 2^63 - 1.
abbrev pub StaysWithin : List Amount → Type 0
StaysWithin amounts = (name : List ℕ) (k : ℕ) → k ≤ length amounts → IsTrue (is_number (total name (take k amounts)))

-- the name is one of these
abbrev pub is_among : List (List ℕ) → List ℕ → Bool
is_among names name = list_any (λ n. bytes_eq n name) names

-- the coefficient of variable i, where each name has this sum: the first of two variables of one name has it
abbrev pub coefficient_by : List (List ℕ) → (List ℕ → ℤ) → ℕ → ℤ
coefficient_by names sum i =
    if is_among (take i names) (slice_index_or names i []) then pos 0 else sum (slice_index_or names i [])

-- the row over these variables, where each name has this sum
abbrev pub row_by : List (List ℕ) → (List ℕ → ℤ) → List ℤ
row_by names sum = map (coefficient_by names sum) (range_with_len 0 (length names))

-- the row of terms
abbrev pub row_of : List (List ℕ) → List Amount → List ℤ
row_of names amounts = row_by names (λ name. total name amounts)
