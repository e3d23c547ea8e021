-- The entries of the first dictionary as lists, row after row.
use Rattle.std.specs.Prelude.{ℕ, suc, Bool, true, false, cond, ltb, List, [], ◌∷◌, ◌++◌, length, map, get_or}
use Rattle.base_numbers.specs.Rational.{ℚ, zero_ℚ, one_ℚ, neg_ℚ}
use Rattle.base_numbers.specs.Vector.{zeros}
use Rattle.lp_dictionary.specs.Listed.{joined}

-- the number, or the one with the other sign
abbrev pub signed_by : Bool → ℚ → ℚ
signed_by true q = neg_ℚ q
signed_by false q = q

-- the entries in the auxiliary variable's column, if there is one
abbrev pub auxiliary_entry : Bool → ℚ → List ℚ
auxiliary_entry aux x = cond aux (x ∷ []) []

-- the row of a slack: the negated coefficients, 1 for the auxiliary variable, the side
abbrev pub slack_entries : Bool → List ℚ → ℚ → List ℚ
slack_entries aux u s = map neg_ℚ u ++ (auxiliary_entry aux one_ℚ ++ s ∷ [])

-- the first goal, the negated auxiliary variable, over w columns
abbrev pub auxiliary_entries : ℕ → List ℚ
auxiliary_entries w = zeros w ++ (neg_ℚ one_ℚ ∷ zero_ℚ ∷ [])

-- the problem's goal
abbrev pub goal_entries : Bool → List ℚ → List ℚ
goal_entries aux c = c ++ (auxiliary_entry aux zero_ℚ ++ zero_ℚ ∷ [])

-- the rows of the goals
abbrev pub goals_entries : Bool → List ℚ → List ℚ
goals_entries true c = auxiliary_entries (length c) ++ goal_entries true c
goals_entries false c = goal_entries false c

-- the entries of the first n slacks
abbrev pub slacks_entries : Bool → List (List ℚ) → List ℚ → ℕ → List ℚ
slacks_entries aux A b n = joined n (λ i. slack_entries aux (get_or A i []) (get_or b i zero_ℚ))

-- how many goals the first dictionary has
abbrev pub goals_of : Bool → ℕ
goals_of true = 2
goals_of false = 1

-- how many columns it has
abbrev pub width_of : Bool → ℕ → ℕ
width_of true cols = suc cols
width_of false cols = cols

-- the name of a column: the auxiliary variable comes after the problem's
abbrev pub other_name : ℕ → ℕ → ℕ
other_name cols k = cond (ltb k cols) (suc k) 0
