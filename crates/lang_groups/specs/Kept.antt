-- A group as it is kept: each variable once, and only where there are two.
use Rattle.std.specs.Prelude.{◌++◌, ◌∷◌, ℕ, List, [], length, nat_lt, if◌then◌else◌}
use Rattle.lang_groups.specs.Groups.{has}

-- these variables and those of a list that aren't among them, each once
abbrev pub distinct_behind : List ℕ → List ℕ → List ℕ
distinct_behind kept [] = kept
distinct_behind kept (x ∷ xs) = distinct_behind (if has kept x then kept else kept ++ x ∷ []) xs

-- the variables of a list, each once
abbrev pub distinct : List ℕ → List ℕ
distinct xs = distinct_behind [] xs

-- a group as it is kept
abbrev pub kept_group : List ℕ → List (List ℕ)
kept_group g = if nat_lt 1 (length (distinct g)) then distinct g ∷ [] else []

-- one group more
abbrev pub with_group : List (List ℕ) → List ℕ → List (List ℕ)
with_group gs g = gs ++ kept_group g
