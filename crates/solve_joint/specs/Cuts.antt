-- The parts of unknowns by a table of which reaches which.
use Rattle.std.specs.Prelude.{ℕ, zero, suc, ◌==◌, ◌&&◌, ◌||◌, not, Bool, List, [], ◌∷◌, map, find, Option, Some, None}
use Rattle.std.specs.List.{list_all, filter}
use Rattle.solve_joint.specs.declared.node.Node.{Node}
use Rattle.solve_joint.specs.Tables.{gets_to}

-- each of two gets to the other
abbrev pub are_one_part : List (List Bool) → Node → Node → Bool
are_one_part rows a b = gets_to rows a b && gets_to rows b a

abbrev pub are_apart : List (List Bool) → Node → Node → Bool
are_apart rows a b = not (are_one_part rows a b)

-- a member of a part leans on another unknown only if that one is in the part
abbrev pub keeps_within : List (List Bool) → Node → Node → Node → Bool
keeps_within rows part member other = not (member.source == other.point) || are_one_part rows part other

-- all members of an unknown's part lean, among those left, only on the part itself
abbrev pub may_come : List (List Bool) → List Node → Node → Bool
may_come rows left part = list_all (λ member. not (are_one_part rows part member) || list_all (keeps_within rows part member) left) left

abbrev pub cut_next : List (List Bool) → List Node → (List Node → List (List ℕ)) → Option Node → List (List ℕ)
cut_next rows left more None = []
cut_next rows left more (Some part) = map (λ (a : Node). a.unknown) (filter (are_one_part rows part) left)
    ∷ more (filter (are_apart rows part) left)

-- the parts of the unknowns left, at most so many
abbrev pub cut_from : List (List Bool) → ℕ → List Node → List (List ℕ)
cut_from rows zero left = []
cut_from rows (suc n) left = cut_next rows left (cut_from rows n) (find (may_come rows left) left)
