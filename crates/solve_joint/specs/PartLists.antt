-- The parts of a list of unknowns, as lists of numbers.
use Rattle.std.specs.Prelude.{ℕ, List, [], ◌∷◌, length, map, Option}
use Rattle.flow_systems.specs.declared.system.System.{System}
use Rattle.flow_systems.specs.View.{equations_of}
use Rattle.theory_transformers.specs.JointProblems.{Listed}
use Rattle.theory_transformers.specs.Parts.{Admissible, AreClasses, InOrder, parts}
use Rattle.solve_joint.specs.Numbers.{number_of, all_listed, Rises}

-- the cut of the list by dependence
abbrev pub listed_parts : System → List (Option ℕ) → List ℕ → List (List Listed)
listed_parts system pick list = parts (equations_of system) (all_listed system pick list)

-- with each part's unknowns by their numbers
abbrev pub part_numbers : System → List (Option ℕ) → List ℕ → List (List ℕ)
part_numbers system pick list = map (map (number_of (length system.template))) (listed_parts system pick list)

-- lists of numbers as lists of unknowns with their picked edges
abbrev pub each_listed : System → List (Option ℕ) → List (List ℕ) → List (List Listed)
each_listed system pick ps = map (all_listed system pick) ps

-- the numbers of each part rise
abbrev pub EachRises : List (List ℕ) → Type 0
EachRises [] = Unit {0}
EachRises (part ∷ ps) = Rises 0 part × EachRises ps

-- the parts are the classes of the list: each two members of one part lean on each other, directly or through others of the list, and no
-- members of two parts do
abbrev pub NumberClasses : System → List (Option ℕ) → List ℕ → List (List ℕ) → Type 0
NumberClasses system pick list ps = AreClasses (equations_of system) (all_listed system pick list) (each_listed system pick ps)

-- no member leans on an unknown of the list that is in a later part
abbrev pub NumbersAdmissible : System → List (Option ℕ) → List ℕ → List (List ℕ) → Type 0
NumbersAdmissible system pick list ps = Admissible (equations_of system) (all_listed system pick list) [] (each_listed system pick ps)

-- each part is that of the first unknown, of those not yet placed, whose part may come next
abbrev pub NumbersInOrder : System → List (Option ℕ) → List ℕ → List (List ℕ) → Type 0
NumbersInOrder system pick list ps = InOrder (equations_of system) (all_listed system pick list) (all_listed system pick list)
    (each_listed system pick ps)
