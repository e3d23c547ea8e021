-- The items of a turn, as they are read from the outcome of the joint problem of a list.
use Rattle.std.specs.Prelude.{ℕ, List, [], ◌∷◌, if◌then◌else◌}
use Rattle.base_numbers.specs.Rational.{ℚ, zero_ℚ, lt_ℚ}
use Rattle.flow_systems.specs.Equations.{Equations, Vector}
use Rattle.theory_validity.specs.Words.{Word}
use Rattle.theory_validity.specs.Steps.{Item}
use Rattle.theory_validity.specs.Certificates.{num}
use Rattle.lp_theory.specs.Problem.{best, unbounded, empty, Outcome as ProblemOutcome}
use Rattle.lp_theory.specs.Simplex.{lp}
use Rattle.theory_transformers.specs.JointProblems.{Listed, raised, rise_at, joint_problem, joint_words}
use Rattle.theory_strategy.specs.Picks.{Pick}
use Rattle.theory_strategy.specs.Growth.{split, with_words}
use Rattle.theory_strategy.specs.Round.{Outcome, Point, Rays}

-- an item's unknown with the number of its edge
abbrev pub listed_item : Item → Listed
listed_item u = record { point = u.point; row = u.row; edge = u.edge }

-- the unknowns of items with the numbers of their edges, in order
unfoldable pub listed_items : List Item → List Listed
listed_items [] = []
listed_items (u ∷ us) = listed_item u ∷ listed_items us

-- the items of a point: each item's unknown with its low word, a high word and its number at the vector reached
unfoldable pub point_items : ℕ → Vector → List Item → List Word → List Item
point_items n y [] highs = []
point_items n y (u ∷ us) [] = []
point_items n y (u ∷ us) (high ∷ highs) = with_words u u.low (split n high) (num (y u.point u.row)) ∷ point_items n y us highs

-- the items of a ray: each item's unknown whose rate is above 0 with its low word, a direction and its rate
unfoldable pub rate_items : ℕ → (ℕ → ℕ → ℚ) → List Item → List Word → List Item
rate_items n rate [] directions = []
rate_items n rate (u ∷ us) [] = []
rate_items n rate (u ∷ us) (direction ∷ directions) =
    if lt_ℚ zero_ℚ (rate u.point u.row)
    then with_words u u.low (split n direction) (rate u.point u.row) ∷ rate_items n rate us directions
    else rate_items n rate us directions

-- the turn that an outcome of the joint problem gives; an empty outcome doesn't come where the list condition holds
unfoldable pub outcome_items : Equations → Vector → List Item → ProblemOutcome → Outcome
outcome_items system b list (best x v y) = Point (point_items system.variables (raised (listed_items list) x b) list
    (joint_words system (listed_items list) x))
outcome_items system b list (unbounded x d) = Rays (rate_items system.variables (rise_at (listed_items list) d) list
    (joint_words system (listed_items list) d))
outcome_items system b list (empty y) = Point []

-- the turn of a list at a base vector; the items have the numbers of the picked edges
unfoldable pub exact_joint : Equations → Pick → Vector → List Item → Outcome
exact_joint system pick b list = outcome_items system b list (lp (joint_problem system b (listed_items list)))
