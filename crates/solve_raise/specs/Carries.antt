-- How values are carried action by action.
use Rattle.std.specs.Prelude.{◌≡◌, ℕ, ℤ, List, [], ◌∷◌, drop, Some, Result, MatchResult}
use Rattle.base_numbers.specs.Rational.{ℚ}
use Rattle.flow_edges.specs.declared.edge.Action.{Action}
use Rattle.base_fractions.specs.declared.wide.Wide.{Wide}
use Rattle.base_fractions.specs.Fits.{long_limit}
use Rattle.base_fractions.specs.Operation.{first_wide, operation_of}
use Rattle.flow_systems.specs.States.{RationalState}
use Rattle.flow_systems.specs.FreeValues.{free_count}
use Rattle.flow_systems.specs.TraceTests.{trace_operations, LeadsOn}
use Rattle.flow_systems.specs.declared.sums.Constants.{Constants}
use Rattle.solve_raise.specs.Moves.{moves}

-- an operation of the moves is wide, and this is the first
abbrev pub IsFirst : Constants → List Action → RationalState → List ℚ → Wide ℚ → Type 0
IsFirst constants actions x free wide =
    (row : List ℤ) → first_wide long_limit (trace_operations (moves constants actions) x free row) ≡ Some (operation_of (λ q. q) wide)

-- what one action answers: how many free values it takes, and that the moves lead on from the state z
abbrev pub StepIs : Constants → Action → RationalState → List ℚ → RationalState → ℕ → Type 0
StepIs constants action x free z n =
    (n ≡ free_count (action ∷ [])) × ((rest : List Action) → LeadsOn (moves constants (action ∷ rest)) x free (moves constants rest) z
    (drop n free))

abbrev pub StepAnswers : Constants → Action → RationalState → List ℚ → RationalState → Result ℕ (Wide ℚ) → Type 0
StepAnswers constants action x free z result =
    MatchResult result (StepIs constants action x free z) (λ wide. (rest : List Action) → IsFirst constants (action ∷ rest) x free wide)

-- what all actions answer: that the moves end in the state z
abbrev pub FollowAnswers : Constants → List Action → RationalState → List ℚ → RationalState → Result (Unit {0}) (Wide ℚ) → Type 0
FollowAnswers constants actions x free z result = MatchResult result (λ u. LeadsOn (moves constants actions) x free [] z [])
    (IsFirst constants actions x free)
