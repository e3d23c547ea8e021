-- The operations by which a trace is followed along actions, each guard tested where it stands, and a row is taken at its end.
use Rattle.std.specs.Prelude.{◌≡◌, ◌↔◌, ℕ, ℤ, Bool, true, false, cond, List, [], ◌∷◌, ◌++◌, drop, None, Some, Option, Result}
use Rattle.std.specs.Prelude.{MatchResult}
use Rattle.base_numbers.specs.Rational.{ℚ, zero_ℚ, le_ℚ}
use Rattle.lang_tree.specs.Meaning.{put}
use Rattle.flow_edges.specs.declared.edge.Action.{Action}
use Rattle.flow_edges.specs.declared.edge.Action.TheVariants.{Guard, Assign, Havoc, Check}
use Rattle.base_fractions.specs.declared.wide.Wide.{Wide}
use Rattle.base_fractions.specs.Fits.{long_limit}
use Rattle.base_fractions.specs.Operation.{Operation, first_wide, operation_of}
use Rattle.flow_systems.specs.States.{RationalState, dotℚ, valueℚ}
use Rattle.flow_systems.specs.FreeValues.{free_count, Follows}
use Rattle.flow_systems.specs.Sums.{row_operations, form_operations}

-- from a state on, with the values of the free assignments to come, up to the first guard that fails
abbrev pub trace_operations : List Action → RationalState → List ℚ → List ℤ → List Operation
trace_operations [] x free row = row_operations row x
trace_operations (Guard form ∷ actions) x free row = form_operations form x
    ++ cond (le_ℚ (valueℚ form x) zero_ℚ) (trace_operations actions x free row) []
trace_operations (Assign var form ∷ actions) x free row = form_operations form x
    ++ trace_operations actions (put zero_ℚ x var (valueℚ form x)) free row
trace_operations (Havoc var ∷ actions) x [] row = []
trace_operations (Havoc var ∷ actions) x (q ∷ free) row = trace_operations actions (put zero_ℚ x var q) free row
trace_operations (Check about ∷ actions) x free row = trace_operations actions x free row

-- the row's value at the trace's end; or a guard fails, so that the trace has no end
abbrev pub TraceValue : List Action → RationalState → List ℚ → List ℤ → Option ℚ → Type 0
TraceValue actions x free row None = (y : RationalState) → ¬ (Follows actions x free y)
TraceValue actions x free row (Some v) = (y : RationalState) × Follows actions x free y × (v ≡ dotℚ row y)

-- this where no operation is wide, and the first that is where one is
abbrev pub TraceAnswers : List Action → RationalState → List ℚ → List ℤ → Result (Option ℚ) (Wide ℚ) → Type 0
TraceAnswers actions x free row result =
    MatchResult result (λ o. TraceValue actions x free row o × (first_wide long_limit (trace_operations actions x free row) ≡ None))
    (λ w. first_wide long_limit (trace_operations actions x free row) ≡ Some (operation_of (λ q. q) w))

-- ---- on the way
-- where a trace leads on from a later state: to the same ends, by operations with the same first that is wide
pub record LeadsOn (actions : List Action) (x : RationalState) (free : List ℚ) (later : List Action) (z : RationalState) (left : List ℚ) :
    Type 0 where
  pub ends : (y : RationalState) → Follows actions x free y ↔ Follows later z left y
  pub first : (row : List ℤ) → first_wide long_limit (trace_operations actions x free row)
      ≡ first_wide long_limit (trace_operations later z left row)

-- where a guard fails and no operation before it is wide
pub record Fails (actions : List Action) (x : RationalState) (free : List ℚ) : Type 0 where
  pub ends : (y : RationalState) → ¬ (Follows actions x free y)
  pub first : (row : List ℤ) → first_wide long_limit (trace_operations actions x free row) ≡ None

-- what one action is: its number of free values and where it leads on, or its guard fails
abbrev pub StepIs : Action → RationalState → List ℚ → RationalState → Option ℕ → Type 0
StepIs action x free z None = (rest : List Action) → Fails (action ∷ rest) x free
StepIs action x free z (Some n) = (n ≡ free_count (action ∷ [])) × ((rest : List Action)
    → LeadsOn (action ∷ rest) x free rest z (drop n free))

-- what one action answers: what it is, or its first operation that is wide
abbrev pub StepAnswers : Action → RationalState → List ℚ → RationalState → Result (Option ℕ) (Wide ℚ) → Type 0
StepAnswers action x free z result =
    MatchResult result (λ o. StepIs action x free z o) (λ w. (rest : List Action) (row : List ℤ) →
    first_wide long_limit (trace_operations (action ∷ rest) x free row) ≡ Some (operation_of (λ q. q) w))

-- what all actions are: the trace leads to the state z, or a guard fails
abbrev pub FollowIs : List Action → RationalState → List ℚ → RationalState → Bool → Type 0
FollowIs actions x free z true = LeadsOn actions x free [] z []
FollowIs actions x free z false = Fails actions x free

-- what all actions answer: what they are, or their first operation that is wide
abbrev pub FollowAnswers : List Action → RationalState → List ℚ → RationalState → Result Bool (Wide ℚ) → Type 0
FollowAnswers actions x free z result =
    MatchResult result (λ b. FollowIs actions x free z b) (λ w. (row : List ℤ) →
    first_wide long_limit (trace_operations actions x free row) ≡ Some (operation_of (λ q. q) w))
