-- Where a check stands on the edges of a system, and what breaks it there.
use Rattle.std.specs.Prelude.{ℕ, List, [], get_or, take, Contains}
use Rattle.flow_edges.specs.Checks.{StandsBehind}
use Rattle.flow_edges.specs.declared.checked.CheckCases.{CheckCases}
use Rattle.flow_edges.specs.declared.edge.Action.{Action}
use Rattle.flow_edges.specs.declared.edge.Edge.{Edge}
use Rattle.flow_systems.specs.States.{RationalState}
use Rattle.flow_systems.specs.Equations.{Equations, Vector}
use Rattle.ask_verdicts.specs.Breaking.{BreaksSome}

-- a state breaks a check at a place: an edge has the check, and from the edge's source on the actions before it lead to the state, which
-- passes a case in which the check's condition may be false
pub record BreaksCheck (system : Equations) (z : Vector) (check : CheckCases) (x : RationalState) : Type 0 where
  pub edge : Edge
  pub listed : Contains system.edges edge
  pub before : List Action
  pub place : StandsBehind edge.actions check.check before
  pub breaks : BreaksSome system z edge.from before check.against x

-- no state breaks a check, also where it has no place
abbrev pub NoneBreaksCheck : Equations → Vector → CheckCases → Type 0
NoneBreaksCheck system z check = (x : RationalState) → BreaksCheck system z check x → ⊥

-- the edge of a number; behind the last one an edge without actions
abbrev pub edge_of : Equations → ℕ → Edge
edge_of system e = get_or system.edges e (record { from = 0; to = 0; actions = [] })

-- a check stands on an edge behind its first k actions
abbrev pub StandsAt : Edge → CheckCases → ℕ → Type 0
StandsAt edge check k = StandsBehind edge.actions check.check (take k edge.actions)
