-- What a run did before it came to a check.
use Rattle.std.specs.Prelude.{ℕ, List, Contains, IsTrue}
use Rattle.lang_tree.specs.declared.check.Check.{Check}
use Rattle.lang_tree.specs.Tree.{Condition, Statements}
use Rattle.lang_tree.specs.Limits.{is_program}
use Rattle.lang_tree.specs.Runs.{Configuration, IsRun, IsAt, IsAtCheck}
use Rattle.flow_edges.specs.declared.edge.Action.{Action}
use Rattle.flow_edges.specs.declared.edge.Edge.{Edge}
use Rattle.flow_edges.specs.Steps.{Acts}
use Rattle.flow_edges.specs.Edges.{edges_of_program}
use Rattle.flow_edges.specs.Checks.{StandsBehind}

-- an edge of the program has the check; the run passed the edge's source, and what it did from there to this configuration are the actions
-- before the check
pub record CameAlong (body : Statements) (run : List Configuration) (about : Check) (now : Configuration) : Type 0 where
  pub edge : Edge
  pub listed : Contains (edges_of_program body) edge
  pub before : List Action
  pub place : StandsBehind edge.actions about before
  pub source : Configuration
  pub passed : Contains run source
  pub at_source : IsAt source edge.from
  pub acts : Acts before source.state now.state

-- so it is at each check in each run of each program within the limits
abbrev pub ChecksAreOnEdges : Type 0
ChecksAreOnEdges =
    (variables : ℕ) (body : Statements) (run : List Configuration) (now : Configuration) (about : Check) (c : Condition) →
    IsTrue (is_program variables body) → IsRun variables body run → Contains run now → IsAtCheck now about c → CameAlong body run about now
