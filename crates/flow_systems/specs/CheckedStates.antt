-- The states in which a run may be at a check, by a vector.
use Rattle.std.specs.Prelude.{◌≡◌, ℕ, ℤ, List, length, Contains, IsTrue}
use Rattle.lang_tree.specs.declared.check.Check.{Check}
use Rattle.lang_tree.specs.Tree.{Condition, Statements}
use Rattle.lang_tree.specs.Limits.{is_program}
use Rattle.lang_tree.specs.Meaning.{State}
use Rattle.lang_tree.specs.Runs.{Configuration, IsRun, IsAtCheck}
use Rattle.flow_edges.specs.declared.edge.Action.{Action}
use Rattle.flow_edges.specs.declared.edge.Edge.{Edge}
use Rattle.flow_edges.specs.Checks.{StandsBehind}
use Rattle.flow_systems.specs.States.{RationalState, rational, Traces}
use Rattle.flow_systems.specs.SystemLimits.{is_over}
use Rattle.flow_systems.specs.Equations.{Equations, Vector, Fits, PostSolution}
use Rattle.flow_systems.specs.Solutions.{equations_of_program}

-- an edge has the check, and a trace along the actions before it leads from a state that fits the vector at the edge's source to the other
pub record ReachesCheck (system : Equations) (v : Vector) (about : Check) (x y : RationalState) : Type 0 where
  pub edge : Edge
  pub listed : Contains system.edges edge
  pub before : List Action
  pub place : StandsBehind edge.actions about before
  pub starts : length x ≡ system.variables
  pub fits : Fits system v edge.from x
  pub trace : Traces before x y

-- every post-solution of a program's system, whose rows are over the program's variables, lets a run be where it is at a check: such a
-- trace
-- leads there from an integer state
abbrev pub ChecksFitBounds : Type 0
ChecksFitBounds =
    (variables : ℕ) (body : Statements) (template : List (List ℤ)) (v : Vector) (run : List Configuration) (now : Configuration)
    (about : Check) (c : Condition) →
    IsTrue (is_program variables body) → IsTrue (is_over variables template) →
    PostSolution (equations_of_program variables body template) v → IsRun variables body run →
    Contains run now → IsAtCheck now about c →
    (x : State) × ReachesCheck (equations_of_program variables body template) v about (rational x) (rational now.state)
