-- Runs of a transition system: from point to point along its edges.
use Rattle.std.specs.Prelude.{◌≡◌, ℕ, List, [], ◌∷◌, length, Contains}
use Rattle.lang_tree.specs.Tree.{Statement, Statements, nil, cons}
use Rattle.lang_tree.specs.Meaning.{State}
use Rattle.lang_tree.specs.Runs.{Item, node, Does}
use Rattle.flow_transitions.specs.declared.auto_edge.AutoEdge.{AutoEdge}

-- an act leads from one state to another as the same statement of a program does, whatever work that leaves
abbrev pub DoesAct : Statement → State → State → Type 0
DoesAct s x y = (work : List Item) × Does 0 (node s 0) [] x work y

-- so do acts one after another
abbrev pub DoesActs : Statements → State → State → Type 0
DoesActs nil x y = y ≡ x
DoesActs (cons s rest) x y = (z : State) × DoesAct s x z × DoesActs rest z y

-- a point and an integer state
pub record AutoConfiguration : Type 0 where
  pub point : ℕ
  pub state : State

-- a step takes an edge from the point and does its acts
pub record AutoStep (edges : List AutoEdge) (before after : AutoConfiguration) : Type 0 where
  pub edge : AutoEdge
  pub listed : Contains edges edge
  pub from : edge.from ≡ before.point
  pub to : edge.to ≡ after.point
  pub does : DoesActs edge.acts before.state after.state

-- each configuration is a step from the one before it
abbrev pub AutoFollows : List AutoEdge → AutoConfiguration → List AutoConfiguration → Type 0
AutoFollows edges c [] = Unit {0}
AutoFollows edges c (d ∷ ds) = AutoStep edges c d × AutoFollows edges d ds

-- a run: configurations, the first of which is at the first point with any state of so many variables
abbrev pub IsAutoRun : ℕ → List AutoEdge → List AutoConfiguration → Type 0
IsAutoRun variables edges [] = ⊥
IsAutoRun variables edges (c ∷ cs) = (c.point ≡ 0) × (length c.state ≡ variables) × AutoFollows edges c cs
