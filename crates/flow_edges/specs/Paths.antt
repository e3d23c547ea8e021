-- The paths of a program: what is done between one point and the next.
use Rattle.std.specs.Prelude.{ℕ, List, [], ◌∷◌, ◌++◌}
use Rattle.base_facts.specs.Elements.{In}
use Rattle.lang_tree.specs.Tree.{Statements}
use Rattle.lang_tree.specs.PointNumbers.{exit_of}
use Rattle.lang_tree.specs.Runs.{Item, mark, start_work}
use Rattle.flow_edges.specs.declared.edge.Action.{Action}
use Rattle.flow_edges.specs.Steps.{Labelled, steps_of}

-- labelled steps lead from one work list to another, recording these actions; marks are dropped on the way
pub data Leads (exit : ℕ) : List Item → List Action → List Item → Type 0 where
  here : (work : List Item) → Leads exit work [] work
  past : (p : ℕ) (rest : List Item) (actions : List Action) (work : List Item) → Leads exit rest actions work
      → Leads exit (mark p ∷ rest) actions work
  done : (item : Item) (rest : List Item) (step : Labelled) (later : List Action) (work : List Item) → In (steps_of exit item rest) step →
      Leads exit step.work later work → Leads exit (item ∷ rest) (step.actions ++ later) work

-- labelled steps lead to the next work list whose first item is a mark
pub data Arrives (exit : ℕ) : List Item → List Action → ℕ → List Item → Type 0 where
  at_mark : (p : ℕ) (rest : List Item) → Arrives exit (mark p ∷ rest) [] p rest
  by_step : (item : Item) (rest : List Item) (step : Labelled) (later : List Action) (p : ℕ) (behind : List Item)
      → In (steps_of exit item rest) step →
      Arrives exit step.work later p behind → Arrives exit (item ∷ rest) (step.actions ++ later) p behind

-- a path: from the start work to the mark of one point, and on from there to the next mark, recording the actions
pub record Path (body : Statements) (from : ℕ) (actions : List Action) (to : ℕ) : Type 0 where
  pub before : List Action
  pub behind : List Item
  pub reached : Leads (exit_of body) (start_work body) before (mark from ∷ behind)
  pub after : List Item
  pub arrives : Arrives (exit_of body) behind actions to after
