-- What the edges and the bounds of a transition system say of its runs.
use Rattle.std.specs.Prelude.{◌↔◌, ℕ, ℤ, List, IsTrue}
use Rattle.base_facts.specs.Elements.{In}
use Rattle.lang_tree.specs.Tree.{Statements}
use Rattle.lang_tree.specs.Meaning.{State}
use Rattle.flow_edges.specs.declared.edge.Action.{Action}
use Rattle.flow_edges.specs.Steps.{Acts}
use Rattle.flow_systems.specs.Equations.{Vector, PostSolution}
use Rattle.flow_transitions.specs.declared.auto.Auto.{Auto}
use Rattle.flow_transitions.specs.AutoLimits.{are_acts}
use Rattle.flow_transitions.specs.Choices.{choices_in}
use Rattle.flow_transitions.specs.AutoRuns.{DoesActs}
use Rattle.flow_transitions.specs.AutoSystem.{HoldsAlong, equations_of_auto}

-- acts lead from one integer state to another exactly where the actions of one of their choices do
abbrev pub ChoicesAreActs : Type 0
ChoicesAreActs = (n : ℕ) (acts : Statements) (x y : State) → IsTrue (are_acts n acts) →
    DoesActs acts x y ↔ ((actions : List Action) × In (choices_in acts) actions × Acts actions x y)

-- every post-solution of the system holds along the edges
abbrev pub PostSolutionsHoldAlong : Type 0
PostSolutionsHoldAlong = (auto : Auto) (template : List (List ℤ)) (v : Vector) →
    PostSolution (equations_of_auto auto template) v → HoldsAlong auto (equations_of_auto auto template) v
