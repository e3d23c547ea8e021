-- Forms at a place inside an edge: behind actions from a point, where guards are tested.
use Rattle.std.specs.Prelude.{ℕ, List, [], ◌++◌, map}
use Rattle.lang_tree.specs.declared.form.Form.{Form}
use Rattle.flow_edges.specs.declared.edge.Action.{Action}
use Rattle.flow_edges.specs.Steps.{guards}
use Rattle.base_fractions.specs.Operation.{Operation}
use Rattle.theory_validity.specs.Words.{Affine as Formal, columns, free_count, width, guard_forms, ends_from}
use Rattle.solve_composition.specs.declared.placed.PlacedForms.{PlacedForms}
use Rattle.solve_composition.specs.Composed.{dense}
use Rattle.solve_composition.specs.Operations.{edge_composition}

-- the actions before the place, and then the guards
abbrev pub placed_actions : List Action → List Form → List Action
placed_actions before forms = before ++ guards forms

-- the variables at the end of actions, as forms over the start variables and the free values
abbrev pub end_forms : ℕ → List Action → List Formal
end_forms n actions = ends_from n (columns n) actions

-- the composed guards and the variables at the place, over n variables
abbrev pub placed_forms : ℕ → List Action → List Form → PlacedForms
placed_forms n before forms = record {
  frees = free_count (placed_actions before forms);
  guards = map (dense (width n (placed_actions before forms))) (guard_forms n (placed_actions before forms));
  ends = map (dense (width n (placed_actions before forms))) (end_forms n (placed_actions before forms));
}

-- the operations by which they are composed: those of the actions in order, and then those of the guards
abbrev pub placed_composition : ℕ → List Action → List Form → List Operation
placed_composition n before forms = edge_composition n [] (placed_actions before forms)
