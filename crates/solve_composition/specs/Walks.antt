-- What composing actions one after the other answers.
use Rattle.std.specs.Prelude.{◌≡◌, ◌==◌, ◌++◌, ℕ, ℤ, Bool, true, List, [], ◌∷◌, map, flat_map, length, None, Result, MatchResult, IsTrue}
use Rattle.std.specs.List.{list_all}
use Rattle.lang_tree.specs.Limits.{has_numbers}
use Rattle.flow_edges.specs.declared.edge.Action.{Action}
use Rattle.flow_edges.specs.declared.edge.Action.TheVariants.{Guard, Assign, Havoc, Check}
use Rattle.base_fractions.specs.Fits.{long_limit}
use Rattle.base_fractions.specs.Operation.{first_wide}
use Rattle.flow_systems.specs.declared.spot.Site.TheVariants.{Compose}
use Rattle.flow_systems.specs.declared.spot.Spot.{Spot}
use Rattle.theory_validity.specs.Words.{Affine as Form, composed, guards_from, ends_from}
use Rattle.solve_composition.specs.declared.affine.Affine.{Affine}
use Rattle.flow_systems.specs.declared.fault.Fault.{Fault}
use Rattle.flow_systems.specs.declared.fault.Fault.TheVariants.{Wide, NoMemory}
use Rattle.solve_composition.specs.Composed.{dense}
use Rattle.solve_composition.specs.Operations.{row_composition, action_composition, actions_composition, next_state, next_column}
use Rattle.flow_systems.specs.Faults.{OperationFault, IsFaultOf}

-- each form has w coefficients
abbrev pub has_width : ℕ → Affine → Bool
has_width w f = length f.coeffs == w

abbrev pub IsState : ℕ → List Affine → Type 0
IsState w state = IsTrue (list_all (has_width w) state)

-- the form of an action has numbers of a program
abbrev pub acts_by_numbers : Action → Bool
acts_by_numbers (Guard form) = has_numbers form
acts_by_numbers (Assign var form) = has_numbers form
acts_by_numbers (Havoc var) = true
acts_by_numbers (Check about) = true

-- the guard of an action
abbrev pub action_guards : List Form → Action → List Form
action_guards state (Guard form) = composed form state ∷ []
action_guards state (Assign var form) = []
action_guards state (Havoc var) = []
action_guards state (Check about) = []

-- after an action: its guard behind the guards before, the next state of forms, and the next free column
abbrev pub StepComposes : ℕ → ℕ → List Form → Action → List Affine → List Affine → List Affine → Result ℕ OperationFault → Type 0
StepComposes w k state action before after guards result =
    MatchResult result
    (λ next. (next ≡ next_column k action) × (after ≡ map (dense w) (next_state k state action))
    × (guards ≡ before ++ map (dense w) (action_guards state action)) × (first_wide long_limit (action_composition w state action) ≡ None))
    (IsFaultOf (action_composition w state action))

-- after all actions: their guards, and the state of forms at the end, from which on the rows are composed
abbrev pub WalkComposes : ℕ → ℕ → List Form → List Action → List Affine → Result (List Affine) OperationFault → Type 0
WalkComposes w k state actions after result =
    MatchResult result
    (λ guards. (guards ≡ map (dense w) (guards_from k state actions)) × (after ≡ map (dense w) (ends_from k state actions))
    × ((template : List (List ℤ)) → first_wide long_limit (actions_composition w template k state actions) ≡
    first_wide long_limit (flat_map (row_composition w (ends_from k state actions)) template)))
    (λ fault. (template : List (List ℤ)) → IsFaultOf (actions_composition w template k state actions) fault)

-- the fault of a form, with the number of its edge
abbrev pub IsFaultAt : ℕ → OperationFault → Fault Spot → Type 0
IsFaultAt edge (Wide wide) fault = fault ≡ Wide (record { round = 0; site = Compose edge; wide = wide })
IsFaultAt edge NoMemory fault = fault ≡ NoMemory
