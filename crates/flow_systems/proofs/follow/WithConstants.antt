-- Forms and actions with their constants or without.
use Rattle.std.proofs.Common.{◌≡◌, ◌∙◌, ℕ, ◌+◌, ◌<◌, List, [], ◌∷◌, get_or, length, map, drop, refl, sym, ap}
use Rattle.std.proofs.lemmas.List.{get_or-map, drop_more}
use Rattle.lang_tree.specs.declared.form.Form.{Form}
use Rattle.flow_edges.specs.declared.edge.Action.{Action}
use Rattle.flow_edges.specs.declared.edge.Action.TheVariants.{Guard, Assign, Havoc, Check}
use Rattle.flow_systems.specs.Constants.{form_with, action_with}
use Rattle.flow_systems.specs.FreeValues.{free_count}
use Rattle.flow_systems.specs.declared.sums.Constants.{Constants}
use Rattle.flow_systems.specs.declared.sums.Constants.TheVariants.{Kept, Zero}

-- the coefficients are the same
pub coeffs_same : (constants : Constants) (form : Form) → (form_with constants form).coeffs ≡ form.coeffs
coeffs_same Kept form = refl
coeffs_same Zero form = refl

-- a guard stays a guard of the form
pub guard_with : (constants : Constants) (form : Form) → action_with constants (Guard form) ≡ Guard (form_with constants form)
guard_with Kept form = refl
guard_with Zero form = refl

-- an assignment stays one to its variable
pub assign_with : (constants : Constants) (var : ℕ) (form : Form) → action_with constants (Assign var form)
    ≡ Assign var (form_with constants form)
assign_with Kept var form = refl
assign_with Zero var form = refl

-- a free assignment stays as it is
pub havoc_with : (constants : Constants) (var : ℕ) → action_with constants (Havoc var) ≡ Havoc var
havoc_with Kept var = refl
havoc_with Zero var = refl

-- an action takes as many free values
pub free_with : (constants : Constants) (action : Action) → free_count (action_with constants action ∷ []) ≡ free_count (action ∷ [])
free_with Kept action = refl
free_with Zero (Guard form) = refl
free_with Zero (Assign var form) = refl
free_with Zero (Havoc var) = refl
free_with Zero (Check about) = refl

-- the action at a place
pub action_with-at : (constants : Constants) (actions : List Action) (i : ℕ) (action : Action) → i < length actions
    → action ≡ get_or actions i action →
    action_with constants action ≡ get_or (map (action_with constants) actions) i (action_with constants action)
action_with-at constants actions i action l e = ap (action_with constants) e
    ∙ sym (get_or-map (action_with constants) actions i action (action_with constants action) l)

-- what is left of the actions from a place on
pub action_left : (actions : List Action) (i : ℕ) (action : Action) → i < length actions → action ≡ get_or actions i action
    → drop i actions ≡ action ∷ drop (i + 1) actions
action_left actions i action l e = drop_more actions i action l ∙ ap (λ a. a ∷ drop (i + 1) actions) (sym e)

-- actions with their constants are the actions
pub actions_kept : (actions : List Action) → map (action_with Kept) actions ≡ actions
actions_kept [] = refl
actions_kept (action ∷ actions) = ap (λ rest. action ∷ rest) (actions_kept actions)
