-- What is within the limits has numbers of a program.
use Rattle.std.proofs.Common.{ℕ, List, [], ◌∷◌, length, refl}
use Rattle.std.specs.Prelude.{IsTrue, nat_le, nat_lt}
use Rattle.std.specs.List.{list_all}
use Rattle.std.proofs.lemmas.Bool.{and_from, and_parts}
use Rattle.lang_tree.specs.declared.form.Form.{Form}
use Rattle.lang_tree.specs.Limits.{has_numbers, is_form}
use Rattle.flow_edges.specs.declared.edge.Action.{Action}
use Rattle.flow_edges.specs.declared.edge.Action.TheVariants.{Guard, Assign, Havoc, Check}
use Rattle.flow_edges.specs.FlowLimits.{is_action}
use Rattle.solve_composition.specs.Walks.{acts_by_numbers}

form_numbers : (n : ℕ) (form : Form) → IsTrue (is_form n form) → IsTrue (has_numbers form)
form_numbers n form h = (and_parts (nat_le (length form.coeffs) n) (has_numbers form) h).1

action_numbers : (n : ℕ) (action : Action) → IsTrue (is_action n action) → IsTrue (acts_by_numbers action)
action_numbers n (Guard form) h = form_numbers n form h
action_numbers n (Assign var form) h = form_numbers n form (and_parts (nat_lt var n) (is_form n form) h).1
action_numbers n (Havoc var) h = refl
action_numbers n (Check about) h = refl

-- actions have numbers of a program
pub actions_numbers : (n : ℕ) (actions : List Action) → IsTrue (list_all (is_action n) actions) → IsTrue (list_all acts_by_numbers actions)
actions_numbers n [] h = refl
actions_numbers n (a ∷ actions) h =
    let p = and_parts (is_action n a) (list_all (is_action n) actions) h in
    and_from (acts_by_numbers a) (list_all acts_by_numbers actions) (action_numbers n a p.0) (actions_numbers n actions p.1)

-- and so have forms
pub forms_numbers : (n : ℕ) (forms : List Form) → IsTrue (list_all (is_form n) forms) → IsTrue (list_all has_numbers forms)
forms_numbers n [] h = refl
forms_numbers n (f ∷ forms) h =
    let p = and_parts (is_form n f) (list_all (is_form n) forms) h in
    and_from (has_numbers f) (list_all has_numbers forms) (form_numbers n f p.0) (forms_numbers n forms p.1)
