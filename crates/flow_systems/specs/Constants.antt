-- Forms and actions with their constants, or with 0 in their place: a trace has them, and a direction has none.
use Rattle.std.specs.Prelude.{pos}
use Rattle.lang_tree.specs.declared.form.Form.{Form}
use Rattle.flow_edges.specs.declared.edge.Action.{Action}
use Rattle.flow_edges.specs.declared.edge.Action.TheVariants.{Guard, Assign, Havoc, Check}
use Rattle.flow_systems.specs.declared.sums.Constants.{Constants}
use Rattle.flow_systems.specs.declared.sums.Constants.TheVariants.{Kept, Zero}

-- a form with the constant 0
abbrev pub linear_form : Form → Form
linear_form form = record form { constant = pos 0 }

-- an action whose form has the constant 0
abbrev pub linear_action : Action → Action
linear_action (Guard form) = Guard (linear_form form)
linear_action (Assign var form) = Assign var (linear_form form)
linear_action (Havoc var) = Havoc var
linear_action (Check about) = Check about

-- a form with its own constant or with 0
abbrev pub form_with : Constants → Form → Form
form_with Kept form = form
form_with Zero form = linear_form form

-- an action whose form has its own constant or 0
abbrev pub action_with : Constants → Action → Action
action_with Kept action = action
action_with Zero action = linear_action action
