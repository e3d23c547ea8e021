-- Labelled steps: what may be done with an item of work whatever the state, and the actions that this records.
use Rattle.std.specs.Prelude.{◌≡◌, ℕ, Bool, true, false, ℤ, pos, ◌≤ℤ◌, List, [], ◌∷◌, ◌++◌, map, if◌then◌else◌}
use Rattle.lang_tree.specs.declared.form.Form.{Form}
use Rattle.lang_tree.specs.Tree.{Condition, breaks, continues, returns, set, havoc, assume}
use Rattle.lang_tree.specs.Tree.{only_where, check, branch, loop, jump, label}
use Rattle.lang_tree.specs.Cases.{cases_of}
use Rattle.lang_tree.specs.Meaning.{State, put, value}
use Rattle.lang_tree.specs.PointNumbers.{splits}
use Rattle.lang_tree.specs.Runs.{Item, node, mark, turn, end, branch_work, head_work, turn_work, end_work, past_loop}
use Rattle.lang_tree.specs.Runs.{end_of_body}
use Rattle.flow_edges.specs.declared.edge.Action.{Action}
use Rattle.flow_edges.specs.declared.edge.Action.TheVariants.{Guard, Assign, Havoc, Check}

-- the actions recorded, and the work that is left then
pub record Labelled : Type 0 where
  pub actions : List Action
  pub work : List Item

-- the labelled step of these
abbrev pub labelled : List Action → List Item → Labelled
labelled actions work = record { actions = actions; work = work }

-- the guards of a case
abbrev pub guards : List Form → List Action
guards forms = map Guard forms

-- a choice takes one case of the condition's truth, and records its guards
abbrev pub choices : Bool → Condition → List Item → List Labelled
choices truth c work = map (λ forms. labelled (guards forms) work) (cases_of truth c)

-- the labelled steps with an item, after which `rest` is left, in order; a mark is only dropped
abbrev pub steps_of : (exit : ℕ) → Item → (rest : List Item) → List Labelled
steps_of exit (mark p) rest = []
steps_of exit (node (set var form line) n) rest = labelled (Assign var form ∷ []) rest ∷ []
steps_of exit (node (havoc var line) n) rest = labelled (Havoc var ∷ []) rest ∷ []
steps_of exit (node (assume c line) n) rest = choices true c (if splits c then mark n ∷ rest else rest)
steps_of exit (node (only_where c line) n) rest = choices true c rest
steps_of exit (node (check about c line) n) rest = labelled (Check about ∷ []) rest ∷ []
steps_of exit (node (branch c first second line) n) rest =
    choices true c (branch_work true first second n rest) ++ choices false c (branch_work false first second n rest)
steps_of exit (node (loop kind c body line) n) rest = labelled [] (mark n ∷ head_work kind c body line n rest) ∷ []
steps_of exit (node (jump breaks line) n) rest = labelled [] (past_loop rest) ∷ []
steps_of exit (node (jump continues line) n) rest = labelled [] (end_of_body rest) ∷ []
steps_of exit (node (jump returns line) n) rest = labelled [] (mark exit ∷ []) ∷ []
steps_of exit (node (label name line) n) rest = labelled [] (mark n ∷ rest) ∷ []
steps_of exit (turn kind c body line n) rest = choices true c (turn_work true kind c body line n rest)
    ++ choices false c (turn_work false kind c body line n rest)
steps_of exit (end kind c body line n) rest = labelled [] (end_work kind c body line n rest) ∷ []

-- actions lead from one integer state to another: a guard is at most 0, an assignment sets one place to the form's value, a free one to any
-- integer, and a check changes nothing
abbrev pub Acts : List Action → State → State → Type 0
Acts [] x y = y ≡ x
Acts (Guard form ∷ actions) x y = (value form x ≤ℤ pos 0) × Acts actions x y
Acts (Assign var form ∷ actions) x y = Acts actions (put (pos 0) x var (value form x)) y
Acts (Havoc var ∷ actions) x y = (z : ℤ) × Acts actions (put (pos 0) x var z) y
Acts (Check about ∷ actions) x y = Acts actions x y
