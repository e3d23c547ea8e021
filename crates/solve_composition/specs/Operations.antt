-- The operations by which edges are composed: edges by number; in an edge its actions in order, and then the template's rows; in a form its
-- columns in order, and then the constant.
use Rattle.std.specs.Prelude.{ℕ, suc, ℤ, List, [], ◌∷◌, ◌++◌, map, flat_map, get_or, Option, Some, None}
use Rattle.std.specs.List.{range_with_len}
use Rattle.base_numbers.specs.Rational.{ℚ, zero_ℚ}
use Rattle.lang_tree.specs.declared.form.Form.{Form as ProgramForm}
use Rattle.flow_edges.specs.declared.edge.Action.{Action}
use Rattle.flow_edges.specs.declared.edge.Action.TheVariants.{Guard, Assign, Havoc, Check}
use Rattle.flow_edges.specs.declared.edge.Edge.{Edge}
use Rattle.base_fractions.specs.Fits.{long_limit}
use Rattle.base_fractions.specs.Operation.{Operation, first_wide}
use Rattle.flow_systems.specs.Equations.{Equations}
use Rattle.flow_systems.specs.Sums.{row_operations, form_operations}
use Rattle.theory_validity.specs.Words.{Affine as Form, width, column, columns, with_form, composed}

-- the coefficients that the forms of a state have at a column
abbrev pub column_values : ℕ → List Form → List ℚ
column_values k state = map (λ f. get_or f.coeffs k zero_ℚ) state

-- the constants of the forms of a state
abbrev pub constants : List Form → List ℚ
constants state = map (λ f. f.constant) state

-- the sums of w columns
abbrev pub column_operations : ℕ → List ℤ → List Form → List Operation
column_operations w coeffs state = flat_map (λ k. row_operations coeffs (column_values k state)) (range_with_len 0 w)

-- a row over a state of forms
abbrev pub row_composition : ℕ → List Form → List ℤ → List Operation
row_composition w state row = column_operations w row state ++ row_operations row (constants state)

-- a program's form over a state of forms: its own constant is added last
abbrev pub form_composition : ℕ → List Form → ProgramForm → List Operation
form_composition w state form = column_operations w form.coeffs state ++ form_operations form (constants state)

-- an action at a state of forms
abbrev pub action_composition : ℕ → List Form → Action → List Operation
action_composition w state (Guard form) = form_composition w state form
action_composition w state (Assign var form) = form_composition w state form
action_composition w state (Havoc var) = []
action_composition w state (Check about) = []

-- the state of forms after an action, where column k is the next free one
abbrev pub next_state : ℕ → List Form → Action → List Form
next_state k state (Guard form) = state
next_state k state (Assign var form) = with_form state var (composed form state)
next_state k state (Havoc var) = with_form state var (column k)
next_state k state (Check about) = state

-- the next free column after an action
abbrev pub next_column : ℕ → Action → ℕ
next_column k (Guard form) = k
next_column k (Assign var form) = k
next_column k (Havoc var) = suc k
next_column k (Check about) = k

-- actions from a state of forms on, and then the rows of the template
abbrev pub actions_composition : ℕ → List (List ℤ) → ℕ → List Form → List Action → List Operation
actions_composition w template k state [] = flat_map (row_composition w state) template
actions_composition w template k state (action ∷ actions) =
    action_composition w state action ++ actions_composition w template (next_column k action) (next_state k state action) actions

-- an edge over n variables
abbrev pub edge_composition : ℕ → List (List ℤ) → List Action → List Operation
edge_composition n template actions = actions_composition (width n actions) template n (columns n) actions

-- the edge with this number where an operation of its own is the first that is wide, else what comes later
abbrev pub named_edge : ℕ → Option Operation → Option (ℕ × Operation) → Option (ℕ × Operation)
named_edge i (Some o) later = Some (i, o)
named_edge i None later = later

-- the first operation of edges that is wide, with the number of its edge, where the first edge has number i
abbrev pub wide_from : ℕ → List (List ℤ) → ℕ → List Edge → Option (ℕ × Operation)
wide_from n template i [] = None
wide_from n template i (edge ∷ edges) = named_edge i (first_wide long_limit (edge_composition n template edge.actions))
    (wide_from n template (suc i) edges)

-- the first operation of the composition of a system's edges that is wide, with the number of its edge
abbrev pub wide_composition : Equations → Option (ℕ × Operation)
wide_composition system = wide_from system.variables system.template 0 system.edges
