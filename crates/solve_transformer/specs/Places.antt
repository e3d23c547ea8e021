-- Places inside edges: a point, actions from it, and guards that are tested behind them; what is answered there, and by which operations.
use Rattle.std.specs.Prelude.{◌≡◌, ℕ, ◌++◌, List, [], ◌∷◌, false, flat_map, map, Option, Some, None, Result, IfOk, IfErr, OnOk}
use Rattle.base_numbers.specs.Rational.{ℚ, zero_ℚ, ◌+ℚ◌, ◌*ℚ◌}
use Rattle.base_numbers.specs.Vector.{dot}
use Rattle.base_fractions.specs.declared.wide.Op.TheVariants.{Add}
use Rattle.base_fractions.specs.Fits.{long_limit}
use Rattle.base_fractions.specs.Operation.{Operation, first_wide, operation_of, product_sum_operations}
use Rattle.lang_tree.specs.declared.form.Form.{Form}
use Rattle.flow_edges.specs.declared.edge.Action.{Action}
use Rattle.flow_edges.specs.declared.edge.Edge.{Edge}
use Rattle.flow_systems.specs.States.{RationalState}
use Rattle.flow_systems.specs.Equations.{Equations, Vector}
use Rattle.flow_systems.specs.declared.spot.Part.{Part}
use Rattle.flow_systems.specs.declared.spot.Part.TheVariants.{Side, Pivot, Reading}
use Rattle.flow_systems.specs.declared.spot.PartFault.{PartFault}
use Rattle.flow_systems.specs.declared.spot.PartFault.TheVariants.{Wide, NoMemory}
use Rattle.flow_systems.specs.declared.fault.Fault.TheVariants.{Wide as WideFault, NoMemory as NoMemoryFault}
use Rattle.flow_systems.specs.Faults.{OperationFault}
use Rattle.theory_validity.specs.Words.{Affine as Formal, val, width, end_of}
use Rattle.lp_theory.specs.Problem.{Problem, Outcome, best, unbounded, empty}
use Rattle.lp_theory.specs.Simplex.{lp}
use Rattle.lp_theory.specs.Free.{unsplit}
use Rattle.lp_simplex.specs.Operations.{first_refused, run_operations}
use Rattle.theory_transformers.specs.Limits.{tabulate}
use Rattle.theory_transformers.specs.EdgeProblems.{lost, whole_problem}
use Rattle.solve_composition.specs.declared.affine.Affine.{Affine}
use Rattle.solve_composition.specs.declared.value.Value.{Value}
use Rattle.solve_composition.specs.declared.value.Value.TheVariants.{Unreached, Empty, Best, Unbounded}
use Rattle.solve_composition.specs.Composed.{dense}
use Rattle.solve_composition.specs.ComposedLaws.{form_of}
use Rattle.solve_composition.specs.Operations.{edge_composition}
use Rattle.solve_composition.specs.declared.placed.PlacedForms.{PlacedForms}
use Rattle.solve_composition.specs.Behind.{placed_actions, placed_forms, end_forms}
use Rattle.solve_composition.specs.Value.{word_of}
use Rattle.solve_transformer.specs.declared.place.Placed.{Placed}
use Rattle.solve_transformer.specs.Values.{IsValue, IsWideIn, problem_reading}
use Rattle.solve_transformer.specs.Meanings.{HasEvidence}

-- the edge from a point along actions, behind which guards are passed
abbrev pub placed_edge : ℕ → List Action → List Form → Edge
placed_edge p before forms = record { from = p; to = p; actions = placed_actions before forms }

-- the form without coefficients, which is 0 everywhere
abbrev pub nothing : Formal
nothing = record { coeffs = []; constant = zero_ℚ }

-- the state that is shown: of a best value the variables at the end of its trace along the actions, and else none
abbrev pub state_after : ℕ → List Action → Value → Option RationalState
state_after n actions (Unreached r) = None
state_after n actions (Empty rows guards) = None
state_after n actions (Best value trace rows guards) = Some (end_of n actions (word_of trace))
state_after n actions (Unbounded trace direction) = None

-- ---- the operations
-- products of coefficients and entries that are added to a sum, from the left
abbrev pub products_reading : ℚ → List ℚ → List ℚ → List Operation
products_reading sum [] xs = []
products_reading sum (c ∷ cs) [] = []
products_reading sum (c ∷ cs) (x ∷ xs) = product_sum_operations sum c x ++ products_reading (sum +ℚ (c *ℚ x)) cs xs

-- a form at the entries of a trace: column by column from the left, and the constant last
abbrev pub form_reading : List ℚ → Affine → List Operation
form_reading word f = products_reading zero_ℚ f.coeffs word ++ record { op = Add; left = dot f.coeffs word; right = f.constant } ∷ []

-- forms in order
abbrev pub forms_reading : List Affine → List ℚ → List Operation
forms_reading forms word = flat_map (form_reading word) forms

-- the variables at the end of actions, at the trace that an outcome gives
abbrev pub state_reading : ℕ → List Action → Outcome → List Operation
state_reading n actions (best x v y) = forms_reading (map (dense (width n actions)) (end_forms n actions))
    (tabulate (width n actions) (unsplit x))
state_reading n actions (unbounded x d) = []
state_reading n actions (empty y) = []

-- the sides: the actions and guards are composed
abbrev pub sides_of : Equations → Edge → List Operation
sides_of system edge = edge_composition system.variables [] edge.actions

-- the reading: the trace, and then the state at its end
abbrev pub place_reading : Equations → Vector → Edge → List Operation
place_reading system z edge = problem_reading system z edge [] ++ state_reading system.variables edge.actions
    (lp (whole_problem system z edge []))

-- no side, no pivot and no reading is wide; where a bound at the point is -inf there is no problem
abbrev pub NoneWideAt : Equations → Vector → Edge → Type 0
NoneWideAt system z edge =
    lost (z edge.from) system.template ≡ false → (first_wide long_limit (sides_of system edge) ≡ None)
    × (first_refused long_limit (run_operations (whole_problem system z edge [])) ≡ None)
    × (first_wide long_limit (place_reading system z edge) ≡ None)

-- the first wide operation of sides, of numbered pivots where no side is wide, and of reading where no pivot is wide either
abbrev pub IsWideAt : List Operation → Problem → List Operation → Part → Operation → Type 0
IsWideAt sides P reading Side o = first_wide long_limit sides ≡ Some o
IsWideAt sides P reading (Pivot number) o = (first_wide long_limit sides ≡ None) × IsWideIn P reading (Pivot number) o
IsWideAt sides P reading Reading o = (first_wide long_limit sides ≡ None) × IsWideIn P reading Reading o

-- the first wide operation at a place, which there is
abbrev pub IsPlaceFault : Equations → Vector → Edge → PartFault → Type 0
IsPlaceFault system z edge (Wide part wide) =
    (lost (z edge.from) system.template ≡ false)
    × IsWideAt (sides_of system edge) (whole_problem system z edge []) (place_reading system z edge) part (operation_of (λ q. q) wide)
IsPlaceFault system z edge NoMemory = Unit {0}

-- ---- on the way
-- the values of forms at the trace of a best value
abbrev pub ends_at : List Affine → Value → Option RationalState
ends_at ends (Unreached r) = None
ends_at ends (Empty rows guards) = None
ends_at ends (Best value trace rows guards) = Some (map (λ f. val (form_of f) (word_of trace)) ends)
ends_at ends (Unbounded trace direction) = None

-- the operations by which they are read
abbrev pub ends_reading : List Affine → Value → List Operation
ends_reading ends (Unreached r) = []
ends_reading ends (Empty rows guards) = []
ends_reading ends (Best value trace rows guards) = forms_reading ends (word_of trace)
ends_reading ends (Unbounded trace direction) = []

-- the fault of an operation, with its part
abbrev pub IsPartFault : Part → OperationFault → PartFault → Type 0
IsPartFault part (WideFault wide) fault = fault ≡ Wide part wide
IsPartFault part NoMemoryFault fault = fault ≡ NoMemory

-- the forms are those of some actions and guards over n variables
pub record IsPlaced (n : ℕ) (forms : PlacedForms) : Type 0 where
  pub before : List Action
  pub guards : List Form
  pub is : forms ≡ placed_forms n before guards

-- all that is said of the answer at a place
pub record AnswersAt (system : Equations) (z : Vector) (edge : Edge) (result : Result Placed PartFault) : Type 0 where
  pub value : IfOk result (λ answer. IsValue system z edge [] answer.value)
  pub evidence : IfOk result (λ answer. HasEvidence system z edge [] answer.value)
  pub state : IfOk result (λ answer. answer.state ≡ state_after system.variables edge.actions answer.value)
  pub fits : OnOk result (NoneWideAt system z edge)
  pub refused : IfErr result (IsPlaceFault system z edge)
