-- What breaks a condition at a place: at a point, behind actions from it. The cases against a condition are those in which it may be false.
use Rattle.std.specs.Prelude.{◌≡◌, ◌&&◌, ℕ, ◌<◌, Bool, List, [], ◌∷◌, length, get_or, nat_le}
use Rattle.std.specs.List.{list_all}
use Rattle.base_numbers.specs.Rational.{zero_ℚ, ◌≤ℚ◌}
use Rattle.lang_tree.specs.declared.form.Form.{Form}
use Rattle.lang_tree.specs.Limits.{is_form}
use Rattle.flow_edges.specs.declared.edge.Action.{Action}
use Rattle.flow_systems.specs.States.{RationalState, valueℚ, Traces}
use Rattle.flow_systems.specs.Equations.{Equations, Vector, Fits}
use Rattle.flow_edges.specs.declared.limits.TheConstants.{MOST_ACTIONS}

-- all guards of a case have a value of at most 0 at a rational state
abbrev pub PassesAll : List Form → RationalState → Type 0
PassesAll [] x = Unit {0}
PassesAll (g ∷ gs) x = (valueℚ g x ≤ℚ zero_ℚ) × PassesAll gs x

-- the actions lead from a rational state that fits a vector at a point to this one, which passes all guards of a case
pub record Breaks (system : Equations) (z : Vector) (p : ℕ) (before : List Action) (case : List Form) (x : RationalState) : Type 0 where
  pub start : RationalState
  pub size : length start ≡ system.variables
  pub fits : Fits system z p start
  pub trace : Traces before start x
  pub passes : PassesAll case x

-- a state breaks one of the cases
pub record BreaksSome (system : Equations) (z : Vector) (p : ℕ) (before : List Action) (cases : List (List Form)) (x : RationalState) :
    Type 0 where
  pub number : ℕ
  pub within : number < length cases
  pub breaks : Breaks system z p before (get_or cases number []) x

-- no state breaks a case
abbrev pub NoneBreaks : Equations → Vector → ℕ → List Action → List Form → Type 0
NoneBreaks system z p before case = (x : RationalState) → Breaks system z p before case x → ⊥

-- nor any of the first n cases
abbrev pub NoneOpen : Equations → Vector → ℕ → List Action → List (List Form) → ℕ → Type 0
NoneOpen system z p before cases n = (k : ℕ) → k < n → NoneBreaks system z p before (get_or cases k [])

-- no more guards than an edge may have actions, each over n variables
abbrev pub is_case : ℕ → List Form → Bool
is_case n case = nat_le (length case) MOST_ACTIONS && list_all (is_form n) case
