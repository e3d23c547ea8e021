-- The laws of composed forms.
use Rattle.std.specs.Prelude.{◌≡◌, ◌↔◌, ℕ, ◌++◌, ℤ, List, [], length, slice_get, map, Some, None, IsTrue}
use Rattle.std.specs.List.{list_all}
use Rattle.base_numbers.specs.Rational.{ℚ}
use Rattle.base_fractions.specs.Fits.{long_limit}
use Rattle.base_fractions.specs.Operation.{first_wide}
use Rattle.lang_tree.specs.declared.form.Form.{Form as ProgramForm}
use Rattle.lang_tree.specs.Limits.{is_form}
use Rattle.flow_edges.specs.declared.edge.Action.{Action}
use Rattle.flow_edges.specs.declared.edge.Edge.{Edge}
use Rattle.flow_systems.specs.States.{RationalState, dotℚ}
use Rattle.flow_systems.specs.FreeValues.{Follows}
use Rattle.flow_systems.specs.Equations.{Equations}
use Rattle.theory_validity.specs.Words.{Affine as Form, val, free_count, width, AllAtMost}
use Rattle.solve_composition.specs.declared.affine.Affine.{Affine}
use Rattle.solve_composition.specs.Behind.{placed_composition}
use Rattle.solve_composition.specs.Composed.{EdgeForms, AreComposed}

-- two lists of composed forms of one system are the same
abbrev pub OneComposition : Type 0
OneComposition = (system : Equations) (paths others : List EdgeForms) → AreComposed system paths → AreComposed system others
    → paths ≡ others

-- the form of the theory with the same numbers
abbrev pub form_of : Affine → Form
form_of f = record { coeffs = f.coeffs; constant = f.constant }

-- what the composed forms of an edge say of a start state and free values: all guards are at most 0 exactly where a trace goes that way,
-- and the row forms have the values at its end
pub record MeanTraces (template : List (List ℤ)) (actions : List Action) (forms : EdgeForms) (x : RationalState) (free : List ℚ) :
    Type 0 where
  pub passes : AllAtMost (map form_of forms.guards) (x ++ free) ↔ ((y : RationalState) × Follows actions x free y)
  pub ends : (y : RationalState) → Follows actions x free y → (r : ℕ) (row : List ℤ) (form : Affine) →
      slice_get template r ≡ Some row → slice_get forms.rows r ≡ Some form → val (form_of form) (x ++ free) ≡ dotℚ row y

-- composed forms mean the traces of their edge
abbrev pub ComposedFormsMean : Type 0
ComposedFormsMean = (system : Equations) (paths : List EdgeForms) (k : ℕ) (edge : Edge) (forms : EdgeForms) → AreComposed system paths →
    slice_get system.edges k ≡ Some edge → slice_get paths k ≡ Some forms →
    (x : RationalState) (free : List ℚ) → length x ≡ system.variables → length free ≡ free_count edge.actions →
    MeanTraces system.template edge.actions forms x free

-- each form has one coefficient for each start variable and each free value
pub record HaveColumns (system : Equations) (edge : Edge) (forms : EdgeForms) : Type 0 where
  pub frees : forms.frees ≡ free_count edge.actions
  pub guards : (g : ℕ) (form : Affine) → slice_get forms.guards g ≡ Some form → length form.coeffs ≡ width system.variables edge.actions
  pub rows : (r : ℕ) (form : Affine) → slice_get forms.rows r ≡ Some form → length form.coeffs ≡ width system.variables edge.actions
  pub count : length forms.rows ≡ length system.template

-- there are composed forms for each edge, and each form has its columns
abbrev pub ComposedFormsHaveColumns : Type 0
ComposedFormsHaveColumns = (system : Equations) (paths : List EdgeForms) → AreComposed system paths →
    (length paths ≡ length system.edges) × ((k : ℕ) (edge : Edge) (forms : EdgeForms) → slice_get system.edges k ≡ Some edge →
    slice_get paths k ≡ Some forms → HaveColumns system edge forms)

-- guards over the variables alone are composed by operations that are never wide
abbrev pub GuardsAloneFit : Type 0
GuardsAloneFit = (n : ℕ) (guards : List ProgramForm) → IsTrue (list_all (is_form n) guards)
    → first_wide long_limit (placed_composition n [] guards) ≡ None
