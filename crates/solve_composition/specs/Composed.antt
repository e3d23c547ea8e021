-- The composed forms of all edges of a system.
use Rattle.std.specs.Prelude.{◌≡◌, ℕ, zero, suc, ℤ, List, [], ◌∷◌, map}
use Rattle.base_numbers.specs.Rational.{ℚ, zero_ℚ}
use Rattle.flow_edges.specs.declared.edge.Action.{Action}
use Rattle.flow_systems.specs.Equations.{Equations}
use Rattle.theory_validity.specs.Words.{Affine as Form, free_count, width, guard_forms, end_form}
use Rattle.solve_composition.specs.declared.affine.Affine.{Affine}

-- the first w entries of a list that stands for the list with zeros behind it
abbrev pub first_entries : ℕ → List ℚ → List ℚ
first_entries zero xs = []
first_entries (suc w) [] = zero_ℚ ∷ first_entries w []
first_entries (suc w) (x ∷ xs) = x ∷ first_entries w xs

-- a form of the theory with exactly w coefficients
abbrev pub dense : ℕ → Form → Affine
dense w f = record { coeffs = first_entries w f.coeffs; constant = f.constant }

-- the number of an edge's free values, its guards in the order of its actions, and the end value of each template row, all over the start
-- variables and then the free values
pub record EdgeForms : Type 0 where
  pub frees : ℕ
  pub guards : List Affine
  pub rows : List Affine

-- those of actions over n variables
abbrev pub edge_forms : ℕ → List (List ℤ) → List Action → EdgeForms
edge_forms n template actions = record {
  frees = free_count actions;
  guards = map (dense (width n actions)) (guard_forms n actions);
  rows = map (λ row. dense (width n actions) (end_form n actions row)) template;
}

-- those of each edge of a system
abbrev pub composed_paths : Equations → List EdgeForms
composed_paths system = map (λ edge. edge_forms system.variables system.template edge.actions) system.edges

-- they are the composed forms of the system
pub record AreComposed (system : Equations) (paths : List EdgeForms) : Type 0 where
  pub same : paths ≡ composed_paths system
