-- What building the problem of an edge and a row answers.
use Rattle.std.specs.Prelude.{◌≡◌, ℕ, ℤ, List, [], ◌∷◌, map, get_or, flat_map}
use Rattle.base_numbers.specs.Rational.{ℚ, whole, neg_ℚ}
use Rattle.base_numbers.specs.Extended.{Ext as Extended, neg_inf, fin, pos_inf}
use Rattle.base_fractions.specs.declared.ext.Ext.{Ext}
use Rattle.base_fractions.specs.Extended.{extended}
use Rattle.flow_edges.specs.declared.edge.Edge.{Edge}
use Rattle.flow_systems.specs.Equations.{Equations, Vector}
use Rattle.theory_validity.specs.Words.{width, guard_forms, end_form}
use Rattle.theory_transformers.specs.Limits.{Limit}
use Rattle.lp_dictionary.specs.declared.problem.Row.{Row}
use Rattle.solve_composition.specs.declared.affine.Affine.{Affine}
use Rattle.solve_composition.specs.Composed.{first_entries, dense}

-- a number and its negation
abbrev pub pair : ℚ → List ℚ
pair q = q ∷ neg_ℚ q ∷ []

-- each number and its negation
abbrev pub pairs : List ℚ → List ℚ
pairs qs = flat_map pair qs

-- the bounds of a source from the place on where they begin
abbrev pub bounds_at : List Ext → ℕ → Extended
bounds_at source r = get_or (map extended source) r neg_inf

-- the row of a problem with split columns, of which the code's rows are made
abbrev pub split_limit : ℕ → Limit → Limit
split_limit w l = record { coeffs = pairs (first_entries w l.coeffs); side = l.side }

-- a row of the code
abbrev pub limit_of : Row ℚ → Limit
limit_of row = record { coeffs = row.coeffs; side = row.side }

-- the guards and the row's form that are those of the edge and the row
pub record IsSource (system : Equations) (z : Vector) (edge : Edge) (row : List ℤ) (w : ℕ) (template : List (List ℤ)) (source : List Ext)
    (guards : List Affine) (form : Affine) : Type 0 where
  pub columns : w ≡ width system.variables edge.actions
  pub rows : template ≡ system.template
  pub bounds : bounds_at source ≡ z edge.from
  pub limits : guards ≡ map (dense w) (guard_forms system.variables edge.actions)
  pub goal : form ≡ dense w (end_form system.variables edge.actions row)

-- they are those of some edge and row, at some vector that has these bounds
pub record HasSource (system : Equations) (w : ℕ) (template : List (List ℤ)) (source : List Ext) (guards : List Affine) (form : Affine) :
    Type 0 where
  pub vector : Vector
  pub edge : Edge
  pub row : List ℤ
  pub is : IsSource system vector edge row w template source guards form

-- the rows of a problem that a template row with this bound makes
abbrev pub source_row : ℕ → List ℤ → Extended → List Limit
source_row w row neg_inf = []
source_row w row (fin c) = record { coeffs = pairs (first_entries w (map whole row)); side = c } ∷ []
source_row w row pos_inf = []
