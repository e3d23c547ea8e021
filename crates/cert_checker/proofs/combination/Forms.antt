-- What composed paths have for an edge.
use Rattle.std.proofs.Common.{◌≡◌, ◌∙◌, ℕ, ◌<◌, List, [], ◌∷◌, length, get_or, map, refl, sym, ap, arith}
use Rattle.std.specs.Prelude.{Some, slice_get, option_map}
use Rattle.std.proofs.lemmas.List.{length-map}
use Rattle.std.proofs.lemmas.Option.{slice_get-map, slice_get-get_or}
use Rattle.base_numbers.specs.Rational.{zero_ℚ, neg_ℚ}
use Rattle.flow_edges.specs.declared.edge.Edge.{Edge}
use Rattle.flow_systems.specs.Equations.{Equations}
use Rattle.theory_validity.specs.Words.{Affine as Form, width, guard_forms, end_form}
use Rattle.solve_composition.specs.declared.affine.Affine.{Affine}
use Rattle.solve_composition.specs.Composed.{EdgeForms, dense, edge_forms, AreComposed}
use Rattle.solve_composition.specs.Sums.{dense_column}
use Rattle.solve_composition.proofs.composed.Dense.{column-dense, get_or-first_entries}
use Rattle.cert_checker.specs.Combined.{negated_constants}
use Rattle.cert_checker.specs.EvidenceEvents.{guard_column, guard_numbers}

-- an edge with no actions, and the forms of none
abbrev pub no_edge : Edge
no_edge = record { from = 0; to = 0; actions = [] }

-- the forms of an edge with no actions over no template
abbrev pub no_forms : EdgeForms
no_forms = record { frees = 0; guards = []; rows = [] }

-- an edge that is there, and the forms of one
pub edge_there : (edges : List Edge) (k : ℕ) → k < length edges → slice_get edges k ≡ Some (get_or edges k no_edge)
edge_there edges k l = slice_get-get_or edges k no_edge l

-- forms that are there, read at their place
forms_there : (paths : List EdgeForms) (k : ℕ) → k < length paths → slice_get paths k ≡ Some (get_or paths k no_forms)
forms_there paths k l = slice_get-get_or paths k no_forms l

-- the number of a guard is that of a multiplier, where there is one for each
pub guard_within : (paths : List EdgeForms) (k n count g : ℕ) → k < length paths
    → ((forms : EdgeForms) → slice_get paths k ≡ Some forms → n ≡ length forms.guards) →
    ((forms : EdgeForms) → slice_get paths k ≡ Some forms → count ≡ length forms.guards) → g < count → g < n
guard_within paths k n count g l each counted below =
    let forms = get_or paths k no_forms in
    let e = forms_there paths k l in
    omega (arith, each forms e, counted forms e, below)

same_forms : (a b : EdgeForms) → Some a ≡ Some b → a ≡ b
same_forms a b e = cc

same_affine : (a b : Affine) → Some a ≡ Some b → a ≡ b
same_affine a b e = cc

constants_dense : (w : ℕ) (forms : List Form) → negated_constants (map (dense w) forms) ≡ map (λ g. neg_ℚ g.constant) forms
constants_dense w [] = refl
constants_dense w (f ∷ forms) = ap (λ xs. neg_ℚ f.constant ∷ xs) (constants_dense w forms)

module _ (system : Equations) (paths : List EdgeForms) (h : AreComposed system paths) (k : ℕ) (e : Edge)
    (found : slice_get system.edges k ≡ Some e) where
  -- how many columns its words have
  abbrev Width : ℕ
  Width = width system.variables e.actions

  -- at an edge's place stand the edge's forms
  pub forms_at : slice_get paths k ≡ Some (edge_forms system.variables system.template e.actions)
  forms_at =
      ap (λ ps. slice_get ps k) h.same ∙ slice_get-map (λ (x : Edge). edge_forms system.variables system.template x.actions) system.edges k
      ∙ ap (option_map (λ (x : Edge). edge_forms system.variables system.template x.actions)) found

  module _ (forms : EdgeForms) (at : slice_get paths k ≡ Some forms) where
    -- forms that are read there are the edge's
    pub forms_are : forms ≡ edge_forms system.variables system.template e.actions
    forms_are = same_forms forms (edge_forms system.variables system.template e.actions) (sym at ∙ forms_at)

    -- as many guards, rows and free values
    pub guard_count : length forms.guards ≡ length (guard_forms system.variables e.actions)
    guard_count = ap (λ (x : EdgeForms). length x.guards) forms_are ∙ length-map (guard_forms system.variables e.actions) (dense Width)

    -- there is an end value for each row of the template
    pub row_count : length forms.rows ≡ length system.template
    row_count = ap (λ (x : EdgeForms). length x.rows) forms_are ∙ length-map system.template
        (λ row. dense Width (end_form system.variables e.actions row))

    -- the guards at a column, and their negated constants
    pub column_is : (j : ℕ) → j < Width → dense_column j forms.guards ≡ guard_column system e j
    column_is j l = ap (λ (x : EdgeForms). dense_column j x.guards) forms_are
        ∙ column-dense Width j (guard_forms system.variables e.actions) l

    -- the negated constants of the guards are those of the edge
    pub constants_are : negated_constants forms.guards ≡ guard_numbers system e
    constants_are = ap (λ (x : EdgeForms). negated_constants x.guards) forms_are
        ∙ constants_dense Width (guard_forms system.variables e.actions)

    -- the end value of a row of the template, at each column and without one
    module _ (r : ℕ) (end : Affine) (l : r < length system.template) (taken : slice_get forms.rows r ≡ Some end) where
      abbrev Ending : Form
      Ending = end_form system.variables e.actions (get_or system.template r [])

      end_is : end ≡ dense Width Ending
      end_is =
          same_affine end (dense Width Ending)
          (sym taken ∙ ap (λ (x : EdgeForms). slice_get x.rows r) forms_are
          ∙ slice_get-map (λ row. dense Width (end_form system.variables e.actions row)) system.template r
          ∙ ap (option_map (λ row. dense Width (end_form system.variables e.actions row))) (slice_get-get_or system.template r [] l))

      -- the coefficients of a composed end value are those of the row's end form
      pub end_at : (j : ℕ) → j < Width → get_or end.coeffs j zero_ℚ ≡ get_or Ending.coeffs j zero_ℚ
      end_at j k = ap (λ (x : Affine). get_or x.coeffs j zero_ℚ) end_is ∙ get_or-first_entries Width Ending.coeffs j k

      -- the constant of a composed end value is that of the row's end form
      pub end_constant : end.constant ≡ Ending.constant
      end_constant = ap (λ (x : Affine). x.constant) end_is
