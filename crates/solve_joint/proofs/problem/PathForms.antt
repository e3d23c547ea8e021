-- The composed forms of picked edges.
use Rattle.std.proofs.Common.{◌≡◌, ◌∙◌, ⊎_elim, ℕ, zero, suc, ◌<◌, ◌≤◌, List, [], ◌∷◌, length, get_or, map, Some, ap, sym, option_map}
use Rattle.std.proofs.Common.{arith}
use Rattle.std.specs.Prelude.{ℤ, slice_get}
use Rattle.std.proofs.lemmas.Bool.{cases_lt}
use Rattle.std.proofs.lemmas.List.{length-map, get_or_past}
use Rattle.std.proofs.lemmas.Option.{slice_get-map, slice_get-get_or}
use Rattle.base_numbers.specs.Rational.{ℚ, zero_ℚ}
use Rattle.flow_edges.specs.declared.edge.Edge.{Edge}
use Rattle.flow_systems.specs.declared.system.System.{System}
use Rattle.flow_systems.specs.View.{equations_of}
use Rattle.lp_theory.specs.Listed.{at}
use Rattle.theory_validity.specs.Words.{Affine as Form, width, guard_forms, end_form}
use Rattle.theory_validity.proofs.words.Widths.{Narrow, guard_forms_width, end_form_width}
use Rattle.solve_composition.specs.declared.affine.Affine.{Affine}
use Rattle.solve_composition.specs.Composed.{EdgeForms, AreComposed, first_entries, dense, edge_forms}
use Rattle.solve_composition.proofs.composed.Dense.{length-first_entries, get_or-first_entries}
use Rattle.solve_joint.specs.Blocks.{edge_at, row_at, end_at}
use Rattle.solve_joint.specs.Rows.{SameForm}

same_some : {X : Type 0} (x y : X) → Some x ≡ Some y → x ≡ y
same_some x y e = cc

abbrev nowhere : Edge
nowhere = record { from = 0; to = 0; actions = [] }

-- the forms of an edge by its number
pub path_at : (system : System) (paths : List EdgeForms) (edge : ℕ) → AreComposed (equations_of system) paths
    → edge < length system.flow.edges →
    slice_get paths edge ≡ Some (edge_forms (length system.flow.names) system.template (edge_at system edge).actions)
path_at system paths edge h l =
    let f : Edge → EdgeForms = λ e. edge_forms (length system.flow.names) system.template e.actions in
    ap (λ ps. slice_get ps edge) h.same ∙ slice_get-map f system.flow.edges edge
    ∙ ap (option_map f) (slice_get-get_or system.flow.edges edge nowhere l)

-- a form with all its columns
same_dense : (w : ℕ) (xs : List ℚ) → length xs ≤ w → (k : ℕ) → at (first_entries w xs) k ≡ at xs k
same_dense w xs l k = ⊎_elim
    (λ h. get_or-first_entries w xs k h)
    (λ h. get_or_past (first_entries w xs) k zero_ℚ (let e = length-first_entries w xs in omega (arith, e, h))
    ∙ sym (get_or_past xs k zero_ℚ (omega (arith, l, h))))
    (cases_lt k w)

dense_form : (w : ℕ) (form : Form) (a : Affine) → a ≡ dense w form → length form.coeffs ≤ w
    → SameForm a.coeffs a.constant form × (length a.coeffs ≡ w)
dense_form w form a e l = (
  record {
    entries = λ k. ap (λ (b : Affine). at b.coeffs k) e ∙ same_dense w form.coeffs l k;
    same_constant =
        ap (λ (b : Affine). b.constant) e;
  },
  ap (λ (b : Affine). length b.coeffs) e ∙ length-first_entries w form.coeffs,
)

listed_form : (w : ℕ) (forms : List Form) (g : ℕ) (d : Form) (a : Affine) → g < length forms → slice_get (map (dense w) forms) g ≡ Some a
    → a ≡ dense w (get_or forms g d)
listed_form w forms g d a l e = same_some a (dense w (get_or forms g d))
    (sym e ∙ slice_get-map (dense w) forms g ∙ ap (option_map (dense w)) (slice_get-get_or forms g d l))

narrow_at : (w : ℕ) (forms : List Form) (g : ℕ) (d : Form) → Narrow w forms → g < length forms → length (get_or forms g d).coeffs ≤ w
narrow_at w [] g d h l = absurd (omega (arith, l))
narrow_at w (f ∷ forms) zero d h l = h.0
narrow_at w (f ∷ forms) (suc g) d h l = narrow_at w forms g d h.1 (omega (arith, l))

module _ (system : System) (edge : ℕ) where
  abbrev n : ℕ
  n = length system.flow.names

  abbrev w : ℕ
  w = width n (edge_at system edge).actions

  abbrev forms : List Form
  forms = guard_forms n (edge_at system edge).actions

  -- the composed edge has as many guards as forms are read
  pub guard_count : (k : ℕ) → k ≡ length (edge_forms n system.template (edge_at system edge).actions).guards → k ≡ length forms
  guard_count k e = e ∙ length-map forms (dense w)

  -- a guard
  pub guard_form : (g : ℕ) (d : Form) (a : Affine) → g < length forms →
      slice_get (edge_forms n system.template (edge_at system edge).actions).guards g ≡ Some a →
      SameForm a.coeffs a.constant (get_or forms g d) × (length a.coeffs ≡ w)
  guard_form g d a l e = dense_form w (get_or forms g d) a (listed_form w forms g d a l e)
      (narrow_at w forms g d (guard_forms_width n (edge_at system edge).actions) l)

  -- the end value of a row
  pub end_form_at : (row : ℕ) (a : Affine) → row < length system.template
      → slice_get (edge_forms n system.template (edge_at system edge).actions).rows row ≡ Some a →
      SameForm a.coeffs a.constant (end_at system edge row) × (length a.coeffs ≡ w)
  end_form_at row a l e =
      let f : List ℤ → Affine = λ r. dense w (end_form n (edge_at system edge).actions r) in
      dense_form w (end_at system edge row) a
      (same_some a (dense w (end_at system edge row)) (sym e ∙ slice_get-map f system.template row
      ∙ ap (option_map f) (slice_get-get_or system.template row [] l)))
      (end_form_width n (edge_at system edge).actions (row_at system row))
