-- Composed forms at a place are the source of its problem.
use Rattle.std.proofs.Common.{◌≡◌, ◌∙◌, ℕ, ◌+◌, ◌*◌, ◌≤◌, List, [], length, length-append, map, refl, ap, sym, arith}
use Rattle.std.specs.Prelude.{ℤ}
use Rattle.std.proofs.lemmas.List.{length-map}
use Rattle.base_fractions.specs.declared.ext.Ext.{Ext}
use Rattle.lang_tree.specs.declared.form.Form.{Form}
use Rattle.flow_edges.specs.declared.edge.Action.{Action}
use Rattle.flow_edges.specs.declared.edge.Action.TheVariants.{Guard}
use Rattle.flow_edges.specs.Steps.{guards}
use Rattle.flow_systems.specs.Equations.{Equations, Vector}
use Rattle.theory_validity.specs.Words.{combined, width, guard_forms, end_form}
use Rattle.solve_composition.specs.declared.affine.Affine.{Affine}
use Rattle.solve_composition.specs.declared.placed.PlacedForms.{PlacedForms}
use Rattle.solve_composition.specs.Behind.{placed_actions, placed_forms, end_forms}
use Rattle.solve_composition.specs.Composed.{dense}
use Rattle.solve_composition.proofs.behind.Forms.{frees_behind}
use Rattle.solve_transformer.specs.Places.{placed_edge, nothing}
use Rattle.solve_transformer.specs.Splits.{bounds_at, IsSource}
use Rattle.solve_transformer.proofs.transform.Operated.{frees_few, forms_few}
use Rattle.flow_edges.specs.declared.limits.TheConstants.{MOST_ACTIONS}

module _ (system : Equations) (z : Vector) (p : ℕ) (before : List Action) (gs : List Form) (template : List (List ℤ))
    (t : template ≡ system.template) (source : List Ext) (b : bounds_at source ≡ z p) (forms : PlacedForms)
    (is : forms ≡ placed_forms system.variables before gs) where
  columns_are : (w : ℕ) → w ≡ system.variables + forms.frees → w ≡ width system.variables (placed_actions before gs)
  unfolding width
  columns_are w e = e ∙ ap (λ (f : PlacedForms). system.variables + f.frees) is

  -- the forms at a place and the row without coefficients are a source
  pub placed_source : (list : List Affine) → list ≡ forms.guards → (form : Affine) →
      form ≡ dense (system.variables + forms.frees) nothing →
      IsSource system z (placed_edge p before gs) [] (system.variables + forms.frees) template source list form
  unfolding end_form combined
  placed_source list l form f =
      let n = system.variables in
      let actions = placed_actions before gs in
      let columns = columns_are (n + forms.frees) refl in
      record {
        columns = columns;
        rows = t;
        bounds = b;
        limits = l ∙ ap (λ (g : PlacedForms). g.guards) is ∙ ap (λ m. map (dense m) (guard_forms n actions)) (sym columns);
        goal = f;
      }

-- the forms at a place have few free values and few guards
pub placed_frees : (n : ℕ) (before : List Action) (gs : List Form) (forms : PlacedForms) → forms ≡ placed_forms n before gs
    → length before ≤ MOST_ACTIONS → forms.frees ≤ MOST_ACTIONS
placed_frees n before gs forms is l =
    let count = ap (λ (f : PlacedForms). f.frees) is ∙ frees_behind before gs in
    let few = frees_few before in
    omega (arith, count, few, l)

-- so they have
pub placed_guards : (n : ℕ) (before : List Action) (gs : List Form) (forms : PlacedForms) → forms ≡ placed_forms n before gs
    → length before ≤ MOST_ACTIONS → length gs ≤ MOST_ACTIONS → length forms.guards ≤ 2 * MOST_ACTIONS
placed_guards n before gs forms is l m =
    let actions = placed_actions before gs in
    let count = ap (λ (f : PlacedForms). length f.guards) is ∙ length-map (guard_forms n actions) (dense (width n actions)) in
    let few = forms_few n actions in
    let all = length-append before (guards gs) in
    let each = length-map gs Guard in
    omega (arith, count, few, all, each, l, m)

-- the variables at a place are those of its edge
pub placed_ends : (system : Equations) (before : List Action) (gs : List Form) (forms : PlacedForms)
    → forms ≡ placed_forms system.variables before gs →
    forms.ends ≡ map (dense (width system.variables (placed_actions before gs))) (end_forms system.variables (placed_actions before gs))
placed_ends system before gs forms is = ap (λ (f : PlacedForms). f.ends) is
