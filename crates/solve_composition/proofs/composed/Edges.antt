-- The composed forms of one edge.
use Rattle.std.proofs.Common.{◌≡◌, ◌∙◌, ℕ, ◌+◌, ◌≤◌, ℤ, List, length, map, None, refl, ap, ap₂, sym, subst, arith}
use Rattle.std.specs.Prelude.{flat_map}
use Rattle.std.proofs.lemmas.List.{length-map}
use Rattle.flow_edges.specs.declared.edge.Action.{Action}
use Rattle.base_fractions.specs.Fits.{long_limit}
use Rattle.base_fractions.specs.Operation.{first_wide}
use Rattle.theory_validity.specs.Words.{columns, combined, free_count, width, guards_from, ends_from, guard_forms, end_form}
use Rattle.solve_composition.specs.declared.affine.Affine.{Affine}
use Rattle.flow_systems.specs.declared.fault.Fault.TheVariants.{Wide, NoMemory}
use Rattle.solve_composition.specs.Composed.{EdgeForms, dense, edge_forms}
use Rattle.solve_composition.specs.Operations.{row_composition, actions_composition, edge_composition}
use Rattle.flow_systems.specs.Faults.{OperationFault, IsFaultOf}
use Rattle.solve_composition.proofs.operations.Walked.{guards_few}
use Rattle.solve_composition.proofs.walk.States.{length-columns}
use Rattle.flow_edges.specs.declared.limits.TheConstants.{MOST_ACTIONS}

-- the start variables and the free values of actions are together their width
pub width_is : (n frees : ℕ) (actions : List Action) → frees ≡ free_count actions → n + frees ≡ width n actions
unfolding width
width_is n frees actions e = ap (λ h. n + h) e

-- a start state has a form for each variable
pub start_size : (w n : ℕ) (state : List Affine) → state ≡ map (dense w) (columns n) → length state ≡ n
start_size w n state e = ap (λ (s : List Affine). length s) e ∙ length-map (columns n) (dense w) ∙ length-columns n

guard_forms_are : (n : ℕ) (actions : List Action) → guard_forms n actions ≡ guards_from n (columns n) actions
unfolding guard_forms
guard_forms_are n actions = refl

end_forms_are : (n w : ℕ) (actions : List Action) (template : List (List ℤ))
    → map (λ row. dense w (combined row (ends_from n (columns n) actions))) template
    ≡ map (λ row. dense w (end_form n actions row)) template
unfolding end_form
end_forms_are n w actions template = refl

module _ (n w k : ℕ) (template : List (List ℤ)) (actions : List Action) (e : w ≡ width n actions) (s : k ≡ n) where
  -- a fault in the actions
  pub edge_refused : (fault : OperationFault) → IsFaultOf (actions_composition w template k (columns n) actions) fault
      → IsFaultOf (edge_composition n template actions) fault
  edge_refused fault h =
      subst (λ j. IsFaultOf (actions_composition j template n (columns n) actions) fault) e
      (subst (λ j. IsFaultOf (actions_composition w template j (columns n) actions) fault) s h)

  module _ (f : first_wide long_limit (actions_composition w template k (columns n) actions)
      ≡ first_wide long_limit (flat_map (row_composition w (ends_from k (columns n) actions)) template)) where
    -- a fault in the rows
    pub rows_refused : (fault : OperationFault) → IsFaultOf (flat_map (row_composition w (ends_from k (columns n) actions)) template) fault
        → IsFaultOf (edge_composition n template actions) fault
    rows_refused (Wide o) h = edge_refused (Wide o) (f ∙ h)
    rows_refused NoMemory h = tt

    -- no fault
    pub edge_composed : (frees : ℕ) (guards rows : List Affine) → frees ≡ free_count actions
        → guards ≡ map (dense w) (guards_from k (columns n) actions) →
        rows ≡ map (λ row. dense w (combined row (ends_from k (columns n) actions))) template
        → first_wide long_limit (flat_map (row_composition w (ends_from k (columns n) actions)) template) ≡ None →
        (let r : EdgeForms = record { frees = frees; guards = guards; rows = rows } in r ≡ edge_forms n template actions)
        × (first_wide long_limit (edge_composition n template actions) ≡ None)
    edge_composed frees guards rows c g r h = (
      ap (λ x. let t : EdgeForms = record { frees = x; guards = guards; rows = rows } in t) c
          ∙ ap₂ (λ x y. let t : EdgeForms = record { frees = free_count actions; guards = x; rows = y } in t)
          (g ∙ ap (λ j. map (dense w) (guards_from j (columns n) actions)) s ∙ ap (map (dense w)) (sym (guard_forms_are n actions))
          ∙ ap (λ j. map (dense j) (guard_forms n actions)) e)
          (r ∙ ap (λ j. map (λ row. dense w (combined row (ends_from j (columns n) actions))) template) s
          ∙ end_forms_are n w actions template ∙ ap (λ j. map (λ row. dense j (end_form n actions row)) template) e),
      sym (ap (λ j. first_wide long_limit (actions_composition j template n (columns n) actions)) e)
          ∙ sym (ap (λ j. first_wide long_limit (actions_composition w template j (columns n) actions)) s) ∙ f ∙ h,
    )

-- an edge has no more guards than actions
pub guards_within : (n k : ℕ) (w : ℕ) (actions : List Action) (guards : List Affine)
    → guards ≡ map (dense w) (guards_from k (columns n) actions) → length actions ≤ MOST_ACTIONS → length guards ≤ MOST_ACTIONS
guards_within n k w actions guards e l =
    let a = ap (λ (gs : List Affine). length gs) e ∙ length-map (guards_from k (columns n) actions) (dense w) in
    let b = guards_few k (columns n) actions in
    omega (arith, a, b, l)
