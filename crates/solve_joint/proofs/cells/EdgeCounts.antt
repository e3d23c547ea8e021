-- How many guards and free values a composed edge has.
use Rattle.std.proofs.Common.{◌≡◌, ◌∙◌, ℕ, suc, ◌+◌, ◌<◌, ◌≤◌, cond, List, [], ◌∷◌, length, refl, Some, arith}
use Rattle.std.specs.Prelude.{slice_get}
use Rattle.std.proofs.lemmas.List.{length-map}
use Rattle.std.proofs.lemmas.List.Sums.{sum_by-cons}
use Rattle.flow_edges.specs.declared.edge.Action.{Action}
use Rattle.flow_edges.specs.declared.edge.Action.TheVariants.{Guard, Assign, Havoc, Check}
use Rattle.flow_edges.specs.declared.limits.TheConstants.{MOST_ACTIONS}
use Rattle.flow_systems.specs.Cells.{guard_count, is_guard}
use Rattle.flow_systems.specs.FreeValues.{free_count}
use Rattle.flow_systems.specs.View.{edge_at, equations_of}
use Rattle.flow_systems.specs.declared.system.System.{System}
use Rattle.flow_systems.proofs.free_values.CellCounts.{frees_few, guards_few}
use Rattle.theory_validity.specs.Words.{Affine, column, columns, composed, guard_forms, guards_from, width, with_form}
use Rattle.theory_validity.specs.Words.{free_count as word_count}
use Rattle.solve_composition.specs.Composed.{AreComposed, EdgeForms, dense, edge_forms}
use Rattle.solve_joint.proofs.joint_problem.EdgeSizes.{few_actions}
use Rattle.solve_joint.proofs.problem.PathForms.{path_at}

guard-cons : (a : Action) (actions : List Action) → guard_count (a ∷ actions) ≡ cond (is_guard a) 1 0 + guard_count actions
guard-cons a actions = sum_by-cons (λ b. cond (is_guard b) 1 0) a actions

forms_counted : (k : ℕ) (fs : List Affine) (actions : List Action) → length (guards_from k fs actions) ≡ guard_count actions
unfolding guards_from
forms_counted k fs [] = refl
forms_counted k fs (Guard form ∷ actions) = omega (arith, guard-cons (Guard form) actions, forms_counted k fs actions)
forms_counted k fs (Assign var form ∷ actions) =
    omega (arith, guard-cons (Assign var form) actions, forms_counted k (with_form fs var (composed form fs)) actions)
forms_counted k fs (Havoc var ∷ actions) =
    omega (arith, guard-cons (Havoc var) actions, forms_counted (suc k) (with_form fs var (column k)) actions)
forms_counted k fs (Check about ∷ actions) = omega (arith, guard-cons (Check about) actions, forms_counted k fs actions)

-- an edge has a form for each guard
pub guards_counted : (n : ℕ) (actions : List Action) → length (guard_forms n actions) ≡ guard_count actions
unfolding guard_forms
guards_counted n actions = forms_counted n (columns n) actions

-- free values are counted as free assignments
pub frees_counted : (actions : List Action) → word_count actions ≡ free_count actions
unfolding word_count
frees_counted [] = refl
frees_counted (Guard form ∷ actions) = frees_counted actions
frees_counted (Assign var form ∷ actions) = frees_counted actions
frees_counted (Havoc var ∷ actions) = omega (arith, frees_counted actions)
frees_counted (Check about ∷ actions) = frees_counted actions

module _ (system : System) (paths : List EdgeForms) (edge : ℕ) (composed : AreComposed (equations_of system) paths)
    (within : edge < length system.flow.edges) where
  -- the composed edge has as many guards as the edge
  pub guards_are : (k : ℕ) → ((forms : EdgeForms) → slice_get paths edge ≡ Some forms → k ≡ length forms.guards)
      → k ≡ guard_count (edge_at system edge).actions
  guards_are k h =
      let n = length system.flow.names in
      let actions = (edge_at system edge).actions in
      h (edge_forms n system.template actions) (path_at system paths edge composed within)
      ∙ length-map (guard_forms n actions) (dense (width n actions)) ∙ guards_counted n actions

  -- and as many free values
  pub frees_are : (k : ℕ) → ((forms : EdgeForms) → slice_get paths edge ≡ Some forms → k ≡ forms.frees)
      → k ≡ free_count (edge_at system edge).actions
  frees_are k h =
      h (edge_forms (length system.flow.names) system.template (edge_at system edge).actions) (path_at system paths edge composed within)
      ∙ frees_counted (edge_at system edge).actions

  -- an edge has few guards
  pub guards_within : (k : ℕ) → k ≡ guard_count (edge_at system edge).actions → k ≤ MOST_ACTIONS
  guards_within k e = omega (arith, e, guards_few (edge_at system edge).actions, few_actions system edge within)

  -- and few free values
  pub frees_within : (k : ℕ) → k ≡ free_count (edge_at system edge).actions → k ≤ MOST_ACTIONS
  frees_within k e = omega (arith, e, frees_few (edge_at system edge).actions, few_actions system edge within)
