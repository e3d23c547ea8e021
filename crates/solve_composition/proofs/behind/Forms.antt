-- Actions with guards behind them: their forms, and the operations by which these are composed.
use Rattle.std.proofs.Common.{◌≡◌, ◌∙◌, ℕ, suc, ◌+◌, List, [], ◌∷◌, ◌++◌, map, None, append_assoc, refl, ap, ap₂, sym, subst}
use Rattle.std.specs.Prelude.{flat_map}
use Rattle.std.proofs.lemmas.List.{map-append}
use Rattle.base_fractions.specs.Fits.{long_limit}
use Rattle.base_fractions.specs.Operation.{first_wide}
use Rattle.lang_tree.specs.declared.form.Form.{Form}
use Rattle.flow_edges.specs.declared.edge.Action.{Action}
use Rattle.flow_edges.specs.declared.edge.Action.TheVariants.{Guard, Assign, Havoc, Check}
use Rattle.flow_edges.specs.Steps.{guards}
use Rattle.flow_systems.specs.Faults.{OperationFault, IsFaultOf}
use Rattle.flow_systems.proofs.Faults.{sooner, later}
use Rattle.flow_systems.proofs.Widths.{first_wide_later}
use Rattle.theory_validity.specs.Words.{Affine as Formal, with_form, column, columns, composed, free_count, width, guards_from, ends_from}
use Rattle.theory_validity.specs.Words.{guard_forms}
use Rattle.solve_composition.specs.declared.affine.Affine.{Affine}
use Rattle.solve_composition.specs.declared.placed.PlacedForms.{PlacedForms}
use Rattle.solve_composition.specs.Composed.{dense}
use Rattle.solve_composition.specs.Operations.{form_composition, actions_composition}
use Rattle.solve_composition.specs.Behind.{placed_actions, placed_forms, placed_composition, end_forms}

guards_free : (gs : List Form) → free_count (guards gs) ≡ 0
unfolding free_count
guards_free [] = refl
guards_free (g ∷ gs) = guards_free gs

-- guards have no free values, so there are those of the actions before
pub frees_behind : (before : List Action) (gs : List Form) → free_count (placed_actions before gs) ≡ free_count before
unfolding free_count
frees_behind [] gs = guards_free gs
frees_behind (Guard form ∷ before) gs = frees_behind before gs
frees_behind (Assign var form ∷ before) gs = frees_behind before gs
frees_behind (Havoc var ∷ before) gs = ap suc (frees_behind before gs)
frees_behind (Check about ∷ before) gs = frees_behind before gs

-- nor columns
pub width_behind : (n : ℕ) (before : List Action) (gs : List Form) → width n (placed_actions before gs) ≡ width n before
unfolding width
width_behind n before gs = ap (λ k. n + k) (frees_behind before gs)

-- guards alone leave the variables as they are
pub ends_only : (k : ℕ) (fs : List Formal) (gs : List Form) → ends_from k fs (guards gs) ≡ fs
unfolding ends_from
ends_only k fs [] = refl
ends_only k fs (g ∷ gs) = ends_only k fs gs

-- guards leave the variables as they are
pub ends_behind : (k : ℕ) (fs : List Formal) (before : List Action) (gs : List Form)
    → ends_from k fs (placed_actions before gs) ≡ ends_from k fs before
unfolding ends_from
ends_behind k fs [] gs = ends_only k fs gs
ends_behind k fs (Guard form ∷ before) gs = ends_behind k fs before gs
ends_behind k fs (Assign var form ∷ before) gs = ends_behind k (with_form fs var (composed form fs)) before gs
ends_behind k fs (Havoc var ∷ before) gs = ends_behind (suc k) (with_form fs var (column k)) before gs
ends_behind k fs (Check about ∷ before) gs = ends_behind k fs before gs

guards_only : (k : ℕ) (fs : List Formal) (gs : List Form) → guards_from k fs (guards gs) ≡ map (λ g. composed g fs) gs
unfolding guards_from
guards_only k fs [] = refl
guards_only k fs (g ∷ gs) = ap (λ xs. composed g fs ∷ xs) (guards_only k fs gs)

-- the guards are those of the actions before, and then those at their end
pub guards_behind : (k : ℕ) (fs : List Formal) (before : List Action) (gs : List Form)
    → guards_from k fs (placed_actions before gs) ≡ guards_from k fs before ++ map (λ g. composed g (ends_from k fs before)) gs
unfolding guards_from ends_from
guards_behind k fs [] gs = guards_only k fs gs
guards_behind k fs (Guard form ∷ before) gs = ap (λ xs. composed form fs ∷ xs) (guards_behind k fs before gs)
guards_behind k fs (Assign var form ∷ before) gs = guards_behind k (with_form fs var (composed form fs)) before gs
guards_behind k fs (Havoc var ∷ before) gs = guards_behind (suc k) (with_form fs var (column k)) before gs
guards_behind k fs (Check about ∷ before) gs = guards_behind k fs before gs

-- the operations of guards alone
pub composition_only : (w k : ℕ) (fs : List Formal) (gs : List Form)
    → actions_composition w [] k fs (guards gs) ≡ flat_map (form_composition w fs) gs
composition_only w k fs [] = refl
composition_only w k fs (g ∷ gs) = ap (λ os. form_composition w fs g ++ os) (composition_only w k fs gs)

-- so are the operations
pub composition_behind : (w k : ℕ) (fs : List Formal) (before : List Action) (gs : List Form)
    → actions_composition w [] k fs (placed_actions before gs)
    ≡ actions_composition w [] k fs before ++ flat_map (form_composition w (ends_from k fs before)) gs
unfolding ends_from
composition_behind w k fs [] gs = composition_only w k fs gs
composition_behind w k fs (Guard form ∷ before) gs =
    ap (λ os. form_composition w fs form ++ os) (composition_behind w k fs before gs)
    ∙ sym (append_assoc (form_composition w fs form) (actions_composition w [] k fs before)
    (flat_map (form_composition w (ends_from k fs before)) gs))
composition_behind w k fs (Assign var form ∷ before) gs =
    let next = with_form fs var (composed form fs) in
    ap (λ os. form_composition w fs form ++ os) (composition_behind w k next before gs)
    ∙ sym (append_assoc (form_composition w fs form) (actions_composition w [] k next before)
    (flat_map (form_composition w (ends_from k next before)) gs))
composition_behind w k fs (Havoc var ∷ before) gs = composition_behind w (suc k) (with_form fs var (column k)) before gs
composition_behind w k fs (Check about ∷ before) gs = composition_behind w k fs before gs

dense_composed : (w : ℕ) (fs : List Formal) (gs : List Form)
    → map (dense w) (map (λ g. composed g fs) gs) ≡ map (λ g. dense w (composed g fs)) gs
dense_composed w fs [] = refl
dense_composed w fs (g ∷ gs) = ap (λ xs. dense w (composed g fs) ∷ xs) (dense_composed w fs gs)

guard_forms_are : (n : ℕ) (actions : List Action) → guard_forms n actions ≡ guards_from n (columns n) actions
unfolding guard_forms
guard_forms_are n actions = refl

-- ---- the whole
module _ (n w k : ℕ) (before : List Action) (gs : List Form) (e : w ≡ width n before) (s : k ≡ n) where
  moved : actions_composition w [] k (columns n) (placed_actions before gs) ≡ placed_composition n before gs
  moved = ap₂ (λ v j. actions_composition v [] j (columns n) (placed_actions before gs)) (e ∙ sym (width_behind n before gs)) s

  all : actions_composition w [] k (columns n) before ++ flat_map (form_composition w (ends_from k (columns n) before)) gs
      ≡ placed_composition n before gs
  all = sym (composition_behind w k (columns n) before gs) ∙ moved

  -- a fault of the actions
  pub placed_refused : (fault : OperationFault) → IsFaultOf (actions_composition w [] k (columns n) before) fault
      → IsFaultOf (placed_composition n before gs) fault
  placed_refused fault h = subst (λ os. IsFaultOf os fault) all
      (sooner (actions_composition w [] k (columns n) before) (flat_map (form_composition w (ends_from k (columns n) before)) gs) fault h)

  module _ (none : first_wide long_limit (actions_composition w [] k (columns n) before) ≡ None) where
    -- a fault of the guards
    pub behind_refused : (fault : OperationFault) → IsFaultOf (flat_map (form_composition w (ends_from k (columns n) before)) gs) fault
        → IsFaultOf (placed_composition n before gs) fault
    behind_refused fault h = subst (λ os. IsFaultOf os fault) all
        (later (actions_composition w [] k (columns n) before) (flat_map (form_composition w (ends_from k (columns n) before)) gs) fault
        none h)

    -- no fault
    pub placed_composed : (frees : ℕ) (front list ends : List Affine) → frees ≡ free_count before
        → front ≡ map (dense w) (guards_from k (columns n) before) → ends ≡ map (dense w) (ends_from k (columns n) before) →
        list ≡ front ++ map (λ g. dense w (composed g (ends_from k (columns n) before))) gs →
        first_wide long_limit (flat_map (form_composition w (ends_from k (columns n) before)) gs) ≡ None →
        (let r : PlacedForms = record { frees = frees; guards = list; ends = ends } in r ≡ placed_forms n before gs)
        × (first_wide long_limit (placed_composition n before gs) ≡ None)
    placed_composed frees front list ends f g t l h =
        let wide = e ∙ sym (width_behind n before gs) in
        let cols = columns n in
        let made = l ∙ ap₂ (λ xs ys. xs ++ ys) g (sym (dense_composed w (ends_from k cols before) gs))
        ∙ sym (map-append (dense w) (guards_from k cols before) (map (λ x. composed x (ends_from k cols before)) gs))
        ∙ ap (map (dense w)) (sym (guards_behind k cols before gs)) ∙ ap
        (λ j. map (dense w) (guards_from j cols (placed_actions before gs))) s
        ∙ ap (map (dense w)) (sym (guard_forms_are n (placed_actions before gs)))
        ∙ ap (λ v. map (dense v) (guard_forms n (placed_actions before gs))) wide in
        let ended = t ∙ ap (map (dense w)) (sym (ends_behind k cols before gs))
        ∙ ap (λ j. map (dense w) (ends_from j cols (placed_actions before gs))) s
        ∙ ap (λ v. map (dense v) (end_forms n (placed_actions before gs))) wide in (
          ap (λ x. let r : PlacedForms = record { frees = x; guards = list; ends = ends } in r) (f ∙ sym (frees_behind before gs))
              ∙ ap₂ (λ x y. let r : PlacedForms = record { frees = free_count (placed_actions before gs); guards = x; ends = y } in r) made
              ended,
          ap (first_wide long_limit) (sym all)
              ∙ first_wide_later long_limit (actions_composition w [] k cols before)
              (flat_map (form_composition w (ends_from k cols before)) gs) none ∙ h,
        )
