-- Valid steps stand for the same ones without zeros.
use Rattle.std.proofs.Common.{◌≡◌, ◌+◌, ℕ, List, [], ◌∷◌, map, cond, inl, inr, refl, ap, ap₂, ◌∙◌, arith}
use Rattle.std.specs.List.{count_by}
use Rattle.std.proofs.lemmas.List.Recursion.{is_count_by}
use Rattle.base_facts.specs.Elements.{In}
use Rattle.flow_edges.specs.declared.edge.Action.{Action}
use Rattle.flow_edges.specs.declared.edge.Action.TheVariants.{Guard, Assign, Havoc, Check}
use Rattle.flow_systems.specs.Cells.{is_havoc}
use Rattle.flow_systems.specs.Equations.{Equations, Vector}
use Rattle.flow_systems.specs.declared.trace.Trace.{Trace}
use Rattle.theory_validity.specs.Words.{free_count}
use Rattle.theory_validity.specs.Steps.{Item as TheoryItem, Sized, ValidStep, after_step, edge_of}
use Rattle.theory_validity.specs.Certificates.{ValidSteps}
use Rattle.cert_types.specs.Certificates.{jump_item, pieces_of, plain_item, ray_item, step_of}
use Rattle.cert_types.specs.declared.step.Item.{Item}
use Rattle.cert_types.specs.declared.step.JumpItem.{JumpItem}
use Rattle.cert_types.specs.declared.step.RayItem.{RayItem}
use Rattle.cert_types.specs.declared.step.Step.{Step}
use Rattle.cert_types.specs.declared.step.Step.TheVariants as fitted
use Rattle.cert_written.specs.declared.trace.Trace.{Trace as WrittenTrace}
use Rattle.cert_written.specs.declared.step.Item.{Item as WrittenItem}
use Rattle.cert_written.specs.declared.step.JumpItem.{JumpItem as WrittenJumpItem}
use Rattle.cert_written.specs.declared.step.RayItem.{RayItem as WrittenRayItem}
use Rattle.cert_written.specs.declared.step.Step.{Step as WrittenStep}
use Rattle.cert_written.specs.declared.step.Step.TheVariants.{Plain, Jump, Ray}
use Rattle.cert_written.specs.Bare.{bare_item, bare_jump_item, bare_ray_item, bare_step, bare_trace}
use Rattle.cert_fitted.specs.Dense.{dense_item, dense_jump_item, dense_ray_item, dense_step}
use Rattle.cert_fitted.specs.Fitted.{item_for, jump_item_for, ray_item_for, step_for, trace_for}
use Rattle.cert_fitted.specs.Needed.{frees_at}
use Rattle.cert_fitted.proofs.fitted_laws.Lists.{entries_same}

-- the two counts of free values are one
same_frees : (actions : List Action) → free_count actions ≡ count_by is_havoc actions
unfolding free_count
same_frees actions = is_count_by free_count is_havoc refl one actions
  where
    one : (a : Action) (actions : List Action) → free_count (a ∷ actions) ≡ cond (is_havoc a) (1 + free_count actions) (free_count actions)
    one (Guard form) actions = refl
    one (Assign var form) actions = refl
    one (Havoc var) actions = omega arith
    one (Check about) actions = refl

module _ (system : Equations) where
  -- a trace that has an edge's lengths
  trace_same : (t : WrittenTrace) (item : TheoryItem) → Sized system item (pieces_of (trace_for system item.edge t))
      → trace_for system item.edge (bare_trace t) ≡ trace_for system item.edge t
  unfolding edge_of
  trace_same t item s = ap₂ (λ a b. let r : Trace = record { start = a; free = b } in r) (entries_same system.variables t.start s.0)
      (entries_same (frees_at system item.edge) t.free (s.1 ∙ same_frees (edge_of system item).actions))

  module _ (rows : ℕ) (z : Vector) where
    plain_same : (items : List WrittenItem)
        → ((i : TheoryItem) → In (map (plain_item rows) (map (item_for system) items)) i → Sized system i i.low)
        → map (item_for system) (map bare_item items) ≡ map (item_for system) items
    plain_same [] h = refl
    plain_same (i ∷ items) h =
        ap₂ (λ (t : Trace) (xs : List Item). let r : Item = record { unknown = i.unknown; edge = i.edge; low = t; to = i.to } in r ∷ xs)
        (trace_same i.low (plain_item rows (item_for system i)) (h (plain_item rows (item_for system i)) (inl refl)))
        (plain_same items (λ x m. h x (inr m)))

    jump_same : (items : List WrittenJumpItem)
        → ((i : TheoryItem) → In (map (jump_item rows) (map (jump_item_for system) items)) i
        → Sized system i i.low × Sized system i i.second)
        → map (jump_item_for system) (map bare_jump_item items) ≡ map (jump_item_for system) items
    jump_same [] h = refl
    jump_same (i ∷ items) h =
        let j = jump_item rows (jump_item_for system i) in
        let s = h j (inl refl) in
        ap₂ (λ (r : JumpItem) (xs : List JumpItem). r ∷ xs)
        (ap₂ (λ (t u : Trace). let r : JumpItem = record { unknown = i.unknown; edge = i.edge; low = t; high = u; to = i.to } in r)
        (trace_same i.low j s.0) (trace_same i.high j s.1))
        (jump_same items (λ x m. h x (inr m)))

    ray_same : (items : List WrittenRayItem)
        → ((i : TheoryItem) → In (map (ray_item rows) (map (ray_item_for system) items)) i
        → Sized system i i.low × Sized system i i.second)
        → map (ray_item_for system) (map bare_ray_item items) ≡ map (ray_item_for system) items
    ray_same [] h = refl
    ray_same (i ∷ items) h =
        let j = ray_item rows (ray_item_for system i) in
        let s = h j (inl refl) in
        ap₂ (λ (r : RayItem) (xs : List RayItem). r ∷ xs)
        (ap₂ (λ (t u : Trace). let r : RayItem = record { unknown = i.unknown; edge = i.edge; low = t; direction = u; rate = i.rate } in r)
        (trace_same i.low j s.0) (trace_same i.direction j s.1))
        (ray_same items (λ x m. h x (inr m)))

    step_same : (s : WrittenStep) → ValidStep system z (step_of rows (step_for system s))
        → step_for system (bare_step s) ≡ step_for system s
    step_same (Plain items) v = ap (λ (xs : List Item). fitted.Plain xs) (plain_same items (λ i m. (v.valid i m).size))
    step_same (Jump items) v =
        ap (λ (xs : List JumpItem). fitted.Jump xs) (jump_same items (λ i m. let k = v.valid i m in (k.low_size, k.high_size)))
    step_same (Ray items) v =
        ap (λ (xs : List RayItem). fitted.Ray xs) (ray_same items (λ i m. let k = v.valid i m in (k.low_size, k.direction_size)))

  -- valid steps stand for the same ones without zeros
  pub steps_same : (rows : ℕ) (z : Vector) (steps : List WrittenStep)
      → ValidSteps system z (map (step_of rows) (map (step_for system) steps))
      → map (step_for system) (map bare_step steps) ≡ map (step_for system) steps
  steps_same rows z [] v = refl
  steps_same rows z (s ∷ steps) v =
      ap₂ (λ (x : Step) xs. x ∷ xs) (step_same rows z s v.0)
      (steps_same rows (after_step (step_of rows (step_for system s)) z) steps v.1)

  -- ---- with all entries

  plain_back : (items : List Item) → map (item_for system) (map dense_item items) ≡ items
  plain_back [] = refl
  plain_back (i ∷ items) = ap (λ (xs : List Item). i ∷ xs) (plain_back items)

  jump_back : (items : List JumpItem) → map (jump_item_for system) (map dense_jump_item items) ≡ items
  jump_back [] = refl
  jump_back (i ∷ items) = ap (λ (xs : List JumpItem). i ∷ xs) (jump_back items)

  ray_back : (items : List RayItem) → map (ray_item_for system) (map dense_ray_item items) ≡ items
  ray_back [] = refl
  ray_back (i ∷ items) = ap (λ (xs : List RayItem). i ∷ xs) (ray_back items)

  step_back : (s : Step) → step_for system (dense_step s) ≡ s
  step_back (fitted.Plain items) = ap (λ (xs : List Item). fitted.Plain xs) (plain_back items)
  step_back (fitted.Jump items) = ap (λ (xs : List JumpItem). fitted.Jump xs) (jump_back items)
  step_back (fitted.Ray items) = ap (λ (xs : List RayItem). fitted.Ray xs) (ray_back items)

  -- steps with all entries stand for themselves
  pub steps_back : (steps : List Step) → map (step_for system) (map dense_step steps) ≡ steps
  steps_back [] = refl
  steps_back (s ∷ steps) = ap₂ (λ (x : Step) xs. x ∷ xs) (step_back s) (steps_back steps)
