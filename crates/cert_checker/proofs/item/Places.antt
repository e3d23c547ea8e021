-- What an item's numbers find.
use Rattle.std.proofs.Common.{◌≡◌, ◌∙◌, ℕ, ◌%◌, length, refl, sym, ap, subst}
use Rattle.std.specs.Prelude.{Some, IsTrue, slice_get}
use Rattle.flow_edges.specs.declared.edge.Edge.{Edge}
use Rattle.flow_systems.specs.FreeValues.{free_count}
use Rattle.flow_systems.specs.Equations.{Equations}
use Rattle.cert_types.specs.declared.step.Step.{Step}
use Rattle.cert_types.specs.declared.step.Step.TheVariants.{Plain, Jump, Ray}
use Rattle.cert_types.specs.Certificates.{step_of}
use Rattle.theory_validity.specs.Words.{free_count as word_count}
use Rattle.theory_validity.specs.Steps.{Pieces, Item, Kind, edge_of, row_of, Placed, Sized}
use Rattle.cert_checker.specs.Items.{has_second}
use Rattle.cert_checker.proofs.following.Traces.{count_same}
use Rattle.cert_checker.proofs.names.Items.{edge_found, row_found}

-- jumps and rays have second traces
pub jump_second : (rows : ℕ) (step : Step) → (step_of rows step).kind ≡ Kind.Jump → IsTrue (has_second step)
jump_second rows (Plain items) e = cc
jump_second rows (Jump items) e = refl
jump_second rows (Ray items) e = cc

-- a ray has second traces
pub ray_second : (rows : ℕ) (step : Step) → (step_of rows step).kind ≡ Kind.Ray → IsTrue (has_second step)
ray_second rows (Plain items) e = cc
ray_second rows (Jump items) e = cc
ray_second rows (Ray items) e = refl

module _ (system : Equations) (item : Item) (placed : Placed system item) (edge : ℕ) (same : item.edge ≡ edge) where
  -- its edge
  pub edge_at_place : slice_get system.edges edge ≡ Some (edge_of system item)
  edge_at_place = subst (λ n. slice_get system.edges n ≡ Some (edge_of system item)) same (edge_found system item placed.edge_within)

  -- the free values of a trace that has the edge's lengths
  pub free_of : (t : Pieces) → Sized system item t → (e : Edge) → slice_get system.edges edge ≡ Some e
      → length t.free ≡ free_count e.actions
  free_of t h e f =
      let g = edge_at_place in
      let q : edge_of system item ≡ e = cc in
      h.1 ∙ ap (λ x. word_count x.actions) q ∙ sym (count_same e.actions)

-- its row
pub row_at_place : (system : Equations) (item : Item) → Placed system item → (u n : ℕ) → item.row ≡ u % length system.template
    → n ≡ length system.template → slice_get system.template (u % n) ≡ Some (row_of system item)
row_at_place system item placed u n row e = subst (λ k. slice_get system.template k ≡ Some (row_of system item))
    (row ∙ ap (λ m. u % m) (sym e)) (row_found system item placed.row_within)
