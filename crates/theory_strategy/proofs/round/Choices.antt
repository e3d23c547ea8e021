-- The list of a pick's choices, in order of unknowns.
use Rattle.std.proofs.Common.{◌≡◌, inl, ⊎_elim, ℕ, length, refl, ap, subst, arith}
use Rattle.std.specs.Prelude.{Option, Some, None, flat_map}
use Rattle.std.specs.List.{range_with_len}
use Rattle.base_facts.proofs.elements.Membership.{in_flat_map, in_range, of_flat_map}
use Rattle.base_facts.specs.Elements.{In}
use Rattle.flow_systems.specs.Equations.{Equations}
use Rattle.theory_validity.specs.Steps.{Item}
use Rattle.theory_strategy.specs.Picks.{Pick, Picks, IsPick, choice, choice_at, choices}

-- every choice of the list is picked
pub choices_picked : (system : Equations) (pick : Pick) (u : Item) → In (choices system pick) u → Picks pick u
unfolding choices choice_at choice
choices_picked system pick u m =
    let a = of_flat_map (λ p. flat_map (λ r. choice_at p r (pick p r)) (range_with_len 0 (length system.template)))
    (range_with_len 0 system.points) u m in
    let b = of_flat_map (λ r. choice_at a.0 r (pick a.0 r)) (range_with_len 0 (length system.template)) u a.2 in
    by (pick a.0 b.0) refl b.2
  where
    by : {p r : ℕ} (o : Option ℕ) → pick p r ≡ o → In (choice_at p r o) u → Picks pick u
    by {p} {r} (Some k) e m = ⊎_elim (λ f. subst (Picks pick) f e) (λ k. absurd k) m
    by None e m = absurd m

-- every picked unknown is in the list
pub picked_choice : (system : Equations) (pick : Pick) (u : Item) → IsPick system pick → Picks pick u →
    (v : Item) × In (choices system pick) v × (v.point ≡ u.point) × (v.row ≡ u.row) × (v.edge ≡ u.edge)
unfolding choices choice choice_at
picked_choice system pick u is_pick h =
    let p = is_pick u h in (
      choice u.point u.row u.edge,
      in_flat_map (λ p. flat_map (λ r. choice_at p r (pick p r)) (range_with_len 0 (length system.template)))
          (range_with_len 0 system.points) u.point (choice u.point u.row u.edge)
          (in_range 0 system.points u.point (omega arith) (omega (arith, p.point_within)))
          (in_flat_map (λ r. choice_at u.point r (pick u.point r)) (range_with_len 0 (length system.template)) u.row
          (choice u.point u.row u.edge)
          (in_range 0 (length system.template) u.row (omega arith) (omega (arith, p.row_within)))
          (at (pick u.point u.row) h)),
      refl,
      refl,
      refl,
    )
  where
    at : (o : Option ℕ) → o ≡ Some u.edge → In (choice_at u.point u.row o) (choice u.point u.row u.edge)
    at (Some k) e = inl (ap (choice u.point u.row) (same e))
      where
        same : Some k ≡ Some u.edge → k ≡ u.edge
        same e = cc
    at None e = cc
