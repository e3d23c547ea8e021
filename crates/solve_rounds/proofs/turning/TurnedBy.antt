-- What one turn of the code makes of the bounds, the steps and the list is what an outcome with its facts makes of them, whichever
-- that is.
use Rattle.std.proofs.Common.{◌≡◌, ◌∙◌, ℕ, ◌+◌, ◌*◌, ◌/◌, ◌%◌, ◌<◌, Bool, true, false, List, [], ◌∷◌, ◌++◌, length, get_or, map, sym, ap}
use Rattle.std.proofs.Common.{ap₂, subst, subst₂, arith, length-append}
use Rattle.std.specs.Prelude.{Option, Some, None}
use Rattle.std.proofs.lemmas.Nat.{div-add-mod'}
use Rattle.std.proofs.lemmas.List.{length-map, map-append}
use Rattle.base_facts.proofs.elements.Membership.{in_map}
use Rattle.base_facts.specs.Elements.{In}
use Rattle.base_numbers.specs.Rational.{ℚ, zero_ℚ}
use Rattle.base_numbers.specs.Extended.{neg_inf, fin, pos_inf}
use Rattle.flow_systems.specs.Equations.{Equations, Vector}
use Rattle.flow_systems.specs.View.{equations_of, vector_of}
use Rattle.flow_systems.specs.declared.system.System.{System}
use Rattle.flow_systems.specs.declared.trace.Trace.{Trace}
use Rattle.theory_validity.specs.Steps.{Item, Ray as RayKind, put, new_value, after_step, Unnamed, Distinct}
use Rattle.theory_validity.proofs.steps.Puts.{put-named, put-unnamed}
use Rattle.cert_types.specs.declared.step.Step.{Step as CodeStep}
use Rattle.cert_types.specs.declared.step.Step.TheVariants.{Jump as JumpStep, Ray as RayStep}
use Rattle.cert_types.specs.Certificates.{step_of, ray_item}
use Rattle.solve_ray.specs.declared.rate.RateOf.{RateOf}
use Rattle.solve_ray.specs.declared.rate.Rates.{Rates}
use Rattle.theory_strategy.specs.Round.{ListCondition, without}
use Rattle.theory_strategy.specs.Turns.{step_by, left_by}
use Rattle.theory_strategy.proofs.round.TurnLaw.{fewer_without}
use Rattle.solve_joint.specs.declared.joined.Joined.{Joined}
use Rattle.solve_joint.specs.declared.joined.Joined.TheVariants.{Point as PointRead, Ray as RayRead}
use Rattle.solve_rounds.specs.declared.turning.Turning.{Turning}
use Rattle.solve_offers.specs.AtBounds.{vector_at, transformers}
use Rattle.solve_offers.specs.Improvement.{pick_of}
use Rattle.solve_rounds.specs.Growing.{Agrees}
use Rattle.solve_rounds.specs.Lows.{edge_in, raise_at, item_in, IsRaised, items_at}
use Rattle.solve_rounds.specs.Turning.{is_finite, jump_items_at, ray_item_of, turns_so_far, HasSizes, IsPart, IsTurned, IsTaken}
use Rattle.solve_rounds.proofs.putting.Puts.{length-puts}
use Rattle.solve_rounds.proofs.turning.TurnItems.{in_place}
use Rattle.solve_rounds.proofs.lows.ListedLows.{raised_item}
use Rattle.solve_rounds.proofs.lows.LeftOver.{kept_each, kept_rises, kept_picked, left_is}
use Rattle.solve_rounds.proofs.turning.Turned.{row_in, point_agrees, ray_agrees}
use Rattle.solve_rounds.proofs.turning.OutcomeFacts.{outcome_of, HasFacts}

module _ (system : System) (pick : List (Option ℕ))
    (raises : List CodeStep) (places list : List ℕ) (part : IsPart system pick raises places list)
    (some : 0 < length list) (old new : Turning) (left : List ℕ) (size :
    length old.bounds ≡ length system.flow.points * length system.template)
    (condition : ListCondition (equations_of system) (transformers system) (pick_of (length system.template) pick)
    (vector_at system old.bounds) (items_at (length system.template) raises places list)) where
  abbrev rows : ℕ
  rows = length system.template

  abbrev eqs : Equations
  eqs = equations_of system

  abbrev V : Vector
  V = vector_at system old.bounds

  abbrev items : List Item
  items = items_at rows raises places list

  -- one step more
  one_more : (step : CodeStep) → new.steps.items ≡ old.steps.items ++ step ∷ []
      → (turns_so_far system new ≡ turns_so_far system old ++ step_of rows step ∷ [])
      × (length new.steps.items ≡ length old.steps.items + 1)
  one_more step e = (
    ap (map (step_of rows)) e ∙ map-append (step_of rows) old.steps.items (step ∷ []),
    ap length e ∙ length-append old.steps.items (step ∷ []),
  )

  none_left : IsPart system pick raises places []
  none_left = record { rises = tt; picked = tt; raised = λ k l. absurd (omega arith); edges = λ k l. absurd (omega arith) }

  -- the new bound of an unknown of the list
  bound_at : (u : ℕ) → get_or new.bounds u neg_inf ≡ vector_at system new.bounds (u / rows) (u % rows)
  bound_at u = ap (λ n. get_or new.bounds n neg_inf) (sym (div-add-mod' u rows))

  item_at : ℕ → Item
  item_at k = item_in rows (raise_at raises places (get_or list k 0))

  item_place : (k : ℕ) → k < length list → ((item_at k).point ≡ get_or list k 0 / rows) × ((item_at k).row ≡ get_or list k 0 % rows)
  unfolding item_at
  item_place k l = raised_item rows raises places (get_or list k 0) (part.raised k l)

  new_at : (its : List Item) → Agrees system (after_step (record { kind = RayKind; items = its }) V) new.bounds → (k : ℕ) → k < length list
      → put (new_value RayKind) its V (item_at k).point (item_at k).row ≡ get_or new.bounds (get_or list k 0) neg_inf
  unfolding after_step
  new_at its agrees k l =
      let p = item_place k l in
      ap₂ (λ a b. put (new_value RayKind) its V a b) p.0 p.1 ∙ agrees (get_or list k 0 / rows) (get_or list k 0 % rows)
      (row_in system pick raises places list part old.bounds size condition k l)
      ∙ sym (bound_at (get_or list k 0))

  named_fails : (its : List Item) → Agrees system (after_step (record { kind = RayKind; items = its }) V) new.bounds → Distinct its
      → (k : ℕ) → k < length list → (v : Item) → In its v →
      v.point ≡ (item_in rows (raise_at raises places (get_or list k 0))).point
      → v.row ≡ (item_in rows (raise_at raises places (get_or list k 0))).row
      → is_finite (get_or new.bounds (get_or list k 0) neg_inf) ≡ false
  unfolding item_at new_value
  named_fails its agrees distinct k l v m e f =
      ap is_finite (sym (new_at its agrees k l) ∙ subst₂ (λ a b. put (new_value RayKind) its V a b ≡ pos_inf) e f
      (put-named (new_value RayKind) its V v distinct m))

  unnamed_passes : (its : List Item) → Agrees system (after_step (record { kind = RayKind; items = its }) V) new.bounds → (k : ℕ)
      → k < length list →
      Unnamed its (item_in rows (raise_at raises places (get_or list k 0))).point
      (item_in rows (raise_at raises places (get_or list k 0))).row → is_finite (get_or new.bounds (get_or list k 0) neg_inf) ≡ true
  unfolding item_at
  unnamed_passes its agrees k l n =
      let c = condition.finite (item_at k) (in_map (λ u. item_in rows (raise_at raises places u)) list (get_or list k 0)
      (in_place list 0 k l)) in
      ap is_finite (sym (new_at its agrees k l) ∙ put-unnamed (new_value RayKind) its V (item_at k).point (item_at k).row n ∙ c.1)

  -- a point with its facts makes the jump of its items, and nothing is left
  by_point : (to : List ℚ) (highs : List Trace) → HasFacts system raises places list old.bounds (PointRead to highs)
      → IsTaken raises places list (PointRead to highs) old new left → IsTurned system pick raises places list old new left
  unfolding step_by left_by
  by_point to highs facts t =
      let step = one_more (JumpStep (jump_items_at raises places list to highs)) t.0 in
      let agrees = point_agrees system pick raises places list part old.bounds size condition to highs facts.distinct in
      record {
        size = ap length t.1 ∙ length-puts (λ k. fin (get_or to k zero_ℚ)) list old.bounds (length list);
        outcome = outcome_of rows raises places list (PointRead to highs);
        facts = facts;
        steps = step.0;
        left_is = ap (items_at rows raises places) t.2;
        agrees = λ p r l. agrees p r l ∙ ap (λ bs. vector_of rows bs p r) (sym t.1);
        part = subst (IsPart system pick raises places) (sym t.2) none_left;
        fewer = subst (λ l. length l < length list) (sym t.2) some;
        one = step.1;
      }

  -- a ray with its facts makes the ray of its items, and leaves the others
  by_ray : (rates : Rates) → HasSizes list (RayRead rates) → HasFacts system raises places list old.bounds (RayRead rates)
      → IsTaken raises places list (RayRead rates) old new left → IsTurned system pick raises places list old new left
  unfolding step_by left_by
  by_ray rates within facts t = record {
    size = ap length t.1 ∙ length-puts (λ k. pos_inf) (map (λ (rate : RateOf). rate.unknown) rates.list) old.bounds (length rates.list);
    outcome = outcome_of rows raises places list (RayRead rates);
    facts = facts;
    steps = step.0;
    left_is = left_items;
    agrees = agrees;
    part = subst (IsPart system pick raises places) (sym t.2) (record {
      rises = kept_rises test 0 list part.rises;
      picked = kept_picked system pick test list part.picked;
      raised = kept_each (λ u. IsRaised raises places u) test list part.raised;
      edges = kept_each (λ u. get_or pick u None ≡ Some (edge_in (raise_at raises places u))) test list part.edges;
    });
    fewer =
        let first = facts.listed facts.first facts.some in
        let a = length-map left (λ u. item_in rows (raise_at raises places u)) in
        let b = length-map list (λ u. item_in rows (raise_at raises places u)) in
        let l = fewer_without its items first.0 facts.first first.1 facts.some (sym first.2.point) (sym first.2.row) in
        let f = ap length left_items in
        omega arith;
    one = step.1;
  }
    where
      its : List Item
      its = map (ray_item rows) (map (ray_item_of raises places) rates.list)

      step : (turns_so_far system new ≡ turns_so_far system old ++ step_of rows (RayStep (map (ray_item_of raises places) rates.list)) ∷ [])
          × (length new.steps.items ≡ length old.steps.items + 1)
      step = one_more (RayStep (map (ray_item_of raises places) rates.list)) t.0

      agrees : Agrees system (after_step (record { kind = RayKind; items = its }) V) new.bounds
      agrees p r l =
          ray_agrees system pick raises places list part old.bounds size condition rates.list within facts.distinct p r l
          ∙ ap (λ bs. vector_of rows bs p r) (sym t.1)

      test : ℕ → Bool
      test u = is_finite (get_or new.bounds u neg_inf)

      left_items : items_at rows raises places left ≡ without its items
      left_items =
          ap (items_at rows raises places) t.2
          ∙ left_is rows raises places its test list (λ k l. named_fails its agrees facts.distinct k l)
          (λ k l. unnamed_passes its agrees k l)

  -- an outcome that has its facts and is taken makes a turn
  pub turned_by : (j : Joined) → HasSizes list j → HasFacts system raises places list old.bounds j
      → IsTaken raises places list j old new left → IsTurned system pick raises places list old new left
  turned_by (PointRead to highs) sizes facts t = by_point to highs facts t
  turned_by (RayRead rates) sizes facts t = by_ray rates sizes facts t
