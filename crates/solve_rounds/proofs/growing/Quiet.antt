-- Unknowns that are marked as quiet.
use Rattle.std.proofs.Common.{◌≡◌, ◌∙◌, ⊎_elim, ℕ, ◌+◌, ◌*◌, ◌/◌, ◌%◌, ◌<◌, true, false, true≢false, List, length}
use Rattle.std.proofs.Common.{get_or, refl, sym, ap, subst, subst₂, arith}
use Rattle.std.specs.Prelude.{Option, Some, None, slice_set}
use Rattle.std.proofs.lemmas.Bool.Decides.{eqb_tells}
use Rattle.std.proofs.lemmas.List.{get_or-set_other, length-set}
use Rattle.std.proofs.lemmas.Nat.{div-mul-add, div-add-mod'}
use Rattle.base_numbers.specs.Extended.{Ext as Extended, neg_inf, fin, pos_inf, ◌≤ᴱ◌}
use Rattle.flow_systems.specs.Equations.{Vector}
use Rattle.flow_systems.specs.View.{equations_of}
use Rattle.flow_systems.specs.declared.system.System.{System}
use Rattle.theory_validity.specs.Steps.{edge_of, row_of}
use Rattle.theory_transformers.proofs.edge_problems.TransformerOf.{transformer_by_source}
use Rattle.theory_strategy.specs.Picks.{value_at, choice}
use Rattle.theory_rounds.proofs.raises.ProblemsAgree.{transformer_agrees}
use Rattle.solve_raise.specs.Raises.{choice_of}
use Rattle.solve_rounds.specs.declared.growing.Growing.{Growing}
use Rattle.solve_offers.specs.Offers.{is_top}
use Rattle.solve_offers.proofs.offers.Offered.{top_is}
use Rattle.solve_offers.proofs.offers.Unknowns.{row_within}
use Rattle.solve_offers.specs.AtBounds.{EdgesAreThere, transformers, vector_at, edge_at}
use Rattle.solve_rounds.specs.Growing.{Agrees, AreOver, AreQuiet, HasMarks, IsKept, IsPassed, IsStay, IsWithin, KeepsSteps, WakesPoint}
use Rattle.solve_rounds.specs.Growing.{tested}
use Rattle.solve_rounds.proofs.growing.Tested.{bound_is}
use Rattle.solve_rounds.proofs.growing.Unraised.{unmarked_before}
use Rattle.solve_rounds.proofs.growing.Walked.{left_unpicked, passed_none, stays_passed}

-- the picked transformer is within the bound where that of one edge that is picked is
pub within_picked : (system : System) (bounds : List Extended) (pick : List (Option ℕ)) (u edge : ℕ) → get_or pick u None ≡ Some edge →
    value_at (equations_of system) (transformers system) (vector_at system bounds) (choice_of (length system.template) u edge)
    ≤ᴱ get_or bounds u neg_inf → IsWithin system bounds pick u
within_picked system bounds pick u edge picked within other e =
    subst (λ (k : ℕ). value_at (equations_of system) (transformers system) (vector_at system bounds)
    (choice_of (length system.template) u k) ≤ᴱ get_or bounds u neg_inf) (some_same edge other (sym picked ∙ e)) within
  where
    some_same : (a b : ℕ) → Some a ≡ Some b → a ≡ b
    some_same a b e = cc

module _ (system : System) (pick : List (Option ℕ)) (old new : Growing) (unknown : ℕ) (quiet : AreQuiet system pick old) where
  -- a tested unknown that wasn't raised becomes quiet
  pub quiet_more : new.bounds ≡ old.bounds → new.raised.items ≡ old.raised.items → new.calm.items ≡ old.calm.items
      → new.quiet.items ≡ slice_set old.quiet.items unknown true → IsWithin system old.bounds pick unknown → AreQuiet system pick new
  quiet_more b r c q within = record {
    marks = record {
      quiet = ap (λ m. length m) q ∙ length-set old.quiet.items unknown true ∙ quiet.marks.quiet;
      calm = ap (λ m. length m) c ∙ quiet.marks.calm;
    };
    within = λ u k m. subst (λ bounds. IsWithin system bounds pick u) (sym b)
        (⊎_elim (λ t. subst (IsWithin system old.bounds pick) (sym t.1) within) (λ t. quiet.within u k
        (sym (ap (λ x. get_or x u false) q ∙ get_or-set_other old.quiet.items unknown u true false t.1) ∙ m)) (eqb_tells u unknown));
    calm = λ u k m n. subst (λ bounds. IsWithin system bounds pick u) (sym b)
        (quiet.calm u k (sym (ap (λ x. get_or x (u / length system.template) false) c) ∙ m)
        (sym (ap (λ x. get_or x u false) r) ∙ n));
  }

  -- a raise changes no other unknown's transformer but those of the edges that start at its point
  raised_within : (bound : Extended) (u : ℕ) → (u ≡ unknown → ⊥) → ((edge : ℕ) → get_or pick u None ≡ Some edge
      → (edge_at system edge).from ≡ unknown / length system.template → ⊥) → IsWithin system old.bounds pick u
      → IsWithin system (slice_set old.bounds unknown bound) pick u
  unfolding edge_of row_of choice
  raised_within bound u other apart within edge e =
      subst₂ (λ t x. t ≤ᴱ x) (sym (transformer_by_source (equations_of system) (vector_at system (slice_set old.bounds unknown bound))
      (vector_at system old.bounds)
      (edge_of (equations_of system) (choice_of (length system.template) u edge))
      (row_of (equations_of system) (choice_of (length system.template) u edge)) (λ r l. source r l)))
      (sym (get_or-set_other old.bounds unknown u bound neg_inf other)) (within edge e)
    where
      source : (r : ℕ) → r < length system.template →
          vector_at system (slice_set old.bounds unknown bound) (edge_at system edge).from r
          ≡ vector_at system old.bounds (edge_at system edge).from r
      source r l =
          get_or-set_other old.bounds unknown ((edge_at system edge).from * length system.template + r) bound neg_inf
          (λ s. apart edge e (sym (div-mul-add (edge_at system edge).from (length system.template) r l)
          ∙ ap (λ k. k / length system.template) s))

  -- after a raise those marks stay that don't depend on the raised unknown's point
  pub quiet_raised : (mid : Growing) (bound : Extended) (point : ℕ) → point ≡ unknown / length system.template
      → EdgesAreThere system pick → unknown < length old.raised.items
      → get_or old.quiet.items unknown false ≡ false → mid.bounds ≡ slice_set old.bounds unknown bound
      → mid.raised.items ≡ slice_set old.raised.items unknown true → mid.quiet.items ≡ old.quiet.items
      → mid.calm.items ≡ old.calm.items → KeepsSteps mid new → HasMarks system new
      → WakesPoint system pick point mid new → AreQuiet system pick new
  quiet_raised mid bound point is there l awake b r q c steps marks wakes = record {
    marks = marks;
    within = λ u k m. subst (λ bounds. IsWithin system bounds pick u) (sym (steps.bounds ∙ b))
        (raised_within bound u (λ s. true≢false (sym (was u m) ∙ ap (λ v. get_or old.quiet.items v false) s ∙ awake))
        (λ edge e s. wakes.quiet u edge m e (there u edge e) (s ∙ sym is)) (quiet.within u k (was u m)));
    calm = λ u k m n. subst (λ bounds. IsWithin system bounds pick u) (sym (steps.bounds ∙ b))
        (raised_within bound u (unraised_before u n).1 (λ edge e s. wakes.calm u edge m e (there u edge e) (s ∙ sym is))
        (quiet.calm u k (sym (ap (λ x. get_or x (u / length system.template) false) c)
        ∙ wakes.calm_kept (u / length system.template) m) (unraised_before u n).0));
  }
    where
      was : (u : ℕ) → get_or new.quiet.items u false ≡ true → get_or old.quiet.items u false ≡ true
      was u m = sym (ap (λ x. get_or x u false) q) ∙ wakes.quiet_kept u m

      unraised_before : (u : ℕ) → get_or new.raised.items u false ≡ false
          → (get_or old.raised.items u false ≡ false) × (u ≡ unknown → ⊥)
      unraised_before u n = unmarked_before old.raised.items unknown u l (sym (ap (λ x. get_or x u false) (steps.raised ∙ r)) ∙ n)

-- a point is calm where each of its unknowns is over
pub quiet_calm : (system : System) (pick : List (Option ℕ)) (start old new : Growing) (point : ℕ) → AreQuiet system pick old
    → AreOver system pick (point * length system.template) (length system.template) start old → new.bounds ≡ old.bounds
    → new.raised.items ≡ old.raised.items → new.quiet.items ≡ old.quiet.items
    → new.calm.items ≡ slice_set old.calm.items point true → AreQuiet system pick new
quiet_calm system pick start old new point quiet are b r q c = record {
  marks = record {
    quiet = ap (λ m. length m) q ∙ quiet.marks.quiet;
    calm = ap (λ m. length m) c ∙ length-set old.calm.items point true ∙ quiet.marks.calm;
  };
  within = λ u k m. subst (λ bounds. IsWithin system bounds pick u) (sym b)
      (quiet.within u k (sym (ap (λ x. get_or x u false) q) ∙ m));
  calm = λ u k m n. subst (λ bounds. IsWithin system bounds pick u) (sym b)
      (⊎_elim (λ t. here u k t.1 (sym (ap (λ x. get_or x u false) r) ∙ n)) (λ t. quiet.calm u k
      (sym (ap (λ x. get_or x (u / length system.template) false) c
      ∙ get_or-set_other old.calm.items point (u / length system.template) true false t.1) ∙ m) (sym (ap (λ x. get_or x u false) r) ∙ n))
      (eqb_tells (u / length system.template) point));
}
  where
    here : (u : ℕ) → u < length system.flow.points * length system.template → u / length system.template ≡ point
        → get_or old.raised.items u false ≡ false → IsWithin system old.bounds pick u
    here u k e n =
        let row = row_within u (length system.flow.points) (length system.template) k in
        let is : point * length system.template + u % length system.template ≡ u =
        ap (λ p. p * length system.template + u % length system.template) (sym e) ∙ div-add-mod' u (length system.template) in
        are.over u (omega (arith, is)) (omega (arith, is, row)) n

module _ (system : System) (pick : List (Option ℕ)) (u : ℕ) (within : u < length system.flow.points * length system.template) (z : Vector)
    (now : Growing) (kept : IsKept system now)
    (agrees : Agrees system z now.bounds) (is_within : IsWithin system now.bounds pick u) where
  within_stays : (edge : ℕ) → get_or pick u None ≡ Some edge → IsStay system edge u z now now
  unfolding edge_of row_of choice
  within_stays edge e = record {
    within = subst₂ (λ t b. t ≤ᴱ b)
        (sym (transformer_agrees (equations_of system) z (vector_at system now.bounds) agrees
        (edge_of (equations_of system) (tested system edge u)) (row_of (equations_of system) (tested system edge u))))
        (sym (bound_is system now.bounds u within kept.bounds z agrees)) (is_within edge e);
    bounds = refl;
    raised = refl;
    steps = refl;
  }

  -- an unknown whose picked transformer is within its bound is passed without a test
  pub within_passed : get_or now.raised.items u false ≡ false → IsPassed system pick u 1 z now now false
  within_passed unmarked = by (get_or pick u None) refl
    where
      by : (o : Option ℕ) → get_or pick u None ≡ o → IsPassed system pick u 1 z now now false
      by None e = passed_none system pick u z now (left_unpicked (length system.template) pick now.raised.items u unmarked e) agrees
      by (Some edge) e = stays_passed system pick u edge z now now agrees unmarked e (let r = kept.raised in omega (arith, within, r))
          (within_stays edge e)

-- an unknown at +∞ is within its bound
pub top_within : (system : System) (bounds : List Extended) (pick : List (Option ℕ)) (u : ℕ) → is_top (get_or bounds u neg_inf) ≡ true
    → IsWithin system bounds pick u
top_within system bounds pick u top edge e =
    subst (λ b. value_at (equations_of system) (transformers system) (vector_at system bounds) (choice_of (length system.template) u edge)
    ≤ᴱ b) (sym (top_is (get_or bounds u neg_inf) top))
    (below_top (value_at (equations_of system) (transformers system) (vector_at system bounds) (choice_of (length system.template) u edge)))
  where
    below_top : (x : Extended) → x ≤ᴱ pos_inf
    below_top neg_inf = tt
    below_top (fin c) = tt
    below_top pos_inf = tt

-- an unknown that was tested and stays is within its bound
pub stay_within : (system : System) (pick : List (Option ℕ)) (u edge : ℕ) (old new : Growing)
    → u < length system.flow.points * length system.template → IsKept system old → get_or pick u None ≡ Some edge
    → IsStay system edge u (vector_at system old.bounds) old new → IsWithin system old.bounds pick u
unfolding choice
stay_within system pick u edge old new within kept picked stay =
    within_picked system old.bounds pick u edge picked
    (subst (λ b. value_at (equations_of system) (transformers system) (vector_at system old.bounds)
    (choice_of (length system.template) u edge) ≤ᴱ b)
    (bound_is system old.bounds u within kept.bounds (vector_at system old.bounds) (λ p r l. refl)) stay.within)
