-- Marks that a raise takes away.
use Rattle.std.proofs.Common.{◌≡◌, ◌∙◌, ⊎_elim, ℕ, zero, suc, ◌+◌, ◌*◌, ◌/◌, ◌%◌, ◌<◌, Bool, true, false, true≢false, List, [], ◌∷◌, length}
use Rattle.std.proofs.Common.{inl, inr, ◌≤◌, get_or, refl, sym, ap, subst, arith, below_more}
use Rattle.std.specs.Prelude.{Option, Some, None, slice_set}
use Rattle.std.proofs.lemmas.Bool.Decides.{eqb_tells}
use Rattle.std.proofs.lemmas.List.{get_or-set_other, length-set}
use Rattle.std.proofs.lemmas.Nat.{div-add-mod'}
use Rattle.base_facts.specs.Elements.{In}
use Rattle.flow_systems.specs.declared.system.System.{System}
use Rattle.solve_offers.specs.AtBounds.{edge_at}
use Rattle.solve_offers.specs.Outgoing.{AreLeaving}
use Rattle.solve_offers.proofs.offers.Unknowns.{row_within}
use Rattle.solve_rounds.specs.declared.growing.Growing.{Growing}
use Rattle.solve_rounds.specs.Growing.{EdgesEnd, HasMarks, KeepsSteps, WakesEdge, WakesPoint}

-- a mark that was taken away isn't there
pub mark_gone : (marks : List Bool) (k : ℕ) → get_or (slice_set marks k false) k false ≡ false
mark_gone [] k = refl
mark_gone (m ∷ marks) zero = refl
mark_gone (m ∷ marks) (suc k) = mark_gone marks k

-- what is marked where one mark was taken away was marked, and is another one
pub mark_left : (marks : List Bool) (k j : ℕ) → get_or (slice_set marks k false) j false ≡ true
    → (get_or marks j false ≡ true) × (j ≡ k → ⊥)
mark_left marks k j m =
    ⊎_elim (λ t. absurd (true≢false (sym m ∙ ap (λ i. get_or (slice_set marks k false) i false) t.1 ∙ mark_gone marks k)))
    (λ t. (sym (get_or-set_other marks k j false false t.1) ∙ m, t.1)) (eqb_tells j k)

-- a pick that is there is that of one of the unknowns
pub picked_within : (pick : List (Option ℕ)) (u edge : ℕ) → get_or pick u None ≡ Some edge → u < length pick
picked_within [] u edge e = absurd (let f : None ≡ Some edge = e in cc)
picked_within (p ∷ pick) zero edge e = omega arith
picked_within (p ∷ pick) (suc u) edge e = (let l = picked_within pick u edge e in omega arith)

-- an element of a list stands at a place
place_of : (xs : List ℕ) (x : ℕ) → In xs x → (k : ℕ) × (k < length xs) × (get_or xs k 0 ≡ x)
place_of [] x m = absurd m
place_of (y ∷ xs) x m = ⊎_elim (λ e. (0, omega arith, e)) (λ h. let r = place_of xs x h in (suc r.0, (let l = r.1 in omega arith), r.2)) m

-- what stands at a place is an element
pub in_place : (xs : List ℕ) (k : ℕ) → k < length xs → In xs (get_or xs k 0)
in_place [] k l = absurd (omega arith)
in_place (y ∷ xs) zero l = inl refl
in_place (y ∷ xs) (suc k) l = inr (in_place xs k (omega arith))

-- nothing is raised in two times
raised_twice : (old mid new : Growing) → KeepsSteps old mid → KeepsSteps mid new → KeepsSteps old new
raised_twice old mid new a b = record { bounds = b.bounds ∙ a.bounds; raised = b.raised ∙ a.raised; steps = b.steps ∙ a.steps }

module _ (system : System) (pick : List (Option ℕ)) where
  -- no mark is left of the first unknowns of a point for which an edge is picked, nor of the point if there is one
  pub record WokenRows (edge point n : ℕ) (old new : Growing) : Type 0 where
    -- nothing is raised
    pub steps : KeepsSteps old new
    -- there are as many marks as before
    pub marks : HasMarks system new
    -- no unknown's mark is new
    pub quiet_kept : (u : ℕ) → get_or new.quiet.items u false ≡ true → get_or old.quiet.items u false ≡ true
    -- no point's mark is new
    pub calm_kept : (p : ℕ) → get_or new.calm.items p false ≡ true → get_or old.calm.items p false ≡ true
    -- no unknown for which the edge is picked has a mark
    pub quiet : (r : ℕ) → r < n → get_or new.quiet.items (point * length system.template + r) false ≡ true
        → get_or pick (point * length system.template + r) None ≡ Some edge → ⊥
    -- nor has the point where there is one
    pub calm : (r : ℕ) → r < n → get_or new.calm.items point false ≡ true
        → get_or pick (point * length system.template + r) None ≡ Some edge → ⊥

  module _ (edge point n : ℕ) (old mid : Growing) (so_far : WokenRows edge point n old mid) where
    -- one more for which another edge is picked, or none
    pub woken_other : (get_or pick (point * length system.template + n) None ≡ Some edge → ⊥) → WokenRows edge point (n + 1) old mid
    woken_other other = record {
      steps = so_far.steps;
      marks = so_far.marks;
      quiet_kept = so_far.quiet_kept;
      calm_kept = so_far.calm_kept;
      quiet = below_more (λ r. get_or mid.quiet.items (point * length system.template + r) false ≡ true
          → get_or pick (point * length system.template + r) None ≡ Some edge → ⊥) n so_far.quiet (λ m e. other e);
      calm = below_more (λ r. get_or mid.calm.items point false ≡ true
          → get_or pick (point * length system.template + r) None ≡ Some edge → ⊥) n so_far.calm (λ m e. other e);
    }

    -- one more that loses its mark, and so does the point
    pub woken_more : (new : Growing) → KeepsSteps mid new
        → new.quiet.items ≡ slice_set mid.quiet.items (point * length system.template + n) false
        → new.calm.items ≡ slice_set mid.calm.items point false → WokenRows edge point (n + 1) old new
    woken_more new steps q c = record {
      steps = raised_twice old mid new so_far.steps steps;
      marks = record {
        quiet = ap (λ l. length l) q ∙ length-set mid.quiet.items (point * length system.template + n) false ∙ so_far.marks.quiet;
        calm = ap (λ l. length l) c ∙ length-set mid.calm.items point false ∙ so_far.marks.calm;
      };
      quiet_kept = λ u m. so_far.quiet_kept u (was u m).0;
      calm_kept = λ p m. so_far.calm_kept p (was_calm p m).0;
      quiet = below_more (λ r. get_or new.quiet.items (point * length system.template + r) false ≡ true
          → get_or pick (point * length system.template + r) None ≡ Some edge → ⊥) n
          (λ r l m. so_far.quiet r l (was (point * length system.template + r) m).0)
          (λ m e. (was (point * length system.template + n) m).1 refl);
      calm = λ r l m e. (was_calm point m).1 refl;
    }
      where
        was : (u : ℕ) → get_or new.quiet.items u false ≡ true
            → (get_or mid.quiet.items u false ≡ true) × (u ≡ point * length system.template + n → ⊥)
        was u m = mark_left mid.quiet.items (point * length system.template + n) u (sym (ap (λ l. get_or l u false) q) ∙ m)

        was_calm : (p : ℕ) → get_or new.calm.items p false ≡ true → (get_or mid.calm.items p false ≡ true) × (p ≡ point → ⊥)
        was_calm p m = mark_left mid.calm.items point p (sym (ap (λ l. get_or l p false) c) ∙ m)

  -- all unknowns of the point where the edge ends
  pub woken_all : (edge point n : ℕ) (old new : Growing) → WokenRows edge point n old new → length system.template ≤ n
      → length pick ≡ length system.flow.points * length system.template → EdgesEnd system pick → (edge_at system edge).to ≡ point
      → WakesEdge system pick edge old new
  woken_all edge point n old new woken whole size ends at = record {
    quiet_kept = woken.quiet_kept;
    calm_kept = woken.calm_kept;
    quiet = λ u m e. woken.quiet (u % length system.template) (row u e)
        (subst (λ k. get_or new.quiet.items k false ≡ true) (sym (number u e)) m) (ap (λ k. get_or pick k None) (number u e) ∙ e);
    calm = λ u m e. woken.calm (u % length system.template) (row u e)
        (subst (λ p. get_or new.calm.items p false ≡ true) (place u e) m) (ap (λ k. get_or pick k None) (number u e) ∙ e);
  }
    where
      place : (u : ℕ) → get_or pick u None ≡ Some edge → u / length system.template ≡ point
      place u e = sym (ends u edge e) ∙ at

      number : (u : ℕ) → get_or pick u None ≡ Some edge → point * length system.template + u % length system.template ≡ u
      number u e = ap (λ p. p * length system.template + u % length system.template) (sym (place u e))
          ∙ div-add-mod' u (length system.template)

      row : (u : ℕ) → get_or pick u None ≡ Some edge → u % length system.template < n
      row u e =
          let within = picked_within pick u edge e in
          let r = row_within u (length system.flow.points) (length system.template) (omega (arith, within, size)) in
          omega (arith, r, whole)

  -- no mark is left of the unknowns whose picked edge is one of the first of a list, nor of their points
  pub record WokenPlaces (edges : List ℕ) (n : ℕ) (old new : Growing) : Type 0 where
    -- nothing is raised
    pub steps : KeepsSteps old new
    -- there are as many marks as before
    pub marks : HasMarks system new
    -- no unknown's mark is new
    pub quiet_kept : (u : ℕ) → get_or new.quiet.items u false ≡ true → get_or old.quiet.items u false ≡ true
    -- no point's mark is new
    pub calm_kept : (p : ℕ) → get_or new.calm.items p false ≡ true → get_or old.calm.items p false ≡ true
    -- no unknown for which one of these edges is picked has a mark
    pub quiet : (k : ℕ) → k < n → (u : ℕ) → get_or new.quiet.items u false ≡ true → get_or pick u None ≡ Some (get_or edges k 0) → ⊥
    -- nor has its point
    pub calm : (k : ℕ) → k < n → (u : ℕ) → get_or new.calm.items (u / length system.template) false ≡ true
        → get_or pick u None ≡ Some (get_or edges k 0) → ⊥

  -- one more edge
  pub places_more : (edges : List ℕ) (n : ℕ) (old mid new : Growing) → WokenPlaces edges n old mid → KeepsSteps mid new
      → HasMarks system new → WakesEdge system pick (get_or edges n 0) mid new → WokenPlaces edges (n + 1) old new
  places_more edges n old mid new so_far steps marks wakes = record {
    steps = raised_twice old mid new so_far.steps steps;
    marks = marks;
    quiet_kept = λ u m. so_far.quiet_kept u (wakes.quiet_kept u m);
    calm_kept = λ p m. so_far.calm_kept p (wakes.calm_kept p m);
    quiet = below_more (λ k. (u : ℕ) → get_or new.quiet.items u false ≡ true → get_or pick u None ≡ Some (get_or edges k 0) → ⊥) n
        (λ k l u m. so_far.quiet k l u (wakes.quiet_kept u m)) wakes.quiet;
    calm = below_more (λ k. (u : ℕ) → get_or new.calm.items (u / length system.template) false ≡ true
        → get_or pick u None ≡ Some (get_or edges k 0) → ⊥) n
        (λ k l u m. so_far.calm k l u (wakes.calm_kept (u / length system.template) m)) wakes.calm;
  }

  -- all edges that start at a point
  pub places_all : (lists : List (List ℕ)) (point n : ℕ) (old new : Growing) → AreLeaving system lists
      → WokenPlaces (get_or lists point []) n old new → length (get_or lists point []) ≤ n → WakesPoint system pick point old new
  places_all lists point n old new leaving woken whole = record {
    quiet_kept = woken.quiet_kept;
    calm_kept = woken.calm_kept;
    quiet = λ u edge m e l s. let k = place edge l s in woken.quiet k.0 k.1 u m (e ∙ ap Some (sym k.2));
    calm = λ u edge m e l s. let k = place edge l s in woken.calm k.0 k.1 u m (e ∙ ap Some (sym k.2));
  }
    where
      place : (edge : ℕ) → edge < length system.flow.edges → (edge_at system edge).from ≡ point
          → (k : ℕ) × (k < n) × (get_or (get_or lists point []) k 0 ≡ edge)
      place edge l s =
          let r = place_of (get_or lists point []) edge (subst (λ p. In (get_or lists p []) edge) s (leaving.listed edge l)) in
          (r.0, (let h = r.1 in omega arith), r.2)
