-- The code's steps of a growth: raises with places, and the list of the unknowns that they raised to fractions.
use Rattle.std.proofs.Common.{◌≡◌, ◌∙◌, ◌⊎◌, inl, inr, ℕ, ◌+◌, ◌*◌, ◌/◌, ◌%◌, ◌<◌, ◌≤◌, true, true≢false, List, [], ◌∷◌, length, get_or}
use Rattle.std.proofs.Common.{map, refl, sym, ap, ap₂, subst, subst₂, arith, mul-le-mul_right, if◌then◌else◌}
use Rattle.std.specs.Prelude.{Option, Some, None}
use Rattle.std.specs.List.{range_with_len}
use Rattle.std.proofs.lemmas.Bool.{lt-ltb, cases_lt}
use Rattle.std.proofs.lemmas.Nat.{div-add-mod'}
use Rattle.std.proofs.lemmas.List.{length-map, get_or-map}
use Rattle.base_facts.proofs.elements.Membership.{in_map, in_range}
use Rattle.base_facts.specs.Elements.{In}
use Rattle.base_numbers.specs.Extended.{Ext as Extended, neg_inf, fin, pos_inf}
use Rattle.base_numbers.specs.Rational.{ℚ}
use Rattle.flow_systems.specs.Equations.{Equations, Vector}
use Rattle.flow_systems.specs.View.{equations_of}
use Rattle.flow_systems.specs.declared.system.System.{System}
use Rattle.theory_validity.specs.Steps.{Item, names, Placed, Distinct}
use Rattle.theory_validity.proofs.steps.Puts.{named_is, names_itself}
use Rattle.cert_types.specs.declared.step.Step.{Step as CodeStep}
use Rattle.cert_types.specs.Certificates.{step_of}
use Rattle.theory_strategy.specs.Picks.{Pick, Picks}
use Rattle.theory_strategy.specs.Growth.{items_of}
use Rattle.theory_transformers.specs.Parts.{IsRising}
use Rattle.solve_joint.specs.Numbers.{Rises, IsPicked}
use Rattle.theory_rounds.specs.Rounds.{exact_grown, exact_rising}
use Rattle.theory_rounds.specs.Cut.{in_order}
use Rattle.theory_rounds.proofs.rounds.GrowthAgrees.{grow_picked}
use Rattle.theory_rounds.proofs.rounds.GrowthShape.{grow_single, grow_apart, grow_few, choices_few, to_rising, of_rising}
use Rattle.theory_rounds.proofs.cut.InOrder.{of_order, to_order, rising_unique}
use Rattle.theory_rounds.proofs.rounds.ExactRound.{rising_ordered}
use Rattle.solve_raise.specs.Numbers.{fitting}
use Rattle.solve_offers.specs.AtBounds.{vector_at}
use Rattle.solve_offers.specs.Improvement.{pick_of}
use Rattle.solve_rounds.specs.Growing.{Agrees}
use Rattle.solve_rounds.specs.Growth.{growth_at, named_at}
use Rattle.solve_rounds.specs.GrowthTests.{is_named}
use Rattle.solve_rounds.specs.Lows.{no_step, IsFilled, unknown_in, edge_in, item_in, AreRaises, ArePlaces, raise_at, IsRaised, items_at}
use Rattle.solve_rounds.specs.Turning.{is_finite, finite_in, IsPickAt, IsPart}
use Rattle.solve_offers.proofs.offers.Unknowns.{row_within}
use Rattle.solve_rounds.proofs.turning.TurnItems.{place_of, in_place}
use Rattle.solve_rounds.proofs.lows.ListedLows.{item_is, listed_same}
use Rattle.solve_rounds.proofs.putting.PutVector.{apart_at}
use Rattle.solve_rounds.proofs.lows.LeftOver.{of_filter, kept_rises}
use Rattle.solve_rounds.proofs.turning.Turned.{no_item}
use Rattle.solve_rounds.proofs.evaluation.Parting.{of_map}
use Rattle.solve_rounds.proofs.evaluation.EachPart.{picked_all}
use Rattle.solve_rounds.proofs.lows.RaiseList.{any_true, true_any, passes_test, to_filter, range_rises, rises_listed, one_item, items_map}

module _ (system : System) (pick : List (Option ℕ)) (bounds : List Extended) (chosen : IsPickAt system pick) (raises : List CodeStep)
    (same : map (step_of (length system.template)) raises ≡ growth_at system bounds pick) where
  abbrev rows : ℕ
  rows = length system.template

  abbrev count : ℕ
  count = length system.flow.points * length system.template

  abbrev eqs : Equations
  eqs = equations_of system

  abbrev p : Pick
  p = pick_of (length system.template) pick

  abbrev d : Vector
  d = vector_at system bounds

  abbrev step_at : ℕ → CodeStep
  step_at k = get_or raises k no_step

  single : (s : CodeStep) → In raises s → IsFilled s × ((step_of rows s).items ≡ item_in rows s ∷ [])
  single s m =
      let h = grow_single fitting eqs p chosen d (step_of rows s) (subst (λ l. In l (step_of rows s)) same
      (in_map (step_of rows) raises s m)) in
      one_item rows s h.0 h.1

  items_are : items_of (growth_at system bounds pick) ≡ map (item_in rows) raises
  items_are = ap items_of (sym same) ∙ items_map rows raises (λ s m. (single s m).1)

  apart : Distinct (map (item_in rows) raises)
  apart = subst Distinct items_are (grow_apart fitting eqs p chosen d)

  picked_step : (s : CodeStep) → In raises s → Picks p (item_in rows s)
  picked_step s m = grow_picked fitting eqs p chosen d (item_in rows s)
      (subst (λ l. In l (item_in rows s)) (sym items_are) (in_map (item_in rows) raises s m))

  placed_step : (s : CodeStep) → In raises s → Placed eqs (item_in rows s)
  placed_step s m = chosen (item_in rows s) (picked_step s m)

  -- the unknown of a step by its point and row
  number_is : (s : CodeStep) → In raises s → (unknown_in s / rows < length system.flow.points) × (unknown_in s % rows < rows)
      × (unknown_in s < count)
  number_is s m =
      let i = item_is rows s (single s m).0 in
      let q = placed_step s m in
      let a : unknown_in s / rows < length system.flow.points = subst (λ n. n < length system.flow.points) i.point q.point_within in
      let b : unknown_in s % rows < rows = subst (λ n. n < rows) i.row q.row_within in
      (a, b, below (unknown_in s) (unknown_in s / rows) (unknown_in s % rows) (div-add-mod' (unknown_in s) rows) a b)
    where
      below : (u q r : ℕ) → q * rows + r ≡ u → q < length system.flow.points → r < rows → u < count
      below u q r e a b =
          let c : (q + 1) * rows ≤ length system.flow.points * rows = mul-le-mul_right rows (omega arith) in
          let f : (q + 1) * rows ≡ q * rows + rows = omega arith in
          omega arith

  -- the raises, each with an unknown of its own
  pub raises_are : (n : ℕ) → n ≡ count → AreRaises n raises
  raises_are n e = record {
    filled = λ k l. (single (step_at k) (in_place raises no_step k l)).0;
    within = λ k l. subst (λ m. unknown_in (step_at k) < m) (sym e) (number_is (step_at k) (in_place raises no_step k l)).2;
    apart = λ j k l m f. equal j k l m f (cases_lt j k) (cases_lt k j);
  }
    where
      at : (k : ℕ) → k < length raises → get_or (map (item_in rows) raises) k no_item ≡ item_in rows (step_at k)
      at k l = get_or-map (item_in rows) raises k no_step no_item l

      clash : (j k : ℕ) → j < k → k < length raises → unknown_in (step_at j) ≡ unknown_in (step_at k) → ⊥
      clash j k l m f =
          let size = length-map raises (item_in rows) in
          let a = item_is rows (step_at j) (single (step_at j) (in_place raises no_step j (omega arith))).0 in
          let b = item_is rows (step_at k) (single (step_at k) (in_place raises no_step k m)).0 in
          let x = at j (omega arith) in
          let y = at k m in
          apart_at (map (item_in rows) raises) no_item j k apart l (omega arith)
          (ap (λ (i : Item). i.point) x ∙ a.point ∙ ap (λ u. u / rows) f ∙ sym b.point ∙ sym (ap (λ (i : Item). i.point) y))
          (ap (λ (i : Item). i.row) x ∙ a.row ∙ ap (λ u. u % rows) f ∙ sym b.row ∙ sym (ap (λ (i : Item). i.row) y))

      equal : (j k : ℕ) → j < length raises → k < length raises → unknown_in (step_at j) ≡ unknown_in (step_at k) → (j < k) ⊎ (k ≤ j)
          → (k < j) ⊎ (j ≤ k) → j ≡ k
      equal j k l m f (inl h) o = absurd (clash j k h m f)
      equal j k l m f (inr h) (inl g) = absurd (clash k j g l (sym f))
      equal j k l m f (inr h) (inr g) = omega arith

  -- there are at most as many raises as unknowns
  pub raises_few : length raises ≤ count
  raises_few =
      let a = grow_few fitting eqs p chosen d in
      let b = choices_few eqs p in
      let c = length-map raises (step_of rows) in
      let e = ap length same in
      omega arith

  -- ---- the unknowns that were raised to fractions
  module _ (grown : List Extended) (agrees : Agrees system (exact_grown fitting eqs d p) grown) (places : List ℕ)
      (size : length places ≡ count) (placed : ArePlaces raises places (length raises)) where
    abbrev list : List ℕ
    list = finite_in grown (named_at system (map (step_of rows) raises))

    -- an unknown of the list is that of a step
    record Found (u : ℕ) : Type 0 where
      k : ℕ
      within : k < length raises
      unknown : unknown_in (step_at k) ≡ u

    named_items : items_of (map (step_of rows) raises) ≡ map (item_in rows) raises
    named_items = items_map rows raises (λ s m. (single s m).1)

    found_step : (s : CodeStep) → In raises s → Found (unknown_in s)
    found_step s m = let q = place_of raises s no_step m in record { k = q.0; within = q.1; unknown = ap unknown_in q.2 }

    found_at : (s : CodeStep) (m : In raises s) → step_at (found_step s m).k ≡ s
    unfolding found_step
    found_at s m = (place_of raises s no_step m).2

    found : (u : ℕ) → In list u → Found u
    found u m =
        let named = passes_test (is_named rows (items_of (map (step_of rows) raises))) (range_with_len 0 count) u
        (of_filter (λ v. is_finite (get_or grown v neg_inf)) (named_at system (map (step_of rows) raises)) u m) in
        let i = any_true (λ item. names item (u / rows) (u % rows)) (items_of (map (step_of rows) raises)) named in
        let s = of_map (item_in rows) raises i.0 (subst (λ l. In l i.0) named_items i.1) in
        let n = named_is i.0 (u / rows) (u % rows) i.2 in
        let is = item_is rows s.0 (single s.0 s.1).0 in
        let a : unknown_in s.0 / rows ≡ u / rows = sym is.point ∙ ap (λ (x : Item). x.point) s.2 ∙ n.0 in
        let b : unknown_in s.0 % rows ≡ u % rows = sym is.row ∙ ap (λ (x : Item). x.row) s.2 ∙ n.1 in
        subst Found (sym (div-add-mod' (unknown_in s.0) rows) ∙ ap₂ (λ x y. x * rows + y) a b ∙ div-add-mod' u rows) (found_step s.0 s.1)

    -- its place
    place_is : (u : ℕ) → (f : Found u) → get_or places u 0 ≡ f.k
    place_is u f = ap (λ v. get_or places v 0) (sym f.unknown) ∙ placed f.k f.within

    raised_of : (u : ℕ) → Found u → IsRaised raises places u
    raised_of u f =
        let e = place_is u f in
        let m = in_place raises no_step f.k f.within in
        record {
          within = subst₂ (λ x y. x < y) f.unknown (sym size) (number_is (step_at f.k) m).2;
          place = subst (λ k. k < length raises) (sym e) f.within;
          filled = subst (λ k. IsFilled (step_at k)) (sym e) (single (step_at f.k) m).0;
          unknown = ap (λ k. unknown_in (step_at k)) e ∙ f.unknown;
        }

    edge_of_raise : (u : ℕ) → Found u → get_or pick u None ≡ Some (edge_in (raise_at raises places u))
    edge_of_raise u f =
        let m = in_place raises no_step f.k f.within in
        let is = item_is rows (step_at f.k) (single (step_at f.k) m).0 in
        let q : pick_of rows pick (unknown_in (step_at f.k) / rows) (unknown_in (step_at f.k) % rows) ≡ Some (edge_in (step_at f.k))
        = ap₂ (λ x y. pick_of rows pick x y) (sym is.point) (sym is.row) ∙ picked_step (step_at f.k) m ∙ ap Some is.edge in
        let b = lt-ltb (unknown_in (step_at f.k) % rows) rows (number_is (step_at f.k) m).1 in
        ap (λ v. get_or pick v None) (sym (div-add-mod' u rows ∙ refl)
        ∙ sym (ap₂ (λ x y. x * rows + y) (ap (λ v. v / rows) f.unknown) (ap (λ v. v % rows) f.unknown)))
        ∙ sym (ap (λ t. if t then get_or pick (unknown_in (step_at f.k) / rows * rows + unknown_in (step_at f.k) % rows) None else None) b)
        ∙ q
        ∙ ap (λ k. Some (edge_in (step_at k))) (sym (place_is u f))

    picked_of : (u : ℕ) → Found u → IsPicked system pick u
    picked_of u f =
        let m = in_place raises no_step f.k f.within in
        let is = item_is rows (step_at f.k) (single (step_at f.k) m).0 in
        record {
          in_range = subst (λ v. v < count) f.unknown (number_is (step_at f.k) m).2;
          edge = edge_in (raise_at raises places u);
          picks = edge_of_raise u f;
          is_edge = subst (λ k. edge_in (step_at k) < length system.flow.edges) (sym (place_is u f))
              (subst (λ e. e < length system.flow.edges) is.edge (placed_step (step_at f.k) m).edge_within);
        }

    list_rises : Rises 0 list
    list_rises = kept_rises (λ v. is_finite (get_or grown v neg_inf)) 0 (named_at system (map (step_of rows) raises))
        (kept_rises (is_named rows (items_of (map (step_of rows) raises))) 0 (range_with_len 0 count) (range_rises 0 count))

    -- the list is one of raised unknowns with their picked edges
    pub list_is : IsPart system pick raises places list
    list_is = record {
      rises = list_rises;
      picked = picked_all system pick list (λ k l. picked_of (get_or list k 0) (found (get_or list k 0) (in_place list 0 k l)));
      raised = λ k l. raised_of (get_or list k 0) (found (get_or list k 0) (in_place list 0 k l));
      edges = λ k l. edge_of_raise (get_or list k 0) (found (get_or list k 0) (in_place list 0 k l));
    }

    -- its items
    item_of_found : (u : ℕ) (f : Found u) → item_in rows (raise_at raises places u) ≡ item_in rows (step_at f.k)
    item_of_found u f = ap (λ k. item_in rows (step_at k)) (place_is u f)

    grown_at : (s : CodeStep) → In raises s → exact_grown fitting eqs d p (item_in rows s).point (item_in rows s).row
        ≡ get_or grown (unknown_in s) neg_inf
    grown_at s m =
        let is = item_is rows s (single s m).0 in
        ap₂ (λ x y. exact_grown fitting eqs d p x y) is.point is.row ∙ agrees (unknown_in s / rows) (unknown_in s % rows) (number_is s m).1
        ∙ ap (λ n. get_or grown n neg_inf) (div-add-mod' (unknown_in s) rows)

    finite_is : (v : Extended) → is_finite v ≡ true → (c : ℚ) × (v ≡ fin c)
    finite_is neg_inf e = absurd (true≢false (sym e))
    finite_is (fin c) e = (c, refl)
    finite_is pos_inf e = absurd (true≢false (sym e))

    to_theirs : (i : Item) → In (items_at rows raises places list) i → In (in_order (exact_rising fitting eqs d p)) i
    to_theirs i m =
        let u = of_map (λ v. item_in rows (raise_at raises places v)) list i m in
        let f = found u.0 u.1 in
        let s = step_at f.k in
        let n = in_place raises no_step f.k f.within in
        let finite = finite_is (get_or grown u.0 neg_inf) (passes_test (λ v. is_finite (get_or grown v neg_inf))
        (named_at system (map (step_of rows) raises)) u.0 u.1) in
        let value : exact_grown fitting eqs d p (item_in rows s).point (item_in rows s).row ≡ fin finite.0 =
        grown_at s n ∙ ap (λ v. get_or grown v neg_inf) f.unknown ∙ finite.1 in
        subst (In (in_order (exact_rising fitting eqs d p))) (sym (item_of_found u.0 f) ∙ u.2)
        (to_order (exact_rising fitting eqs d p) (item_in rows s)
        (to_rising fitting eqs p chosen d (item_in rows s) finite.0 (subst (λ l. In l (item_in rows s)) (sym items_are)
        (in_map (item_in rows) raises s n)) value))

    from_theirs : (i : Item) → In (in_order (exact_rising fitting eqs d p)) i → In (items_at rows raises places list) i
    from_theirs i m =
        let r = of_rising fitting eqs p chosen d i (of_order (exact_rising fitting eqs d p) i m) in
        let s = of_map (item_in rows) raises i (subst (λ l. In l i) items_are r.0) in
        let u = unknown_in s.0 in
        let is = item_is rows s.0 (single s.0 s.1).0 in
        let f = found_step s.0 s.1 in
        let value : get_or grown u neg_inf ≡ fin r.1.0 = sym (grown_at s.0 s.1)
        ∙ ap (λ (x : Item). exact_grown fitting eqs d p x.point x.row) s.2 ∙ r.1.1 in
        let named : is_named rows (items_of (map (step_of rows) raises)) u ≡ true
        = true_any (λ item. names item (u / rows) (u % rows)) (items_of (map (step_of rows) raises)) (item_in rows s.0)
        (subst (λ l. In l (item_in rows s.0)) (sym named_items) (in_map (item_in rows) raises s.0 s.1))
        (ap₂ (λ x y. names (item_in rows s.0) x y) (sym is.point) (sym is.row) ∙ names_itself (item_in rows s.0)) in
        let listed : In list u
        = to_filter (λ v. is_finite (get_or grown v neg_inf)) (named_at system (map (step_of rows) raises)) u
        (to_filter (is_named rows (items_of (map (step_of rows) raises))) (range_with_len 0 count) u
        (in_range 0 count u (omega arith) (let l = (number_is s.0 s.1).2 in omega arith)) named) (ap is_finite value) in
        let at : step_at f.k ≡ s.0 = found_at s.0 s.1 in
        subst (In (items_at rows raises places list)) (item_of_found u f ∙ ap (item_in rows) at ∙ s.2)
        (in_map (λ v. item_in rows (raise_at raises places v)) list u listed)

    -- and are those that the growth raised to fractions, in order
    pub list_items : items_at rows raises places list ≡ in_order (exact_rising fitting eqs d p)
    list_items =
        rising_unique (items_at rows raises places list) (in_order (exact_rising fitting eqs d p))
        (subst IsRising (sym (listed_same system pick raises places list list_is.raised list_is.edges))
        (rises_listed system pick 0 list list_rises (λ k l. row_within (get_or list k 0) (length system.flow.points) rows
        (picked_of (get_or list k 0) (found (get_or list k 0) (in_place list 0 k l))).in_range)))
        (rising_ordered fitting eqs d p chosen) to_theirs from_theirs
