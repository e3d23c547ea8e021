-- A round: its growth and then the turns of the parts of its list, as the theory has them.
use Rattle.std.proofs.Common.{◌≡◌, ◌∙◌, ◌⊎◌, inl, inr, ℕ, zero, suc, ◌+◌, ◌*◌, ◌/◌, ◌%◌, ◌<◌, ◌≤◌, List, [], ◌∷◌, ◌++◌, length, get_or, map}
use Rattle.std.proofs.Common.{refl, sym, ap, ap₂, subst, subst₂, arith, if◌then◌else◌}
use Rattle.std.specs.Prelude.{Option, Some, None}
use Rattle.std.specs.List.{range_with_len}
use Rattle.std.proofs.lemmas.Bool.{lt-ltb, cases_lt}
use Rattle.std.proofs.lemmas.Nat.{div-add-mod'}
use Rattle.base_facts.proofs.elements.Membership.{in_map}
use Rattle.base_facts.specs.Elements.{In}
use Rattle.base_numbers.specs.Rational.{zero_ℚ}
use Rattle.base_numbers.specs.Extended.{Ext as Extended, neg_inf, ◌<ᴱ◌, ◌≤ᴱ◌}
use Rattle.flow_systems.specs.Equations.{Equations, Vector}
use Rattle.flow_systems.specs.View.{equations_of}
use Rattle.flow_systems.specs.declared.system.System.{System}
use Rattle.theory_validity.specs.Steps.{Item, Step, Placed, edge_of, row_of, Distinct}
use Rattle.theory_validity.specs.Certificates.{after_steps}
use Rattle.cert_types.specs.declared.step.Step.{Step as CodeStep}
use Rattle.cert_types.specs.Certificates.{step_of}
use Rattle.theory_strategy.specs.Picks.{Pick, Tight, Above}
use Rattle.theory_strategy.specs.Growth.{items_of}
use Rattle.theory_strategy.specs.Round.{members}
use Rattle.theory_strategy.specs.Turns.{AreTurnsOf, PartsAreWaiting}
use Rattle.theory_strategy.proofs.growth.GrowthLaw.{led-append}
use Rattle.theory_transformers.specs.JointProblems.{Listed}
use Rattle.theory_transformers.specs.Parts.{InSome, parts}
use Rattle.theory_transformers.proofs.parts.PartsLaw.{parts_sound}
use Rattle.theory_transformers.proofs.parts.PartsRise.{rising_distinct}
use Rattle.solve_joint.specs.Numbers.{number_of, listed_of, all_listed}
use Rattle.solve_joint.specs.PartLists.{listed_parts, part_numbers}
use Rattle.solve_joint.proofs.numbers.NodeFacts.{number_back}
use Rattle.theory_rounds.specs.Agreement.{Agree, HaveRows}
use Rattle.theory_rounds.specs.JointItems.{listed_item, listed_items}
use Rattle.theory_rounds.specs.Cut.{in_order, item_for, items_for, items_of_parts, cut_items, exact_cut}
use Rattle.theory_rounds.specs.Rounds.{exact_grown, exact_rising}
use Rattle.theory_rounds.specs.ComingTurns.{ComesUp}
use Rattle.theory_rounds.proofs.joint_items.ListedItems.{distinct_items}
use Rattle.theory_rounds.proofs.cut.CutItems.{item_for_is}
use Rattle.theory_rounds.proofs.rounds.ExactRound.{rising_ordered, exact_cuts, exact_round_is}
use Rattle.theory_rounds.proofs.rounds.GrowthAgrees.{rising_rows}
use Rattle.theory_rounds.proofs.raises.ProblemsAgree.{transformer_agrees, led_agrees}
use Rattle.theory_rounds.proofs.turns.FactsAgree.{agree_back, turns_of_agree, comes_agrees, parts_waiting_agree}
use Rattle.theory_rounds.proofs.turns.Coming.{round_waiting, turn_comes}
use Rattle.theory_rounds.proofs.rounds.RoundBy.{round_by_is, round_by_same}
use Rattle.solve_raise.specs.Numbers.{fitting}
use Rattle.solve_rounds.specs.declared.turning.Turning.{Turning}
use Rattle.solve_offers.specs.AtBounds.{transformers, vector_at, EdgesAreThere, IsTightPick, IsSupportedPick}
use Rattle.solve_offers.specs.Improvement.{pick_of}
use Rattle.solve_offers.specs.Known.{AreNumbersOf, KeepsOthers}
use Rattle.solve_rounds.specs.Growing.{Agrees, EdgesEnd}
use Rattle.solve_rounds.specs.Growth.{growth_at, named_at, AreLed}
use Rattle.solve_rounds.specs.GrowthTests.{is_named}
use Rattle.solve_rounds.specs.Lows.{item_in, ArePlaces, raise_at, items_at}
use Rattle.solve_rounds.specs.Turning.{is_finite, finite_in, IsPickAt, IsPart, PartsWait, AreAllDone, ComesAmong}
use Rattle.solve_rounds.specs.Round.{IsRoundAt, IsTurnOf, rounded_at, AreAbove, AreValidFrom}
use Rattle.solve_rounds.proofs.lows.ListedLows.{listed_here, listed_same}
use Rattle.solve_offers.proofs.offers.Unknowns.{row_within}
use Rattle.solve_rounds.proofs.turning.TurnItems.{place_of, in_place}
use Rattle.solve_rounds.proofs.lows.LeftOver.{of_filter}
use Rattle.solve_rounds.proofs.lows.RaiseList.{of_range}
use Rattle.solve_rounds.proofs.evaluation.Parting.{of_map}
use Rattle.solve_rounds.proofs.evaluation.RoundRaises.{list_is, list_items}

-- what was grown, where its raises stand, and the list of the unknowns that it raised to fractions
pub record Setting (system : System) (bounds : List Extended) (pick : List (Option ℕ)) (raises : List CodeStep) (grown : List Extended)
    (places list : List ℕ) : Type 0 where
  -- the raises are the steps of the growth
  pub same : map (step_of (length system.template)) raises ≡ growth_at system bounds pick
  -- the grown bounds are those of the theory's growth
  pub agrees : Agrees system (exact_grown fitting (equations_of system) (vector_at system bounds) (pick_of (length system.template) pick))
      grown
  -- there is one place for each unknown
  pub size : length places ≡ length system.flow.points * length system.template
  -- the places are those of the raises
  pub placed : ArePlaces raises places (length raises)
  -- the list is the raised unknowns whose bounds are finite
  pub listed : list ≡ finite_in grown (named_at system (map (step_of (length system.template)) raises))

-- the raises, places and list of a growth are the setting of its round
pub setting : (system : System) (bounds : List Extended) (pick : List (Option ℕ)) (steps before raises : List CodeStep)
    (grown : List Extended) (places here raised from list here_list : List ℕ) →
    before ≡ steps → raises ≡ steps → here ≡ places → from ≡ raised → here_list ≡ list →
    map (step_of (length system.template)) steps ≡ growth_at system bounds pick
    → AreLed system bounds (map (step_of (length system.template)) steps) grown
    → raised ≡ named_at system (map (step_of (length system.template)) steps) →
    length places ≡ length system.flow.points * length system.template → ArePlaces before places (length before)
    → list ≡ finite_in grown from →
    Setting system bounds pick raises grown here here_list
setting system bounds pick steps before raises grown places here raised from list here_list a b c d e made led_to named size placed listed =
    record {
      same = ap (map (step_of (length system.template))) b ∙ made;
      agrees = subst (λ s. Agrees system (after_steps s (vector_at system bounds)) grown) made led_to;
      size = ap length c ∙ size;
      placed = subst₂ (λ s p. ArePlaces s p (length s)) (a ∙ sym b) (sym c) placed;
      listed = e ∙ listed ∙ ap (finite_in grown) (d ∙ named ∙ ap (λ s. named_at system (map (step_of (length system.template)) s)) (sym b));
    }

module _ (system : System) (bounds : List Extended) (pick : List (Option ℕ)) (chosen : IsPickAt system pick) (raises : List CodeStep)
    (grown : List Extended) (places list : List ℕ) (is : Setting system bounds pick raises grown places list) where
  abbrev rows : ℕ
  rows = length system.template

  abbrev eqs : Equations
  eqs = equations_of system

  abbrev p : Pick
  p = pick_of (length system.template) pick

  abbrev d : Vector
  d = vector_at system bounds

  abbrev items : List ℕ → List Item
  items l = items_at rows raises places l

  abbrev sorted : List Item
  sorted = in_order (exact_rising fitting eqs d p)

  abbrev cut : List (List Item)
  cut = exact_cut fitting eqs d p

  abbrev numbers : List (List ℕ)
  numbers = part_numbers system pick list

  abbrev at_grown : Vector
  at_grown = exact_grown fitting eqs d p

  -- the list is one of raised unknowns with their picked edges
  pub setting_list : IsPart system pick raises places list
  setting_list = subst (IsPart system pick raises places) (sym is.listed)
      (list_is system pick bounds chosen raises is.same grown is.agrees places is.size is.placed)

  items_sorted : items list ≡ sorted
  items_sorted = ap items is.listed ∙ list_items system pick bounds chosen raises is.same grown is.agrees places is.size is.placed

  listed_sorted : listed_items sorted ≡ all_listed system pick list
  listed_sorted = ap listed_items (sym items_sorted) ∙ listed_same system pick raises places list setting_list.raised setting_list.edges

  apart_sorted : Distinct sorted
  apart_sorted = distinct_items sorted (rising_distinct (listed_items sorted) (rising_ordered fitting eqs d p chosen))

  -- ---- the cut
  -- the item of an unknown of the list
  item_here : (w : Listed) → In (all_listed system pick list) w → item_for sorted w
      ≡ item_in rows (raise_at raises places (number_of rows w)) ∷ []
  item_here w m =
      let v = of_map (listed_of rows pick) list w m in
      let k = place_of list v.0 0 v.1 in
      let part = setting_list in
      let l : listed_item (item_in rows (raise_at raises places v.0)) ≡ listed_of rows pick v.0
      = subst (λ u. listed_item (item_in rows (raise_at raises places u)) ≡ listed_of rows pick u) k.2
      (listed_here rows pick raises places (get_or list k.0 0) (part.raised k.0 k.1) (part.edges k.0 k.1)) in
      let n : number_of rows w ≡ v.0 = ap (number_of rows) (sym v.2) ∙ number_back rows pick v.0 in
      ap (item_for sorted) (sym (l ∙ v.2))
      ∙ item_for_is sorted (item_in rows (raise_at raises places v.0)) apart_sorted
      (subst (λ s. In s (item_in rows (raise_at raises places v.0))) items_sorted
      (in_map (λ u. item_in rows (raise_at raises places u)) list v.0 v.1))
      ∙ ap (λ u. item_in rows (raise_at raises places u) ∷ []) (sym n)

  -- those of a part
  part_here : (part : List Listed) → ((w : Listed) → In part w → In (all_listed system pick list) w)
      → items_for sorted part ≡ items (map (number_of rows) part)
  unfolding items_for
  part_here [] within = refl
  part_here (w ∷ part) within = ap₂ (λ x y. x ++ y) (item_here w (within w (inl refl))) (part_here part (λ v m. within v (inr m)))

  -- those of parts
  parts_here : (ps : List (List Listed)) → ((w : Listed) → InSome ps w → In (all_listed system pick list) w)
      → items_of_parts sorted ps ≡ map items (map (map (number_of rows)) ps)
  unfolding items_of_parts
  parts_here [] within = refl
  parts_here (part ∷ ps) within = ap₂ (λ x y. x ∷ y) (part_here part (λ w m. within w (inl m))) (parts_here ps (λ w m. within w (inr m)))

  cut_same : cut ≡ map items numbers
  unfolding exact_cut cut_items
  cut_same = ap (λ l. items_of_parts sorted (parts eqs l)) listed_sorted
      ∙ parts_here (listed_parts system pick list) (λ w m. parts_sound eqs (all_listed system pick list) w m)

  -- ---- the turns
  -- the unknowns of the cut stand at rows of the template
  cut_rows : HaveRows eqs (members cut)
  cut_rows u m = rising_rows fitting eqs p chosen d u ((exact_cuts fitting eqs d p chosen).from u m)

  module _ (supported : IsSupportedPick system bounds pick) where
    -- the unknowns of the parts wait for their turns
    pub setting_waits : PartsWait system pick raises places list grown
    setting_waits = (
      at_grown,
      subst (PartsAreWaiting eqs p at_grown (vector_at system grown)) cut_same
          (parts_waiting_agree eqs p at_grown at_grown (vector_at system grown) cut is.agrees cut_rows
          (round_waiting fitting eqs d p supported)),
    )

    -- the turns that come up among them come up in the round
    pub setting_comes : (number : ℕ) (v : Vector) (left : List Item) → ComesAmong system pick raises places list grown number v left
        → IsTurnOf system bounds pick number v left
    setting_comes number v left c =
        let comes = comes_agrees eqs cut (vector_at system grown) at_grown number v left
        (agree_back eqs at_grown (vector_at system grown) is.agrees) cut_rows
        (subst (λ ls. ComesUp eqs (vector_at system grown) ls number v left) (sym cut_same) c) in
        let known = turn_comes fitting eqs d p supported number v left comes in
        record { comes = comes; condition = known.condition; over = known.over; under = known.under }

    module _ (old new : Turning) (steps : List CodeStep) (e : old.bounds ≡ grown) (none : old.steps.items ≡ [])
        (done : AreAllDone system pick raises places list old new) (appended : steps ≡ raises ++ new.steps.items) where
      map_both : (xs ys : List CodeStep) → map (step_of rows) (xs ++ ys) ≡ map (step_of rows) xs ++ map (step_of rows) ys
      map_both [] ys = refl
      map_both (x ∷ xs) ys = ap (λ s. step_of rows x ∷ s) (map_both xs ys)

      all_steps : map (step_of rows) steps ≡ growth_at system bounds pick ++ done.made
      all_steps =
          ap (map (step_of rows)) appended ∙ map_both raises new.steps.items
          ∙ ap₂ (λ x y. x ++ y) is.same (done.steps ∙ ap (λ s. map (step_of rows) s ++ done.made) none)

      -- the growth's raises and the turns' steps are the steps of a round
      pub setting_round : IsRoundAt system bounds pick (map (step_of rows) steps)
      setting_round = record {
        turns = done.made;
        made = turns_of_agree eqs cut (vector_at system grown) at_grown done.made
            (agree_back eqs at_grown (vector_at system grown) is.agrees) cut_rows
            (subst (λ ls. AreTurnsOf eqs (transformers system) (vector_at system grown) ls done.made) (sym cut_same)
            (subst (λ b. AreTurnsOf eqs (transformers system) (vector_at system b) (map items numbers) done.made) e done.turns));
        same = all_steps;
      }

      -- the bounds after all parts are those to which it leads
      pub setting_bounds : Agrees system (rounded_at system bounds pick) new.bounds
      setting_bounds q r l =
          sym (round_by_same fitting eqs d p (map (step_of rows) steps) supported setting_round q r l)
          ∙ ap (λ s. after_steps s d q r) all_steps ∙ ap (λ z. z q r) (led-append (growth_at system bounds pick) done.made d)
          ∙ led_agrees eqs done.made at_grown (vector_at system grown) is.agrees q r l
          ∙ subst (λ b. Agrees system (after_steps done.made (vector_at system b)) new.bounds) e done.agrees q r l

      -- and its steps are valid
      pub setting_valid : AreValidFrom system bounds (map (step_of rows) steps)
      setting_valid = (round_by_is fitting eqs d p (map (step_of rows) steps) supported setting_round).valid

-- ---- what holds of the vector of a round holds of the bounds
module _ (system : System) (pick : List (Option ℕ)) (z : Vector) (new : List Extended)
    (agree : Agree (equations_of system) z (vector_at system new)) (chosen : IsPickAt system pick) where
  value_same : (u : Item) → transformers system z (edge_of (equations_of system) u) (row_of (equations_of system) u)
      ≡ transformers system (vector_at system new) (edge_of (equations_of system) u) (row_of (equations_of system) u)
  value_same u = transformer_agrees (equations_of system) z (vector_at system new) agree (edge_of (equations_of system) u)
      (row_of (equations_of system) u)

  -- the new bounds are above the old ones
  pub above_bounds : (old : List Extended) → Above (equations_of system) (transformers system) (vector_at system old)
      (pick_of (length system.template) pick) z → AreAbove system old pick new
  above_bounds old h = record {
    over = λ q r l. subst (λ x. vector_at system old q r ≤ᴱ x) (agree q r l) (h.over q r l);
    closed = λ u m. subst₂ (λ x y. x ≤ᴱ y) (value_same u) (agree u.point u.row (chosen u m).row_within) (h.closed u m);
    least = λ v o c q r l. subst (λ x. x ≤ᴱ v q r) (agree q r l) (h.least v o c q r l);
  }

  -- the pick is tight at the new bounds
  pub tight_bounds : Tight (equations_of system) (transformers system) z (pick_of (length system.template) pick)
      → IsTightPick system new pick
  tight_bounds h = record {
    supported = record {
      is_pick = chosen;
      entry = λ r l. sym (agree 0 r l) ∙ h.supported.entry r l;
      unpicked = λ q r o l n. sym (agree q r l) ∙ h.supported.unpicked q r o l n;
      above = λ u m. subst (λ x. neg_inf <ᴱ x) (value_same u) (h.supported.above u m);
      rises = λ u m. subst₂ (λ x y. x ≤ᴱ y) (agree u.point u.row (chosen u m).row_within) (value_same u) (h.supported.rises u m);
    };
    same = λ u m. sym (value_same u) ∙ h.same u m ∙ agree u.point u.row (chosen u m).row_within;
  }

-- ---- a round by a supported pick leads to the vector above the bounds, where the pick is tight
pub round_done : (system : System) (bounds : List Extended) (pick : List (Option ℕ)) → IsSupportedPick system bounds pick →
    Above (equations_of system) (transformers system) (vector_at system bounds) (pick_of (length system.template) pick)
    (rounded_at system bounds pick)
    × Tight (equations_of system) (transformers system) (rounded_at system bounds pick) (pick_of (length system.template) pick)
round_done system bounds pick supported =
    let done = exact_round_is fitting (equations_of system) (vector_at system bounds) (pick_of (length system.template) pick) supported in
    (done.above, done.tight)

-- ---- what the parts of a round need
past : (xs : List (Option ℕ)) (u : ℕ) → length xs ≤ u → get_or xs u None ≡ None
past [] u l = refl
past (x ∷ xs) zero l = absurd (omega arith)
past (x ∷ xs) (suc u) l = past xs u (omega arith)

-- a picked edge with the point and row of its unknown
abbrev picked_item : ℕ → ℕ → ℕ → Item
picked_item rows u edge = record {
  point = u / rows;
  row = u % rows;
  edge = edge;
  low = record { start = []; free = [] };
  second =
      record { start = []; free = [] };
  number = zero_ℚ;
}

-- is one of the system and ends at the point
picked_placed : (system : System) (pick : List (Option ℕ)) → length pick ≡ length system.flow.points * length system.template
    → IsPickAt system pick → (u edge : ℕ) → get_or pick u None ≡ Some edge
    → Placed (equations_of system) (picked_item (length system.template) u edge)
picked_placed system pick size chosen u edge e = by (cases_lt u (length pick))
  where
    by : (u < length pick) ⊎ (length pick ≤ u) → Placed (equations_of system) (picked_item (length system.template) u edge)
    by (inl l) =
        let rows = length system.template in
        let b = lt-ltb (u % rows) rows (row_within u (length system.flow.points) rows (omega arith)) in
        chosen (picked_item rows u edge) (ap (λ t. if t then get_or pick (u / rows * rows + u % rows) None else None) b
        ∙ ap (λ n. get_or pick n None) (div-add-mod' u rows) ∙ e)
    by (inr l) = absurd (none edge (sym (past pick u l) ∙ e))
      where
        none : (k : ℕ) → None ≡ Some k → ⊥
        none k i = cc

-- each picked edge is one of the system
pub picked_edges : (system : System) (pick : List (Option ℕ)) → length pick ≡ length system.flow.points * length system.template
    → IsPickAt system pick → EdgesAreThere system pick
picked_edges system pick size chosen u edge e = (picked_placed system pick size chosen u edge e).edge_within

-- and ends at the point of its unknown
pub picked_ends : (system : System) (pick : List (Option ℕ)) → length pick ≡ length system.flow.points * length system.template
    → IsPickAt system pick → EdgesEnd system pick
unfolding edge_of
picked_ends system pick size chosen u edge e = (picked_placed system pick size chosen u edge e).into

-- the named unknowns are some of the system's
pub named_numbers_of : (system : System) (steps : List Step) → AreNumbersOf system (named_at system steps)
named_numbers_of system steps u m =
    let rows = length system.template in
    let count = length system.flow.points * length system.template in
    let h = of_range 0 count u (of_filter (is_named rows (items_of steps)) (range_with_len 0 count) u m) in
    omega arith

-- at each place
pub named_within : (system : System) (steps : List Step) (k : ℕ) → k < length (named_at system steps)
    → get_or (named_at system steps) k 0 < length system.flow.points * length system.template
named_within system steps k l = named_numbers_of system steps (get_or (named_at system steps) k 0) (in_place (named_at system steps) 0 k l)

-- what a growth didn't raise keeps its bound through the turns of what it raised to fractions
pub round_others : (raised list : List ℕ) (before grown after : List Extended) → list ≡ finite_in grown raised
    → KeepsOthers raised before grown → KeepsOthers list grown after → KeepsOthers raised before after
round_others raised list before grown after is growth turns u out =
    turns u (λ m. out (of_filter (λ v. is_finite (get_or grown v neg_inf)) raised u (subst (λ l. In l u) is m))) ∙ growth u out
