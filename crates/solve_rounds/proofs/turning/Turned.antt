-- One turn of the code is one turn of the theory.
use Rattle.std.proofs.Common.{◌≡◌, ◌∙◌, ℕ, zero, suc, ◌+◌, ◌*◌, ◌%◌, ◌<◌, List, [], ◌∷◌, length, get_or, map, refl, sym, ap, ap₂, subst}
use Rattle.std.proofs.Common.{arith}
use Rattle.std.specs.Prelude.{Option}
use Rattle.std.proofs.lemmas.Nat.{div-add-mod'}
use Rattle.std.proofs.lemmas.List.{get_or-map, length-map}
use Rattle.std.proofs.lemmas.List.FromFn.{length-map-range_with_len, get_or-map-range_with_len}
use Rattle.base_facts.specs.Elements.{In}
use Rattle.base_numbers.specs.Rational.{ℚ, zero_ℚ}
use Rattle.base_numbers.specs.Extended.{Ext as Extended, fin, pos_inf}
use Rattle.flow_systems.specs.Equations.{Equations, Vector}
use Rattle.flow_systems.specs.View.{equations_of, vector_of}
use Rattle.flow_systems.specs.declared.system.System.{System}
use Rattle.flow_systems.specs.declared.trace.Trace.{Trace}
use Rattle.theory_validity.specs.Steps.{Item, Jump as JumpKind, Ray as RayKind, new_value, after_step, Distinct}
use Rattle.theory_validity.specs.Certificates.{num}
use Rattle.cert_types.specs.declared.step.Step.{Step as CodeStep}
use Rattle.cert_types.specs.Certificates.{jump_item, ray_item}
use Rattle.solve_ray.specs.declared.rate.RateOf.{RateOf}
use Rattle.solve_ray.specs.declared.layout.Rise.{Rise}
use Rattle.solve_ray.specs.Reading.{named_rates}
use Rattle.lp_theory.specs.Problem.{Outcome as Solution, best, unbounded, empty}
use Rattle.lp_theory.specs.Simplex.{lp}
use Rattle.theory_transformers.specs.JointProblems.{Listed, rise_at, raised, joint_problem, joint_words, AllRising}
use Rattle.theory_transformers.specs.JointPoints.{Distinct as Apart}
use Rattle.theory_strategy.specs.Picks.{IsPick, choice}
use Rattle.theory_strategy.specs.Round.{ListCondition, PointFacts, RayFacts, OutcomeFacts}
use Rattle.solve_joint.specs.Numbers.{ArePicked, IsPicked, all_listed}
use Rattle.solve_joint.specs.Joints.{IsReadFrom, entries_of, word_of}
use Rattle.solve_joint.specs.Layouts.{layout_of}
use Rattle.solve_joint.specs.declared.joined.Joined.TheVariants.{Point as PointRead, Ray as RayRead}
use Rattle.solve_joint.specs.declared.joined.Joined.{Joined}
use Rattle.solve_joint.specs.Problems.{problem_of}
use Rattle.solve_joint.proofs.blocks.Translated.{listed_distinct}
use Rattle.solve_joint.proofs.layouts.NumberReads.{numbers_are}
use Rattle.theory_rounds.specs.JointItems.{listed_items, point_items, rate_items, outcome_items, exact_joint}
use Rattle.theory_rounds.proofs.joint_items.Joined.{exact_joined}
use Rattle.theory_rounds.proofs.joint_items.ListedItems.{rising_items}
use Rattle.solve_offers.specs.AtBounds.{vector_at, transformers}
use Rattle.solve_offers.specs.Improvement.{pick_of}
use Rattle.solve_rounds.specs.Growing.{Agrees}
use Rattle.solve_rounds.specs.Lows.{no_trace, AreRaised, items_at}
use Rattle.solve_rounds.specs.Putting.{puts}
use Rattle.solve_rounds.specs.Turning.{jump_item_at, jump_items_at, ray_item_of, IsPart}
use Rattle.solve_offers.proofs.offers.Unknowns.{row_within}
use Rattle.solve_rounds.proofs.turning.OutcomeFacts.{HasFacts}
use Rattle.solve_rounds.proofs.turning.TurnItems.{place_of, in_place, each_unknown}
use Rattle.solve_rounds.proofs.lows.ListedLows.{listed_same}
use Rattle.solve_rounds.proofs.lows.JumpTurn.{jump_is}
use Rattle.solve_rounds.proofs.lows.RateTurn.{rate_is}
use Rattle.solve_rounds.proofs.putting.PutVector.{AreNumbers, put_agrees}
use Rattle.solve_rounds.proofs.turning.LayoutReads.{layout_unknowns, layout_starts, layout_rises, layout_words, read_sizes}

-- each number of a picked list is picked
pub picked_in : (system : System) (pick : List (Option ℕ)) (list : List ℕ) → ArePicked system pick list → (k : ℕ) → k < length list
    → IsPicked system pick (get_or list k 0)
picked_in system pick [] h k l = absurd (omega arith)
picked_in system pick (u ∷ list) h zero l = h.0
picked_in system pick (u ∷ list) h (suc k) l = picked_in system pick list h.1 k (omega arith)

-- an item that stands where there is none
pub no_item : Item
no_item = choice 0 0 0

no_rate : RateOf
no_rate = record { unknown = 0; rate = zero_ℚ; direction = no_trace }

module _ (system : System) (pick : List (Option ℕ)) (raises : List CodeStep) (places list : List ℕ)
    (part : IsPart system pick raises places list) (bounds : List Extended)
    (size : length bounds ≡ length system.flow.points * length system.template)
    (condition : ListCondition (equations_of system) (transformers system) (pick_of (length system.template) pick) (vector_at system bounds)
    (items_at (length system.template) raises places list)) where
  abbrev rows : ℕ
  rows = length system.template

  abbrev eqs : Equations
  eqs = equations_of system

  abbrev V : Vector
  V = vector_at system bounds

  abbrev us : List Listed
  us = all_listed system pick list

  abbrev items : List Item
  items = items_at rows raises places list

  -- the items list the unknowns
  pub same : listed_items items ≡ us
  same = listed_same system pick raises places list part.raised part.edges

  -- the list condition as the code's joint problem asks for it
  pub rising : AllRising eqs V us
  rising = subst (AllRising eqs V) same (rising_items eqs (pick_of rows pick) V items condition)

  -- the unknowns are apart
  pub apart : Apart us
  apart = listed_distinct system pick 0 list part.rises part.picked

  -- each number of the list has a bound
  pub in_range : (k : ℕ) → k < length list → get_or list k 0 < length bounds
  in_range k l = subst (λ n. get_or list k 0 < n) (sym size) (picked_in system pick list part.picked k l).in_range

  -- each number of the list has a row of the template
  pub row_in : (k : ℕ) → k < length list → get_or list k 0 % rows < rows
  row_in k l = row_within (get_or list k 0) (length system.flow.points) rows (picked_in system pick list part.picked k l).in_range

  -- ---- a point
  module _ (to : List ℚ) (highs : List Trace) where
    abbrev pub jumps : List Item
    jumps = map (jump_item rows) (jump_items_at raises places list to highs)

    -- a point has an item for each unknown of the list
    pub length-jumps : length jumps ≡ length list
    length-jumps = length-map (jump_items_at raises places list to highs) (jump_item rows)
        ∙ length-map-range_with_len (jump_item_at raises places list to highs) 0 (length list)

    -- at each place
    pub jump_at : (k : ℕ) → k < length list → get_or jumps k no_item ≡ jump_item rows (jump_item_at raises places list to highs k)
    jump_at k l =
        let n = length-map-range_with_len (jump_item_at raises places list to highs) 0 (length list) in
        get_or-map (jump_item rows) (jump_items_at raises places list to highs) k (jump_item_at raises places list to highs k) no_item
        (omega arith)
        ∙ ap (jump_item rows) (get_or-map-range_with_len (jump_item_at raises places list to highs) 0 (length list) k k
        (jump_item_at raises places list to highs k) l (omega arith))

    jump_numbers : AreNumbers rows no_item jumps (new_value JumpKind) list (λ k. fin (get_or to k zero_ℚ))
    unfolding new_value
    jump_numbers = record {
      size = sym length-jumps;
      row = λ k l. subst (λ (i : Item). i.row < rows) (sym (jump_at k (within k l))) (row_in k (within k l));
      number = λ k l. sym (div-add-mod' (get_or list k 0) rows) ∙ ap (λ (i : Item). i.point * rows + i.row) (sym (jump_at k (within k l)));
      value_is = λ k l. ap (λ (i : Item). fin i.number) (sym (jump_at k (within k l)));
    }
      where
        within : (k : ℕ) → k < length jumps → k < length list
        within k l = subst (λ n. k < n) length-jumps l

    -- the bounds stand for the vector after the jump
    pub point_agrees : Distinct jumps → Agrees system (after_step (record { kind = JumpKind; items = jumps }) V)
        (puts (λ k. fin (get_or to k zero_ℚ)) list bounds (length list))
    unfolding after_step
    point_agrees distinct p r l = put_agrees rows no_item jumps (new_value JumpKind) list (λ k. fin (get_or to k zero_ℚ)) jump_numbers
        distinct bounds in_range p r l

    -- a point that is read from the joint problem's outcome
    module _ (x : ℕ → ℚ) (v : ℚ) (y : ℕ → ℚ) (read : IsReadFrom system pick bounds list (best x v y) (PointRead to highs)) where
      sizes : (length to ≡ length list) × (length highs ≡ length list)
      sizes = read_sizes system pick bounds list (best x v y) (PointRead to highs) read

      to_are : to ≡ map (λ u. num (raised us x V u.point u.row)) us
      to_are = read.0 ∙ numbers_are system pick bounds list _ x (omega arith) rising apart

      -- the items are those of the theory's outcome
      pub point_same : jumps ≡ point_items eqs.variables (raised (listed_items items) x V) items (joint_words eqs (listed_items items) x)
      point_same =
          jump_is rows eqs.variables (raised us x V) raises places list to highs part.raised
          (subst (Rattle.solve_rounds.proofs.lows.JumpTurn.AllStart eqs.variables) (sym read.1)
          (layout_starts system pick (entries_of system pick list x) list)) sizes.1
          (to_are ∙ ap (map (λ u. num (raised us x V u.point u.row))) (sym same))
          ∙ ap (point_items eqs.variables (raised us x V) items) (ap (map word_of) read.1 ∙ layout_words system pick x list)
          ∙ ap (λ l. point_items eqs.variables (raised l x V) items (joint_words eqs l x)) (sym same)

  -- ---- a ray
  module _ (rates : List RateOf) (within : (rate : RateOf) → In rates rate → In list rate.unknown) where
    abbrev named : List ℕ
    named = map (λ (rate : RateOf). rate.unknown) rates

    abbrev pub tops : List Item
    tops = map (ray_item rows) (map (ray_item_of raises places) rates)

    length-tops : length tops ≡ length rates
    length-tops = length-map (map (ray_item_of raises places) rates) (ray_item rows) ∙ length-map rates (ray_item_of raises places)

    top_at : (k : ℕ) → k < length rates → get_or tops k no_item ≡ ray_item rows (ray_item_of raises places (get_or rates k no_rate))
    top_at k l =
        let n = length-map rates (ray_item_of raises places) in
        get_or-map (ray_item rows) (map (ray_item_of raises places) rates) k (ray_item_of raises places no_rate) no_item (omega arith)
        ∙ ap (ray_item rows) (get_or-map (ray_item_of raises places) rates k no_rate (ray_item_of raises places no_rate) l)

    top_numbers : AreNumbers rows no_item tops (new_value RayKind) named (λ k. pos_inf)
    unfolding new_value
    top_numbers = record {
      size = length-map rates (λ (rate : RateOf). rate.unknown) ∙ sym length-tops;
      row = λ k l. subst (λ (i : Item). i.row < rows) (sym (top_at k (inside k l)))
          (unknown_row (get_or rates k no_rate) (in_place rates no_rate k (inside k l)));
      number = λ k l. get_or-map (λ (rate : RateOf). rate.unknown) rates k no_rate 0 (inside k l)
          ∙ sym (div-add-mod' (get_or rates k no_rate).unknown rows) ∙ ap (λ (i : Item). i.point * rows + i.row)
          (sym (top_at k (inside k l)));
      value_is = λ k l. refl;
    }
      where
        inside : (k : ℕ) → k < length tops → k < length rates
        inside k l = subst (λ n. k < n) length-tops l

        unknown_row : (rate : RateOf) → In rates rate → rate.unknown % rows < rows
        unknown_row rate m = let p = place_of list rate.unknown 0 (within rate m) in subst (λ u. u % rows < rows) p.2 (row_in p.0 p.1)

    -- the bounds stand for the vector after the ray
    pub ray_agrees : Distinct tops → Agrees system (after_step (record { kind = RayKind; items = tops }) V)
        (puts (λ k. pos_inf) named bounds (length rates))
    unfolding after_step
    ray_agrees distinct p r l =
        put_agrees rows no_item tops (new_value RayKind) named (λ k. pos_inf) top_numbers distinct bounds
        (each_unknown (λ u. u < length bounds) (λ (rate : RateOf). rate.unknown) rates no_rate list in_range within) p r l
        ∙ ap (λ n. vector_of rows (puts (λ k. pos_inf) named bounds n) p r) (length-map rates (λ (rate : RateOf). rate.unknown))

  -- a ray that is read from the joint problem's outcome
  module _ (x d : ℕ → ℚ) (rates : List RateOf) (read : rates ≡ named_rates (entries_of system pick list d) (layout_of system pick list))
    where
      abbrev ray : List ℚ
      ray = entries_of system pick list d

      laid : map (λ (rise : Rise). rise.unknown) (layout_of system pick list) ≡ list
      laid = layout_unknowns system pick list

      -- the items are those of the theory's outcome
      pub ray_same : map (ray_item rows) (map (ray_item_of raises places) rates)
          ≡ rate_items eqs.variables (rise_at (listed_items items) d) items (joint_words eqs (listed_items items) d)
      ray_same =
          ap (λ rs. map (ray_item rows) (map (ray_item_of raises places) rs)) read
          ∙ rate_is rows eqs.variables (rise_at us d) ray raises places (layout_of system pick list)
          (subst (AreRaised raises places) (sym laid) part.raised) (layout_starts system pick ray list)
          (ap (λ l. map (λ v. rise_at us d v.point v.row) (listed_items (items_at rows raises places l))) laid
          ∙ ap (map (λ v. rise_at us d v.point v.row)) same ∙ layout_rises system pick d list apart)
          ∙ ap₂ (λ l w. rate_items eqs.variables (rise_at us d) (items_at rows raises places l) w) laid (layout_words system pick d list)
          ∙ ap (λ l. rate_items eqs.variables (rise_at l d) items (joint_words eqs l d)) (sym same)

  -- ---- the outcome
  by_outcome : (o : Solution) → OutcomeFacts eqs (transformers system) V items (outcome_items eqs V items o) → (j : Joined)
      → IsReadFrom system pick bounds list o j → HasFacts system raises places list bounds j
  unfolding outcome_items
  by_outcome (best x v y) facts (PointRead to highs) read =
      subst (PointFacts eqs (transformers system) V items) (sym (point_same to highs x v y read)) facts
  by_outcome (best x v y) facts (RayRead rates) read = absurd read
  by_outcome (unbounded x d) facts (PointRead to highs) read = absurd read
  by_outcome (unbounded x d) facts (RayRead rates) read =
      subst (RayFacts eqs V items) (sym (ray_same x d rates.list read)) facts
  by_outcome (empty y) facts j read = absurd read

  -- what is read from the exact outcome has its facts
  pub read_facts : IsPick eqs (pick_of rows pick) → (j : Joined)
      → IsReadFrom system pick bounds list (lp (problem_of system pick bounds list)) j → HasFacts system raises places list bounds j
  unfolding exact_joint
  read_facts is_pick j read =
      let as_theirs : IsReadFrom system pick bounds list (lp (joint_problem eqs V (listed_items items))) j =
      subst (λ l. IsReadFrom system pick bounds list (lp (joint_problem eqs V l)) j) (sym same) read in
      let facts = exact_joined eqs (pick_of rows pick) is_pick V items condition in
      by_outcome (lp (joint_problem eqs V (listed_items items))) facts j as_theirs
