-- A point that is reached has the facts of a turn.
use Rattle.std.proofs.Common.{◌≡◌, ◌∙◌, ℕ, suc, ◌*◌, ◌/◌, ◌%◌, ◌<◌, ◌&&◌, eqb, List, [], ◌∷◌, length, get_or, map, sym}
use Rattle.std.proofs.Common.{ap, ap₂, subst, arith}
use Rattle.std.specs.Prelude.{Option}
use Rattle.std.proofs.lemmas.Nat.{div-add-mod'}
use Rattle.std.proofs.lemmas.List.{get_or-map, length-map}
use Rattle.base_facts.specs.Elements.{In}
use Rattle.base_numbers.specs.Rational.{ℚ, ◌≤ℚ◌}
use Rattle.base_numbers.specs.Extended.{Ext as Extended, neg_inf, fin, ◌<ᴱ◌}
use Rattle.base_numbers.proofs.rational.Laws.{le_of_eq_ℚ}
use Rattle.flow_systems.specs.Equations.{Equations, Vector}
use Rattle.flow_systems.specs.View.{equations_of}
use Rattle.flow_systems.specs.declared.system.System.{System}
use Rattle.flow_systems.specs.declared.trace.Trace.{Trace}
use Rattle.theory_validity.specs.Steps.{Item, Jump, Runs, Sized, edge_of, row_of, names, put, new_value, after_step, item_value, word}
use Rattle.theory_validity.specs.Steps.{Unnamed, Distinct}
use Rattle.theory_validity.proofs.steps.Puts.{runs_below}
use Rattle.cert_types.specs.declared.step.Step.{Step as CodeStep}
use Rattle.cert_types.specs.Certificates.{jump_item}
use Rattle.theory_strategy.specs.Picks.{value_at, choice}
use Rattle.theory_strategy.specs.Round.{ListCondition, SameItem}
use Rattle.theory_rounds.specs.Agreement.{Agree}
use Rattle.theory_rounds.proofs.raises.ProblemsAgree.{transformer_agrees}
use Rattle.theory_rounds.proofs.turns.FactsAgree.{agree_below, agree_back}
use Rattle.solve_joint.specs.declared.joined.Joined.TheVariants.{Point}
use Rattle.solve_offers.specs.AtBounds.{vector_at, transformers}
use Rattle.solve_offers.specs.Improvement.{pick_of}
use Rattle.solve_rounds.specs.Lows.{edge_in, item_in, raise_at, items_at}
use Rattle.solve_rounds.specs.Guessed.{bounds_with, IsReachedPoint}
use Rattle.solve_rounds.specs.Turning.{jump_item_at, jump_items_at, IsPart}
use Rattle.solve_rounds.proofs.lows.ListedLows.{item_is}
use Rattle.solve_rounds.proofs.guessed.ReachedBy.{same_number}
use Rattle.solve_rounds.proofs.turning.OutcomeFacts.{HasFacts}
use Rattle.solve_rounds.proofs.turning.TurnItems.{place_of, in_place}
use Rattle.solve_rounds.proofs.turning.Turned.{no_item, length-jumps, jump_at, point_agrees}

-- ---- lists of items for the same unknowns
-- one names what the other names
unnamed_same : (us vs : List Item) (p r : ℕ) → length us ≡ length vs
    → ((k : ℕ) → k < length us → SameItem (get_or us k no_item) (get_or vs k no_item)) → Unnamed us p r → Unnamed vs p r
unfolding names
unnamed_same us [] p r l same h = tt
unnamed_same [] (v ∷ vs) p r l same h = absurd (omega arith)
unnamed_same (u ∷ us) (v ∷ vs) p r l same h =
    let s = same 0 (omega arith) in (
      ap₂ (λ a b. eqb a p && eqb b r) (sym s.point) (sym s.row) ∙ h.0,
      unnamed_same us vs p r (omega arith) (λ k m. same (suc k) (omega arith)) h.1,
    )

-- one is distinct where the other is
distinct_same : (us vs : List Item) → length us ≡ length vs
    → ((k : ℕ) → k < length us → SameItem (get_or us k no_item) (get_or vs k no_item)) → Distinct us → Distinct vs
distinct_same us [] l same h = tt
distinct_same [] (v ∷ vs) l same h = absurd (omega arith)
distinct_same (u ∷ us) (v ∷ vs) l same h =
    let s = same 0 (omega arith) in
    let rest : (k : ℕ) → k < length us → SameItem (get_or us k no_item) (get_or vs k no_item) = λ k m. same (suc k) (omega arith) in (
      subst (λ p. Unnamed vs p v.row) s.point (subst (λ r. Unnamed vs u.point r) s.row
          (unnamed_same us vs u.point u.row (omega arith) rest h.0)),
      distinct_same us vs (omega arith) rest h.1,
    )

module _ (system : System) (pick : List (Option ℕ)) (raises : List CodeStep) (places list : List ℕ)
    (part : IsPart system pick raises places list) (bounds : List Extended)
    (size : length bounds ≡ length system.flow.points * length system.template)
    (condition : ListCondition (equations_of system) (transformers system) (pick_of (length system.template) pick) (vector_at system bounds)
    (items_at (length system.template) raises places list)) (to : List ℚ) (highs : List Trace)
    (reached : IsReachedPoint system pick bounds list to highs) where
  abbrev rows : ℕ
  rows = length system.template

  abbrev eqs : Equations
  eqs = equations_of system

  abbrev V : Vector
  V = vector_at system bounds

  -- the vector that the point leads to
  abbrev there : Vector
  there = vector_at system (bounds_with list to bounds)

  abbrev items : List Item
  items = items_at rows raises places list

  abbrev jumps : List Item
  jumps = map (jump_item rows) (jump_items_at raises places list to highs)

  abbrev jump : ℕ → Item
  jump k = jump_item rows (jump_item_at raises places list to highs k)

  sizes : length items ≡ length jumps
  sizes = length-map list (λ u. item_in rows (raise_at raises places u))
      ∙ sym (length-jumps system pick raises places list part bounds size condition to highs)

  inside : (k : ℕ) → k < length jumps → k < length list
  inside k l = subst (λ n. k < n) (length-jumps system pick raises places list part bounds size condition to highs) l

  is_jump : (k : ℕ) → k < length list → get_or jumps k no_item ≡ jump k
  is_jump k l = jump_at system pick raises places list part bounds size condition to highs k l

  -- the item of a raise is for the unknown of its jump
  same_raise : (k : ℕ) → k < length list → SameItem (item_in rows (raise_at raises places (get_or list k 0))) (jump k)
  same_raise k l =
      let raised = part.raised k l in
      let i = item_is rows (raise_at raises places (get_or list k 0)) raised.filled in
      record {
        point = i.point ∙ ap (λ u. u / rows) raised.unknown;
        row = i.row ∙ ap (λ u. u % rows) raised.unknown;
        edge = i.edge;
        low = i.low;
      }

  same_at : (k : ℕ) → k < length list → SameItem (get_or items k no_item) (get_or jumps k no_item)
  same_at k l =
      subst (λ u. SameItem u (get_or jumps k no_item))
      (sym (get_or-map (λ u. item_in rows (raise_at raises places u)) list k 0 no_item l))
      (subst (SameItem (item_in rows (raise_at raises places (get_or list k 0)))) (sym (is_jump k l)) (same_raise k l))

  same_in : (k : ℕ) → k < length items → SameItem (get_or items k no_item) (get_or jumps k no_item)
  same_in k l = same_at k (inside k (subst (λ n. k < n) sizes l))

  distinct : Distinct jumps
  distinct = distinct_same items jumps sizes same_in condition.distinct

  -- the vector with the items in place is that of the bounds
  agrees : Agree eqs (put (new_value Jump) jumps V) there
  unfolding after_step
  agrees = point_agrees system pick raises places list part bounds size condition to highs distinct

  -- what is known of an item
  record Facts (v : Item) : Type 0 where
    rises : V v.point v.row <ᴱ fin v.number
    sized : Sized eqs v v.second
    runs : Runs eqs (put (new_value Jump) jumps V) (edge_of eqs v) (word v.second)
    reaches : v.number ≤ℚ item_value eqs v (word v.second)
    same : value_at eqs (transformers system) (put (new_value Jump) jumps V) v ≡ fin v.number

  facts_at : (k : ℕ) → k < length list → Facts (jump k)
  unfolding edge_of row_of choice
  facts_at k l =
      let u = get_or list k 0 in
      let v = jump k in
      let h = reached.reached k l in
      let e : h.edge ≡ edge_in (raise_at raises places u) = same_number h.edge (edge_in (raise_at raises places u)) (sym h.picks
      ∙ part.edges k l) in
      record {
        rises = subst (λ b. b <ᴱ fin v.number) (ap (λ n. get_or bounds n neg_inf) (sym (div-add-mod' u rows))) (reached.exceed k l);
        sized = subst (λ n. Sized eqs (choice (u / rows) (u % rows) n) v.second) e h.size;
        runs = runs_below eqs there (put (new_value Jump) jumps V) (edge_of eqs v) (word v.second)
            (agree_below eqs there (put (new_value Jump) jumps V) (agree_back eqs (put (new_value Jump) jumps V) there agrees))
            (subst (λ n. Runs eqs there (get_or eqs.edges n (record { from = 0; to = 0; actions = [] })) (word v.second)) e h.runs);
        reaches = le_of_eq_ℚ (sym (subst (λ n. item_value eqs (choice (u / rows) (u % rows) n) (word v.second) ≡ v.number) e h.reaches));
        same = transformer_agrees eqs (put (new_value Jump) jumps V) there agrees (edge_of eqs v) (row_of eqs v)
            ∙ subst (λ n. value_at eqs (transformers system) there (choice (u / rows) (u % rows) n) ≡ fin v.number) e h.best;
      }

  facts_of : (v : Item) → In jumps v → Facts v
  facts_of v m =
      let k = place_of jumps v no_item m in
      let l = inside k.0 k.1 in
      subst Facts (sym (is_jump k.0 l) ∙ k.2) (facts_at k.0 l)

  -- the facts of the turn
  pub point_facts : HasFacts system raises places list bounds (Point to highs)
  point_facts = record {
    distinct = distinct;
    listed = λ v m.
        let k = place_of jumps v no_item m in
        let l = inside k.0 k.1 in (
          get_or items k.0 no_item,
          in_place items no_item k.0 (subst (λ n. k.0 < n) (sym sizes) k.1),
          subst (SameItem (get_or items k.0 no_item)) k.2 (same_at k.0 l),
        );
    covers = λ u m.
        let k = place_of items u no_item m in
        let l = subst (λ n. k.0 < n) sizes k.1 in (
          get_or jumps k.0 no_item,
          in_place jumps no_item k.0 l,
          subst (λ i. SameItem i (get_or jumps k.0 no_item)) k.2 (same_in k.0 k.1),
        );
    rises = λ v m. (facts_of v m).rises;
    size = λ v m. (facts_of v m).sized;
    runs = λ v m. (facts_of v m).runs;
    reaches = λ v m. (facts_of v m).reaches;
    same = λ v m. (facts_of v m).same;
  }
