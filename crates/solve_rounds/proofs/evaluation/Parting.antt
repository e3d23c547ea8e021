-- The turns of a part, one after the other.
use Rattle.std.proofs.Common.{◌==◌, true≢false, true, false, ◌≡◌, ◌∙◌, inl, inr, ⊎_elim, ℕ, zero, suc, ◌+◌, ◌*◌, ◌<◌, ◌≤◌, List, [], ◌∷◌}
use Rattle.std.proofs.Common.{◌++◌, append_assoc, append-nil, length, length-append, get_or, map, refl, sym, ap, subst, arith}
use Rattle.std.specs.Prelude.{Option}
use Rattle.std.proofs.lemmas.Bool.{eqb-true}
use Rattle.std.proofs.lemmas.List.{length-map}
use Rattle.base_facts.specs.Elements.{In}
use Rattle.flow_systems.specs.Equations.{Equations, Vector}
use Rattle.flow_systems.specs.View.{equations_of}
use Rattle.solve_rounds.specs.declared.halt.RoundStop.{RoundStop}
use Rattle.flow_systems.specs.declared.system.System.{System}
use Rattle.theory_validity.specs.Steps.{Item, Step, after_step}
use Rattle.theory_validity.specs.Certificates.{after_steps}
use Rattle.cert_types.specs.declared.step.Step.{Step as CodeStep}
use Rattle.cert_types.specs.Certificates.{step_of}
use Rattle.theory_strategy.specs.Turns.{step_by, Leaves, AreWaiting}
use Rattle.theory_strategy.proofs.growth.GrowthLaw.{led-append}
use Rattle.theory_strategy.proofs.round.PartLaw.{waiting_condition, leaves_append, leaves_waiting}
use Rattle.theory_rounds.specs.Evidence.{exact_evidence}
use Rattle.theory_rounds.specs.Agreement.{HaveRows}
use Rattle.theory_rounds.proofs.raises.ProblemsAgree.{after_agrees}
use Rattle.theory_rounds.proofs.turns.FactsAgree.{agree_back, facts_agree, waiting_agrees}
use Rattle.solve_rounds.specs.declared.turning.Turning.{Turning}
use Rattle.solve_offers.specs.AtBounds.{vector_at, transformers}
use Rattle.solve_offers.specs.Improvement.{pick_of}
use Rattle.solve_offers.specs.Known.{KeepsOthers}
use Rattle.solve_rounds.specs.Growing.{Agrees}
use Rattle.solve_rounds.specs.Lows.{raise_at, item_in, items_at}
use Rattle.solve_rounds.specs.Round.{IsTurnStop}
use Rattle.solve_rounds.specs.Turning.{turns_so_far, IsPickAt, MeetsCondition, IsWaiting, IsPart, IsTurned, IsDone, ComesAfter}
use Rattle.solve_rounds.specs.Turning.{IsJoinedStop}
use Rattle.solve_rounds.proofs.turning.TurnItems.{place_of}
use Rattle.solve_rounds.proofs.lows.ListedLows.{raised_item}
use Rattle.solve_offers.proofs.offers.Unknowns.{row_within}
use Rattle.solve_rounds.proofs.turning.Turned.{picked_in}
use Rattle.solve_rounds.proofs.evaluation.TurnStops.{joined_stop}

-- a mapped element is the image of one
pub of_map : {A B : Type 0} (f : A → B) (xs : List A) (y : B) → In (map f xs) y → (x : A) × In xs x × (f x ≡ y)
of_map f [] y m = absurd m
of_map f (x ∷ xs) y m = ⊎_elim (λ e. (x, inl refl, e)) (λ k. let r = of_map f xs y k in (r.0, inr r.1, r.2)) m

-- the items of a part stand at rows of the template
pub part_rows : (system : System) (pick : List (Option ℕ)) (raises : List CodeStep) (places list : List ℕ)
    → IsPart system pick raises places list → HaveRows (equations_of system) (items_at (length system.template) raises places list)
part_rows system pick raises places list h item m =
    let u = of_map (λ u. item_in (length system.template) (raise_at raises places u)) list item m in
    let k = place_of list u.0 0 u.1 in
    let p = raised_item (length system.template) raises places (get_or list k.0 0) (h.raised k.0 k.1) in
    subst (λ (i : Item). i.row < length system.template) u.2
    (subst (λ n. (item_in (length system.template) (raise_at raises places n)).row < length system.template) k.2
    (subst (λ r. r < length system.template) (sym p.1) (row_within (get_or list k.0 0) (length system.flow.points) (length system.template)
    (picked_in system pick list h.picked k.0 k.1).in_range)))

-- a number that isn't 0
pub not_none : (n : ℕ) → n == 0 ≡ false → 0 < n
not_none zero e = absurd (true≢false e)
not_none (suc n) e = omega arith

-- a list of length 0
pub none_there : (n : ℕ) → n == 0 ≡ true → n ≡ 0
none_there n e = eqb-true n 0 e

-- a list of length zero is empty
pub no_element : {A : Type 0} (xs : List A) → length xs ≡ 0 → xs ≡ []
no_element [] e = refl
no_element (x ∷ xs) e = absurd (omega arith)

-- a list with an element has a length
some_items : {A B : Type 0} (f : A → B) (xs : List A) → 0 < length xs → 0 < length (map f xs)
some_items f xs l = subst (λ n. 0 < n) (sym (length-map xs f)) l

module _ (system : System) (pick : List (Option ℕ)) (raises : List CodeStep) (places list : List ℕ) (old : Turning) where
  abbrev rows : ℕ
  rows = length system.template

  abbrev eqs : Equations
  eqs = equations_of system

  abbrev V : Vector
  V = vector_at system old.bounds

  abbrev items : List ℕ → List Item
  items l = items_at rows raises places l

  -- some turns of a part are made, and these unknowns are left
  pub record IsParting (left : List ℕ) (now : Turning) : Type 0 where
    -- the unknowns left are a part
    pub part_left : IsPart system pick raises places left
    -- the bounds keep their number
    pub size : length now.bounds ≡ length old.bounds
    -- the steps of the turns so far
    pub made : List Step
    -- they leave the unknowns that are left
    pub leaves : Leaves eqs (transformers system) V (items list) made (items left)
    -- the steps now are those before and those of the turns so far
    pub steps : turns_so_far system now ≡ turns_so_far system old ++ made
    -- the bounds are those after the steps so far
    pub agrees : Agrees system (after_steps made V) now.bounds
    -- each step takes an unknown from those left
    pub few : length now.steps.items + length left ≤ length old.steps.items + length list
    -- the unknowns left are on the list
    pub among : (u : ℕ) → In left u → In list u
    -- what isn't on the list keeps its bound
    pub others : KeepsOthers list old.bounds now.bounds

  -- at first
  pub parting_starts : IsPart system pick raises places list → IsParting list old
  unfolding after_steps
  parting_starts h = record {
    part_left = h;
    size = refl;
    made = [];
    leaves = refl;
    steps = sym (append-nil (turns_so_far system old));
    agrees = λ p r l. refl;
    few = omega arith;
    among = λ u m. m;
    others = λ u out. refl;
  }

  -- at the end
  pub parting_ends : (left : List ℕ) (now : Turning) → left ≡ [] → IsParting left now → IsDone system pick raises places list old now
  parting_ends left now e h = record {
    size = h.size;
    made = h.made;
    leaves = subst (λ l. Leaves eqs (transformers system) V (items list) h.made (items l)) e h.leaves;
    steps = h.steps;
    agrees = h.agrees;
    few = (let f = h.few in omega arith);
  }

  -- there is a step for each turn so far
  made_count : (left : List ℕ) (now : Turning) → (h : IsParting left now) → length now.steps.items ≡ length old.steps.items + length h.made
  made_count left now h =
      sym (length-map now.steps.items (step_of rows)) ∙ ap length h.steps ∙ length-append (turns_so_far system old) h.made
      ∙ ap (λ n. n + length h.made) (length-map old.steps.items (step_of rows))

  -- a step after others
  led_one : (made : List Step) (step : Step) (z : Vector) → after_steps (made ++ step ∷ []) z ≡ after_step step (after_steps made z)
  unfolding after_steps
  led_one made step z = led-append made (step ∷ []) z

  -- one turn more takes the part one turn further
  pub left_more : (left more : List ℕ) (now new : Turning) → 0 < length left → IsParting left now
      → IsTurned system pick raises places left now new more → ((u : ℕ) → In more u → In left u)
      → KeepsOthers left now.bounds new.bounds → IsParting more new
  left_more left more now new some h t among others =
      let step = step_by t.outcome in
      let before = after_steps h.made V in
      let here = facts_agree eqs (vector_at system now.bounds) before (agree_back eqs before (vector_at system now.bounds) h.agrees)
      (items left) (part_rows system pick raises places left h.part_left) t.outcome t.facts in
      let few = h.few in
      let fewer = t.fewer in
      let one = t.one in
      record {
        part_left = t.part;
        size = t.size ∙ h.size;
        made = h.made ++ step ∷ [];
        leaves = leaves_append eqs (transformers system) h.made (step ∷ []) V (items list) (items left) (items more) h.leaves
            (t.outcome, here, refl, some_items (λ u. item_in rows (raise_at raises places u)) left some, t.left_is);
        steps = t.steps ∙ ap (λ s. s ++ step ∷ []) h.steps ∙ append_assoc (turns_so_far system old) h.made (step ∷ []);
        agrees = λ p r m. ap (λ z. z p r) (led_one h.made step V)
            ∙ after_agrees eqs step before (vector_at system now.bounds) h.agrees p r m ∙ t.agrees p r m;
        few = omega arith;
        among = λ u m. h.among u (among u m);
        others = λ u out. others u (λ m. out (h.among u m)) ∙ h.others u out;
      }

  -- the unknowns left wait for their turn
  left_waiting : (left : List ℕ) (now : Turning) → IsPickAt system pick → (w : IsWaiting system pick raises places list old.bounds)
      → IsParting left now → AreWaiting eqs (pick_of rows pick) w.0 (vector_at system now.bounds) (items left)
  left_waiting left now chosen w h =
      waiting_agrees eqs (pick_of rows pick) w.0 (after_steps h.made V) (vector_at system now.bounds) (items left) h.agrees
      (part_rows system pick raises places left h.part_left)
      (leaves_waiting eqs (transformers system) (exact_evidence eqs) (pick_of rows pick) chosen w.0 h.made V (items list) (items left) w.1
      h.leaves)

  -- and so they meet the condition of their turn
  pub left_condition : (left : List ℕ) (now : Turning) → IsPickAt system pick → IsWaiting system pick raises places list old.bounds
      → IsParting left now → MeetsCondition system pick raises places left now.bounds
  left_condition left now chosen w h =
      waiting_condition eqs (transformers system) (exact_evidence eqs) (pick_of rows pick) chosen w.0 (vector_at system now.bounds)
      (items left) (left_waiting left now chosen w h)

  -- the next turn comes up
  left_comes : (left : List ℕ) (now : Turning) → 0 < length left → IsParting left now
      → ComesAfter system raises places list old (length now.steps.items) (vector_at system now.bounds) (items left)
  left_comes left now some h = (
    length h.made,
    made_count left now h,
    record {
      made = h.made;
      leaves = h.leaves;
      some = some_items (λ u. item_in rows (raise_at raises places u)) left some;
      number_is = refl;
      agrees = h.agrees;
    },
  )

  -- so where it stops, a turn of the part does
  pub left_stop : (left : List ℕ) (now : Turning) (round : ℕ) (stop : RoundStop)
      → length old.bounds ≡ length system.flow.points * length system.template → 0 < length left → IsParting left now
      → IsJoinedStop system pick now.bounds left (length now.steps.items) round stop
      → IsTurnStop system pick (ComesAfter system raises places list old) round stop
  left_stop left now round stop size some h s =
      joined_stop system pick raises places left now.bounds (length now.steps.items) round (ComesAfter system raises places list old)
      (h.size ∙ size) h.part_left.raised (left_comes left now some h) stop s
