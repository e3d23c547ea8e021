-- The turns of the parts of a list, one part after the other.
use Rattle.std.proofs.Common.{◌≡◌, ◌∙◌, inl, inr, ⊎_elim, ℕ, zero, suc, ◌+◌, ◌*◌, ◌<◌, ◌≤◌, List, [], ◌∷◌, ◌++◌, append_assoc, append-nil}
use Rattle.std.proofs.Common.{length, length-append, get_or, map, drop, refl, sym, ap, subst, arith}
use Rattle.std.specs.Prelude.{Option}
use Rattle.std.proofs.lemmas.List.{length-map, drop_more, drop_all}
use Rattle.base_facts.proofs.elements.Membership.{of_append}
use Rattle.base_facts.specs.Elements.{In}
use Rattle.flow_systems.specs.Equations.{Equations, Vector}
use Rattle.flow_systems.specs.View.{equations_of}
use Rattle.flow_systems.specs.declared.system.System.{System}
use Rattle.theory_validity.specs.Steps.{Item, Step}
use Rattle.theory_validity.specs.Certificates.{after_steps}
use Rattle.cert_types.specs.declared.step.Step.{Step as CodeStep}
use Rattle.cert_types.specs.Certificates.{step_of}
use Rattle.theory_strategy.specs.Picks.{Pick}
use Rattle.theory_strategy.specs.Round.{members}
use Rattle.theory_strategy.specs.Turns.{AreTurnsOf, PartsAreWaiting}
use Rattle.theory_strategy.proofs.growth.GrowthLaw.{led-append}
use Rattle.theory_strategy.proofs.round.PartLaw.{leaves_done}
use Rattle.theory_strategy.proofs.round.CutLaw.{first_waiting, later_waiting}
use Rattle.theory_rounds.specs.Evidence.{exact_evidence}
use Rattle.theory_rounds.specs.Agreement.{HaveRows}
use Rattle.theory_rounds.specs.ComingTurns.{ComesUp}
use Rattle.theory_rounds.proofs.raises.ProblemsAgree.{led_agrees}
use Rattle.theory_rounds.proofs.turns.FactsAgree.{agree_back, turns_of_agree, comes_agrees, parts_waiting_agree}
use Rattle.solve_joint.specs.PartLists.{part_numbers}
use Rattle.solve_rounds.specs.declared.turning.Turning.{Turning}
use Rattle.solve_offers.specs.AtBounds.{vector_at, transformers}
use Rattle.solve_offers.specs.Improvement.{pick_of}
use Rattle.solve_offers.specs.Known.{KeepsOthers}
use Rattle.solve_rounds.specs.Growing.{Agrees}
use Rattle.solve_rounds.specs.Lows.{items_at}
use Rattle.solve_rounds.specs.Turning.{turns_so_far, parts_at, IsPickAt, IsPart, IsDone, AreAllDone, IsWaiting, PartsWait}
use Rattle.solve_rounds.specs.Turning.{ComesAfter, ComesAmong}
use Rattle.solve_rounds.proofs.evaluation.Parting.{part_rows}
use Rattle.flow_systems.specs.declared.limits.TheConstants.{MOST_UNKNOWNS}

module _ (system : System) (pick : List (Option ℕ)) (raises : List CodeStep) (places list : List ℕ) (old : Turning) where
  abbrev rows : ℕ
  rows = length system.template

  abbrev eqs : Equations
  eqs = equations_of system

  abbrev p : Pick
  p = pick_of (length system.template) pick

  abbrev V : Vector
  V = vector_at system old.bounds

  abbrev items : List ℕ → List Item
  items l = items_at rows raises places l

  abbrev numbers : List (List ℕ)
  numbers = part_numbers system pick list

  -- the parts left after some
  abbrev rest : ℕ → List (List Item)
  rest number = map items (drop number numbers)

  -- the turns of some parts are made
  pub record ArePartings (number : ℕ) (now : Turning) : Type 0 where
    -- the bounds keep their number
    pub size : length now.bounds ≡ length old.bounds
    -- the steps of the parts so far
    pub made : List Step
    -- the steps now are those before and those of the parts so far
    pub steps : turns_so_far system now ≡ turns_so_far system old ++ made
    -- the vector after the growth
    pub grown : Vector
    -- the parts left wait for their turns
    pub waits : PartsAreWaiting eqs p grown (vector_at system now.bounds) (rest number)
    -- whatever turns the parts left take, behind those so far they are turns of all parts
    pub whole : (more : List Step) → AreTurnsOf eqs (transformers system) (vector_at system now.bounds) (rest number) more
        → AreTurnsOf eqs (transformers system) V (parts_at system pick raises places list) (made ++ more)
    -- and what comes up in them comes up among all
    pub comes : (more : ℕ) (v : Vector) (left : List Item) → ComesUp eqs (vector_at system now.bounds) (rest number) more v left
        → ComesAmong system pick raises places list old.bounds (length made + more) v left
    -- the bounds are those after the steps so far
    pub agrees : Agrees system (after_steps made V) now.bounds
    -- each part so far makes at most as many steps as there may be unknowns
    pub few : length now.steps.items ≤ MOST_UNKNOWNS * number
    -- what isn't on the list keeps its bound
    pub others : KeepsOthers list old.bounds now.bounds

  -- at first
  pub partings_start : length old.steps.items ≡ 0 → PartsWait system pick raises places list old.bounds → ArePartings 0 old
  unfolding after_steps
  partings_start none waits = record {
    size = refl;
    made = [];
    steps = sym (append-nil (turns_so_far system old));
    grown = waits.0;
    waits = waits.1;
    whole = λ more h. h;
    comes = λ more v left h. subst (λ n. ComesUp eqs V (rest 0) n v left) (let e : more ≡ 0 + more = omega arith in e) h;
    agrees = λ q r l. refl;
    few = omega arith;
    others = λ u out. refl;
  }

  -- at the end
  pub partings_end : (number : ℕ) (now : Turning) → length numbers ≤ number → ArePartings number now
      → AreAllDone system pick raises places list old now
  partings_end number now l h =
      let none : drop number numbers ≡ [] = drop_all number numbers l in
      record {
        size = h.size;
        made = h.made;
        turns = subst (AreTurnsOf eqs (transformers system) V (parts_at system pick raises places list)) (append-nil h.made)
            (h.whole []
            (subst (λ ls. AreTurnsOf eqs (transformers system) (vector_at system now.bounds) (map items ls) []) (sym none) refl));
        steps = h.steps;
        agrees = h.agrees;
      }

  -- the part that comes next, and those after it
  cut_here : (number : ℕ) → number < length numbers → rest number ≡ items (get_or numbers number []) ∷ rest (number + 1)
  cut_here number l = ap (map items) (drop_more numbers number [] l)

  waits_here : (number : ℕ) (now : Turning) → number < length numbers → (h : ArePartings number now)
      → PartsAreWaiting eqs p h.grown (vector_at system now.bounds) (items (get_or numbers number []) ∷ rest (number + 1))
  waits_here number now l h = subst (PartsAreWaiting eqs p h.grown (vector_at system now.bounds)) (cut_here number l) h.waits

  -- the unknowns of the next part wait for their turn
  pub next_waits : (number : ℕ) (now : Turning) → IsPickAt system pick → number < length numbers → ArePartings number now
      → IsWaiting system pick raises places (get_or numbers number []) now.bounds
  next_waits number now chosen l h = (
    h.grown,
    first_waiting eqs (transformers system) (exact_evidence eqs) p chosen h.grown (vector_at system now.bounds)
        (items (get_or numbers number [])) (rest (number + 1)) (waits_here number now l h),
  )

  -- there is a step for each turn so far
  made_count : (number : ℕ) (now : Turning) → length old.steps.items ≡ 0 → (h : ArePartings number now)
      → length now.steps.items ≡ length h.made
  made_count number now none h =
      let count = length-append (turns_so_far system old) h.made in
      let before = length-map old.steps.items (step_of rows) in
      let all = length-map now.steps.items (step_of rows) in
      let same = ap length h.steps in
      omega arith

  -- a turn of the next part that comes up comes up among all
  pub next_comes : (number : ℕ) (now : Turning) → length old.steps.items ≡ 0 → number < length numbers → ArePartings number now
      → (k : ℕ) (v : Vector) (left : List Item) → ComesAfter system raises places (get_or numbers number []) now k v left
      → ComesAmong system pick raises places list old.bounds k v left
  next_comes number now none l h k v left c =
      subst (λ n. ComesAmong system pick raises places list old.bounds n v left)
      (ap (λ n. n + c.0) (sym (made_count number now none h)) ∙ sym c.1)
      (h.comes c.0 v left (subst (λ ls. ComesUp eqs (vector_at system now.bounds) ls c.0 v left) (sym (cut_here number l)) (inl c.2)))

  rows_of : (ls : List (List ℕ)) → ((k : ℕ) → k < length ls → IsPart system pick raises places (get_or ls k []))
      → HaveRows eqs (members (map items ls))
  unfolding members
  rows_of [] h u m = absurd m
  rows_of (p ∷ ls) h u m = ⊎_elim (λ i. part_rows system pick raises places p (h 0 (omega arith)) u i)
      (λ i. rows_of ls (λ k l. h (suc k) (omega arith)) u i) (of_append (items p) (members (map items ls)) u m)

  dropped : (n : ℕ) (ls : List (List ℕ)) → ((k : ℕ) → k < length ls → IsPart system pick raises places (get_or ls k [])) → (k : ℕ)
      → k < length (drop n ls) → IsPart system pick raises places (get_or (drop n ls) k [])
  dropped zero ls h k l = h k l
  dropped (suc n) [] h k l = absurd (omega arith)
  dropped (suc n) (p ∷ ls) h k l = dropped n ls (λ j m. h (suc j) (omega arith)) k l

  -- after one part more
  pub partings_more : (number : ℕ) (now new : Turning) → IsPickAt system pick → number < length numbers
      → ((k : ℕ) → k < length numbers → IsPart system pick raises places (get_or numbers k []))
      → length (get_or numbers number []) ≤ MOST_UNKNOWNS → ((u : ℕ) → In (get_or numbers number []) u → In list u)
      → ArePartings number now → IsDone system pick raises places (get_or numbers number []) now new
      → KeepsOthers (get_or numbers number []) now.bounds new.bounds → ArePartings (number + 1) new
  partings_more number now new chosen l each small within h done others =
      let part = get_or numbers number [] in
      let s = done.made in
      let before = vector_at system now.bounds in
      let after = vector_at system new.bounds in
      let back = agree_back eqs (after_steps s before) after done.agrees in
      let rest_rows = rows_of (drop (number + 1) numbers) (dropped (number + 1) numbers each) in
      let first = first_waiting eqs (transformers system) (exact_evidence eqs) p chosen h.grown before (items part) (rest (number + 1))
      (waits_here number now l h) in
      record {
        size = done.size ∙ h.size;
        made = h.made ++ s;
        steps = done.steps ∙ ap (λ x. x ++ s) h.steps ∙ append_assoc (turns_so_far system old) h.made s;
        grown = h.grown;
        waits = parts_waiting_agree eqs p h.grown (after_steps s before) after (rest (number + 1)) done.agrees rest_rows
            (later_waiting eqs (transformers system) (exact_evidence eqs) p chosen h.grown before (items part) (rest (number + 1)) s
            (waits_here number now l h)
            (leaves_done eqs (transformers system) (exact_evidence eqs) p chosen h.grown s before (items part) first done.leaves));
        whole = λ more t. subst (AreTurnsOf eqs (transformers system) V (parts_at system pick raises places list))
            (sym (append_assoc h.made s more))
            (h.whole (s ++ more) (subst (λ ls. AreTurnsOf eqs (transformers system) before ls (s ++ more)) (sym (cut_here number l))
            (s, done.leaves, (more, turns_of_agree eqs (rest (number + 1)) after (after_steps s before) more back rest_rows t, refl))));
        comes = λ more v left c. subst (λ n. ComesAmong system pick raises places list old.bounds n v left)
            (let a = length-append h.made s in omega arith)
            (h.comes (length s + more) v left (subst (λ ls. ComesUp eqs before ls (length s + more) v left) (sym (cut_here number l))
            (inr (
              s,
              done.leaves,
              (
                more,
                refl,
                comes_agrees eqs (rest (number + 1)) after (after_steps s before) more v left back rest_rows
                    c,
              ),
            ))));
        agrees = λ q r m. ap (λ z. z q r) (led-append h.made s V) ∙ led_agrees eqs s (after_steps h.made V) before h.agrees q r m
            ∙ done.agrees q r m;
        few = (let a = h.few in let b = done.few in omega arith);
        others = λ u out. others u (λ m. out (within u m)) ∙ h.others u out;
      }
