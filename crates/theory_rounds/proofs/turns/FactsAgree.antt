-- From vectors that agree at the template's rows the same outcomes have their facts, so the same turns are made.
use Rattle.std.proofs.Common.{◌∙◌, inl, inr, ⊎_elim, ℕ, ◌<◌, List, [], ◌∷◌, length, sym, subst}
use Rattle.std.proofs.lemmas.Option.{slice_get_within}
use Rattle.base_facts.proofs.elements.Membership.{in_left, in_right}
use Rattle.base_facts.specs.Elements.{In}
use Rattle.base_numbers.specs.Extended.{fin, ◌≤ᴱ◌, ◌<ᴱ◌}
use Rattle.base_numbers.proofs.extended.ExtendedLaws.{ext_le_of_eq}
use Rattle.flow_systems.specs.Equations.{Equations, Vector}
use Rattle.theory_validity.specs.Steps.{Below, Item, Step, Jump, edge_of, row_of, put, new_value, after_step, word}
use Rattle.theory_validity.specs.Certificates.{after_steps}
use Rattle.theory_validity.proofs.steps.Puts.{runs_below}
use Rattle.theory_transformers.specs.EdgeProblems.{transformer}
use Rattle.theory_strategy.specs.Picks.{Pick}
use Rattle.theory_strategy.specs.Round.{SameItem, Outcome, Point, Rays, PointFacts, RayFacts, OutcomeFacts, members}
use Rattle.theory_strategy.specs.Turns.{left_by, Leaves, AreTurnsOf, AreWaiting, PartsAreWaiting}
use Rattle.theory_strategy.proofs.round.TurnLaw.{of_without}
use Rattle.theory_rounds.specs.Agreement.{Agree, HaveRows}
use Rattle.theory_rounds.specs.ComingTurns.{ComesInPart, ComesUp}
use Rattle.theory_rounds.proofs.raises.ProblemsAgree.{transformer_agrees, after_agrees, led_agrees}

-- vectors that agree are at most one another
pub agree_below : (system : Equations) (b c : Vector) → Agree system b c → Below system b c
agree_below system b c agree p r l = ext_le_of_eq (b p r) (c p r) (agree p r l)

-- they do the other way round
pub agree_back : (system : Equations) (b c : Vector) → Agree system b c → Agree system c b
agree_back system b c agree p r l = sym (agree p r l)

-- an item for an unknown of a list stands at a row of the template where the list's do
row_of_same : (system : Equations) (list : List Item) → HaveRows system list → (v u : Item) → In list u → SameItem u v
    → v.row < length system.template
row_of_same system list rows v u m s = subst (λ r. r < length system.template) s.row (rows u m)

module _ (system : Equations) (b c : Vector) (agree : Agree system b c) (list : List Item) (rows : HaveRows system list) where
  point_facts_agree : (items : List Item) → PointFacts system (transformer system) b list items
      → PointFacts system (transformer system) c list items
  unfolding after_step
  point_facts_agree items h =
      let after : Agree system (put (new_value Jump) items b) (put (new_value Jump) items c) =
      after_agrees system (record { kind = Jump; items = items }) b c agree in
      record {
        distinct = h.distinct;
        listed = h.listed;
        covers = h.covers;
        rises = λ v m. let u = h.listed v m in
            subst (λ x. x <ᴱ fin v.number) (agree v.point v.row (row_of_same system list rows v u.0 u.1 u.2)) (h.rises v m);
        size = h.size;
        runs = λ v m. runs_below system (put (new_value Jump) items b) (put (new_value Jump) items c) (edge_of system v) (word v.second)
            (agree_below system (put (new_value Jump) items b) (put (new_value Jump) items c) after) (h.runs v m);
        reaches = h.reaches;
        same = λ v m. sym (transformer_agrees system (put (new_value Jump) items b) (put (new_value Jump) items c) after (edge_of system v)
            (row_of system v)) ∙ h.same v m;
      }

  ray_facts_agree : (items : List Item) → RayFacts system b list items → RayFacts system c list items
  ray_facts_agree items h = record {
    distinct = h.distinct;
    listed = h.listed;
    first = h.first;
    some = h.some;
    size = h.size;
    rate = h.rate;
    named = h.named;
    others = λ v m r row bound e n f. h.others v m r row bound e n
        (agree (edge_of system v).from r (slice_get_within system.template r row e) ∙ f);
    falls = h.falls;
    gains = h.gains;
  }

  -- an outcome has its facts at the other vector, too
  pub facts_agree : (o : Outcome) → OutcomeFacts system (transformer system) b list o → OutcomeFacts system (transformer system) c list o
  facts_agree (Point items) h = point_facts_agree items h
  facts_agree (Rays items) h = ray_facts_agree items h

-- what an outcome leaves stands at rows of the template
left_rows : (system : Equations) (o : Outcome) (list : List Item) → HaveRows system list → HaveRows system (left_by o list)
unfolding left_by
left_rows system (Point items) list rows u m = absurd m
left_rows system (Rays items) list rows u m = rows u (of_without items list u m).0

module _ (system : Equations) where
  -- the same turns of a part leave the same unknowns
  pub leaves_agree : (steps : List Step) (b c : Vector) (list left : List Item) → Agree system b c → HaveRows system list
      → Leaves system (transformer system) b list steps left → Leaves system (transformer system) c list steps left
  leaves_agree [] b c list left agree rows h = h
  leaves_agree (step ∷ steps) b c list left agree rows h = (
    h.0,
    facts_agree system b c agree list rows h.0 h.1,
    h.2,
    h.3,
    leaves_agree steps (after_step step b) (after_step step c) (left_by h.0 list) left (after_agrees system step b c agree)
        (left_rows system h.0 list rows) h.4,
  )

  -- the same turns of parts are made
  pub turns_of_agree : (lists : List (List Item)) (b c : Vector) (steps : List Step) → Agree system b c → HaveRows system (members lists)
      → AreTurnsOf system (transformer system) b lists steps → AreTurnsOf system (transformer system) c lists steps
  unfolding members
  turns_of_agree [] b c steps agree rows h = h
  turns_of_agree (list ∷ lists) b c steps agree rows h = (
    h.0,
    leaves_agree h.0 b c list [] agree (λ u m. rows u (in_left list (members lists) u m)) h.1,
    (
      h.2.0,
      turns_of_agree lists (after_steps h.0 b) (after_steps h.0 c) h.2.0 (led_agrees system h.0 b c agree)
          (λ u m. rows u (in_right list (members lists) u m)) h.2.1,
      h.2.2,
    ),
  )

  -- the same turns come up in a part
  pub comes_in_agrees : (b c : Vector) (list : List Item) (number : ℕ) (v : Vector) (left : List Item) → Agree system b c
      → HaveRows system list → ComesInPart system b list number v left → ComesInPart system c list number v left
  comes_in_agrees b c list number v left agree rows h = record {
    made = h.made;
    leaves = leaves_agree h.made b c list left agree rows h.leaves;
    some = h.some;
    number_is = h.number_is;
    agrees = λ p r l. sym (led_agrees system h.made b c agree p r l) ∙ h.agrees p r l;
  }

  -- and in parts
  pub comes_agrees : (lists : List (List Item)) (b c : Vector) (number : ℕ) (v : Vector) (left : List Item) → Agree system b c
      → HaveRows system (members lists) → ComesUp system b lists number v left → ComesUp system c lists number v left
  unfolding members
  comes_agrees [] b c number v left agree rows h = h
  comes_agrees (list ∷ lists) b c number v left agree rows h =
      let mine : HaveRows system list = λ u m. rows u (in_left list (members lists) u m) in
      ⊎_elim
      (λ k. inl (comes_in_agrees b c list number v left agree mine k))
      (λ k. inr (
        k.0,
        leaves_agree k.0 b c list [] agree mine k.1,
        (
          k.2.0,
          k.2.1,
          comes_agrees lists (after_steps k.0 b) (after_steps k.0 c) k.2.0 v left (led_agrees system k.0 b c agree)
              (λ u m. rows u (in_right list (members lists) u m)) k.2.2,
        ),
      ))
      h

  -- what waits at a vector waits at one that agrees
  pub waiting_agrees : (pick : Pick) (z b c : Vector) (list : List Item) → Agree system b c → HaveRows system list
      → AreWaiting system pick z b list → AreWaiting system pick z c list
  waiting_agrees pick z b c list agree rows w = record {
    over = λ p r l. subst (λ x. z p r ≤ᴱ x) (agree p r l) (w.over p r l);
    distinct = w.distinct;
    listed = w.listed;
    kept = λ u m. sym (agree u.point u.row (rows u m)) ∙ w.kept u m;
  }

  -- so do parts
  pub parts_waiting_agree : (pick : Pick) (z b c : Vector) (lists : List (List Item)) → Agree system b c → HaveRows system (members lists)
      → PartsAreWaiting system pick z b lists → PartsAreWaiting system pick z c lists
  parts_waiting_agree pick z b c lists agree rows w = record {
    over = λ p r l. subst (λ x. z p r ≤ᴱ x) (agree p r l) (w.over p r l);
    admissible = w.admissible;
    listed = w.listed;
    kept = λ u m. sym (agree u.point u.row (rows u m)) ∙ w.kept u m;
  }
