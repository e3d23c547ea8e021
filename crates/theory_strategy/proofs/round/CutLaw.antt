-- The turns over an admissible cut: valid steps, after which each unknown of the cut has risen to its transformer.
use Rattle.std.proofs.Common.{◌≡◌, ◌∙◌, inl, inr, ⊎_elim, ℕ, ◌<◌, List, [], ◌∷◌, ◌++◌, length, refl, sym, subst, subst₂, arith}
use Rattle.base_numbers.proofs.extended.ExtendedLaws.{ext_lt_of_lt_of_le}
use Rattle.base_facts.proofs.elements.Membership.{of_append, in_left, in_right}
use Rattle.base_facts.specs.Elements.{In}
use Rattle.base_numbers.specs.Extended.{◌<ᴱ◌}
use Rattle.flow_systems.specs.Equations.{Equations, Vector}
use Rattle.theory_validity.specs.Steps.{Below, Item, Step, edge_of, row_of, after_step, Unnamed}
use Rattle.theory_validity.specs.Certificates.{ValidSteps, after_steps}
use Rattle.theory_validity.proofs.steps.Puts.{below_trans, not_unnamed}
use Rattle.theory_validity.proofs.steps.StepLaw.{step_below}
use Rattle.theory_validity.proofs.steps.CertificateLaw.{led_up}
use Rattle.theory_validity.proofs.words.TransformerLaw.{reach_is, transformer_local}
use Rattle.theory_strategy.specs.Picks.{Pick, Transformer, value_at, Picks, IsPick, Closed}
use Rattle.theory_strategy.specs.RoundFacts.{Listed}
use Rattle.theory_strategy.specs.Growth.{Evident, items_of}
use Rattle.theory_strategy.specs.Round.{Outcome, part, turns, members}
use Rattle.theory_strategy.specs.Turns.{step_by, left_by, Leaves, AreTurnsOf, AreWaiting, PartsAreWaiting}
use Rattle.theory_strategy.proofs.picks.Picks.{value_upper}
use Rattle.theory_strategy.proofs.growth.RaiseStep.{SameChoice}
use Rattle.theory_strategy.proofs.growth.GrowthLaw.{led_unnamed, led-append}
use Rattle.theory_strategy.proofs.round.TurnLaw.{unnamed_by_all}
use Rattle.theory_strategy.proofs.round.PartLaw.{Joined, PartDone, turn_valid, turn_waiting, turn_picked}
use Rattle.theory_strategy.proofs.round.PartLaw.{leaves_done, part_leaves}

-- an item of steps is one of a step
pub of_items : (steps : List Step) (v : Item) → In (items_of steps) v → (s : Step) × In steps s × In s.items v
unfolding items_of
of_items [] v m = absurd m
of_items (s ∷ steps) v m = ⊎_elim (λ k. (s, inl refl, k)) (λ k. let r = of_items steps v k in (r.0, inr r.1, r.2))
    (of_append s.items (items_of steps) v m)

-- what a list doesn't name, steps with its unknowns don't
pub unnamed_items : (list : List Item) (steps : List Step) → ((s : Step) → In steps s → (v : Item) → In s.items v
    → (u : Item) × In list u × SameChoice u v) →
    (p r : ℕ) → Unnamed list p r → Unnamed (items_of steps) p r
unnamed_items list steps from p r n = unnamed_by_all (items_of steps) p r (λ v m e f.
    let s = of_items steps v m in
    let u = from s.0 s.1 v s.2 in
    not_unnamed list u.0 u.1 (subst₂ (λ a b. Unnamed list a b) (sym (u.2.point ∙ e)) (sym (u.2.row ∙ f)) n))

-- valid steps and the valid steps after them
pub valid_append : (system : Equations) (a b : List Step) (z : Vector) → ValidSteps system z a → ValidSteps system (after_steps a z) b
    → ValidSteps system z (a ++ b)
unfolding after_steps
valid_append system [] b z h i = i
valid_append system (s ∷ a) b z h i = (h.0, valid_append system a b (after_step s z) h.1 i)

module _ (system : Equations) (T : Transformer) (reaches : Evident system T) (pick : Pick) (is_pick : IsPick system pick) where
  -- steps by a pick's edges lead to at most every closed vector that is at least the first
  pub led_closed : (steps : List Step) (z q : Vector) → ValidSteps system z steps
      → ((s : Step) → In steps s → (v : Item) → In s.items v → Picks pick v) → Closed system T q pick → Below system z q
      → Below system (after_steps steps z) q
  unfolding after_steps
  led_closed [] z q valid picked closed below = below
  led_closed (s ∷ steps) z q valid picked closed below =
      led_closed steps (after_step s z) q valid.1 (λ t m. picked t (inr m)) closed
      (step_below system z q s valid.0 below (λ v m. value_upper system T reaches q v (q v.point v.row)
      (closed v (picked s (inl refl) v m))))

  -- where the source bounds are the same, a transformer is
  value_local : (z q : Vector) (u : Item) → ((r : ℕ) → r < length system.template
      → z (edge_of system u).from r ≡ q (edge_of system u).from r) → value_at system T z u ≡ value_at system T q u
  value_local z q u same =
      let edge = edge_of system u in
      let row = row_of system u in
      transformer_local system z q edge row (T z edge row) (T q edge row) same
      (reach_is system z edge row (T z edge row) (reaches z edge row)) (reach_is system q edge row (T q edge row) (reaches q edge row))

  module _ (z : Vector) where
    more_done : (b : Vector) (list : List Item) (lists : List (List Item)) (s t : List Step)
        → ((u : Item) → In list u → Listed system pick z u) →
        ((u : Item) → In list u → Unnamed (members lists) u.point u.row)
        → ((u : Item) → In list u → (r : ℕ) → r < length system.template → Unnamed (members lists) (edge_of system u).from r) →
        PartDone system T z b list s → PartDone system T z (after_steps s b) (members lists) t
        → PartDone system T z b (list ++ members lists) (s ++ t)
    more_done b list lists s t listed apart sources first later =
        record {
          valid = valid_append system s t b first.valid later.valid;
          items = λ step m v k. ⊎_elim
              (λ j. let u = first.items step j v k in (u.0, in_left list (members lists) u.0 u.1, u.2))
              (λ j. let u = later.items step j v k in (u.0, in_right list (members lists) u.0 u.1, u.2)) (of_append s t step m);
          risen = λ u m. subst (λ y. z u.point u.row <ᴱ y u.point u.row) (sym (led-append s t b))
              (⊎_elim (λ k. risen u k) (λ k. later.risen u k) (of_append list (members lists) u m));
          same = λ u m. subst (λ y. value_at system T y u ≡ y u.point u.row) (sym (led-append s t b))
              (⊎_elim (λ k. same u k) (λ k. later.same u k) (of_append list (members lists) u m));
        }
      where
        c : Vector
        c = after_steps s b

        f : Vector
        f = after_steps t c

        kept : (p r : ℕ) → Unnamed (members lists) p r → f p r ≡ c p r
        kept p r n = led_unnamed t c p r (unnamed_items (members lists) t later.items p r n)

        risen : (u : Item) → In list u → z u.point u.row <ᴱ f u.point u.row
        risen u m = ext_lt_of_lt_of_le (z u.point u.row) (c u.point u.row) (f u.point u.row) (first.risen u m)
            (led_up system t c later.valid u.point u.row ((is_pick u (listed u m).picked).row_within))

        same : (u : Item) → In list u → value_at system T f u ≡ f u.point u.row
        same u m = value_local f c u (λ r l. kept (edge_of system u).from r (sources u m r l)) ∙ first.same u m
            ∙ sym (kept u.point u.row (apart u m))

    -- turns of unknowns that wait for them lead to at most every closed vector that is at least the first
    pub leaves_below : (steps : List Step) (b q : Vector) (list left : List Item) → AreWaiting system pick z b list
        → Leaves system T b list steps left → Closed system T q pick → Below system b q → Below system (after_steps steps b) q
    unfolding after_steps
    leaves_below [] b q list left w h closed below = below
    leaves_below (step ∷ steps) b q list left w h closed below =
        leaves_below steps (after_step step b) q (left_by h.0 list) left
        (subst (λ s. AreWaiting system pick z (after_step s b) (left_by h.0 list)) (sym h.2)
        (turn_waiting system T reaches pick is_pick z b list h.0 w h.1)) h.4 closed
        (subst (λ s. Below system (after_step s b) q) (sym h.2)
        (step_below system b q (step_by h.0) (turn_valid system T reaches pick is_pick z b list h.0 w h.1) below
        (λ v m. value_upper system T reaches q v (q v.point v.row)
        (closed v (turn_picked system T reaches pick is_pick z b list h.0 w h.1 v m)))))

    -- ---- parts that wait for their turns
    -- the first of them
    pub first_waiting : (b : Vector) (list : List Item) (lists : List (List Item)) → PartsAreWaiting system pick z b (list ∷ lists)
        → AreWaiting system pick z b list
    unfolding members
    first_waiting b list lists w = record {
      over = w.over;
      distinct = w.admissible.0;
      listed = λ u m. w.listed u (in_left list (members lists) u m);
      kept = λ u m. w.kept u (in_left list (members lists) u m);
    }

    -- and those after it, once it is done
    pub later_waiting : (b : Vector) (list : List Item) (lists : List (List Item)) (s : List Step)
        → PartsAreWaiting system pick z b (list ∷ lists) → PartDone system T z b list s
        → PartsAreWaiting system pick z (after_steps s b) lists
    unfolding members
    later_waiting b list lists s w first = record {
      over = below_trans system z b (after_steps s b) w.over (led_up system s b first.valid);
      admissible = w.admissible.3;
      listed = λ u m. w.listed u (in_right list (members lists) u m);
      kept = λ u m. led_unnamed s b u.point u.row (unnamed_items list s first.items u.point u.row
          (unnamed_by_all list u.point u.row (λ v k e f.
          not_unnamed (members lists) u m (subst₂ (λ p r. Unnamed (members lists) p r) e f (w.admissible.1 v k)))))
          ∙ w.kept u (in_right list (members lists) u m);
    }

    -- the turns over an admissible cut
    pub turns_done : (lists : List (List Item)) (b : Vector) (steps : List Step) → PartsAreWaiting system pick z b lists
        → AreTurnsOf system T b lists steps → PartDone system T z b (members lists) steps
    unfolding members
    turns_done [] b steps w h = subst (PartDone system T z b []) (sym h) (record {
      valid = tt;
      items = λ s m v k. absurd m;
      risen = λ u m. absurd m;
      same = λ u m. absurd m;
    })
    turns_done (list ∷ lists) b steps w h =
        let s = h.0 in
        let t = h.2.0 in
        let first = leaves_done system T reaches pick is_pick z s b list (first_waiting b list lists w) h.1 in
        let later = turns_done lists (after_steps s b) t (later_waiting b list lists s w first) h.2.1 in
        subst (PartDone system T z b (list ++ members lists)) (sym h.2.2)
        (more_done b list lists s t (λ u m. w.listed u (in_left list (members lists) u m)) w.admissible.1 w.admissible.2 first later)

    -- the turns by a function for the outcomes are some
    pub turns_are : (joint : Vector → List Item → Outcome) → Joined system T pick joint → (lists : List (List Item)) (b : Vector)
        → PartsAreWaiting system pick z b lists → AreTurnsOf system T b lists (turns joint b lists)
    unfolding turns
    turns_are joint joined [] b w = refl
    turns_are joint joined (list ∷ lists) b w =
        let s = part joint (length list) b list in
        let waiting = first_waiting b list lists w in
        let leaves = part_leaves system T reaches pick is_pick z joint joined (length list) list b (omega arith) waiting in (
          s,
          leaves,
          (
            turns joint (after_steps s b) lists,
            turns_are joint joined lists (after_steps s b)
                (later_waiting b list lists s w (leaves_done system T reaches pick is_pick z s b list waiting leaves)),
            refl,
          ),
        )
