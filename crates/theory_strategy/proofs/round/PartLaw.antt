-- The turns of a part: valid steps, after which each of its unknowns has risen to its transformer.
use Rattle.std.proofs.Common.{◌≡◌, ◌∙◌, inl, inr, ⊎_elim, ℕ, zero, suc, ◌<◌, ◌≤◌, List, [], ◌∷◌, ◌++◌, length, refl, sym, subst}
use Rattle.std.proofs.Common.{subst₂, arith}
use Rattle.std.specs.Prelude.{ℤ}
use Rattle.base_numbers.proofs.extended.ExtendedLaws.{ext_lt_of_lt_of_le, ext_le_of_eq, top_from_le}
use Rattle.base_facts.specs.Elements.{In}
use Rattle.base_numbers.specs.Rational.{ℚ, zero_ℚ, ◌≤ℚ◌}
use Rattle.base_numbers.specs.Extended.{Ext, neg_inf, fin, pos_inf, ◌≤ᴱ◌, ◌<ᴱ◌}
use Rattle.base_numbers.proofs.rational.Laws.{le_of_lt_ℚ, ≤ℚ_refl, not_le_of_lt}
use Rattle.flow_edges.specs.declared.edge.Edge.{Edge}
use Rattle.flow_systems.specs.Equations.{Equations, Vector}
use Rattle.theory_validity.specs.Words.{lin, end_form, moved}
use Rattle.theory_validity.specs.Steps.{Below, Runs, end_value, Item, Step, Jump, Ray, edge_of, row_of, put, new_value, after_step}
use Rattle.theory_validity.specs.Steps.{JumpItem, RayItem, ValidStep, item_value, word}
use Rattle.theory_validity.specs.Certificates.{ValidSteps, after_steps}
use Rattle.theory_validity.proofs.steps.Puts.{named_or_not, put-unnamed, put-named, below_trans, runs_below}
use Rattle.theory_validity.proofs.steps.StepLaw.{step_up}
use Rattle.theory_validity.proofs.steps.RayLaw.{ray_runs, end_value-moved}
use Rattle.theory_validity.proofs.steps.ShownLaw.{exceeds_in_time}
use Rattle.theory_validity.proofs.steps.CertificateLaw.{led_up}
use Rattle.theory_validity.proofs.words.TransformerLaw.{reach_upper}
use Rattle.theory_strategy.specs.Picks.{Pick, Transformer, value_at, Picks, IsPick}
use Rattle.theory_strategy.specs.RoundFacts.{Listed}
use Rattle.theory_strategy.specs.Growth.{Evident}
use Rattle.theory_strategy.specs.Round.{SameItem, ListCondition, Outcome, Point, Rays, PointFacts, RayFacts, OutcomeFacts, without, turn}
use Rattle.theory_strategy.specs.Round.{part}
use Rattle.theory_strategy.specs.Turns.{step_by, left_by, Leaves, AreWaiting}
use Rattle.theory_strategy.proofs.picks.Picks.{picks_same, value_mono}
use Rattle.theory_strategy.proofs.growth.RaiseStep.{SameChoice, value_same, at_same}
use Rattle.theory_strategy.proofs.round.TurnLaw.{choice_of, listed_same, in_without, of_without, distinct_without, fewer_without}

-- a joint problem's outcome for each list that meets the list condition
abbrev pub Joined : Equations → Transformer → Pick → (Vector → List Item → Outcome) → Type 0
Joined system T pick joint = (b : Vector) (list : List Item) → ListCondition system T pick b list
    → OutcomeFacts system T b list (joint b list)

-- what is known of a part's steps from b
pub record PartDone (system : Equations) (T : Transformer) (z b : Vector) (list : List Item) (steps : List Step) : Type 0 where
  -- the steps are valid
  pub valid : ValidSteps system b steps
  -- their items are for unknowns and edges of the list
  pub items : (step : Step) → In steps step → (v : Item) → In step.items v → (u : Item) × In list u × SameChoice u v
  -- each unknown of the list has risen
  pub risen : (u : Item) → In list u → z u.point u.row <ᴱ after_steps steps b u.point u.row
  -- each unknown's transformer is its bound
  pub same : (u : Item) → In list u → value_at system T (after_steps steps b) u ≡ after_steps steps b u.point u.row

-- a turn leaves fewer unknowns
pub turn_fewer : (system : Equations) (T : Transformer) (b : Vector) (list : List Item) (o : Outcome) → 0 < length list
    → OutcomeFacts system T b list o → length (left_by o list) < length list
unfolding left_by
turn_fewer system T b list (Point items) some facts = some
turn_fewer system T b list (Rays items) some facts =
    let first = facts.listed facts.first facts.some in
    fewer_without items list first.0 facts.first first.1 facts.some (sym first.2.point) (sym first.2.row)

-- turns of what some turns leave come behind those
pub leaves_append : (system : Equations) (T : Transformer) (first second : List Step) (b : Vector) (list mid left : List Item)
    → Leaves system T b list first mid → Leaves system T (after_steps first b) mid second left
    → Leaves system T b list (first ++ second) left
unfolding after_steps
leaves_append system T [] second b list mid left h k = subst (λ l. Leaves system T b l second left) h k
leaves_append system T (step ∷ first) second b list mid left h k = (
  h.0,
  h.1,
  h.2,
  h.3,
  leaves_append system T first second (after_step step b) (left_by h.0 list) mid left h.4 k,
)

module _ (system : Equations) (T : Transformer) (reaches : Evident system T) (pick : Pick) (is_pick : IsPick system pick) (z : Vector) where
  -- unknowns that wait for their turn meet the list condition
  pub waiting_condition : (b : Vector) (list : List Item) → AreWaiting system pick z b list → ListCondition system T pick b list
  waiting_condition b list w =
      record {
        distinct = w.distinct;
        picked = λ u m. (w.listed u m).picked;
        finite = λ u m. let h = w.listed u m in (h.bound, w.kept u m ∙ h.finite);
        exceeds = λ u m.
            let h = w.listed u m in
            subst (λ v. v <ᴱ value_at system T b u) (sym (w.kept u m ∙ h.finite))
            (ext_lt_of_lt_of_le (fin h.bound) (fin (item_value system u (word u.low))) (value_at system T b u) h.exceeds
            (reach_upper system b (edge_of system u) (row_of system u) (value_at system T b u)
            (reaches b (edge_of system u) (row_of system u)) (word u.low)
            (runs_below system z b (edge_of system u) (word u.low) w.over h.runs)));
      }

  base_of : (b : Vector) (u v : Item) → SameItem u v → b u.point u.row ≡ z u.point u.row → b v.point v.row ≡ z v.point v.row
  base_of b u v s e = sym (at_same b u v (choice_of u v s)) ∙ e ∙ at_same z u v (choice_of u v s)

  -- ---- a point
  jump_valid : (b : Vector) (list items : List Item) → Below system z b → ((u : Item) → In list u → Listed system pick z u)
      → ((u : Item) → In list u → b u.point u.row ≡ z u.point u.row) →
      PointFacts system T b list items → ValidStep system b (record { kind = Jump; items = items })
  jump_valid b list items over listed base facts =
      record {
        distinct = facts.distinct;
        placed = λ v m. let u = facts.listed v m in
            is_pick v (listed_same system pick z u.0 v u.2 (listed u.0 u.1)).picked;
        valid = valid;
      }
    where
      valid : (v : Item) → In items v → JumpItem system b (put (new_value Jump) items b) v
      valid v m =
          let u = facts.listed v m in
          let h = listed_same system pick z u.0 v u.2 (listed u.0 u.1) in
          let e = base_of b u.0 v u.2 (base u.0 u.1) ∙ h.finite in
          record {
            low_size = h.size;
            high_size = facts.size v m;
            bound = h.bound;
            finite = e;
            low_runs = runs_below system z b (edge_of system v) (word v.low) over h.runs;
            low_above = h.exceeds;
            rises = le_of_lt_ℚ (subst (λ s. s <ᴱ fin v.number) e (facts.rises v m));
            high_runs = facts.runs v m;
            high_reaches = facts.reaches v m;
          }

  point_done : (b : Vector) (list items : List Item) → Below system z b → ((u : Item) → In list u → Listed system pick z u)
      → ((u : Item) → In list u → b u.point u.row ≡ z u.point u.row) →
      PointFacts system T b list items → PartDone system T z b list (record { kind = Jump; items = items } ∷ [])
  unfolding after_steps after_step new_value
  point_done b list items over listed base facts =
      record {
        valid = (jump_valid b list items over listed base facts, tt);
        items = λ s m v k. from s m v k;
        risen = risen;
        same = λ u m.
            let v = facts.covers u m in
            let s = choice_of u v.0 v.2 in
            value_same system T p u v.0 s ∙ facts.same v.0 v.1 ∙ sym (new v.0 v.1) ∙ sym (at_same p u v.0 s);
      }
    where
      p : Vector
      p = put (new_value Jump) items b

      new : (v : Item) → In items v → p v.point v.row ≡ fin v.number
      new v m = put-named (new_value Jump) items b v facts.distinct m

      from : (s : Step) → In (record { kind = Jump; items = items } ∷ []) s → (v : Item) → In s.items v
          → (u : Item) × In list u × SameChoice u v
      from s (inl e) v k = let u = facts.listed v (subst (λ t. In t.items v) (sym e) k) in (u.0, u.1, choice_of u.0 v u.2)
      from s (inr m) v k = absurd m

      risen : (u : Item) → In list u → z u.point u.row <ᴱ p u.point u.row
      risen u m =
          let v = facts.covers u m in
          let s = choice_of u v.0 v.2 in
          subst₂ (λ s t. s <ᴱ t) (sym (at_same b u v.0 s) ∙ base u m) (sym (new v.0 v.1) ∙ sym (at_same p u v.0 s)) (facts.rises v.0 v.1)

  -- ---- a ray
  ray_item : (b : Vector) (list items : List Item) → Below system z b → ((u : Item) → In list u → Listed system pick z u)
      → ((u : Item) → In list u → b u.point u.row ≡ z u.point u.row) →
      RayFacts system b list items → (v : Item) → In items v → RayItem system b items v
  ray_item b list items over listed base facts v m =
      let u = facts.listed v m in
      let h = listed_same system pick z u.0 v u.2 (listed u.0 u.1) in
      let e = base_of b u.0 v u.2 (base u.0 u.1) ∙ h.finite in
      record {
        low_size = h.size;
        direction_size = facts.size v m;
        below_top = subst (λ s. s <ᴱ pos_inf) (sym e) tt;
        low_runs = runs_below system z b (edge_of system v) (word v.low) over h.runs;
        low_above = subst (λ s. s <ᴱ fin (item_value system v (word v.low))) (sym e) h.exceeds;
        rate = facts.rate v m;
        named = facts.named v m;
        others = facts.others v m;
        falls = facts.falls v m;
        gains = facts.gains v m;
      }

  ray_valid : (b : Vector) (list items : List Item) → Below system z b → ((u : Item) → In list u → Listed system pick z u)
      → ((u : Item) → In list u → b u.point u.row ≡ z u.point u.row) →
      RayFacts system b list items → ValidStep system b (record { kind = Ray; items = items })
  ray_valid b list items over listed base facts =
      record {
        distinct = facts.distinct;
        placed = λ v m. let u = facts.listed v m in is_pick v (listed_same system pick z u.0 v u.2 (listed u.0 u.1)).picked;
        valid = ray_item b list items over listed base facts;
      }

  -- after a ray the transformers of its unknowns are +∞
  ray_top : (b c : Vector) (items : List Item) → Below system b c → ((v : Item) → In items v → RayItem system b items v)
      → ((v : Item) → In items v → c v.point v.row ≡ pos_inf) →
      (v : Item) → In items v → value_at system T c v ≡ pos_inf
  ray_top b c items over valid top v m = by (value_at system T c v) refl
    where
      edge : Edge
      edge = edge_of system v

      row : List ℤ
      row = row_of system v

      runs : (t : ℚ) → zero_ℚ ≤ℚ t → Runs system c edge (moved (word v.low) t (word v.second))
      runs t h = ray_runs system b c items over valid (λ w k. ext_le_of_eq pos_inf (c w.point w.row) (sym (top w k))) v m t h

      at_most : (t : ℚ) → zero_ℚ ≤ℚ t → fin (end_value system edge row (moved (word v.low) t (word v.second))) ≤ᴱ value_at system T c v
      at_most t h = reach_upper system c edge row (value_at system T c v) (reaches c edge row) (moved (word v.low) t (word v.second))
          (runs t h)

      by : (w : Ext) → value_at system T c v ≡ w → value_at system T c v ≡ pos_inf
      by neg_inf e = absurd (subst (λ s. fin (end_value system edge row (moved (word v.low) zero_ℚ (word v.second))) ≤ᴱ s) e
          (at_most zero_ℚ (≤ℚ_refl zero_ℚ)))
      by (fin a) e =
          let x = valid v m in
          let r = exceeds_in_time a (item_value system v (word v.low)) (lin (end_form system.variables edge.actions row) (word v.second))
          v.number x.rate x.gains in
          absurd (not_le_of_lt r.2 (subst₂ (λ s t. fin s ≤ᴱ t) (end_value-moved system edge row (word v.low) r.0 (word v.second)) e
          (at_most r.0 r.1)))
      by pos_inf e = e

  ray_done : (b : Vector) (list items : List Item) (rest : List Step) → Below system z b → ((u : Item) → In list u → Listed system pick z u)
      → ((u : Item) → In list u → b u.point u.row ≡ z u.point u.row) →
      RayFacts system b list items → PartDone system T z (after_step (record { kind = Ray; items = items }) b) (without items list) rest →
      PartDone system T z b list (record { kind = Ray; items = items } ∷ rest)
  unfolding after_steps after_step new_value
  ray_done b list items rest over listed base facts done =
      record {
        valid = (valid, done.valid);
        items = λ s m v k. ⊎_elim (λ e. from v (subst (λ t. In t.items v) (sym e) k)) (λ j. later s j v k) m;
        risen = λ u m. ⊎_elim (λ v. named_risen u m v.0 v.1 v.2 v.3) (λ n. done.risen u (in_without items list u m n))
            (named_or_not items u.point u.row);
        same = λ u m. ⊎_elim (λ v. named_same u m v.0 v.1 v.2 v.3) (λ n. done.same u (in_without items list u m n))
            (named_or_not items u.point u.row);
      }
    where
      valid : ValidStep system b (record { kind = Ray; items = items })
      valid = ray_valid b list items over listed base facts

      c : Vector
      c = put (new_value Ray) items b

      f : Vector
      f = after_steps rest c

      up : Below system c f
      up = led_up system rest c done.valid

      from : (v : Item) → In items v → (u : Item) × In list u × SameChoice u v
      from v k = let u = facts.listed v k in (u.0, u.1, choice_of u.0 v u.2)

      later : (s : Step) → In rest s → (v : Item) → In s.items v → (u : Item) × In list u × SameChoice u v
      later s j v k = let u = done.items s j v k in (u.0, (of_without items list u.0 u.1).0, u.2)

      top : (v : Item) → In items v → c v.point v.row ≡ pos_inf
      top v k = put-named (new_value Ray) items b v facts.distinct k

      picked : (v : Item) → In items v → Picks pick v
      picked v k = let u = facts.listed v k in (listed_same system pick z u.0 v u.2 (listed u.0 u.1)).picked

      top_later : (v : Item) → In items v → f v.point v.row ≡ pos_inf
      top_later v k = top_from_le (f v.point v.row) (subst (λ s. s ≤ᴱ f v.point v.row) (top v k)
          (up v.point v.row ((is_pick v (picked v k)).row_within)))

      value_later : (v : Item) → In items v → value_at system T f v ≡ pos_inf
      value_later v k =
          let e = ray_top b c items (step_up system b (record { kind = Ray; items = items }) valid)
          (ray_item b list items over listed base facts) top v k in
          top_from_le (value_at system T f v) (subst (λ s. s ≤ᴱ value_at system T f v) e (value_mono system T reaches c f v up))

      named_risen : (u : Item) → In list u → (v : Item) → In items v → v.point ≡ u.point → v.row ≡ u.row
          → z u.point u.row <ᴱ f u.point u.row
      named_risen u m v k e g =
          subst₂ (λ s t. s <ᴱ t) (sym (listed u m).finite) (sym (subst₂ (λ p r. f p r ≡ pos_inf) e g (top_later v k))) tt

      named_same : (u : Item) → In list u → (v : Item) → In items v → v.point ≡ u.point → v.row ≡ u.row
          → value_at system T f u ≡ f u.point u.row
      named_same u m v k e g =
          let s : SameChoice v u = record { point = e; row = g; edge = picks_same pick v u e g (picked v k) (listed u m).picked } in
          sym (value_same system T f v u s) ∙ value_later v k ∙ sym (subst₂ (λ p r. f p r ≡ pos_inf) e g (top_later v k))

  -- ---- a turn by an outcome with its facts
  -- its step is valid
  pub turn_valid : (b : Vector) (list : List Item) (o : Outcome) → AreWaiting system pick z b list → OutcomeFacts system T b list o
      → ValidStep system b (step_by o)
  unfolding step_by
  turn_valid b list (Point items) w facts = jump_valid b list items w.over w.listed w.kept facts
  turn_valid b list (Rays items) w facts = ray_valid b list items w.over w.listed w.kept facts

  -- what it leaves waits for the next turn
  pub turn_waiting : (b : Vector) (list : List Item) (o : Outcome) → AreWaiting system pick z b list → OutcomeFacts system T b list o
      → AreWaiting system pick z (after_step (step_by o) b) (left_by o list)
  unfolding step_by left_by after_step
  turn_waiting b list (Point items) w facts = record {
    over = below_trans system z b (put (new_value Jump) items b) w.over
        (step_up system b (record { kind = Jump; items = items }) (jump_valid b list items w.over w.listed w.kept facts));
    distinct = tt;
    listed = λ u m. absurd m;
    kept = λ u m. absurd m;
  }
  turn_waiting b list (Rays items) w facts = record {
    over = below_trans system z b (put (new_value Ray) items b) w.over
        (step_up system b (record { kind = Ray; items = items }) (ray_valid b list items w.over w.listed w.kept facts));
    distinct = distinct_without items list w.distinct;
    listed = λ u m. w.listed u (of_without items list u m).0;
    kept = λ u m. let o = of_without items list u m in put-unnamed (new_value Ray) items b u.point u.row o.1 ∙ w.kept u o.0;
  }

  -- its items are picked
  pub turn_picked : (b : Vector) (list : List Item) (o : Outcome) → AreWaiting system pick z b list → OutcomeFacts system T b list o
      → (v : Item) → In (step_by o).items v → Picks pick v
  unfolding step_by
  turn_picked b list (Point items) w facts v m = let u = facts.listed v m in (listed_same system pick z u.0 v u.2 (w.listed u.0 u.1)).picked
  turn_picked b list (Rays items) w facts v m = let u = facts.listed v m in (listed_same system pick z u.0 v u.2 (w.listed u.0 u.1)).picked

  -- ---- the turns of a part
  -- what some turns leave waits for the next one
  pub leaves_waiting : (steps : List Step) (b : Vector) (list left : List Item) → AreWaiting system pick z b list
      → Leaves system T b list steps left → AreWaiting system pick z (after_steps steps b) left
  unfolding after_steps
  leaves_waiting [] b list left w h = subst (AreWaiting system pick z b) (sym h) w
  leaves_waiting (step ∷ steps) b list left w h =
      leaves_waiting steps (after_step step b) (left_by h.0 list) left
      (subst (λ s. AreWaiting system pick z (after_step s b) (left_by h.0 list)) (sym h.2) (turn_waiting b list h.0 w h.1)) h.4

  -- nothing comes after the last turn
  nothing_after : (b : Vector) (steps : List Step) (left : List Item) → Leaves system T b [] steps left → steps ≡ []
  nothing_after b [] left h = refl
  nothing_after b (step ∷ steps) left h = absurd (omega (arith, h.3))

  no_turn_done : (b : Vector) → PartDone system T z b [] []
  no_turn_done b = record { valid = tt; items = λ s m v k. absurd m; risen = λ u m. absurd m; same = λ u m. absurd m }

  -- turns of a part that leave nothing of it lead by valid steps to where each of its unknowns has risen to its transformer
  pub leaves_done : (steps : List Step) (b : Vector) (list : List Item) → AreWaiting system pick z b list → Leaves system T b list steps []
      → PartDone system T z b list steps
  unfolding step_by left_by
  leaves_done [] b list w h = subst (λ l. PartDone system T z b l []) h (no_turn_done b)
  leaves_done (step ∷ steps) b list w h = by h.0 h.1 h.2 h.4 (λ c rest v k. leaves_done steps c rest v k)
    where
      by : (o : Outcome) → OutcomeFacts system T b list o → step ≡ step_by o
          → Leaves system T (after_step step b) (left_by o list) steps [] →
          ((c : Vector) (rest : List Item) → AreWaiting system pick z c rest → Leaves system T c rest steps []
          → PartDone system T z c rest steps) → PartDone system T z b list (step ∷ steps)
      by (Point items) facts e rest rec =
          subst₂ (λ s t. PartDone system T z b list (s ∷ t)) (sym e) (sym (nothing_after (after_step step b) steps [] rest))
          (point_done b list items w.over w.listed w.kept facts)
      by (Rays items) facts e rest rec =
          let c = after_step (record { kind = Ray; items = items }) b in
          subst (λ s. PartDone system T z b list (s ∷ steps)) (sym e)
          (ray_done b list items steps w.over w.listed w.kept facts
          (rec c (without items list) (turn_waiting b list (Rays items) w facts)
          (subst (λ s. Leaves system T (after_step s b) (without items list) steps []) e rest)))

  -- ---- turns by a function for the outcomes
  module _ (joint : Vector → List Item → Outcome) (joined : Joined system T pick joint) where
    -- its turns of a part leave nothing of it
    pub part_leaves : (n : ℕ) (list : List Item) (b : Vector) → length list ≤ n → AreWaiting system pick z b list
        → Leaves system T b list (part joint n b list) []
    unfolding part turn step_by left_by
    part_leaves zero [] b h w = refl
    part_leaves zero (u ∷ us) b h w = absurd (omega arith)
    part_leaves (suc n) [] b h w = refl
    part_leaves (suc n) (u ∷ us) b h w = by (joint b (u ∷ us)) (joined b (u ∷ us) (waiting_condition b (u ∷ us) w))
        (λ rest c l v. part_leaves n rest c l v)
      where
        list : List Item
        list = u ∷ us

        by : (o : Outcome) → OutcomeFacts system T b list o →
            ((rest : List Item) (c : Vector) → length rest ≤ n → AreWaiting system pick z c rest
            → Leaves system T c rest (part joint n c rest) []) →
            Leaves system T b list (turn o b list (λ c rest. part joint n c rest)) []
        by (Point items) facts rec = (Point items, facts, refl, (omega arith), refl)
        by (Rays items) facts rec =
            let c = after_step (record { kind = Ray; items = items }) b in
            let fewer = turn_fewer system T b list (Rays items) (omega arith) facts in (
              Rays items,
              facts,
              refl,
              (omega arith),
              rec (without items list) c (omega arith) (turn_waiting b list (Rays items) w facts),
            )
