-- A pass so far.
use Rattle.std.proofs.Common.{◌≡◌, ◌∙◌, inl, inr, ⊎_elim, ℕ, zero, suc, ◌+◌, ◌-◌, ◌*◌, ◌/◌, ◌<◌, ◌≤◌, Bool, true, false, List, [], ◌∷◌}
use Rattle.std.proofs.Common.{◌++◌, append_assoc, length, length-append, map, get_or, refl, sym, ap, subst, arith}
use Rattle.std.specs.Prelude.{Option}
use Rattle.std.specs.List.{filter}
use Rattle.std.proofs.lemmas.Nat.{div-mul-add, mul-add-lt}
use Rattle.std.proofs.lemmas.List.{append-nil, length-map}
use Rattle.base_facts.proofs.elements.Membership.{in_left, in_right}
use Rattle.base_facts.specs.Elements.{In}
use Rattle.flow_systems.specs.Equations.{Vector}
use Rattle.flow_systems.specs.View.{equations_of}
use Rattle.flow_systems.specs.declared.system.System.{System}
use Rattle.theory_validity.specs.Steps.{Item, Step}
use Rattle.theory_validity.specs.Certificates.{after_steps}
use Rattle.cert_types.specs.Certificates.{step_of}
use Rattle.theory_strategy.specs.Growth.{Log, items_of, pass}
use Rattle.theory_strategy.proofs.growth.GrowthLaw.{led-append}
use Rattle.theory_rounds.specs.Evidence.{exact_evidence}
use Rattle.solve_raise.specs.Numbers.{fitting}
use Rattle.solve_rounds.specs.declared.growing.Growing.{Growing}
use Rattle.flow_systems.specs.declared.fault.Fault.{Fault}
use Rattle.flow_systems.specs.declared.spot.Spot.{Spot}
use Rattle.solve_offers.specs.AtBounds.{transformers}
use Rattle.solve_rounds.specs.GrowthTests.{Test, is_named}
use Rattle.solve_rounds.specs.Growing.{Agrees, steps_so_far, left_from, unraised, IsKept, AreQuiet, IsPassed, ArePassed, IsPassStop, IsTold}
use Rattle.solve_rounds.specs.Growing.{KeepsSteps, OthersKeep, StaysUnraised}
use Rattle.solve_rounds.proofs.growing.Quiet.{within_passed}
use Rattle.solve_rounds.proofs.growing.Unraised.{stays_same, stays_twice}
use Rattle.solve_rounds.proofs.growth_tests.Passing.{joined, pass_append, tests_append}
use Rattle.solve_rounds.proofs.growing.Walked.{log_of, tests_of, left-append, left_marked, left_same, passed_none, stop_more}

-- steps are told where the first or the second are
told_both : (a b : List Step) (before now after : Bool) → IsTold a before → IsTold b now → (now ≡ true → after ≡ true)
    → (now ≡ false → after ≡ before) → IsTold (a ++ b) after
told_both [] [] before now after f g if_told if_not = if_not g ∙ f
told_both [] (s ∷ b) before now after f g if_told if_not = if_told g
told_both (t ∷ a) [] before now after f g if_told if_not = if_not g ∙ f
told_both (t ∷ a) (s ∷ b) before now after f g if_told if_not = if_told g

module _ (system : System) (pick : List (Option ℕ)) where
  -- n unknowns from a first one on were passed, and others keep their marks
  pub record PassedTo (first n : ℕ) (old new : Growing) (told : Bool) : Type 0 where
    -- what the state must keep is kept
    pub kept : IsKept system new
    -- marks of quiet unknowns and of calm points are right
    pub quiet : AreQuiet system pick new
    -- these unknowns are passed
    pub passed : ArePassed system pick first n old new told
    -- the marks of other unknowns are as before
    pub others : OthersKeep first n old new
    -- what isn't marked as raised wasn't before, and has its old bound
    pub stays : StaysUnraised old new

  -- none yet
  pub passed_start : (first : ℕ) (now : Growing) → IsKept system now → AreQuiet system pick now → PassedTo first 0 now now false
  unfolding pass after_steps
  passed_start first now kept quiet = record {
    kept = kept;
    quiet = quiet;
    passed = λ z agrees. record {
      made = [];
      steps = sym (append-nil (steps_so_far system now));
      log = refl;
      agrees = agrees;
      is_told =
          refl;
    };
    others = λ u l. refl;
    stays = stays_same now;
  }

  module _ (first k : ℕ) (old mid new : Growing) (before now after : Bool) (so_far : PassedTo first k old mid before)
      (at n : ℕ) (starts : at ≡ first + k) where
    -- the next unknowns are unchanged so far
    same_next : unraised system pick mid at n ≡ unraised system pick old at n
    same_next = left_same (length system.template) pick old.raised.items mid.raised.items at n
        (λ u l m. so_far.others u (inr (omega (arith, starts, l))))

    -- what is left of all are those that were passed and the next ones
    in_parts : (g : Growing) → unraised system pick g first (k + n) ≡ unraised system pick g first k ++ unraised system pick g at n
    in_parts g = left-append (length system.template) pick g.raised.items first k n
        ∙ ap (λ j. unraised system pick g first k ++ unraised system pick g j n) (sym starts)

    module _ (others : OthersKeep at n mid new) (next : ArePassed system pick at n mid new now) (if_told : now ≡ true → after ≡ true)
        (if_not : now ≡ false → after ≡ before) where
      both_passed : (z : Vector) → Agrees system z old.bounds → IsPassed system pick first (k + n) z old new after
      both_passed z agrees = record {
        made = a.made ++ b.made;
        steps = b.steps ∙ ap (λ s. s ++ b.made) a.steps ∙ append_assoc (steps_so_far system old) a.made b.made;
        log = ap (log_of system pick z) (in_parts old)
            ∙ pass_append fitting (equations_of system) (transformers system) (exact_evidence (equations_of system))
            (unraised system pick old first k) (unraised system pick old at n) z
            ∙ ap (λ l. joined l (log_of system pick (after_steps l.steps z) (unraised system pick old at n))) a.log
            ∙ ap (λ us. joined front (log_of system pick (after_steps a.made z) us)) (sym same_next)
            ∙ ap (joined front) b.log
            ∙ ap (λ us. let log : Log = record { steps = a.made ++ b.made; left = us } in log) left_is;
        agrees = subst (λ y. Agrees system y new.bounds) (sym (led-append a.made b.made z)) b.agrees;
        is_told = told_both a.made b.made before now after a.is_told b.is_told if_told if_not;
      }
        where
          a : IsPassed system pick first k z old mid before
          a = so_far.passed z agrees

          b : IsPassed system pick at n (after_steps a.made z) mid new now
          b = next (after_steps a.made z) a.agrees

          front : Log
          front = record { steps = a.made; left = unraised system pick mid first k }

          left_is : unraised system pick mid first k ++ unraised system pick new at n ≡ unraised system pick new first (k + n)
          left_is =
              ap (λ us. us ++ unraised system pick new at n) (sym (left_same (length system.template) pick mid.raised.items
              new.raised.items first k (λ u l m. others u (inl (omega (arith, starts, m))))))
              ∙ sym (in_parts new)

      others_both : OthersKeep first (k + n) old new
      others_both u h =
          others u (⊎_elim (λ l. inl (omega (arith, starts, l))) (λ l. inr (omega (arith, starts, l))) h)
          ∙ so_far.others u (⊎_elim (λ l. inl l) (λ l. inr (omega (arith, l))) h)

      -- more unknowns
      pub passed_more : (total : ℕ) → total ≡ k + n → IsKept system new → AreQuiet system pick new → StaysUnraised mid new
          → PassedTo first total old new after
      passed_more total is kept quiet stays = subst (λ count. PassedTo first count old new after) (sym is) (record {
        kept = kept;
        quiet = quiet;
        passed = both_passed;
        others = others_both;
        stays = stays_twice old mid new so_far.stays stays;
      })

    -- a wide operation at the next unknowns is one of the pass
    pub stop_next : (count round : ℕ) (stop : Fault Spot) → k + n ≤ count → IsPassStop system pick at n mid round stop
        → IsPassStop system pick first count old round stop
    stop_next count round stop l s z agrees =
        stop_more system (tests_of system pick (length mid.steps.items) (after_steps a.made z) (unraised system pick mid at n))
        (tests_of system pick (length old.steps.items) z (unraised system pick old first count)) round stop
        inside (s (after_steps a.made z) a.agrees)
      where
        a : IsPassed system pick first k z old mid before
        a = so_far.passed z agrees

        m : ℕ
        m = count - (k + n)

        A : List Item
        A = unraised system pick old first k

        B : List Item
        B = unraised system pick old at n

        C : List Item
        C = unraised system pick old (first + (k + n)) m

        -- all that is left
        all : unraised system pick old first count ≡ (A ++ B) ++ C
        all =
            ap (left_from (length system.template) pick old.raised.items first) (let e : count ≡ k + n + m = omega arith in e)
            ∙ left-append (length system.template) pick old.raised.items first (k + n) m
            ∙ ap (λ us. us ++ C) (in_parts old)

        raises : length old.steps.items + length a.made ≡ length mid.steps.items
        raises =
            let f = ap (λ (l : List Step). length l) a.steps in
            omega (
              arith,
              f,
              length-append (steps_so_far system old) a.made,
              length-map old.steps.items (step_of (length system.template)),
              length-map mid.steps.items (step_of (length system.template)),
            )

        inside : (t : Test) → In (tests_of system pick (length mid.steps.items) (after_steps a.made z) (unraised system pick mid at n)) t
            → In (tests_of system pick (length old.steps.items) z (unraised system pick old first count)) t
        inside t i =
            let T = transformers system in
            let E = exact_evidence (equations_of system) in
            subst (λ us. In (tests_of system pick (length old.steps.items) z us) t) (sym (all ∙ append_assoc A B C))
            (subst (λ ts. In ts t) (sym (tests_append fitting (equations_of system) T E A (B ++ C) (length old.steps.items) z))
            (in_right (tests_of system pick (length old.steps.items) z A)
            (tests_of system pick (length old.steps.items + length (log_of system pick z A).steps)
            (after_steps (log_of system pick z A).steps z) (B ++ C)) t
            (subst (λ (g : Log). In (tests_of system pick (length old.steps.items + length g.steps) (after_steps g.steps z) (B ++ C)) t)
            (sym a.log)
            (subst (λ n. In (tests_of system pick n (after_steps a.made z) (B ++ C)) t) (sym raises)
            (subst (λ ts. In ts t) (sym (tests_append fitting (equations_of system) T E B C (length mid.steps.items)
            (after_steps a.made z)))
            (in_left (tests_of system pick (length mid.steps.items) (after_steps a.made z) B)
            (tests_of system pick (length mid.steps.items + length (log_of system pick (after_steps a.made z) B).steps)
            (after_steps (log_of system pick (after_steps a.made z) B).steps (after_steps a.made z)) C) t
            (subst (λ us. In (tests_of system pick (length mid.steps.items) (after_steps a.made z) us) t) same_next i)))))))

  -- nothing is to be tested at a calm point
  module _ (point : ℕ) (now : Growing) (kept : IsKept system now) (quiet : AreQuiet system pick now)
      (there : point < length system.flow.points) (marked : get_or now.calm.items point false ≡ true) where
    calm_row : (r : ℕ) → r < length system.template → ArePassed system pick (point * length system.template + r) 1 now now false
    calm_row r l z agrees = by (get_or now.raised.items u false) refl
      where
        u : ℕ
        u = point * length system.template + r

        within : u < length system.flow.points * length system.template
        within = omega (arith, mul-add-lt point (length system.template) r (length system.flow.points) there l)

        calm : get_or now.calm.items (u / length system.template) false ≡ true
        calm = ap (λ p. get_or now.calm.items p false) (div-mul-add point (length system.template) r l) ∙ marked

        by : (b : Bool) → get_or now.raised.items u false ≡ b → IsPassed system pick u 1 z now now false
        by true e = passed_none system pick u z now (left_marked (length system.template) pick now.raised.items u e) agrees
        by false e = within_passed system pick u within z now kept agrees (quiet.calm u within calm e) e

    calm_rows : (n : ℕ) → n ≤ length system.template → PassedTo (point * length system.template) n now now false
    calm_rows zero l = passed_start (point * length system.template) now kept quiet
    calm_rows (suc n) l =
        passed_more (point * length system.template) n now now now false false false (calm_rows n (omega arith))
        (point * length system.template + n) 1 refl (λ u h. refl) (calm_row n (omega arith)) (λ e. e) (λ e. refl) (suc n) (omega arith)
        kept quiet (stays_same now)

    -- so its unknowns are passed
    pub calm_passed : ArePassed system pick (point * length system.template) (length system.template) now now false
    calm_passed = (calm_rows (length system.template) (omega arith)).passed

  -- what was passed was also passed where marks of points change
  pub passed_marked : (first n : ℕ) (old mid new : Growing) (told : Bool) → KeepsSteps mid new
      → ArePassed system pick first n old mid told → ArePassed system pick first n old new told
  passed_marked first n old mid new told same passed z agrees =
      let p = passed z agrees in
      record {
        made = p.made;
        steps = ap (λ steps. map (step_of (length system.template)) steps) same.steps ∙ p.steps;
        log = p.log
            ∙ ap (λ marks. let log : Log = record { steps = p.made; left = left_from (length system.template) pick marks first n } in log)
            (sym same.raised);
        agrees = subst (λ bounds. Agrees system (after_steps p.made z) bounds) (sym same.bounds) p.agrees;
        is_told = p.is_told;
      }

-- what is kept is kept where marks of points change
pub kept_marked : (system : System) (mid new : Growing) → KeepsSteps mid new → IsKept system mid → IsKept system new
kept_marked system mid new same kept = record {
  bounds = ap (λ l. length l) same.bounds ∙ kept.bounds;
  raised = ap (λ l. length l) same.raised ∙ kept.raised;
  named = λ u l. ap (λ marks. get_or marks u false) same.raised ∙ kept.named u l
      ∙ ap (λ steps. is_named (length system.template) (items_of (map (step_of (length system.template)) steps)) u) (sym same.steps);
  count = ap (λ l. length l) same.steps ∙ kept.count ∙ ap (λ marks. length (filter (λ (marked : Bool). marked) marks)) (sym same.raised);
}
