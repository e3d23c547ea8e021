-- Passes so far, and the growth when one raised nothing.
use Rattle.std.proofs.Common.{◌≡◌, ◌∙◌, inl, inr, ℕ, zero, suc, ◌+◌, ◌*◌, ◌<◌, ◌≤◌, Bool, true, false, true≢false, List, [], ◌∷◌, ◌++◌}
use Rattle.std.proofs.Common.{append_assoc, length, length-append, map, refl, sym, ap, ap₂, subst, arith}
use Rattle.std.specs.Prelude.{Option}
use Rattle.std.proofs.lemmas.List.{append-nil, length-map}
use Rattle.base_facts.proofs.elements.Membership.{in_left, in_right}
use Rattle.base_facts.specs.Elements.{In}
use Rattle.base_numbers.specs.Extended.{Ext as Extended}
use Rattle.base_numbers.proofs.extended.ExtendedLaws.{ext_le_or_lt}
use Rattle.flow_systems.specs.Equations.{Vector}
use Rattle.flow_systems.specs.View.{equations_of}
use Rattle.flow_systems.specs.declared.system.System.{System}
use Rattle.theory_validity.specs.Steps.{Item, Step}
use Rattle.theory_validity.specs.Certificates.{after_steps}
use Rattle.cert_types.specs.Certificates.{step_of}
use Rattle.theory_strategy.specs.Picks.{choices, value_at}
use Rattle.theory_strategy.specs.Growth.{Log, stay, go, continue, pass, passes, growth, grow}
use Rattle.theory_strategy.proofs.growth.GrowthLaw.{led-append}
use Rattle.theory_rounds.specs.Evidence.{exact_evidence}
use Rattle.theory_rounds.specs.Rounds.{exact_pass, exact_passes}
use Rattle.solve_raise.specs.Numbers.{fitting}
use Rattle.solve_rounds.specs.declared.growing.Growing.{Growing}
use Rattle.flow_systems.specs.declared.fault.Fault.{Fault}
use Rattle.flow_systems.specs.declared.spot.Spot.{Spot}
use Rattle.solve_offers.specs.AtBounds.{transformers, vector_at}
use Rattle.solve_offers.specs.Improvement.{pick_of}
use Rattle.solve_rounds.specs.GrowthTests.{Test, if_raised, pass_tests, passes_tests, growth_tests}
use Rattle.solve_rounds.specs.Growth.{growth_at, tests_at, IsGrowthStop}
use Rattle.solve_rounds.specs.Growing.{Agrees, steps_so_far, left_from, unraised, IsKept, AreQuiet, IsPassed, IsPassStop, IsTold, IsFresh}
use Rattle.solve_rounds.specs.Growing.{IsGrown}
use Rattle.solve_rounds.proofs.growth_tests.Passing.{raised_at, Order, log_by}
use Rattle.solve_rounds.proofs.growing.Walked.{tests_of, stop_more}
use Rattle.solve_rounds.proofs.growing.PickedUnknowns.{choices_are}

-- a log after steps
nothing_more : (log : Log) (steps : List Step) → log.steps ≡ [] → steps ≡ steps ++ log.steps
nothing_more log steps e = sym (ap (λ s. steps ++ s) e ∙ append-nil steps)

module _ (system : System) where
  -- a pass has one step or one that is left for each unknown
  pub log_count : (us : List Item) (z : Vector) → length (exact_pass fitting (equations_of system) z us).left
      + length (exact_pass fitting (equations_of system) z us).steps ≡ length us
  unfolding pass stay go
  log_count [] z = let e : 0 + 0 ≡ 0 = omega arith in e
  log_count (u ∷ us) z =
      by (ext_le_or_lt (value_at (equations_of system) (transformers system) z u) (z u.point u.row)) (log_count us z)
      (log_count us (raised_at fitting (equations_of system) (transformers system) (exact_evidence (equations_of system)) z u))
    where
      by : (o : Order fitting (equations_of system) (transformers system) (exact_evidence (equations_of system)) z u) →
          length (exact_pass fitting (equations_of system) z us).left + length (exact_pass fitting (equations_of system) z us).steps
          ≡ length us →
          length (exact_pass fitting (equations_of system) (raised_at fitting (equations_of system) (transformers system)
          (exact_evidence (equations_of system)) z u) us).left
          + length (exact_pass fitting (equations_of system) (raised_at fitting (equations_of system) (transformers system)
          (exact_evidence (equations_of system)) z u) us).steps ≡ length us →
          length (log_by fitting (equations_of system) (transformers system) (exact_evidence (equations_of system)) z u us o).left
          + length (log_by fitting (equations_of system) (transformers system) (exact_evidence (equations_of system)) z u us o).steps
          ≡ suc (length us)
      by (inl h) a b = omega (arith, a)
      by (inr h) a b = omega (arith, b)

  -- at most so many passes from a vector
  abbrev passes_of : ℕ → Vector → List Item → Log
  passes_of n z us = exact_passes fitting (equations_of system) n z us

  abbrev more_tests : ℕ → ℕ → Vector → List Item → List Test
  more_tests n raises z us = passes_tests fitting (equations_of system) (transformers system) (exact_evidence (equations_of system)) n
      raises z us

  -- the tests of the first pass are tests of the passes
  first_tests : (n raises : ℕ) (z : Vector) (us : List Item) (t : Test)
      → In (pass_tests fitting (equations_of system) (transformers system) (exact_evidence (equations_of system)) raises z us) t
      → In (more_tests (suc n) raises z us) t
  unfolding passes_tests
  first_tests n raises z us t m =
      let log = exact_pass fitting (equations_of system) z us in
      in_left (pass_tests fitting (equations_of system) (transformers system) (exact_evidence (equations_of system)) raises z us)
      (if_raised log.steps (more_tests n (raises + length log.steps) (after_steps log.steps z) log.left)) t m

  module _ (pick : List (Option ℕ)) (bounds : List Extended) where
    -- the vector that was reached
    abbrev reached : Growing → Vector
    reached now = after_steps (steps_so_far system now) (vector_at system bounds)

    -- what is left to raise
    abbrev rest : Growing → List Item
    rest now = unraised system pick now 0 (length system.flow.points * length system.template)

    -- what the pick chooses
    abbrev chosen : List Item
    chosen = choices (equations_of system) (pick_of (length system.template) pick)

    -- the growth goes on from what has grown so far, with enough passes
    pub record GrowsOn (now : Growing) (n : ℕ) : Type 0 where
      -- there may be a pass for each unknown left
      pub enough : length (rest now) ≤ n
      -- the steps of the growth are those so far, and then those of the passes left
      pub steps : growth_at system bounds pick
          ≡ steps_so_far system now ++ (exact_passes fitting (equations_of system) n (reached now) (rest now)).steps
      -- the tests of the passes left are tests of the growth
      pub tests : (t : Test) →
          In (passes_tests fitting (equations_of system) (transformers system) (exact_evidence (equations_of system)) n
          (length (steps_so_far system now)) (reached now)
          (rest now)) t → In (tests_at system bounds pick) t

    -- everything so far
    pub record GrowingTo (now : Growing) : Type 0 where
      -- what the state must keep is kept
      pub kept : IsKept system now
      -- the unknowns that are not raised are quiet
      pub quiet : AreQuiet system pick now
      -- the bounds are those that the steps so far reach
      pub agrees : Agrees system (reached now) now.bounds
      -- how many passes there may still be
      pub fuel : ℕ
      -- the growth goes on with the passes left
      pub grows_on : GrowsOn now fuel

    -- a pass that raised something, and one that raised nothing
    abbrev Next : Growing → Bool → Type 0
    Next new true = (n : ℕ) × GrowsOn new n
    Next new false = steps_so_far system new ≡ growth_at system bounds pick

    module _ (old new : Growing) (told : Bool) (so_far : GrowingTo old)
        (p : IsPassed system pick 0 (length system.flow.points * length system.template) (reached old) old new told) where
      led_is : after_steps p.made (reached old) ≡ reached new
      led_is = sym (led-append (steps_so_far system old) p.made (vector_at system bounds))
          ∙ ap (λ s. after_steps s (vector_at system bounds)) (sym p.steps)

      counted : length (rest new) + length p.made ≡ length (rest old)
      counted =
          ap₂ (λ a b. a + b) (ap (λ (g : Log). length g.left) (sym p.log)) (ap (λ (g : Log). length g.steps) (sym p.log))
          ∙ log_count (rest old) (reached old)

      -- the steps of all passes, by what this one made
      all_steps : (n : ℕ) → growth_at system bounds pick
          ≡ steps_so_far system old ++ (passes_of (suc n) (reached old) (rest old)).steps →
          growth_at system bounds pick
          ≡ steps_so_far system old
          ++ (continue p.made (record { steps = p.made; left = rest new }) (reached old) (λ y us. passes_of n y us)).steps
      unfolding passes
      all_steps n e = e ∙ ap (λ (g : Log). steps_so_far system old ++ (continue g.steps g (reached old) (λ y us. passes_of n y us)).steps)
          p.log

      no_steps : length (rest old) ≤ zero → p.made ≡ []
      no_steps l = by p.made counted
        where
          by : (made : List Step) → length (rest new) + length made ≡ length (rest old) → made ≡ []
          by [] e = refl
          by (s ∷ made) e = absurd (omega arith)

      ended : p.made ≡ [] → growth_at system bounds pick ≡ steps_so_far system old ++ []
          → steps_so_far system new ≡ growth_at system bounds pick
      ended none e = p.steps ∙ ap (λ s. steps_so_far system old ++ s) none ∙ sym e

      later_tests : (n : ℕ) (s : Step) (ss : List Step) → p.made ≡ s ∷ ss → (t : Test) →
          In (more_tests n (length (steps_so_far system new)) (reached new) (rest new)) t →
          In (more_tests (suc n) (length (steps_so_far system old)) (reached old) (rest old)) t
      unfolding passes_tests if_raised
      later_tests n s ss e t m =
          let first = tests_of system pick (length (steps_so_far system old)) (reached old) (rest old) in
          in_right first
          (if_raised (exact_pass fitting (equations_of system) (reached old) (rest old)).steps
          (more_tests n (length (steps_so_far system old) + length (exact_pass fitting (equations_of system) (reached old)
          (rest old)).steps)
          (after_steps (exact_pass fitting (equations_of system) (reached old) (rest old)).steps (reached old))
          (exact_pass fitting (equations_of system) (reached old) (rest old)).left)) t
          (subst (λ (g : Log). In (if_raised g.steps (more_tests n (length (steps_so_far system old) + length g.steps)
          (after_steps g.steps (reached old)) g.left)) t) (sym p.log)
          (subst (λ made. In (if_raised made (more_tests n (length (steps_so_far system old) + length p.made)
          (after_steps p.made (reached old))
          (rest new))) t) (sym e)
          (subst (λ k. In (more_tests n k (after_steps p.made (reached old)) (rest new)) t)
          (ap (λ (l : List Step). length l) p.steps ∙ length-append (steps_so_far system old) p.made)
          (subst (λ y. In (more_tests n (length (steps_so_far system new)) y (rest new)) t) (sym led_is) m))))

      all_ended : (n : ℕ) → p.made ≡ [] → growth_at system bounds pick
          ≡ steps_so_far system old ++ (passes_of (suc n) (reached old) (rest old)).steps →
          growth_at system bounds pick ≡ steps_so_far system old ++ []
      unfolding continue
      all_ended n e g =
          all_steps n g
          ∙ ap (λ (made : List Step). steps_so_far system old
          ++ (continue made (record { steps = made; left = rest new }) (reached old) (λ y us. passes_of n y us)).steps) e

      all_more : (n : ℕ) (s : Step) (ss : List Step) → p.made ≡ s ∷ ss → growth_at system bounds pick
          ≡ steps_so_far system old ++ (passes_of (suc n) (reached old) (rest old)).steps →
          growth_at system bounds pick
          ≡ steps_so_far system new ++ (passes_of n (reached new) (rest new)).steps
      unfolding continue
      all_more n s ss e g =
          all_steps n g
          ∙ ap (λ (made : List Step). steps_so_far system old
          ++ (continue made (record { steps = made; left = rest new }) (reached old) (λ y us. passes_of n y us)).steps) e
          ∙ ap (λ (made : List Step). steps_so_far system old
          ++ (made ++ (passes_of n (after_steps made (reached old)) (rest new)).steps)) (sym e)
          ∙ sym (append_assoc (steps_so_far system old) p.made (passes_of n (after_steps p.made (reached old)) (rest new)).steps)
          ∙ ap (λ a. a ++ (passes_of n (after_steps p.made (reached old)) (rest new)).steps) (sym p.steps)
          ∙ ap (λ y. steps_so_far system new ++ (passes_of n y (rest new)).steps) led_is

      -- by the passes that were enough and by what was made
      next_by : (n : ℕ) → GrowsOn old n → (made : List Step) → p.made ≡ made → IsTold made told → Next new told
      unfolding passes
      next_by zero g [] e t = subst (Next new) (sym t) (ended e g.steps)
      next_by zero g (s ∷ ss) e t = absurd (let f : s ∷ ss ≡ [] = sym e ∙ no_steps g.enough in cc)
      next_by (suc n) g [] e t = subst (Next new) (sym t) (ended e (all_ended n e g.steps))
      next_by (suc n) g (s ∷ ss) e t = subst (Next new) (sym t) (
        n,
        record {
          enough = (let c = counted in let l = g.enough in let k = ap (λ (x : List Step). length x) e in omega arith);
          steps = all_more n s ss e g.steps;
          tests = λ t m. g.tests t (later_tests n s ss e t m);
        },
      )

      -- passes go on after one that raised something
      pub next_told : IsKept system new → AreQuiet system pick new → told ≡ true → GrowingTo new
      next_told kept quiet e =
          let next = subst (Next new) e (next_by so_far.fuel so_far.grows_on p.made refl p.is_told) in
          record {
            kept = kept;
            quiet = quiet;
            agrees = subst (λ y. Agrees system y new.bounds) led_is p.agrees;
            fuel = next.0;
            grows_on =
                next.1;
          }

      -- and are the growth after one that raised nothing
      pub next_ended : told ≡ false → IsGrown system bounds pick new
      next_ended e = record {
        steps = subst (Next new) e (next_by so_far.fuel so_far.grows_on p.made refl p.is_told);
        agrees = subst (λ y. Agrees system y new.bounds) led_is p.agrees;
      }

      -- something more was raised
      pub more_steps : told ≡ true → length old.steps.items < length new.steps.items
      more_steps e = by p.made refl p.is_told
        where
          lengths : length new.steps.items ≡ length old.steps.items + length p.made
          lengths =
              let f = ap (λ (l : List Step). length l) p.steps in
              omega (
                arith,
                f,
                length-append (steps_so_far system old) p.made,
                length-map old.steps.items (step_of (length system.template)),
                length-map new.steps.items (step_of (length system.template)),
              )

          by : (made : List Step) → p.made ≡ made → IsTold made told → length old.steps.items < length new.steps.items
          by [] f t = absurd (true≢false (sym e ∙ t))
          by (s ∷ ss) f t = (let k = ap (λ (x : List Step). length x) f in let l = lengths in omega arith)

    no_tests : (raises : ℕ) (z : Vector) (us : List Item) (t : Test) → length us ≤ zero → In (tests_of system pick raises z us) t → ⊥
    unfolding pass_tests
    no_tests raises z [] t l m = m
    no_tests raises z (u ∷ us) t l m = omega arith

    -- a wide operation of a pass is one of the growth
    pub pass_stop : (old : Growing) → GrowingTo old → (round : ℕ) (stop : Fault Spot)
        → IsPassStop system pick 0 (length system.flow.points * length system.template) old round stop
        → IsGrowthStop system bounds pick round stop
    pass_stop old so_far round stop s =
        stop_more system (tests_of system pick (length old.steps.items) (reached old) (rest old))
        (tests_at system bounds pick) round stop (inside so_far.fuel so_far.grows_on) (s (reached old) so_far.agrees)
      where
        inside : (n : ℕ) → GrowsOn old n → (t : Test) →
            In (tests_of system pick (length old.steps.items) (reached old) (rest old)) t → In (tests_at system bounds pick) t
        inside zero g t m =
            absurd (no_tests (length old.steps.items) (reached old) (rest old) t g.enough m)
        inside (suc n) g t m =
            g.tests t (first_tests n (length (steps_so_far system old)) (reached old) (rest old) t
            (subst (λ k. In (tests_of system pick k (reached old) (rest old)) t)
            (sym (length-map old.steps.items (step_of (length system.template)))) m))

    module _ (now : Growing) (fresh : IsFresh system now) where
      none_so_far : steps_so_far system now ≡ []
      none_so_far = ap (map (step_of (length system.template))) fresh.steps

      all_left : rest now ≡ chosen
      all_left = ap (λ r. left_from (length system.template) pick r 0 (length system.flow.points * length system.template)) fresh.raised
          ∙ sym (choices_are system pick)

      growth_steps : growth_at system bounds pick
          ≡ steps_so_far system now
          ++ (passes_of (length chosen) (reached now) (rest now)).steps
      unfolding grow growth after_steps
      growth_steps =
          ap₂ (λ s us. s ++ (passes_of (length chosen) (after_steps s (vector_at system bounds)) us).steps) (sym none_so_far) (sym all_left)

      growth_has : (t : Test) →
          In (more_tests (length chosen) (length (steps_so_far system now)) (reached now)
          (rest now)) t → In (tests_at system bounds pick) t
      unfolding growth_tests after_steps
      growth_has t m =
          subst (λ s. In (more_tests (length chosen) (length s) (after_steps s (vector_at system bounds)) chosen) t) none_so_far
          (subst (λ us. In (more_tests (length chosen) (length (steps_so_far system now)) (reached now) us) t) all_left m)

      starts_at : bounds ≡ now.bounds → Agrees system (reached now) now.bounds
      unfolding after_steps
      starts_at e =
          subst (λ s. Agrees system (after_steps s (vector_at system bounds)) now.bounds) (sym none_so_far)
          (subst (λ b. Agrees system (vector_at system bounds) b) e (λ p r l. refl))

      -- nothing has grown yet
      pub growing_start : bounds ≡ now.bounds → IsKept system now → AreQuiet system pick now → GrowingTo now
      growing_start e kept quiet = record {
        kept = kept;
        quiet = quiet;
        agrees = starts_at e;
        fuel = length chosen;
        grows_on = record {
          enough = (let k = ap (λ (us : List Item). length us) all_left in omega arith);
          steps = growth_steps;
          tests = growth_has;
        };
      }
