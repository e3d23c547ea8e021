-- Passes over some unknowns, in the marks that the code keeps.
use Rattle.std.proofs.Common.{◌≡◌, ◌∙◌, inl, inr, ⊎_elim, ℕ, zero, suc, ◌+◌, ◌/◌, ◌%◌, ◌<◌, ◌≤◌, Bool, true, false, List, [], ◌∷◌, ◌++◌}
use Rattle.std.proofs.Common.{length, map, get_or, refl, sym, ap, ap₂, subst, arith, if◌then◌else◌}
use Rattle.std.specs.Prelude.{Option, Some, None, flat_map}
use Rattle.std.specs.List.{range_with_len}
use Rattle.std.proofs.lemmas.Grind.{flat_map-append}
use Rattle.std.proofs.lemmas.List.{get_or-set_same, get_or-set_other, append-nil}
use Rattle.base_facts.specs.Elements.{In}
use Rattle.flow_systems.specs.Equations.{Vector}
use Rattle.flow_systems.specs.View.{equations_of}
use Rattle.flow_systems.specs.declared.system.System.{System}
use Rattle.theory_validity.specs.Steps.{Item, after_step}
use Rattle.theory_validity.specs.Certificates.{after_steps}
use Rattle.cert_types.specs.Certificates.{step_of}
use Rattle.theory_strategy.specs.Picks.{value_at, choice, choice_at}
use Rattle.theory_strategy.specs.Growth.{Log, stay, go, pass}
use Rattle.theory_rounds.specs.Evidence.{exact_evidence}
use Rattle.theory_rounds.specs.Rounds.{exact_pass, exact_raise}
use Rattle.solve_raise.specs.Numbers.{fitting}
use Rattle.solve_rounds.specs.declared.growing.Growing.{Growing}
use Rattle.flow_systems.specs.declared.fault.Fault.{Fault}
use Rattle.flow_systems.specs.declared.spot.Spot.{Spot}
use Rattle.flow_systems.specs.declared.fault.Fault.TheVariants.{Wide, NoMemory}
use Rattle.solve_offers.specs.AtBounds.{transformers}
use Rattle.solve_rounds.specs.GrowthTests.{Test, pass_tests}
use Rattle.solve_rounds.specs.GrowthStops.{IsStopIn}
use Rattle.solve_rounds.specs.Growing.{Agrees, steps_so_far, left_at, left_from, unraised, IsPassed, OthersKeep, tested, IsStay, IsGo}
use Rattle.solve_rounds.specs.Growing.{IsTested}
use Rattle.solve_rounds.proofs.growth_tests.Passing.{choose_le, choose_lt}

-- ---- stops
-- a wide operation of some tests is one of more
pub stop_more : (system : System) (ts us : List Test) (round : ℕ) (stop : Fault Spot) → ((t : Test) → In ts t → In us t)
    → IsStopIn (equations_of system) ts round stop → IsStopIn (equations_of system) us round stop
stop_more system ts us round (Wide spot) h s = record { round = s.round; test = s.test; listed = h s.test s.listed; formula = s.formula }
stop_more system ts us round NoMemory h s = tt

-- ---- what is left
pub range-append : (a n m : ℕ) → range_with_len a (n + m) ≡ range_with_len a n ++ range_with_len (a + n) m
range-append a zero m = ap₂ range_with_len (let e : a ≡ a + 0 = omega arith in e) (let e : 0 + m ≡ m = omega arith in e)
range-append a (suc n) m =
    ap (range_with_len a) (let e : suc n + m ≡ suc (n + m) = omega arith in e)
    ∙ ap (λ l. a ∷ l) (range-append (a + 1) n m ∙ ap (λ k. range_with_len (a + 1) n ++ range_with_len k m)
    (let e : a + 1 + n ≡ a + suc n = omega arith in e))

-- two parts of what is left
pub left-append : (rows : ℕ) (pick : List (Option ℕ)) (raised : List Bool) (a n m : ℕ)
    → left_from rows pick raised a (n + m) ≡ left_from rows pick raised a n ++ left_from rows pick raised (a + n) m
left-append rows pick raised a n m = ap (flat_map (left_at rows pick raised)) (range-append a n m)
    ∙ flat_map-append (left_at rows pick raised) (range_with_len a n) (range_with_len (a + n) m)

-- the same marks leave the same
pub left_same : (rows : ℕ) (pick : List (Option ℕ)) (old new : List Bool) (a n : ℕ)
    → ((u : ℕ) → a ≤ u → u < a + n → get_or new u false ≡ get_or old u false) → left_from rows pick new a n ≡ left_from rows pick old a n
left_same rows pick old new a zero h = refl
left_same rows pick old new a (suc n) h =
    ap₂ (λ x y. x ++ y) (ap (λ b. if b then [] else choice_at (a / rows) (a % rows) (get_or pick a None)) (h a (omega arith) (omega arith)))
    (left_same rows pick old new (a + 1) n (λ u l m. h u (omega arith) (omega arith)))

left_one : (rows : ℕ) (pick : List (Option ℕ)) (raised : List Bool) (u : ℕ) → left_from rows pick raised u 1 ≡ left_at rows pick raised u
left_one rows pick raised u = append-nil (left_at rows pick raised u)

-- an unknown with a mark, or without a pick, isn't left
pub left_marked : (rows : ℕ) (pick : List (Option ℕ)) (raised : List Bool) (u : ℕ) → get_or raised u false ≡ true
    → left_from rows pick raised u 1 ≡ []
left_marked rows pick raised u e = left_one rows pick raised u ∙ ap (λ b. if b then [] else choice_at (u / rows) (u % rows)
    (get_or pick u None)) e

-- an unknown without a pick is not left
pub left_unpicked : (rows : ℕ) (pick : List (Option ℕ)) (raised : List Bool) (u : ℕ) → get_or raised u false ≡ false
    → get_or pick u None ≡ None → left_from rows pick raised u 1 ≡ []
unfolding choice_at
left_unpicked rows pick raised u e f =
    left_one rows pick raised u ∙ ap (λ b. if b then [] else choice_at (u / rows) (u % rows) (get_or pick u None)) e
    ∙ ap (choice_at (u / rows) (u % rows)) f

-- a picked unknown without a mark is
pub left_picked : (rows : ℕ) (pick : List (Option ℕ)) (raised : List Bool) (u edge : ℕ) → get_or raised u false ≡ false
    → get_or pick u None ≡ Some edge → left_from rows pick raised u 1 ≡ choice (u / rows) (u % rows) edge ∷ []
unfolding choice_at
left_picked rows pick raised u edge e f =
    left_one rows pick raised u ∙ ap (λ b. if b then [] else choice_at (u / rows) (u % rows) (get_or pick u None)) e
    ∙ ap (choice_at (u / rows) (u % rows)) f

module _ (system : System) (pick : List (Option ℕ)) where
  -- a pass
  abbrev pub log_of : Vector → List Item → Log
  log_of z us = exact_pass fitting (equations_of system) z us

  abbrev pub tests_of : ℕ → Vector → List Item → List Test
  tests_of n z us = pass_tests fitting (equations_of system) (transformers system) (exact_evidence (equations_of system)) n z us

  -- nothing to test
  pub passed_none : (u : ℕ) (z : Vector) (now : Growing) → unraised system pick now u 1 ≡ [] → Agrees system z now.bounds
      → IsPassed system pick u 1 z now now false
  unfolding pass after_steps
  passed_none u z now e agrees = record {
    made = [];
    steps = sym (append-nil (steps_so_far system now));
    log = ap (log_of z) e ∙ ap (λ (l : List Item). let log : Log = record { steps = []; left = l } in log) (sym e);
    agrees = agrees;
    is_told = refl;
  }

  module _ (u edge : ℕ) (z : Vector) (old new : Growing) (agrees : Agrees system z old.bounds)
      (unmarked : get_or old.raised.items u false ≡ false) (picked : get_or pick u None ≡ Some edge)
      (within : u < length old.raised.items) where
    -- a tested unknown that stays
    pub stays_passed : IsStay system edge u z old new → IsPassed system pick u 1 z old new false
    unfolding pass after_steps stay
    stays_passed s =
        let one = left_picked (length system.template) pick old.raised.items u edge unmarked picked in
        record {
          made = [];
          steps = ap (map (step_of (length system.template))) s.steps ∙ sym (append-nil (steps_so_far system old));
          log = ap (log_of z) one
              ∙ choose_le (value_at (equations_of system) (transformers system) z (tested system edge u))
              (z (tested system edge u).point (tested system edge u).row)
              (stay (tested system edge u) (log_of z [])) (go (exact_raise fitting (equations_of system) z (tested system edge u))
              (log_of (after_step (exact_raise fitting (equations_of system) z (tested system edge u)) z) [])) s.within
              ∙ ap (λ (l : List Item). let log : Log = record { steps = []; left = l } in log)
              (sym one ∙ ap (λ m. left_from (length system.template) pick m u 1) (sym s.raised));
          agrees = subst (Agrees system z) (sym s.bounds) agrees;
          is_told = refl;
        }

    goes_passed : IsGo system edge u z old new → IsPassed system pick u 1 z old new true
    unfolding pass after_steps go
    goes_passed s =
        let one = left_picked (length system.template) pick old.raised.items u edge unmarked picked in
        let raise = exact_raise fitting (equations_of system) z (tested system edge u) in
        let none = left_marked (length system.template) pick new.raised.items u
        (ap (λ m. get_or m u false) s.raised ∙ get_or-set_same old.raised.items u true false within) in
        record {
          made = raise ∷ [];
          steps = s.steps;
          log = ap (log_of z) one
              ∙ choose_lt (value_at (equations_of system) (transformers system) z (tested system edge u))
              (z (tested system edge u).point (tested system edge u).row)
              (stay (tested system edge u) (log_of z [])) (go raise (log_of (after_step raise z) [])) s.exceeds
              ∙ ap (λ (l : List Item). let log : Log = record { steps = raise ∷ []; left = l } in log) (sym none);
          agrees = s.agrees;
          is_told = refl;
        }

    -- a tested unknown is passed
    pub test_passed : (told : Bool) → IsTested system edge u z old new told → IsPassed system pick u 1 z old new told
    test_passed false s = stays_passed s
    test_passed true s = goes_passed s

    first_test : (t : Test) → In (record { vector = z; unknown = tested system edge u; raises = length old.steps.items } ∷ []) t
        → In (tests_of (length old.steps.items) z (tested system edge u ∷ [])) t
    unfolding pass_tests
    first_test t (inl e) = inl e
    first_test t (inr m) = absurd m

    -- a wide operation of the test is one of the pass
    pub test_stop : (round : ℕ) (stop : Fault Spot) → IsStopIn (equations_of system)
        (record { vector = z; unknown = tested system edge u; raises = length old.steps.items } ∷ []) round stop →
        IsStopIn (equations_of system) (tests_of (length old.steps.items) z (unraised system pick old u 1)) round stop
    test_stop round stop s =
        subst (λ us. IsStopIn (equations_of system) (tests_of (length old.steps.items) z us) round stop)
        (sym (left_picked (length system.template) pick old.raised.items u edge unmarked picked))
        (stop_more system (record { vector = z; unknown = tested system edge u; raises = length old.steps.items } ∷ [])
        (tests_of (length old.steps.items) z (tested system edge u ∷ [])) round stop first_test s)

-- other unknowns keep their marks
pub others_stay : (system : System) (edge u : ℕ) (z : Vector) (old new : Growing) (told : Bool) → IsTested system edge u z old new told
    → OthersKeep u 1 old new
others_stay system edge u z old new false s k h = ap (λ m. get_or m k false) s.raised
others_stay system edge u z old new true s k h =
    ap (λ m. get_or m k false) s.raised ∙ get_or-set_other old.raised.items u k true false
    (⊎_elim (λ l e. omega (arith, l, e)) (λ l e. omega (arith, l, e)) h)
