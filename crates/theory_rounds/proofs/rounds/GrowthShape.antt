-- The steps of a growth have one item each, of unknowns that are all different.
use Rattle.std.proofs.Common.{◌≡◌, ⊎_elim, Bool, ℕ, zero, suc, ◌+◌, ◌*◌, ◌≤◌, List, [], ◌∷◌, length, length-append, refl, ap, subst, arith}
use Rattle.std.specs.Prelude.{Option, Some, None, flat_map}
use Rattle.std.specs.List.{range_with_len}
use Rattle.base_facts.specs.Elements.{In}
use Rattle.base_numbers.specs.Rational.{ℚ}
use Rattle.base_numbers.specs.Extended.{fin}
use Rattle.flow_systems.specs.Equations.{Equations, Vector}
use Rattle.theory_validity.specs.Steps.{Item, Step, after_step, Distinct}
use Rattle.theory_transformers.specs.EdgeProblems.{transformer}
use Rattle.theory_strategy.specs.Picks.{Pick, IsPick, choice_at, choices}
use Rattle.theory_strategy.specs.Growth.{items_of, grow, growth}
use Rattle.theory_strategy.specs.Round.{rising}
use Rattle.theory_strategy.proofs.round.Choices.{choices_picked}
use Rattle.theory_strategy.proofs.round.WholeCut.{of_finite, in_finite}
use Rattle.theory_strategy.proofs.growth.GrowthLaw.{Raises}
use Rattle.theory_strategy.proofs.growth.PassLaw.{passes_done}
use Rattle.theory_strategy.proofs.growth.ApartLaw.{choices_distinct, passes_apart}
use Rattle.theory_rounds.specs.Evidence.{exact_evidence}
use Rattle.theory_rounds.specs.Rounds.{exact_grow, exact_grown, exact_rising}
use Rattle.theory_rounds.proofs.rounds.ExactRound.{exact_sizes}

single_of : (system : Equations) (pick : Pick) (steps : List Step) (z : Vector) → Raises system (transformer system) pick z steps
    → (s : Step) → In steps s → (item : Item) × (s.items ≡ item ∷ [])
single_of system pick [] z h s m = absurd m
single_of system pick (first ∷ steps) z h s m = ⊎_elim (λ e. subst (λ t. (item : Item) × (t.items ≡ item ∷ [])) e (h.0.item, h.0.single))
    (λ k. single_of system pick steps (after_step first z) h.1 s k) m

module _ (fitting : ℚ → Bool) (system : Equations) (pick : Pick) (is_pick : IsPick system pick) (d : Vector) where
  -- each step has one item
  pub grow_single : (s : Step) → In (exact_grow fitting system d pick) s → (item : Item) × (s.items ≡ item ∷ [])
  unfolding grow growth
  grow_single s m =
      let us = choices system pick in
      let done = passes_done fitting system (transformer system) (exact_evidence system) (exact_sizes system) pick is_pick (length us) us d
      (omega arith) (choices_picked system pick) in
      single_of system pick (exact_grow fitting system d pick) d done.logged.raises s m

  -- no unknown is raised twice
  pub grow_apart : Distinct (items_of (exact_grow fitting system d pick))
  unfolding grow growth
  grow_apart =
      let us = choices system pick in
      (passes_apart fitting system (transformer system) (exact_evidence system) (exact_sizes system) pick is_pick (length us) us d
      (choices_picked system pick) (choices_distinct system pick)).distinct

  -- there are at most as many steps as choices
  pub grow_few : length (exact_grow fitting system d pick) ≤ length (choices system pick)
  unfolding grow growth
  grow_few =
      let us = choices system pick in
      let done = passes_done fitting system (transformer system) (exact_evidence system) (exact_sizes system) pick is_pick (length us) us d
      (omega arith) (choices_picked system pick) in
      let c = done.logged.count in omega arith

  -- the raised unknowns with a fraction as bound
  pub to_rising : (u : Item) (c : ℚ) → In (items_of (exact_grow fitting system d pick)) u
      → exact_grown fitting system d pick u.point u.row ≡ fin c → In (exact_rising fitting system d pick) u
  unfolding rising
  to_rising u c m e = in_finite (exact_grown fitting system d pick) (items_of (exact_grow fitting system d pick)) u c m e

  -- the unknowns that it raised to fractions are raised ones with a fraction as bound
  pub of_rising : (u : Item) → In (exact_rising fitting system d pick) u
      → In (items_of (exact_grow fitting system d pick)) u × ((c : ℚ) × (exact_grown fitting system d pick u.point u.row ≡ fin c))
  unfolding rising
  of_rising u m = of_finite (exact_grown fitting system d pick) (items_of (exact_grow fitting system d pick)) u m

-- ---- how many choices there are
few_parts : {A B : Type 0} (f : A → List B) (n : ℕ) → ((x : A) → length (f x) ≤ n) → (xs : List A) → length (flat_map f xs) ≤ length xs * n
few_parts f n h [] = omega arith
few_parts f n h (x ∷ xs) = let a = h x in let r = few_parts f n h xs in let e = length-append (f x) (flat_map f xs) in omega arith

length-range : (a n : ℕ) → length (range_with_len a n) ≡ n
length-range a zero = refl
length-range a (suc n) = ap suc (length-range (a + 1) n)

one_choice : (p r : ℕ) (o : Option ℕ) → length (choice_at p r o) ≤ 1
unfolding choice_at
one_choice p r None = omega arith
one_choice p r (Some k) = omega arith

-- at most one for each unknown
pub choices_few : (system : Equations) (pick : Pick) → length (choices system pick) ≤ system.points * length system.template
unfolding choices
choices_few system pick =
    let rows = length system.template in
    let r = range_with_len 0 rows in
    let inner : (p : ℕ) → length (flat_map (λ r. choice_at p r (pick p r)) (range_with_len 0 rows)) ≤ rows
    = λ p. let h = few_parts (λ r. choice_at p r (pick p r)) 1 (λ r. one_choice p r (pick p r)) (range_with_len 0 rows) in
    let l = length-range 0 rows in omega arith in
    let h = few_parts (λ p. flat_map (λ r. choice_at p r (pick p r)) (range_with_len 0 rows)) rows inner (range_with_len 0 system.points) in
    subst (λ n. length (flat_map (λ p. flat_map (λ r. choice_at p r (pick p r)) (range_with_len 0 rows)) (range_with_len 0 system.points))
    ≤ n * rows) (length-range 0 system.points) h
