-- The steps of a chain of rounds as the code has them: that each has an item, and no more than there are unknowns.
use Rattle.std.proofs.Common.{◌≡◌, ◌∙◌, inl, inr, ⊎_elim, Bool, true, false, ◌&&◌, ℕ, zero, suc, ◌+◌, ◌*◌, ◌%◌, ◌<◌, ◌≤◌, List, [], ◌∷◌}
use Rattle.std.proofs.Common.{length, map, refl, ap, subst, arith}
use Rattle.std.specs.Prelude.{IsTrue, nat_le, ℤ}
use Rattle.std.specs.List.{list_all}
use Rattle.std.proofs.lemmas.Bool.{le-leb, leb-true}
use Rattle.std.proofs.lemmas.List.{length-map}
use Rattle.std.proofs.lemmas.Nat.{mod-mul-add}
use Rattle.base_facts.proofs.elements.Membership.{in_map, of_append}
use Rattle.base_facts.specs.Elements.{In}
use Rattle.flow_systems.specs.Equations.{Equations, Vector}
use Rattle.flow_systems.specs.View.{equations_of}
use Rattle.flow_systems.specs.declared.system.System.{System}
use Rattle.flow_systems.proofs.Sizes.{both}
use Rattle.flow_templates.specs.Rows.{is_template}
use Rattle.lang_tree.specs.Numbers.{are_numbers}
use Rattle.theory_validity.specs.Steps.{Step, ValidStep, after_step}
use Rattle.theory_validity.specs.Certificates.{ValidSteps}
use Rattle.cert_types.specs.declared.step.Step.{Step as CodeStep}
use Rattle.cert_types.specs.declared.step.Step.TheVariants.{Plain, Jump, Ray}
use Rattle.cert_types.specs.Certificates.{step_of, plain_item, jump_item, ray_item}
use Rattle.cert_types.specs.Shaped.{has_some, has_item, IsShaped}
use Rattle.theory_rounds.specs.Rounds.{Choice}
use Rattle.theory_rounds.proofs.rounds.ExactChain.{round_made}
use Rattle.solve_raise.specs.Numbers.{fitting}
use Rattle.solve_offers.specs.declared.offer.Offer.{Offer}
use Rattle.solve_rounds.specs.declared.solution.Solved.{Solved}
use Rattle.solve_rounds.specs.Chains.{state_at, AreStepsAfter, IsChain}
use Rattle.solve_rounds.specs.Solutions.{IsSolved, AreNumbered, has_most, cert_with}
use Rattle.solve_offers.proofs.at_bounds.Ranges.{points_in_range}
use Rattle.solve_rounds.proofs.solving.Counting.{distinct_few}
use Rattle.solve_rounds.proofs.solving.RoundCounts.{Filled, round_filled}
use Rattle.solve_rounds.proofs.solving.Outcomes.{solved_valid}
use Rattle.flow_templates.specs.declared.limits.TheConstants.{MOST_ROWS}

-- ---- the chain's steps
module _ (system : System) (policy : Offer → ℕ → Type 0) (n : ℕ) (choose : ℕ → Choice) (chain : IsChain system policy n choose) where
  abbrev E : Equations
  E = equations_of system

  steps_filled : (k : ℕ) → k ≤ n → (steps : List Step) → AreStepsAfter system choose k steps → (s : Step) → In steps s → Filled s
  steps_filled zero l steps h s m = absurd (subst (λ l. In l s) h m)
  steps_filled (suc k) l steps h s m =
      ⊎_elim (λ j. steps_filled k (omega arith) h.0 h.1 s j)
      (λ j. round_filled fitting E (state_at system choose k).vector (state_at system choose (suc k)).pick
      (round_made fitting E (points_in_range system) choose chain.among n chain.made k (omega arith)).better.is_pick h.2.0 h.2.1 s j)
      (of_append h.0 h.2.0 s (subst (λ l. In l s) h.2.2 m))

-- a template has a row
pub some_row : (template : List (List ℤ)) → IsTrue (is_template template) → 0 < length template
some_row template h =
    let a = both (nat_le 1 (length template) && nat_le (length template) MOST_ROWS) _ h in
    let b = both (nat_le 1 (length template)) (nat_le (length template) MOST_ROWS) a.0 in
    let l = leb-true 1 (length template) b.0 in
    omega arith

-- ---- the code's steps
all_in : {A : Type 0} (p : A → Bool) (xs : List A) → ((x : A) → In xs x → IsTrue (p x)) → IsTrue (list_all p xs)
all_in p [] h = refl
all_in p (x ∷ xs) h = joined (p x) (list_all p xs) (h x (inl refl)) (all_in p xs (λ y m. h y (inr m)))
  where
    joined : (a b : Bool) → IsTrue a → IsTrue b → IsTrue (a && b)
    joined true true e f = refl
    joined true false e f = f
    joined false b e f = e

some_of : {A B : Type 0} (f : A → B) (xs : List A) (y : B) → In (map f xs) y → IsTrue (has_some xs)
some_of f [] y m = absurd m
some_of f (x ∷ xs) y m = refl

filled_item : (rows : ℕ) (s : CodeStep) → Filled (step_of rows s) → IsTrue (has_item s)
filled_item rows (Plain items) h = some_of (plain_item rows) items h.0 h.1
filled_item rows (Jump items) h = some_of (jump_item rows) items h.0 h.1
filled_item rows (Ray items) h = some_of (ray_item rows) items h.0 h.1

most_items : (rows count : ℕ) (s : CodeStep) → length (step_of rows s).items ≤ count → IsTrue (has_most count s)
most_items rows count (Plain items) h = le-leb (length items) count (subst (λ k. k ≤ count) (length-map items (plain_item rows)) h)
most_items rows count (Jump items) h = le-leb (length items) count (subst (λ k. k ≤ count) (length-map items (jump_item rows)) h)
most_items rows count (Ray items) h = le-leb (length items) count (subst (λ k. k ≤ count) (length-map items (ray_item rows)) h)

-- each of valid steps is valid where it stands
valid_at : (system : Equations) (steps : List Step) (z : Vector) → ValidSteps system z steps → (s : Step) → In steps s
    → (y : Vector) × ValidStep system y s
valid_at system [] z h s m = absurd m
valid_at system (step ∷ steps) z h s m = ⊎_elim (λ e. subst (λ t. (y : Vector) × ValidStep system y t) e (z, h.0))
    (λ j. valid_at system steps (after_step step z) h.1 s j) m

module _ (system : System) (policy : Offer → ℕ → Type 0) (limit : ℕ) (solved : Solved) (s : IsSolved system policy limit solved) where
  -- where there are no more steps than have a number, the steps and their items can be numbered
  pub solved_numbered : length solved.steps < 4294967296 → AreNumbered system solved.steps
  solved_numbered few = record {
    few = few;
    short = all_in (has_most (length system.flow.points * length system.template)) solved.steps
        (λ step m.
        let v = valid_at (equations_of system) (map (step_of (length system.template)) solved.steps) _
        (solved_valid system policy limit solved s).steps (step_of (length system.template) step)
        (in_map (step_of (length system.template)) solved.steps step m) in
        most_items (length system.template) (length system.flow.points * length system.template) step
        (distinct_few (equations_of system) (step_of (length system.template) step).items v.1.distinct
        (λ u k. let p = v.1.placed u k in (p.point_within, p.row_within))));
  }

  -- the certificate can be written
  pub solved_shaped : IsTrue (is_template system.template) → IsTrue (list_all are_numbers system.template)
      → IsShaped (cert_with system solved)
  solved_shaped template numbers = record {
    row = some_row system.template template;
    numbers = numbers;
    points = ap (λ k. k % length system.template) ((solved_valid system policy limit solved s).size
        ∙ (let e : length system.flow.points * length system.template ≡ length system.flow.points * length system.template + 0 =
        omega arith in e))
        ∙ mod-mul-add (length system.flow.points) (length system.template) 0 (some_row system.template template);
    items = all_in has_item solved.steps
        (λ step m. filled_item (length system.template) step
        (steps_filled system policy solved.improvements s.choose s.chain solved.improvements (omega arith)
        (map (step_of (length system.template)) solved.steps) s.steps (step_of (length system.template) step)
        (in_map (step_of (length system.template)) solved.steps step m)));
  }
