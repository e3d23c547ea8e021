-- The state after rounds depends on their choices alone; and with any choices the rounds end.
use Rattle.std.proofs.Common.{◌≡◌, ◌∙◌, ◌⊎◌, inl, inr, ⊎_elim, Bool, true, false, ℕ, zero, suc, eqb, ◌<◌, refl, ap, subst, subst₂}
use Rattle.std.proofs.Common.{List, arith, if◌then◌else◌}
use Rattle.std.specs.Prelude.{Option, Some, None}
use Rattle.std.proofs.lemmas.Bool.{cases_lt}
use Rattle.std.proofs.lemmas.Bool.Decides.{eqb_tells}
use Rattle.base_numbers.specs.Rational.{ℚ}
use Rattle.flow_systems.specs.Equations.{Equations}
use Rattle.theory_validity.specs.Certificates.{PointsInRange}
use Rattle.theory_transformers.specs.EdgeProblems.{transformer}
use Rattle.theory_strategy.specs.Picks.{Pick}
use Rattle.theory_strategy.specs.PickCount.{pick_count}
use Rattle.theory_strategy.specs.Solve.{State, next, state}
use Rattle.theory_rounds.specs.Evidence.{exact_evidence}
use Rattle.theory_rounds.specs.JointItems.{exact_joint}
use Rattle.theory_rounds.specs.Cut.{exact_cut}
use Rattle.theory_rounds.specs.Rounds.{Choice, exact_next, exact_state, Goes, TakesOne, with_choice}
use Rattle.theory_validity.specs.Steps.{Step}
use Rattle.theory_rounds.specs.RoundSteps.{IsRoundBy, AreStepsOf}
use Rattle.theory_rounds.proofs.rounds.ExactChain.{state_few}

module _ (fitting : ℚ → Bool) (system : Equations) where
  -- with the same choices before it a state is the same
  pub state_same : (choose other : ℕ → Choice) (n : ℕ) → ((k : ℕ) → k < n → choose k ≡ other k)
      → exact_state fitting system choose n ≡ exact_state fitting system other n
  unfolding state
  state_same choose other zero same = refl
  state_same choose other (suc n) same =
      ap (λ (s : State). next fitting system (transformer system) (exact_evidence system) (exact_joint system) (exact_cut fitting system)
      (exact_next system (choose n) s.vector s.pick) s) (state_same choose other n (λ k l. same k (omega arith)))
      ∙ ap (λ c. next fitting system (transformer system) (exact_evidence system) (exact_joint system) (exact_cut fitting system)
      (exact_next system c (exact_state fitting system other n).vector (exact_state fitting system other n).pick)
      (exact_state fitting system other n)) (same n (omega arith))

  -- steps of rounds are those of rounds with the same choices
  pub steps_of_same : (choose other : ℕ → Choice) (n : ℕ) → ((k : ℕ) → k < n → choose k ≡ other k) → (steps : List Step)
      → AreStepsOf fitting system choose n steps → AreStepsOf fitting system other n steps
  steps_of_same choose other zero same steps h = h
  steps_of_same choose other (suc n) same steps h = (
    h.0,
    steps_of_same choose other n (λ k l. same k (omega arith)) h.0 h.1,
    (
      h.2.0,
      subst₂ (λ (s t : State). IsRoundBy fitting system s.vector t.pick h.2.0) (state_same choose other n (λ k l. same k (omega arith)))
          (state_same choose other (suc n) same) h.2.1,
      h.2.2,
    ),
  )

  -- a round that is made
  pub state_after : (choose : ℕ → Choice) (n : ℕ) (better : Pick) → exact_next system (choose n)
      (exact_state fitting system choose n).vector (exact_state fitting system choose n).pick ≡ Some better →
      exact_state fitting system choose (suc n)
      ≡ next fitting system (transformer system) (exact_evidence system) (exact_joint system) (exact_cut fitting system) (Some better)
      (exact_state fitting system choose n)
  unfolding state
  state_after choose n better e = ap (λ o. next fitting system (transformer system) (exact_evidence system) (exact_joint system)
      (exact_cut fitting system) o (exact_state fitting system choose n)) e

-- another choice for a round, and the old ones for the others
pub with_choice-at : (choose : ℕ → Choice) (n : ℕ) (other : Choice) → with_choice choose n other n ≡ other
unfolding with_choice
with_choice-at choose n other = ⊎_elim (λ h. ap (λ b. if b then other else choose n) h.0) (λ h. absurd (h.1 refl)) (eqb_tells n n)

-- the choices before the changed one are the old ones
pub with_choice-before : (choose : ℕ → Choice) (n : ℕ) (other : Choice) (k : ℕ) → k < n → with_choice choose n other k ≡ choose k
unfolding with_choice
with_choice-before choose n other k l = ⊎_elim (λ h. absurd (less h.1)) (λ h. ap (λ b. if b then other else choose k) h.0) (eqb_tells k n)
  where
    less : k ≡ n → ⊥
    less e = absurd (omega arith)

-- each takes one of what is listed where the old ones and the other one do
pub with_choice_takes : (choose : ℕ → Choice) (n : ℕ) (other : Choice) → ((k : ℕ) → TakesOne (choose k)) → TakesOne other → (k : ℕ)
    → TakesOne (with_choice choose n other k)
unfolding with_choice
with_choice_takes choose n other h i k = by (eqb k n)
  where
    by : (b : Bool) → TakesOne (if b then other else choose k)
    by true = i
    by false = h k

module _ (fitting : ℚ → Bool) (system : Equations) (range : PointsInRange system) (choose : ℕ → Choice)
    (among : (k : ℕ) → TakesOne (choose k)) where
  abbrev now : ℕ → State
  now k = exact_state fitting system choose k

  -- where no choice goes for the first time
  pub record Ends (n : ℕ) : Type 0 where
    -- the number of rounds
    pub rounds : ℕ
    -- it is below n
    pub within : rounds < n
    -- there no choice goes
    pub none : exact_next system (choose rounds) (now rounds).vector (now rounds).pick ≡ None
    -- before it every choice goes
    pub before : (k : ℕ) → k < rounds → Goes system (choose k) (now k)

  look : (n : ℕ) → Ends n ⊎ ((k : ℕ) → k < n → Goes system (choose k) (now k))
  look zero = inr (λ k h. absurd (omega arith))
  look (suc n) =
      ⊎_elim (λ e. inl (record { rounds = e.rounds; within = let h = e.within in omega arith; none = e.none; before = e.before }))
      (λ goes. at goes (exact_next system (choose n) (now n).vector (now n).pick) refl) (look n)
    where
      joined_up : ((k : ℕ) → k < n → Goes system (choose k) (now k)) → Goes system (choose n) (now n) → (k : ℕ) → k < suc n
          → Goes system (choose k) (now k)
      joined_up goes g k h = ⊎_elim (λ l. goes k l) (λ e. subst (λ j. Goes system (choose j) (now j)) e g) (below k h)
        where
          below : (k : ℕ) → k < suc n → (k < n) ⊎ (n ≡ k)
          below k h = ⊎_elim (λ l. inl l) (λ l. inr (omega arith)) (cases_lt k n)

      at : ((k : ℕ) → k < n → Goes system (choose k) (now k)) → (o : Option Pick)
          → exact_next system (choose n) (now n).vector (now n).pick ≡ o
          → Ends (suc n) ⊎ ((k : ℕ) → k < suc n → Goes system (choose k) (now k))
      at goes None e = inl (record { rounds = n; within = omega arith; none = e; before = goes })
      at goes (Some better) e = inr (joined_up goes (better, e))

  -- the rounds end, after fewer than there are picks
  pub rounds_end : Ends (pick_count system)
  rounds_end = ⊎_elim (λ e. e) (λ goes. absurd (let h = state_few fitting system range choose among (pick_count system) goes in
      omega arith)) (look (pick_count system))
