-- The rounds as a total function with any policy: they end after fewer rounds than there are picks, at the least solution.
use Rattle.theory_strategy.specs.Solve.{State, next, state}
use Rattle.std.proofs.Common.{◌≡◌, ◌⊎◌, inl, inr, ⊎_elim, ℕ, zero, suc, ◌<◌, List, refl, sym, subst, arith}
use Rattle.std.specs.Prelude.{ℤ, Bool, Option, Some, None}
use Rattle.std.proofs.lemmas.Bool.{cases_lt}
use Rattle.base_numbers.specs.Rational.{ℚ}
use Rattle.flow_edges.specs.declared.edge.Edge.{Edge}
use Rattle.flow_systems.specs.Equations.{Equations, Vector, Least}
use Rattle.theory_validity.specs.Steps.{Item, Step, start_vector}
use Rattle.theory_validity.specs.Certificates.{ValidSteps, after_steps}
use Rattle.theory_strategy.specs.Picks.{Pick, Transformer, IsPick, Tight, Improves}
use Rattle.theory_strategy.specs.PickCount.{pick_count}
use Rattle.theory_strategy.specs.Growth.{Evident, Sizes, grow}
use Rattle.theory_strategy.specs.Round.{Outcome, round_steps}
use Rattle.theory_strategy.proofs.picks.Picks.{improve_supported, start_tight}
use Rattle.theory_strategy.proofs.growth.Grown.{Grown, grow_is}
use Rattle.theory_strategy.proofs.round.PartLaw.{Joined}
use Rattle.theory_strategy.proofs.round.RoundLaw.{RoundDone}
use Rattle.theory_strategy.proofs.round.RoundGives.{Improved}
use Rattle.theory_strategy.proofs.round.Chain.{Chain, NoneExceeds, all_steps, chain_end_least, chain_short, chain_steps}
use Rattle.theory_strategy.proofs.round.WholeCut.{Cuts, round_is}

-- a policy answers with an improved pick, or with none where no transformer exceeds its bound
pub record Better (system : Equations) (T : Transformer) (d : Vector) (pick better : Pick) : Type 0 where
  -- the answer is a pick of the system
  pub is_pick : IsPick system better
  -- it improves the old pick
  pub improves : Improves system T d pick better
  -- it improves on it in one unknown at least
  pub improved : Improved system T d better

-- what a policy answers
abbrev pub Answers : Equations → Transformer → Vector → Pick → Option Pick → Type 0
Answers system T d pick None = NoneExceeds system T d
Answers system T d pick (Some better) = Better system T d pick better

module _ (fitting : ℚ → Bool) (system : Equations) (T : Transformer) (reaches : Evident system T)
    (sizes : (z : Vector) (edge : Edge) (row : List ℤ) → Sizes system z edge row (T z edge row) (reaches z edge row))
    (joint : Pick → Vector → List Item → Outcome) (joined : (pick : Pick) → IsPick system pick → Joined system T pick (joint pick))
    (cut : Vector → Pick → List (List Item))
    (cuts : (d : Vector) (pick : Pick) → IsPick system pick → Cuts fitting system T reaches sizes d pick (cut d pick))
    (policy : ℕ → Vector → Pick → Option Pick) (answers : (k : ℕ) (d : Vector) (pick : Pick) → Tight system T d pick
    → Answers system T d pick (policy k d pick)) where
  abbrev now : ℕ → State
  now k = state fitting system T reaches joint cut policy k

  abbrev next_of : Option Pick → State → State
  next_of o s = next fitting system T reaches joint cut o s

  grown : State → State → List Step
  grown s t = grow fitting system T reaches s.vector t.pick

  steps_of : State → State → List Step
  steps_of s t = round_steps fitting system T reaches joint cut s.vector t.pick

  record Facts (s t : State) : Type 0 where
    better : Better system T s.vector s.pick t.pick
    growth : Grown system T s.vector t.pick (grown s t) (after_steps (grown s t) s.vector)
    done : RoundDone system T s.vector (after_steps (grown s t) s.vector) t.pick (grown s t) (steps_of s t) t.vector

  facts_of : (s : State) (better : Pick) → Tight system T s.vector s.pick → Better system T s.vector s.pick better
      → Facts s (next_of (Some better) s)
  unfolding next grown steps_of
  facts_of s better tight h =
      let supported = improve_supported system T reaches s.vector s.pick better tight h.is_pick h.improves in
      record {
        better = h;
        growth = grow_is fitting system T reaches sizes s.vector better supported;
        done =
            round_is fitting system T reaches sizes joint joined cut cuts s.vector better supported;
      }

  Goes : ℕ → Type 0
  Goes k = (better : Pick) × (policy k (now k).vector (now k).pick ≡ Some better)

  facts_at : (k : ℕ) → Tight system T (now k).vector (now k).pick → Goes k → Facts (now k) (now (suc k))
  unfolding Goes state next
  facts_at k tight g =
      subst (λ o. Facts (now k) (next_of o (now k))) (sym g.1)
      (facts_of (now k) g.0 tight (subst (Answers system T (now k).vector (now k).pick) g.1 (answers k (now k).vector (now k).pick tight)))

  tight_at : (n : ℕ) → ((k : ℕ) → k < n → Goes k) → Tight system T (now n).vector (now n).pick
  unfolding state
  tight_at zero goes = start_tight system T reaches
  tight_at (suc n) goes = (facts_at n (tight_at n (λ k h. goes k (omega arith))) (goes n (omega arith))).done.tight

  d : ℕ → Vector
  d k = (now k).vector

  picks : ℕ → Pick
  picks k = (now k).pick

  chain_of : (n : ℕ) → ((k : ℕ) → k < n → Goes k) →
      Chain system T n d (λ k. after_steps (grown (now k) (now (suc k))) (d k)) picks (λ k. grown (now k) (now (suc k)))
      (λ k. steps_of (now k) (now (suc k)))
  unfolding d picks state
  chain_of n goes =
      record {
        start = refl;
        empty = λ p r. refl;
        is_pick = λ k h. (facts k h).better.is_pick;
        improves = λ k h. (facts k h).better.improves;
        improved = λ k h. (facts k h).better.improved;
        growth = λ k h. (facts k h).growth;
        round = λ k h. (facts k h).done;
      }
    where
      facts : (k : ℕ) → k < n → Facts (now k) (now (suc k))
      facts k h = facts_at k (tight_at k (λ j l. goes j (omega arith))) (goes k h)

  -- where the policy first has no answer
  record Ends (n : ℕ) : Type 0 where
    -- the number of rounds
    pub rounds : ℕ
    -- it is below n
    pub within : rounds < n
    -- the policy has no answer there
    pub none : policy rounds (now rounds).vector (now rounds).pick ≡ None
    -- before it every round goes on
    pub before : (k : ℕ) → k < rounds → Goes k

  look : (n : ℕ) → Ends n ⊎ ((k : ℕ) → k < n → Goes k)
  unfolding Goes
  look zero = inr (λ k h. absurd (omega arith))
  look (suc n) = ⊎_elim (λ e. inl (record {
    rounds = e.rounds;
    within = let h = e.within in omega arith;
    none = e.none;
    before =
        e.before;
  })) (λ goes. at goes (policy n (now n).vector (now n).pick) refl) (look n)
    where
      joined_up : ((k : ℕ) → k < n → Goes k) → Goes n → (k : ℕ) → k < suc n → Goes k
      joined_up goes g k h = ⊎_elim (λ l. goes k l) (λ e. subst Goes e g) (below k h)
        where
          below : (k : ℕ) → k < suc n → (k < n) ⊎ (n ≡ k)
          below k h = ⊎_elim (λ l. inl l) (λ l. inr (omega arith)) (cases_lt k n)

      at : ((k : ℕ) → k < n → Goes k) → (o : Option Pick) → policy n (now n).vector (now n).pick ≡ o
          → Ends (suc n) ⊎ ((k : ℕ) → k < suc n → Goes k)
      at goes None e = inl (record { rounds = n; within = omega arith; none = e; before = goes })
      at goes (Some better) e = inr (joined_up goes (better, e))

  -- the rounds end, after fewer than there are picks, and lead by valid steps from the start vector to the least solution
  pub record Solved : Type 0 where
    -- the number of rounds
    pub rounds : ℕ
    -- it is below the number of picks
    pub few : rounds < pick_count system
    -- the steps of the rounds
    pub steps : List Step
    -- the steps are valid from the start vector
    pub valid : ValidSteps system start_vector steps
    -- they lead to the last vector
    pub leads : after_steps steps start_vector ≡ (now rounds).vector
    -- the last vector is the least solution
    pub least : Least system (now rounds).vector

  -- with any policy the rounds end
  pub solved : Solved
  unfolding d
  solved = ⊎_elim ended (λ goes. absurd (let h = chain_short system T reaches (pick_count system) d
      (λ k. after_steps (grown (now k) (now (suc k))) (d k)) picks (λ k. grown (now k) (now (suc k))) (λ k. steps_of (now k) (now (suc k)))
      (chain_of (pick_count system) goes) in omega arith)) (look (pick_count system))
    where
      ended : Ends (pick_count system) → Solved
      ended e =
          let n = e.rounds in
          let chain = chain_of n e.before in
          let made = chain_steps system T reaches n d (λ k. after_steps (grown (now k) (now (suc k))) (d k)) picks
          (λ k. grown (now k) (now (suc k))) (λ k. steps_of (now k) (now (suc k))) chain n (omega arith) in
          record {
            rounds = n;
            few = e.within;
            steps = all_steps (λ k. steps_of (now k) (now (suc k))) n;
            valid = made.0;
            leads = made.1;
            least = chain_end_least system T reaches n d (λ k. after_steps (grown (now k) (now (suc k))) (d k)) picks
                (λ k. grown (now k) (now (suc k))) (λ k. steps_of (now k) (now (suc k))) chain
                (subst (Answers system T (now n).vector (now n).pick) e.none (answers n (now n).vector (now n).pick (tight_at n e.before)));
          }
