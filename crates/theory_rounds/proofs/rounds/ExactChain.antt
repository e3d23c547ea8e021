-- The chain of exact rounds by choices among exceeding edges: tight picks, valid steps, fewer rounds than picks, and the least solution at
-- its end.
use Rattle.std.proofs.Common.{◌≡◌, ◌∙◌, Bool, ℕ, zero, suc, ◌<◌, ◌≤◌, List, ◌++◌, refl, sym, ap, subst, arith}
use Rattle.std.specs.Prelude.{Option, Some, None}
use Rattle.base_numbers.specs.Rational.{ℚ}
use Rattle.flow_systems.specs.Equations.{Equations, Vector, PostSolution, Least}
use Rattle.theory_validity.specs.Steps.{Below, Step, start_vector}
use Rattle.theory_validity.specs.Certificates.{ValidSteps, after_steps, PointsInRange}
use Rattle.theory_transformers.specs.EdgeProblems.{transformer}
use Rattle.theory_strategy.specs.Picks.{Pick, Supported, Tight}
use Rattle.theory_strategy.specs.PickCount.{pick_count}
use Rattle.theory_strategy.specs.Solve.{State, next, state}
use Rattle.theory_strategy.proofs.picks.Picks.{improve_supported, start_tight}
use Rattle.theory_strategy.proofs.growth.Grown.{Grown}
use Rattle.theory_strategy.proofs.round.RoundLaw.{RoundDone}
use Rattle.theory_strategy.proofs.round.Chain.{Chain, NoneExceeds, all_steps, chain_below, chain_end_least, chain_post, chain_rounds}
use Rattle.theory_strategy.proofs.round.Chain.{chain_short, chain_steps}
use Rattle.theory_strategy.proofs.round.NoTwice.{no_twice}
use Rattle.theory_strategy.proofs.round.Solve.{Better, Answers}
use Rattle.theory_strategy.proofs.picks.PolicyLaw.{policy_answers}
use Rattle.theory_rounds.specs.Evidence.{exact_evidence}
use Rattle.theory_rounds.specs.JointItems.{exact_joint}
use Rattle.theory_rounds.specs.Cut.{exact_cut}
use Rattle.theory_rounds.specs.Rounds.{Choice, exact_grow, exact_grown, exact_round_steps, exact_next, exact_state, exact_steps, Goes}
use Rattle.theory_rounds.specs.Rounds.{TakesOne}
use Rattle.theory_rounds.proofs.rounds.ExactRound.{exact_grow_is, exact_round_is}

module _ (fitting : ℚ → Bool) (system : Equations) (range : PointsInRange system) (choose : ℕ → Choice)
    (among : (k : ℕ) → TakesOne (choose k)) where
  abbrev now : ℕ → State
  now k = exact_state fitting system choose k

  abbrev next_of : Option Pick → State → State
  next_of o s = next fitting system (transformer system) (exact_evidence system) (exact_joint system) (exact_cut fitting system) o s

  -- what is known of a round from one state to another
  pub record RoundMade (s t : State) : Type 0 where
    -- the next pick is better than the old one
    pub better : Better system (transformer system) s.vector s.pick t.pick
    -- the next pick is supported at the first vector
    pub supported : Supported system (transformer system) s.vector t.pick
    -- the growth of the next pick
    pub growth : Grown system (transformer system) s.vector t.pick (exact_grow fitting system s.vector t.pick)
        (exact_grown fitting system s.vector t.pick)
    -- the round leads to the second vector
    pub done : RoundDone system (transformer system) s.vector (exact_grown fitting system s.vector t.pick) t.pick
        (exact_grow fitting system s.vector t.pick) (exact_round_steps fitting system s.vector t.pick) t.vector

  made_by : (s : State) (better : Pick) → Tight system (transformer system) s.vector s.pick
      → Better system (transformer system) s.vector s.pick better → RoundMade s (next_of (Some better) s)
  unfolding next
  made_by s better tight h =
      let supported = improve_supported system (transformer system) (exact_evidence system) s.vector s.pick better tight h.is_pick
      h.improves in
      record {
        better = h;
        supported = supported;
        growth = exact_grow_is fitting system s.vector better supported;
        done =
            exact_round_is fitting system s.vector better supported;
      }

  answer : (k : ℕ) → Tight system (transformer system) (now k).vector (now k).pick
      → Answers system (transformer system) (now k).vector (now k).pick (exact_next system (choose k) (now k).vector (now k).pick)
  answer k tight = policy_answers system (transformer system) range (choose k) (among k) (now k).vector (now k).pick tight

  made_at : (k : ℕ) → Tight system (transformer system) (now k).vector (now k).pick → Goes system (choose k) (now k)
      → RoundMade (now k) (now (suc k))
  unfolding state next
  made_at k tight g =
      subst (λ o. RoundMade (now k) (next_of o (now k))) (sym g.1)
      (made_by (now k) g.0 tight (subst (Answers system (transformer system) (now k).vector (now k).pick) g.1 (answer k tight)))

  -- after rounds that were all made, the pick is tight at the vector
  pub state_tight : (n : ℕ) → ((k : ℕ) → k < n → Goes system (choose k) (now k))
      → Tight system (transformer system) (now n).vector (now n).pick
  unfolding state
  state_tight zero goes = start_tight system (transformer system) (exact_evidence system)
  state_tight (suc n) goes = (made_at n (state_tight n (λ k h. goes k (omega arith))) (goes n (omega arith))).done.tight

  module _ (n : ℕ) (goes : (k : ℕ) → k < n → Goes system (choose k) (now k)) where
    -- each round that was made
    pub round_made : (k : ℕ) → k < n → RoundMade (now k) (now (suc k))
    round_made k h = made_at k (state_tight k (λ j l. goes j (omega arith))) (goes k h)

    d : ℕ → Vector
    d k = (now k).vector

    z : ℕ → Vector
    z k = exact_grown fitting system (now k).vector (now (suc k)).pick

    picks : ℕ → Pick
    picks k = (now k).pick

    grown : ℕ → List Step
    grown k = exact_grow fitting system (now k).vector (now (suc k)).pick

    steps : ℕ → List Step
    steps k = exact_round_steps fitting system (now k).vector (now (suc k)).pick

    chain : Chain system (transformer system) n d z picks grown steps
    unfolding d z picks grown steps state
    chain = record {
      start = refl;
      empty = λ p r. refl;
      is_pick = λ k h. (round_made k h).better.is_pick;
      improves = λ k h. (round_made k h).better.improves;
      improved = λ k h. (round_made k h).better.improved;
      growth = λ k h. (round_made k h).growth;
      round = λ k h. (round_made k h).done;
    }

    same_steps : (k : ℕ) → all_steps steps k ≡ exact_steps fitting system choose k
    unfolding all_steps exact_steps steps
    same_steps zero = refl
    same_steps (suc k) = ap (λ s. s ++ exact_round_steps fitting system (now k).vector (now (suc k)).pick) (same_steps k)

    -- there are fewer rounds than picks
    pub state_few : n < pick_count system
    state_few = chain_short system (transformer system) (exact_evidence system) n d z picks grown steps chain

    -- and no pick comes twice
    pub state_twice : (i j : ℕ) → i < j → j ≤ n → ((p r : ℕ) → (now i).pick p r ≡ (now j).pick p r) → ⊥
    unfolding picks
    state_twice i j h l same =
        no_twice system (transformer system) (exact_evidence system) n d z picks steps
        (chain_rounds system (transformer system) (exact_evidence system) n d z picks grown steps chain) i j h l same

    -- the steps of all rounds are valid one after the other
    pub state_valid : ValidSteps system start_vector (exact_steps fitting system choose n)
    state_valid = subst (ValidSteps system start_vector) (same_steps n)
        (chain_steps system (transformer system) (exact_evidence system) n d z picks grown steps chain n (omega arith)).0

    -- and lead from the start vector to the vector
    pub state_leads : after_steps (exact_steps fitting system choose n) start_vector ≡ (now n).vector
    unfolding d
    state_leads = ap (λ s. after_steps s start_vector) (sym (same_steps n))
        ∙ (chain_steps system (transformer system) (exact_evidence system) n d z picks grown steps chain n (omega arith)).1

    -- which is at most every post-solution
    pub state_below : (q : Vector) → PostSolution system q → Below system (now n).vector q
    unfolding d
    state_below q post = chain_below system (transformer system) (exact_evidence system) n d z picks grown steps chain n (omega arith) q
        post

    -- where no transformer exceeds its bound, it is least
    pub state_least : NoneExceeds system (transformer system) (now n).vector → Least system (now n).vector
    unfolding d
    state_least none = chain_end_least system (transformer system) (exact_evidence system) n d z picks grown steps chain none

    -- where no choice goes, no transformer exceeds its bound
    pub state_ends : exact_next system (choose n) (now n).vector (now n).pick ≡ None
        → NoneExceeds system (transformer system) (now n).vector
    state_ends e = subst (Answers system (transformer system) (now n).vector (now n).pick) e (answer n (state_tight n goes))

    -- and where the vector is a post-solution, none does
    pub state_post : PostSolution system (now n).vector → NoneExceeds system (transformer system) (now n).vector
    unfolding d
    state_post post = chain_post system (transformer system) (exact_evidence system) n d z picks grown steps chain n post
