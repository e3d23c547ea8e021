-- What is so by a policy is so by one that may answer whatever it answers.
use Rattle.std.proofs.Common.{inl, inr, ⊎_elim, ℕ}
use Rattle.std.specs.Prelude.{Result, Ok, Err, IfOk, IfErr}
use Rattle.flow_systems.specs.Equations.{Equations, Vector}
use Rattle.flow_systems.specs.View.{equations_of}
use Rattle.flow_systems.specs.declared.system.System.{System}
use Rattle.flow_systems.specs.declared.spot.Spot.{Spot}
use Rattle.theory_strategy.specs.Picks.{Transformer}
use Rattle.theory_rounds.specs.Rounds.{Choice}
use Rattle.solve_offers.specs.declared.offer.Offer.{Offer}
use Rattle.solve_rounds.specs.declared.halt.Halt.{Halt}
use Rattle.solve_rounds.specs.declared.halt.Halt.TheVariants.{Wide, Large, Spent, NoMemory}
use Rattle.solve_rounds.specs.declared.solution.Solved.{Solved}
use Rattle.solve_offers.specs.Improvement.{IsChoice}
use Rattle.solve_rounds.specs.Chains.{IsChain}
use Rattle.solve_rounds.specs.Halts.{IsLargeHalt, IsHalt, IsOfferHalt, IsRoundHalt}
use Rattle.solve_rounds.specs.Solutions.{IsSolved}

module _ (policy other : Offer → ℕ → Type 0) (also : (offer : Offer) (k : ℕ) → policy offer k → other offer k) where
  choice_by : (system : Equations) (T : Transformer) (z : Vector) (choose : Choice) → IsChoice system T z policy choose
      → IsChoice system T z other choose
  choice_by system T z choose h = record {
    among = h.among;
    chosen = λ p r k ks e.
        let c = h.chosen p r k ks e in
        record {
          offer = c.offer;
          is_offer = c.is_offer;
          position = c.position;
          answers = also c.offer c.position c.answers;
          is_edge =
              c.is_edge;
        };
  }

  chain_by : (system : System) (n : ℕ) (choose : ℕ → Choice) → IsChain system policy n choose → IsChain system other n choose
  chain_by system n choose h = record {
    among = h.among;
    chosen = λ k l. choice_by (equations_of system) _ _ (choose k) (h.chosen k l);
    made = h.made;
  }

  -- a solution
  pub solved_by : (system : System) (limit : ℕ) (solved : Solved) → IsSolved system policy limit solved → IsSolved system other limit solved
  solved_by system limit solved s = record {
    choose = s.choose;
    chain = chain_by system solved.improvements s.choose s.chain;
    ended = s.ended;
    within = s.within;
    few = s.few;
    bounds = s.bounds;
    steps = s.steps;
    uppers = s.uppers;
  }

  offer_by : (system : System) (limit : ℕ) (spot : Spot) → IsOfferHalt system policy limit spot → IsOfferHalt system other limit spot
  offer_by system limit spot h = record {
    choose = h.choose;
    made = h.made;
    chain = chain_by system h.made h.choose h.chain;
    within =
        h.within;
    stop = h.stop;
  }

  round_by : (system : System) (limit : ℕ) (spot : Spot) → IsRoundHalt system policy limit spot → IsRoundHalt system other limit spot
  round_by system limit spot h = record {
    choose = h.choose;
    before = h.before;
    chain = chain_by system _ h.choose h.chain;
    within = h.within;
    pick = h.pick;
    size = h.size;
    is_pick = h.is_pick;
    stop = h.stop;
  }

  large_by : (system : System) (limit cells : ℕ) → IsLargeHalt system policy limit cells → IsLargeHalt system other limit cells
  large_by system limit cells h = record {
    choose = h.choose;
    before = h.before;
    chain = chain_by system _ h.choose h.chain;
    within = h.within;
    pick = h.pick;
    size = h.size;
    is_pick = h.is_pick;
    turn = h.turn;
  }

  -- a halt
  pub halt_by : (system : System) (limit : ℕ) (halt : Halt) → IsHalt system policy limit halt → IsHalt system other limit halt
  halt_by system limit (Wide spot) h = ⊎_elim (λ c. inl c) (λ d. inr (⊎_elim (λ o. inl (offer_by system limit spot o))
      (λ r. inr (round_by system limit spot r)) d)) h
  halt_by system limit (Large cells) h = large_by system limit cells h
  halt_by system limit (Spent bounds) h = record {
    choose = h.choose;
    chain = chain_by system limit h.choose h.chain;
    same =
        h.same;
    unsolved = h.unsolved;
    few = h.few;
  }
  halt_by system limit NoMemory h = tt

  -- an answer
  pub answer_solved : (system : System) (limit : ℕ) (result : Result Solved Halt) → IfOk result (IsSolved system policy limit)
      → IfOk result (IsSolved system other limit)
  answer_solved system limit (Ok solved) h = solved_by system limit solved h
  answer_solved system limit (Err halt) h = tt

  -- a halt by a policy is a halt by one that may answer whatever it answers
  pub answer_halt : (system : System) (limit : ℕ) (result : Result Solved Halt) → IfErr result (IsHalt system policy limit)
      → IfErr result (IsHalt system other limit)
  answer_halt system limit (Ok solved) h = tt
  answer_halt system limit (Err halt) h = halt_by system limit halt h
