-- Chains of rounds by the choices of a policy.
use Rattle.std.specs.Prelude.{ℕ, ◌<◌, List, length}
use Rattle.base_numbers.specs.Extended.{Ext as Extended}
use Rattle.flow_systems.specs.Equations.{PostSolution}
use Rattle.flow_systems.specs.View.{equations_of, bounds_of}
use Rattle.flow_systems.specs.declared.system.System.{System}
use Rattle.theory_strategy.specs.Solve.{State}
use Rattle.theory_validity.specs.Steps.{Step}
use Rattle.theory_rounds.specs.Rounds.{Choice, TakesOne, Goes, exact_state}
use Rattle.theory_rounds.specs.RoundSteps.{AreStepsOf}
use Rattle.solve_raise.specs.Numbers.{fitting}
use Rattle.solve_offers.specs.declared.offer.Offer.{Offer}
use Rattle.solve_offers.specs.AtBounds.{transformers}
use Rattle.solve_offers.specs.Improvement.{IsChoice, NoneExceeds}

-- the vector and the pick after so many rounds by the choices of rounds
abbrev pub state_at : System → (ℕ → Choice) → ℕ → State
state_at system choose k = exact_state fitting (equations_of system) choose k

-- the bounds there, in order of unknowns
abbrev pub bounds_after : System → (ℕ → Choice) → ℕ → List Extended
bounds_after system choose k = bounds_of (length system.flow.points) (length system.template) (state_at system choose k).vector

-- these are the steps of the rounds, in order: of each its growth's, and one for each turn, made by some outcome that has its facts
abbrev pub AreStepsAfter : System → (ℕ → Choice) → ℕ → List Step → Type 0
AreStepsAfter system choose k steps = AreStepsOf fitting (equations_of system) choose k steps

-- n rounds are made, each by a choice that the policy may answer at the vector before it; later choices are free
pub record IsChain (system : System) (policy : Offer → ℕ → Type 0) (n : ℕ) (choose : ℕ → Choice) : Type 0 where
  pub among : (k : ℕ) → TakesOne (choose k)
  pub chosen : (k : ℕ) → k < n → IsChoice (equations_of system) (transformers system) (state_at system choose k).vector policy (choose k)
  pub made : (k : ℕ) → k < n → Goes (equations_of system) (choose k) (state_at system choose k)

-- the rounds end there: no transformer exceeds its bound, and the vector is a post-solution
pub record IsEnded (system : System) (choose : ℕ → Choice) (n : ℕ) : Type 0 where
  pub none : NoneExceeds (equations_of system) (transformers system) (state_at system choose n).vector
  pub post : PostSolution (equations_of system) (state_at system choose n).vector
