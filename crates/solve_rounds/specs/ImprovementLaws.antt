-- What the rounds of the code come to are the chains of improvements that the definition means.
use Rattle.std.specs.Prelude.{ℕ, List}
use Rattle.base_numbers.specs.Extended.{Ext as Extended}
use Rattle.flow_systems.specs.View.{equations_of, vector_at}
use Rattle.flow_systems.specs.declared.system.System.{System}
use Rattle.theory_chains.specs.Offers.{Offer}
use Rattle.theory_chains.specs.Chains.{EndsAfter, GoesOnAfter}
use Rattle.solve_offers.specs.declared.offer.Offer.{Offer as CodeOffer}
use Rattle.solve_rounds.specs.declared.solution.Solved.{Solved}
use Rattle.solve_rounds.specs.Solutions.{IsSolved}
use Rattle.solve_rounds.specs.Halts.{IsSpent}

-- a solution that the rounds lead to is the end of the improvements by what the policy means
abbrev pub SolutionsAreEnds : (CodeOffer → ℕ → Type 0) → (Offer → ℕ → Type 0) → Type 0
SolutionsAreEnds policy meaning = (system : System) (limit : ℕ) (solved : Solved) → IsSolved system policy limit solved →
    EndsAfter (equations_of system) meaning solved.improvements (vector_at system solved.bounds)

-- and where they are spent the improvements go on after as many as the limit
abbrev pub SpentGoesOn : (CodeOffer → ℕ → Type 0) → (Offer → ℕ → Type 0) → Type 0
SpentGoesOn policy meaning = (system : System) (limit : ℕ) (bounds : List Extended) → IsSpent system policy limit bounds →
    GoesOnAfter (equations_of system) meaning limit
