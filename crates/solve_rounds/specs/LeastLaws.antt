-- Policies that answer one position, and the number of rounds by them.
use Rattle.std.specs.Prelude.{◌≡◌, ℕ, ◌<◌, List}
use Rattle.base_numbers.specs.Extended.{Ext as Extended}
use Rattle.base_fractions.specs.Extended.{extended}
use Rattle.flow_systems.specs.declared.system.System.{System}
use Rattle.solve_offers.specs.declared.offer.Offer.{Offer}
use Rattle.solve_rounds.specs.declared.solution.Solved.{Solved}
use Rattle.solve_rounds.specs.Halts.{IsSpent}
use Rattle.solve_rounds.specs.Solutions.{IsSolved}

-- a policy answers one position of all offers with the same bound, edges and values
abbrev pub AnswersOne : (Offer → ℕ → Type 0) → Type 0
AnswersOne policy = (offer other : Offer) (j k : ℕ) → extended offer.bound ≡ extended other.bound → offer.edges ≡ other.edges
    → offer.values ≡ other.values →
    policy offer j → policy other k → j ≡ k

-- all solutions of a system by a policy have the same number of rounds
abbrev pub HasOneNumber : (Offer → ℕ → Type 0) → Type 0
HasOneNumber policy = (system : System) (limit more : ℕ) (solved again : Solved) → IsSolved system policy limit solved
    → IsSolved system policy more again →
    solved.improvements ≡ again.improvements

-- and a limit that was spent is below it
abbrev pub SpendsLess : (Offer → ℕ → Type 0) → Type 0
SpendsLess policy = (system : System) (limit more : ℕ) (bounds : List Extended) (solved : Solved) → IsSpent system policy limit bounds →
    IsSolved system policy more solved → limit < solved.improvements
