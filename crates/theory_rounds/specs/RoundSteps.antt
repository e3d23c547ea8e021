-- The steps of a round and of a chain of rounds, by whichever outcomes the turns are made.
use Rattle.std.specs.Prelude.{◌≡◌, ℕ, zero, suc, List, [], ◌++◌, Bool}
use Rattle.base_numbers.specs.Rational.{ℚ}
use Rattle.flow_systems.specs.Equations.{Equations, Vector}
use Rattle.theory_validity.specs.Steps.{Step}
use Rattle.theory_transformers.specs.EdgeProblems.{transformer}
use Rattle.theory_strategy.specs.Picks.{Pick}
use Rattle.theory_strategy.specs.Turns.{AreTurnsOf}
use Rattle.theory_rounds.specs.Cut.{exact_cut}
use Rattle.theory_rounds.specs.Rounds.{Choice, exact_grow, exact_grown, exact_state}

-- the steps of a round by a pick: those of the growth, and then one for each turn of the parts, each by an outcome that has its facts
pub record IsRoundBy (fitting : ℚ → Bool) (system : Equations) (d : Vector) (pick : Pick) (steps : List Step) : Type 0 where
  pub turns : List Step
  pub made : AreTurnsOf system (transformer system) (exact_grown fitting system d pick) (exact_cut fitting system d pick) turns
  pub same : steps ≡ exact_grow fitting system d pick ++ turns

-- the steps of so many rounds in order: each from the vector of its state by the pick of the next one
abbrev pub AreStepsOf : (ℚ → Bool) → Equations → (ℕ → Choice) → ℕ → List Step → Type 0
AreStepsOf fitting system choose zero steps = steps ≡ []
AreStepsOf fitting system choose (suc k) steps =
    (before : List Step) × AreStepsOf fitting system choose k before
    × ((last : List Step)
    × IsRoundBy fitting system (exact_state fitting system choose k).vector (exact_state fitting system choose (suc k)).pick last
    × (steps ≡ before ++ last))
