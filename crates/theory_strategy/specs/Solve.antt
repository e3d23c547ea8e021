-- The rounds as a total function of a policy.
use Rattle.std.specs.Prelude.{ℕ, zero, suc, Bool, List, Option, Some, None}
use Rattle.base_numbers.specs.Rational.{ℚ}
use Rattle.flow_systems.specs.Equations.{Equations, Vector}
use Rattle.theory_validity.specs.Steps.{Item, start_vector}
use Rattle.theory_strategy.specs.Picks.{Pick, Transformer}
use Rattle.theory_strategy.specs.Growth.{Evident}
use Rattle.theory_strategy.specs.Round.{Outcome, round}

-- a vector and the pick that led to it
pub record State : Type 0 where
  pub vector : Vector
  pub pick : Pick

module _ (fitting : ℚ → Bool) (system : Equations) (T : Transformer) (reaches : Evident system T)
    (joint : Pick → Vector → List Item → Outcome) (cut : Vector → Pick → List (List Item)) where
  -- the state after a round by a pick, or the same state where there is none
  unfoldable pub next : Option Pick → State → State
  next None s = s
  next (Some better) s = record { vector = round fitting system T reaches joint cut s.vector better; pick = better }

  -- the state after k rounds
  unfoldable pub state : (policy : ℕ → Vector → Pick → Option Pick) → ℕ → State
  state policy zero = record { vector = start_vector; pick = λ p r. None }
  state policy (suc k) = next (policy k (state policy k).vector (state policy k).pick) (state policy k)
