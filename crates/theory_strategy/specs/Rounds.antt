-- A chain of rounds.
use Rattle.std.specs.Prelude.{◌≡◌, ℕ, suc, ◌<◌, ◌≤◌, List}
use Rattle.base_numbers.specs.Extended.{neg_inf}
use Rattle.flow_systems.specs.Equations.{Equations, Vector}
use Rattle.theory_validity.specs.Steps.{Step}
use Rattle.theory_strategy.specs.Picks.{Pick, Transformer, Tight}
use Rattle.theory_strategy.specs.RoundFacts.{RoundFacts}

-- n rounds: round k leads from vector k by pick k + 1 to vector k + 1, with the vector z k after its growth
pub record Rounds (system : Equations) (T : Transformer) (n : ℕ) (d z : ℕ → Vector) (pick : ℕ → Pick) (steps : ℕ → List Step) : Type 0 where
  pub start : (p r : ℕ) → 0 < p → d 0 p r ≡ neg_inf
  pub tight : (k : ℕ) → k ≤ n → Tight system T (d k) (pick k)
  pub facts : (k : ℕ) → k < n → RoundFacts system (d k) (z k) (d (suc k)) (pick k) (pick (suc k)) (steps k)
