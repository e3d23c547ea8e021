-- A number that no chain of rounds reaches.
use Rattle.std.specs.Prelude.{ℕ, ◌<◌, List}
use Rattle.flow_systems.specs.Equations.{Equations, Vector}
use Rattle.theory_validity.specs.Steps.{Step}
use Rattle.theory_strategy.specs.Picks.{Pick, Transformer}
use Rattle.theory_strategy.specs.Rounds.{Rounds}
use Rattle.theory_strategy.specs.Laws.{IsEvident}

-- every chain of rounds, whatever the policy that chose its picks, has fewer rounds than this
abbrev pub RoundsAreFewer : Equations → ℕ → Type 0
RoundsAreFewer system limit =
    (T : Transformer) → IsEvident system T → (n : ℕ) (d z : ℕ → Vector) (pick : ℕ → Pick) (steps : ℕ → List Step)
    → Rounds system T n d z pick steps → n < limit
