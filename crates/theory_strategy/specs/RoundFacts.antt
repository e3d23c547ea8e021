-- What is known of each round of a chain of rounds.
use Rattle.std.specs.Prelude.{◌≡◌, ℕ, ◌<◌, ◌⊎◌, List, length}
use Rattle.base_facts.specs.Elements.{In}
use Rattle.base_numbers.specs.Rational.{ℚ, ◌<ℚ◌}
use Rattle.base_numbers.specs.Extended.{fin, ◌<ᴱ◌}
use Rattle.flow_systems.specs.Equations.{Equations, Vector}
use Rattle.theory_validity.specs.Words.{Word, width}
use Rattle.theory_validity.specs.Steps.{Below, Runs, Item, Step, edge_of, item_value, Sized, word}
use Rattle.theory_validity.specs.Certificates.{ValidSteps, after_steps}
use Rattle.theory_strategy.specs.Picks.{Pick, Picks}

-- a word of the picked edge that exceeded a raised unknown's finite number after the growth
pub record LowWord (system : Equations) (z : Vector) (u : Item) : Type 0 where
  pub bound : ℚ
  pub finite : z u.point u.row ≡ fin bound
  pub word : Word
  pub size : length word ≡ width system.variables (edge_of system u).actions
  pub runs : Runs system z (edge_of system u) word
  pub exceeds : bound <ℚ item_value system u word

-- an unknown raised to a fraction in the growth to z, with its low word
pub record Listed (system : Equations) (pick : Pick) (z : Vector) (u : Item) : Type 0 where
  pub picked : Picks pick u
  pub bound : ℚ
  pub finite : z u.point u.row ≡ fin bound
  pub size : Sized system u u.low
  pub runs : Runs system z (edge_of system u) (word u.low)
  pub exceeds : bound <ℚ item_value system u (word u.low)

-- a round from d by a new pick to e, with the vector z after its growth
pub record RoundFacts (system : Equations) (d z e : Vector) (old pick : Pick) (steps : List Step) : Type 0 where
  pub grows : Below system d z
  pub turns : Below system z e
  pub lows : (u : Item) (c : ℚ) → Picks pick u → d u.point u.row <ᴱ e u.point u.row → e u.point u.row ≡ fin c → LowWord system z u
  pub changed : (p r : ℕ) → r < length system.template → (pick p r ≡ old p r) ⊎ (d p r <ᴱ e p r)
  pub valid : ValidSteps system d steps
  pub leads : (p r : ℕ) → r < length system.template → after_steps steps d p r ≡ e p r
  pub items : (step : Step) → In steps step → (item : Item) → In step.items item → Picks pick item
  pub point : ℕ
  pub row : ℕ
  pub row_within : row < length system.template
  pub moves : d point row <ᴱ e point row
