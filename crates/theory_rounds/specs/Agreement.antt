-- Vectors that agree at the template's rows.
use Rattle.std.specs.Prelude.{◌≡◌, ℕ, ◌<◌, List, length}
use Rattle.base_facts.specs.Elements.{In}
use Rattle.flow_systems.specs.Equations.{Equations, Vector}
use Rattle.theory_validity.specs.Steps.{Item}

-- two vectors give the same number to each point and row of the template
abbrev pub Agree : Equations → Vector → Vector → Type 0
Agree system z q = (p r : ℕ) → r < length system.template → z p r ≡ q p r

-- items stand at rows of the template
abbrev pub HaveRows : Equations → List Item → Type 0
HaveRows system us = (u : Item) → In us u → u.row < length system.template
