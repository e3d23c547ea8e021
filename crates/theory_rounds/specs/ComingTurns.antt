-- Which turns come up in a round: at which vectors, and on which lists.
use Rattle.std.specs.Prelude.{◌≡◌, ◌⊎◌, ℕ, ◌+◌, ◌<◌, List, [], ◌∷◌, length}
use Rattle.flow_systems.specs.Equations.{Equations, Vector}
use Rattle.theory_validity.specs.Steps.{Item, Step}
use Rattle.theory_validity.specs.Certificates.{after_steps}
use Rattle.theory_transformers.specs.EdgeProblems.{transformer}
use Rattle.theory_strategy.specs.Turns.{Leaves}
use Rattle.theory_rounds.specs.Agreement.{Agree}

-- so many turns of a part, each by an outcome that has its facts, lead to this vector and leave these unknowns, of which there are some
pub record ComesInPart (system : Equations) (b : Vector) (list : List Item) (number : ℕ) (c : Vector) (left : List Item) : Type 0 where
  pub made : List Step
  pub leaves : Leaves system (transformer system) b list made left
  pub some : 0 < length left
  pub number_is : number ≡ length made
  pub agrees : Agree system (after_steps made b) c

-- so many turns of parts do: the turns of some of them until nothing is left, and then turns of the next part
abbrev pub ComesUp : Equations → Vector → List (List Item) → ℕ → Vector → List Item → Type 0
ComesUp system b [] number c left = ⊥
ComesUp system b (list ∷ lists) number c left =
    ComesInPart system b list number c left
    ⊎ ((made : List Step) × Leaves system (transformer system) b list made []
    × ((more : ℕ) × (number ≡ length made + more) × ComesUp system (after_steps made b) lists more c left))
