-- Turns as a relation: each is made by some outcome of its list's joint problem that has its facts, whichever that is.
use Rattle.std.specs.Prelude.{◌≡◌, ◌<◌, List, [], ◌∷◌, ◌++◌, length}
use Rattle.base_facts.specs.Elements.{In}
use Rattle.flow_systems.specs.Equations.{Equations, Vector}
use Rattle.theory_validity.specs.Steps.{Below, Item, Step, Jump, Ray, after_step, Distinct}
use Rattle.theory_validity.specs.Certificates.{after_steps}
use Rattle.theory_strategy.specs.Picks.{Pick, Transformer}
use Rattle.theory_strategy.specs.RoundFacts.{Listed}
use Rattle.theory_strategy.specs.Round.{Outcome, Point, Rays, OutcomeFacts, without, members, Admissible}

-- the step of an outcome: a jump to a point, or a ray
unfoldable pub step_by : Outcome → Step
step_by (Point items) = record { kind = Jump; items = items }
step_by (Rays items) = record { kind = Ray; items = items }

-- the unknowns of a list that an outcome leaves for later turns: none after a point, those without a rate after a ray
unfoldable pub left_by : Outcome → List Item → List Item
left_by (Point items) list = []
left_by (Rays items) list = without items list

module _ (system : Equations) (T : Transformer) where
  -- turns of a list from a vector on, each by an outcome of what is left that has its facts there, make these steps and leave these
  -- unknowns
  abbrev pub Leaves : Vector → List Item → List Step → List Item → Type 0
  Leaves b list [] left = left ≡ list
  Leaves b list (step ∷ steps) left =
      (o : Outcome) × OutcomeFacts system T b list o × (step ≡ step_by o) × (0 < length list)
      × Leaves (after_step step b) (left_by o list) steps left

  -- turns of parts, one part after the other until nothing of it is left, make these steps
  abbrev pub AreTurnsOf : Vector → List (List Item) → List Step → Type 0
  AreTurnsOf b [] steps = steps ≡ []
  AreTurnsOf b (list ∷ lists) steps =
      (first : List Step) × Leaves b list first []
      × ((later : List Step) × AreTurnsOf (after_steps first b) lists later × (steps ≡ first ++ later))

-- unknowns that wait for their turn: the growth to z raised them to fractions, each with its low word, and no turn has moved them since
pub record AreWaiting (system : Equations) (pick : Pick) (z b : Vector) (list : List Item) : Type 0 where
  pub over : Below system z b
  pub distinct : Distinct list
  pub listed : (u : Item) → In list u → Listed system pick z u
  pub kept : (u : Item) → In list u → b u.point u.row ≡ z u.point u.row

-- parts whose unknowns wait for their turns
pub record PartsAreWaiting (system : Equations) (pick : Pick) (z b : Vector) (lists : List (List Item)) : Type 0 where
  pub over : Below system z b
  pub admissible : Admissible system lists
  pub listed : (u : Item) → In (members lists) u → Listed system pick z u
  pub kept : (u : Item) → In (members lists) u → b u.point u.row ≡ z u.point u.row
