-- The laws of growth, rounds and the chain of rounds with the exact transformers, joint problems and parts.
use Rattle.std.specs.Prelude.{◌≡◌, ℕ, ◌<◌, List, Bool, None}
use Rattle.base_facts.specs.Elements.{In}
use Rattle.base_numbers.specs.Rational.{ℚ}
use Rattle.flow_systems.specs.Equations.{Equations, Vector, PostSolution, Least}
use Rattle.theory_validity.specs.Steps.{Below, Item, Step, start_vector}
use Rattle.theory_validity.specs.Certificates.{ValidSteps, after_steps, PointsInRange, ValidCertificate}
use Rattle.theory_transformers.specs.EdgeProblems.{transformer}
use Rattle.theory_strategy.specs.Picks.{Pick, IsPick, Supported, Tight}
use Rattle.theory_strategy.specs.PickCount.{pick_count}
use Rattle.theory_strategy.specs.Round.{ListCondition, OutcomeFacts, Admissible, members}
use Rattle.theory_strategy.proofs.growth.Grown.{Grown}
use Rattle.theory_strategy.proofs.round.RoundLaw.{RoundDone}
use Rattle.theory_rounds.specs.JointItems.{exact_joint}
use Rattle.theory_rounds.specs.Cut.{exact_cut}
use Rattle.theory_rounds.specs.Agreement.{Agree}
use Rattle.theory_rounds.specs.ComingTurns.{ComesUp}
use Rattle.theory_rounds.specs.RoundSteps.{IsRoundBy, AreStepsOf}
use Rattle.theory_rounds.specs.Rounds.{Choice, TakesOne, Goes, exact_next, exact_grow, exact_grown, exact_rising, exact_round}
use Rattle.theory_rounds.specs.Rounds.{exact_round_steps}
use Rattle.theory_rounds.specs.Rounds.{exact_state, exact_steps}
use Rattle.theory_rounds.specs.Made.{certificate_with, exact_certificate}

-- the growth of a supported pick makes valid steps by the pick's edges, to a vector that every closed vector from the first on bounds
abbrev pub GrowthsAreExact : Type 0
GrowthsAreExact = (fitting : ℚ → Bool) (system : Equations) (d : Vector) (pick : Pick) → Supported system (transformer system) d pick →
    Grown system (transformer system) d pick (exact_grow fitting system d pick) (exact_grown fitting system d pick)

-- the turn of a list that meets the list condition: a point whose numbers are the transformers there, or a ray
abbrev pub TurnsAreExact : Type 0
TurnsAreExact = (system : Equations) (pick : Pick) → IsPick system pick → (b : Vector) (list : List Item) →
    ListCondition system (transformer system) pick b list →
    OutcomeFacts system (transformer system) b list (exact_joint system pick b list)

-- the cut of the unknowns that a growth raised to fractions: parts with those as members, none with a source unknown in a later part
pub record CutOf (fitting : ℚ → Bool) (system : Equations) (d : Vector) (pick : Pick) : Type 0 where
  pub admissible : Admissible system (exact_cut fitting system d pick)
  pub from : (u : Item) → In (members (exact_cut fitting system d pick)) u → In (exact_rising fitting system d pick) u
  pub all : (u : Item) → In (exact_rising fitting system d pick) u → In (members (exact_cut fitting system d pick)) u

-- of every pick
abbrev pub CutsAreExact : Type 0
CutsAreExact = (fitting : ℚ → Bool) (system : Equations) (d : Vector) (pick : Pick) → IsPick system pick → CutOf fitting system d pick

-- the round by a supported pick makes valid steps to the vector above the first by the pick, where the pick is tight
abbrev pub RoundsAreExact : Type 0
RoundsAreExact = (fitting : ℚ → Bool) (system : Equations) (d : Vector) (pick : Pick) → Supported system (transformer system) d pick →
    RoundDone system (transformer system) d (exact_grown fitting system d pick) pick (exact_grow fitting system d pick)
    (exact_round_steps fitting system d pick) (exact_round fitting system d pick)

-- what is known of a turn that comes up in a round by a pick: its list meets the list condition at its vector, which is at least that after
-- the growth and at most that after the round
pub record TurnComes (fitting : ℚ → Bool) (system : Equations) (d : Vector) (pick : Pick) (v : Vector) (list : List Item) : Type 0 where
  pub condition : ListCondition system (transformer system) pick v list
  pub over : Below system (exact_grown fitting system d pick) v
  pub under : Below system v (exact_round fitting system d pick)

-- of a supported pick
abbrev pub TurnsComeUp : Type 0
TurnsComeUp = (fitting : ℚ → Bool) (system : Equations) (d : Vector) (pick : Pick) → Supported system (transformer system) d pick
    → (number : ℕ) (v : Vector) (list : List Item)
    → ComesUp system (exact_grown fitting system d pick) (exact_cut fitting system d pick) number v list
    → TurnComes fitting system d pick v list

-- what is known of a round whose turns are made by any outcomes with their facts: the steps are valid and lead to the vector above the
-- first by the pick, where the pick is tight, and which is the same by whichever outcomes
pub record RoundKnown (fitting : ℚ → Bool) (system : Equations) (d : Vector) (pick : Pick) (steps : List Step) : Type 0 where
  pub done : RoundDone system (transformer system) d (exact_grown fitting system d pick) pick (exact_grow fitting system d pick) steps
      (after_steps steps d)
  pub same : Agree system (after_steps steps d) (exact_round fitting system d pick)

-- of a supported pick
abbrev pub AnyOutcomesDo : Type 0
AnyOutcomesDo = (fitting : ℚ → Bool) (system : Equations) (d : Vector) (pick : Pick) (steps : List Step)
    → Supported system (transformer system) d pick → IsRoundBy fitting system d pick steps → RoundKnown fitting system d pick steps

-- there are such outcomes: the exact joint problems have some
abbrev pub SomeOutcomesDo : Type 0
SomeOutcomesDo = (fitting : ℚ → Bool) (system : Equations) (d : Vector) (pick : Pick) → Supported system (transformer system) d pick
    → IsRoundBy fitting system d pick (exact_round_steps fitting system d pick)

-- what is known after so many rounds that were all made
pub record AfterRounds (fitting : ℚ → Bool) (system : Equations) (choose : ℕ → Choice) (n : ℕ) : Type 0 where
  pub tight : Tight system (transformer system) (exact_state fitting system choose n).vector (exact_state fitting system choose n).pick
  pub few : n < pick_count system
  pub valid : ValidSteps system start_vector (exact_steps fitting system choose n)
  pub leads : after_steps (exact_steps fitting system choose n) start_vector ≡ (exact_state fitting system choose n).vector
  pub below : (q : Vector) → PostSolution system q → Below system (exact_state fitting system choose n).vector q
  pub least : exact_next system (choose n) (exact_state fitting system choose n).vector (exact_state fitting system choose n).pick ≡ None →
      Least system (exact_state fitting system choose n).vector
  pub certified : exact_next system (choose n) (exact_state fitting system choose n).vector (exact_state fitting system choose n).pick
      ≡ None →
      ValidCertificate system (exact_certificate fitting system choose n)

-- with any choices among the edges whose transformers exceed the bound
abbrev pub ChainsAreExact : Type 0
ChainsAreExact = (fitting : ℚ → Bool) (system : Equations) → PointsInRange system → (choose : ℕ → Choice) → ((k : ℕ) → TakesOne (choose k))
    → (n : ℕ) →
    ((k : ℕ) → k < n → Goes system (choose k) (exact_state fitting system choose k)) → AfterRounds fitting system choose n

-- what is known of the steps of so many rounds, whichever outcomes the turns were made by: they are valid and lead to the vector after the
-- rounds, and where no transformer exceeds its bound there, the certificate with them is valid
pub record StepsKnown (fitting : ℚ → Bool) (system : Equations) (choose : ℕ → Choice) (n : ℕ) (steps : List Step) : Type 0 where
  pub valid : ValidSteps system start_vector steps
  pub leads : Agree system (after_steps steps start_vector) (exact_state fitting system choose n).vector
  pub certified : exact_next system (choose n) (exact_state fitting system choose n).vector (exact_state fitting system choose n).pick
      ≡ None →
      ValidCertificate system (certificate_with fitting system choose n steps)

-- with any choices among the edges whose transformers exceed the bound
abbrev pub AnyStepsDo : Type 0
AnyStepsDo = (fitting : ℚ → Bool) (system : Equations) → PointsInRange system → (choose : ℕ → Choice) → ((k : ℕ) → TakesOne (choose k))
    → (n : ℕ) → ((k : ℕ) → k < n → Goes system (choose k) (exact_state fitting system choose k)) → (steps : List Step)
    → AreStepsOf fitting system choose n steps → StepsKnown fitting system choose n steps

-- a number of rounds that are all made, and after which no transformer exceeds its bound
pub record AllRounds (fitting : ℚ → Bool) (system : Equations) (choose : ℕ → Choice) : Type 0 where
  pub rounds : ℕ
  pub few : rounds < pick_count system
  pub made : (k : ℕ) → k < rounds → Goes system (choose k) (exact_state fitting system choose k)
  pub ended : exact_next system (choose rounds) (exact_state fitting system choose rounds).vector
      (exact_state fitting system choose rounds).pick ≡ None

-- the rounds end with any choices
abbrev pub RoundsEnd : Type 0
RoundsEnd = (fitting : ℚ → Bool) (system : Equations) → PointsInRange system → (choose : ℕ → Choice) → ((k : ℕ) → TakesOne (choose k)) →
    AllRounds fitting system choose

-- from vectors that agree at the template's rows
pub record SameFrom (fitting : ℚ → Bool) (system : Equations) (d e : Vector) (pick : Pick) : Type 0 where
  pub growth : exact_grow fitting system d pick ≡ exact_grow fitting system e pick
  pub grown : Agree system (exact_grown fitting system d pick) (exact_grown fitting system e pick)
  pub steps : exact_round_steps fitting system d pick ≡ exact_round_steps fitting system e pick
  pub round : Agree system (exact_round fitting system d pick) (exact_round fitting system e pick)
  pub next : (choose : Choice) → exact_next system choose d pick ≡ exact_next system choose e pick
  pub any : (made : List Step) → IsRoundBy fitting system d pick made → IsRoundBy fitting system e pick made

-- the same steps are made, to vectors that agree, and the next pick is the same
abbrev pub RowsDecide : Type 0
RowsDecide = (fitting : ℚ → Bool) (system : Equations) (pick : Pick) → IsPick system pick → (d e : Vector) → Agree system d e
    → SameFrom fitting system d e pick
