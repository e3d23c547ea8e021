-- Growth, rounds and the chain of rounds with the exact transformers, joint problems and parts.
use Rattle.std.specs.Prelude.{◌≡◌, ℕ, zero, suc, eqb, if◌then◌else◌, List, [], ◌∷◌, ◌++◌, Bool, Option, Some}
use Rattle.base_facts.specs.Elements.{In}
use Rattle.base_numbers.specs.Rational.{ℚ}
use Rattle.flow_systems.specs.Equations.{Equations, Vector}
use Rattle.theory_validity.specs.Steps.{Item, Step}
use Rattle.theory_validity.specs.Certificates.{after_steps}
use Rattle.theory_transformers.specs.EdgeProblems.{transformer}
use Rattle.theory_strategy.specs.Picks.{Pick}
use Rattle.theory_strategy.specs.Growth.{Log, raise_at, pass, passes, growth, grow}
use Rattle.theory_strategy.specs.Round.{rising, round, round_steps}
use Rattle.theory_strategy.specs.Solve.{State, state}
use Rattle.theory_strategy.specs.Policy.{policy_pick}
use Rattle.theory_rounds.specs.Evidence.{exact_evidence}
use Rattle.theory_rounds.specs.JointItems.{exact_joint}
use Rattle.theory_rounds.specs.Cut.{exact_cut}

-- a choice for each round, point and row among an edge and others
abbrev pub Choice : Type 0
Choice = ℕ → ℕ → ℕ → List ℕ → ℕ

-- a choice takes one of the listed edges
abbrev pub TakesOne : Choice → Type 0
TakesOne choose = (p r k : ℕ) (ks : List ℕ) → In (k ∷ ks) (choose p r k ks)

-- the next pick by a choice among the edges whose transformers exceed the bound, if there are any
abbrev pub exact_next : Equations → Choice → Vector → Pick → Option Pick
exact_next system choose d pick = policy_pick system (transformer system) d choose pick

-- a choice finds an edge whose transformer exceeds its bound
abbrev pub Goes : Equations → Choice → State → Type 0
Goes system choose s = (better : Pick) × (exact_next system choose s.vector s.pick ≡ Some better)

module _ (fitting : ℚ → Bool) (system : Equations) where
  -- the raise of an unknown at a vector
  abbrev pub exact_raise : Vector → Item → Step
  exact_raise z u = raise_at fitting system (transformer system) (exact_evidence system) z u

  -- one pass of the growth over unraised unknowns, and at most so many passes
  abbrev pub exact_pass : Vector → List Item → Log
  exact_pass z us = pass fitting system (transformer system) (exact_evidence system) z us

  -- at most so many passes
  abbrev pub exact_passes : ℕ → Vector → List Item → Log
  exact_passes n z us = passes fitting system (transformer system) (exact_evidence system) n z us

  -- the growth of unknowns
  abbrev pub exact_growth : Vector → List Item → Log
  exact_growth d us = growth fitting system (transformer system) (exact_evidence system) d us

  -- the steps of the growth of a pick
  abbrev pub exact_grow : Vector → Pick → List Step
  exact_grow d pick = grow fitting system (transformer system) (exact_evidence system) d pick

  -- the vector after the growth of a pick
  abbrev pub exact_grown : Vector → Pick → Vector
  exact_grown d pick = after_steps (exact_grow d pick) d

  -- the unknowns that the growth of a pick raised to fractions, in order of raises, with their low words
  abbrev pub exact_rising : Vector → Pick → List Item
  exact_rising d pick = rising fitting system (transformer system) (exact_evidence system) d pick

  -- the steps of a round by a pick
  abbrev pub exact_round_steps : Vector → Pick → List Step
  exact_round_steps d pick = round_steps fitting system (transformer system) (exact_evidence system) (exact_joint system)
      (exact_cut fitting system) d pick

  -- the vector after a round by a pick
  abbrev pub exact_round : Vector → Pick → Vector
  exact_round d pick = round fitting system (transformer system) (exact_evidence system) (exact_joint system) (exact_cut fitting system) d
      pick

  -- the vector and the pick after so many rounds by the choices of rounds
  abbrev pub exact_state : (ℕ → Choice) → ℕ → State
  exact_state choose k = state fitting system (transformer system) (exact_evidence system) (exact_joint system) (exact_cut fitting system)
      (λ j d pick. exact_next system (choose j) d pick) k

  -- the steps of the first so many rounds, in order
  unfoldable pub exact_steps : (ℕ → Choice) → ℕ → List Step
  exact_steps choose zero = []
  exact_steps choose (suc k) = exact_steps choose k ++ exact_round_steps (exact_state choose k).vector (exact_state choose (suc k)).pick

-- the choices of rounds with another one for a round
unfoldable pub with_choice : (ℕ → Choice) → ℕ → Choice → ℕ → Choice
with_choice choose n other k = if eqb k n then other else choose k

-- the first of what is listed
abbrev pub first_choice : Choice
first_choice p r k ks = k
