-- What a growth answers at the bounds that the code has.
use Rattle.std.specs.Prelude.{ℕ, ◌*◌, List, length, Option}
use Rattle.base_numbers.specs.Extended.{Ext as Extended}
use Rattle.flow_systems.specs.View.{equations_of}
use Rattle.flow_systems.specs.declared.system.System.{System}
use Rattle.theory_validity.specs.Steps.{Step}
use Rattle.theory_validity.specs.Certificates.{after_steps}
use Rattle.theory_strategy.specs.Growth.{items_of}
use Rattle.theory_rounds.specs.Agreement.{Agree}
use Rattle.theory_rounds.specs.Evidence.{exact_evidence}
use Rattle.theory_rounds.specs.Rounds.{exact_grow}
use Rattle.solve_raise.specs.Numbers.{fitting}
use Rattle.flow_systems.specs.declared.fault.Fault.{Fault}
use Rattle.flow_systems.specs.declared.spot.Spot.{Spot}
use Rattle.solve_offers.specs.AtBounds.{transformers, vector_at}
use Rattle.solve_offers.specs.Improvement.{pick_of}
use Rattle.solve_rounds.specs.GrowthTests.{Test, growth_tests, named_numbers}
use Rattle.solve_rounds.specs.GrowthStops.{IsStopIn}

-- the steps of the growth of a pick from bounds, with the exact transformers and their evidence
abbrev pub growth_at : System → List Extended → List (Option ℕ) → List Step
growth_at system bounds pick = exact_grow fitting (equations_of system) (vector_at system bounds) (pick_of (length system.template) pick)

-- the tests of that growth
abbrev pub tests_at : System → List Extended → List (Option ℕ) → List Test
tests_at system bounds pick = growth_tests fitting (equations_of system) (transformers system) (exact_evidence (equations_of system))
    (vector_at system bounds) (pick_of (length system.template) pick)

-- at every point and row of the template, new bounds are those to which steps lead from old ones
abbrev pub AreLed : System → List Extended → List Step → List Extended → Type 0
AreLed system old steps new = Agree (equations_of system) (after_steps steps (vector_at system old)) (vector_at system new)

-- the numbers of the unknowns that steps name, in rising order
abbrev pub named_at : System → List Step → List ℕ
named_at system steps = named_numbers (length system.template) (length system.flow.points * length system.template) (items_of steps)

-- a wide operation of the growth in a round, or want of memory
abbrev pub IsGrowthStop : System → List Extended → List (Option ℕ) → ℕ → Fault Spot → Type 0
IsGrowthStop system bounds pick round stop = IsStopIn (equations_of system) (tests_at system bounds pick) round stop
