-- Unknowns that grow, on the way.
use Rattle.std.specs.Prelude.{◌≡◌, ◌⊎◌, ℕ, ◌+◌, ◌*◌, ◌/◌, ◌%◌, ◌<◌, ◌≤◌, Bool, true, false, List}
use Rattle.std.specs.Prelude.{[], ◌∷◌, ◌++◌, length, map, get_or, slice_set, replicate, Option, Some, None, if◌then◌else◌, flat_map}
use Rattle.std.specs.List.{range_with_len, filter}
use Rattle.base_numbers.specs.Rational.{ℚ}
use Rattle.base_numbers.specs.Extended.{Ext as Extended, neg_inf, fin, pos_inf, ◌<ᴱ◌, ◌≤ᴱ◌}
use Rattle.base_fractions.specs.Extended.{extended}
use Rattle.base_fractions.specs.Fits.{long_limit}
use Rattle.base_fractions.specs.declared.ext.Ext.{Ext as CodeExtended}
use Rattle.base_fractions.specs.Operation.{Operation, first_wide, operation_of}
use Rattle.flow_systems.specs.Equations.{Vector}
use Rattle.flow_systems.specs.View.{equations_of}
use Rattle.flow_systems.specs.declared.system.System.{System}
use Rattle.flow_systems.specs.declared.spot.Part.{Part}
use Rattle.flow_systems.specs.declared.spot.Spot.{Spot}
use Rattle.flow_systems.specs.declared.spot.Site.TheVariants.{Growth, Raise}
use Rattle.theory_validity.specs.Steps.{Item, Step, after_step}
use Rattle.theory_validity.specs.Certificates.{after_steps}
use Rattle.cert_types.specs.declared.step.Step.{Step as CodeStep}
use Rattle.cert_types.specs.declared.step.Step.TheVariants.{Plain, Jump, Ray}
use Rattle.cert_types.specs.Certificates.{step_of}
use Rattle.theory_strategy.specs.Picks.{choice_at, value_at}
use Rattle.theory_strategy.specs.Growth.{items_of}
use Rattle.solve_composition.specs.declared.value.Value.{Value}
use Rattle.solve_transformer.specs.Values.{IsValue}
use Rattle.solve_composition.specs.Value.{number_of}
use Rattle.solve_transformer.specs.Meanings.{HasEvidence}
use Rattle.theory_rounds.specs.Agreement.{Agree}
use Rattle.theory_rounds.specs.Evidence.{exact_evidence}
use Rattle.theory_rounds.specs.Rounds.{exact_pass, exact_raise}
use Rattle.solve_raise.specs.Numbers.{fitting}
use Rattle.solve_raise.specs.Raises.{choice_of}
use Rattle.solve_rounds.specs.declared.growing.Growing.{Growing}
use Rattle.flow_systems.specs.declared.fault.Fault.{Fault}
use Rattle.flow_systems.specs.declared.fault.Fault.TheVariants.{Wide, NoMemory}
use Rattle.solve_offers.specs.AtBounds.{transformers, vector_at, edge_at, row_at, IsWidePart}
use Rattle.solve_rounds.specs.GrowthTests.{pass_tests, is_named}
use Rattle.solve_rounds.specs.GrowthStops.{IsStopIn}
use Rattle.solve_rounds.specs.Growth.{growth_at}

-- a vector has the bounds at each row of the template
abbrev pub Agrees : System → Vector → List Extended → Type 0
Agrees system z bounds = Agree (equations_of system) z (vector_at system bounds)

-- the steps so far
abbrev pub steps_so_far : System → Growing → List Step
steps_so_far system growing = map (step_of (length system.template)) growing.steps.items

-- the unknown of a number where it has a pick and isn't raised
abbrev pub left_at : ℕ → List (Option ℕ) → List Bool → ℕ → List Item
left_at rows pick raised u = if get_or raised u false then [] else choice_at (u / rows) (u % rows) (get_or pick u None)

-- the picked unraised unknowns among n numbers from a first one on
abbrev pub left_from : ℕ → List (Option ℕ) → List Bool → ℕ → ℕ → List Item
left_from rows pick raised first n = flat_map (left_at rows pick raised) (range_with_len first n)

-- the same in what grows
abbrev pub unraised : System → List (Option ℕ) → Growing → ℕ → ℕ → List Item
unraised system pick growing first n = left_from (length system.template) pick growing.raised.items first n

-- there is a bound and a mark for each unknown, those that steps name are marked, and there are as many steps as marks
pub record IsKept (system : System) (growing : Growing) : Type 0 where
  pub bounds : length growing.bounds ≡ length system.flow.points * length system.template
  pub raised : length growing.raised.items ≡ length system.flow.points * length system.template
  pub named : (u : ℕ) → u < length system.flow.points * length system.template →
      get_or growing.raised.items u false ≡ is_named (length system.template) (items_of (steps_so_far system growing)) u
  pub count : length growing.steps.items ≡ length (filter (λ marked. marked) growing.raised.items)

-- the transformer of an unknown's picked edge is at most its bound
abbrev pub IsWithin : System → List Extended → List (Option ℕ) → ℕ → Type 0
IsWithin system bounds pick u =
    (edge : ℕ) → get_or pick u None ≡ Some edge →
    value_at (equations_of system) (transformers system) (vector_at system bounds) (choice_of (length system.template) u edge)
    ≤ᴱ get_or bounds u neg_inf

-- there is a mark for each unknown, and those that are marked are within their bounds
pub record AreWithin (system : System) (bounds : List Extended) (pick : List (Option ℕ)) (marks : List Bool) : Type 0 where
  pub size : length marks ≡ length system.flow.points * length system.template
  pub within : (u : ℕ) → u < length system.flow.points * length system.template → get_or marks u false ≡ true
      → IsWithin system bounds pick u

-- a value that is known is at most a bound
abbrev pub IsKnownWithin : Option CodeExtended → CodeExtended → Type 0
IsKnownWithin None bound = ⊥
IsKnownWithin (Some value) bound = extended value ≤ᴱ extended bound

-- there is a quiet mark for each unknown, and a calm mark for each point
pub record HasMarks (system : System) (growing : Growing) : Type 0 where
  pub quiet : length growing.quiet.items ≡ length system.flow.points * length system.template
  pub calm : length growing.calm.items ≡ length system.flow.points

-- an unknown is marked as quiet only where its picked transformer is at most its bound, and a point as calm only where each of its
-- unknowns was raised or has such a transformer
pub record AreQuiet (system : System) (pick : List (Option ℕ)) (growing : Growing) : Type 0 where
  pub marks : HasMarks system growing
  pub within : (u : ℕ) → u < length system.flow.points * length system.template → get_or growing.quiet.items u false ≡ true
      → IsWithin system growing.bounds pick u
  pub calm : (u : ℕ) → u < length system.flow.points * length system.template
      → get_or growing.calm.items (u / length system.template) false ≡ true → get_or growing.raised.items u false ≡ false
      → IsWithin system growing.bounds pick u

-- each picked edge ends at the point of its unknown
abbrev pub EdgesEnd : System → List (Option ℕ) → Type 0
EdgesEnd system pick = (u edge : ℕ) → get_or pick u None ≡ Some edge → (edge_at system edge).to ≡ u / length system.template

-- nothing is raised, and nothing is forgotten of it
pub record KeepsSteps (old new : Growing) : Type 0 where
  pub bounds : new.bounds ≡ old.bounds
  pub raised : new.raised.items ≡ old.raised.items
  pub steps : new.steps.items ≡ old.steps.items

-- no mark is new, and none is left of an unknown for which an edge is picked, nor of its point
pub record WakesEdge (system : System) (pick : List (Option ℕ)) (edge : ℕ) (old new : Growing) : Type 0 where
  pub quiet_kept : (u : ℕ) → get_or new.quiet.items u false ≡ true → get_or old.quiet.items u false ≡ true
  pub calm_kept : (p : ℕ) → get_or new.calm.items p false ≡ true → get_or old.calm.items p false ≡ true
  pub quiet : (u : ℕ) → get_or new.quiet.items u false ≡ true → get_or pick u None ≡ Some edge → ⊥
  pub calm : (u : ℕ) → get_or new.calm.items (u / length system.template) false ≡ true → get_or pick u None ≡ Some edge → ⊥

-- no mark is new, and none is left of an unknown whose picked edge starts at a point, nor of its point
pub record WakesPoint (system : System) (pick : List (Option ℕ)) (point : ℕ) (old new : Growing) : Type 0 where
  pub quiet_kept : (u : ℕ) → get_or new.quiet.items u false ≡ true → get_or old.quiet.items u false ≡ true
  pub calm_kept : (p : ℕ) → get_or new.calm.items p false ≡ true → get_or old.calm.items p false ≡ true
  pub quiet : (u edge : ℕ) → get_or new.quiet.items u false ≡ true → get_or pick u None ≡ Some edge → edge < length system.flow.edges
      → (edge_at system edge).from ≡ point → ⊥
  pub calm : (u edge : ℕ) → get_or new.calm.items (u / length system.template) false ≡ true → get_or pick u None ≡ Some edge
      → edge < length system.flow.edges → (edge_at system edge).from ≡ point → ⊥

-- n unknowns from a first one on need no test: no bound and no mark of a raise changes, and each of them was raised or has a picked
-- transformer of at most its bound
pub record AreOver (system : System) (pick : List (Option ℕ)) (first n : ℕ) (old new : Growing) : Type 0 where
  pub bounds : new.bounds ≡ old.bounds
  pub raised : new.raised.items ≡ old.raised.items
  pub over : (u : ℕ) → first ≤ u → u < first + n → get_or new.raised.items u false ≡ false → IsWithin system new.bounds pick u

-- what isn't marked as raised wasn't before, and keeps its bound
abbrev pub StaysUnraised : Growing → Growing → Type 0
StaysUnraised old new = (u : ℕ) → get_or new.raised.items u false ≡ false
    → (get_or old.raised.items u false ≡ false) × (get_or new.bounds u neg_inf ≡ get_or old.bounds u neg_inf)

-- whether steps were made
abbrev pub IsTold : List Step → Bool → Type 0
IsTold [] told = told ≡ false
IsTold (step ∷ steps) told = told ≡ true

-- n unknowns from a first one on were passed at a vector: the steps that were made, and those that are left
pub record IsPassed (system : System) (pick : List (Option ℕ)) (first n : ℕ) (z : Vector) (old new : Growing) (told : Bool) : Type 0 where
  pub made : List Step
  pub steps : steps_so_far system new ≡ steps_so_far system old ++ made
  pub log : exact_pass fitting (equations_of system) z (unraised system pick old first n)
      ≡ record { steps = made; left = unraised system pick new first n }
  pub agrees : Agrees system (after_steps made z) new.bounds
  pub is_told : IsTold made told

-- for every vector that has the old bounds
abbrev pub ArePassed : System → List (Option ℕ) → ℕ → ℕ → Growing → Growing → Bool → Type 0
ArePassed system pick first n old new told = (z : Vector) → Agrees system z old.bounds → IsPassed system pick first n z old new told

-- other unknowns keep their marks
abbrev pub OthersKeep : ℕ → ℕ → Growing → Growing → Type 0
OthersKeep first n old new = (u : ℕ) → (u < first) ⊎ (first + n ≤ u) → get_or new.raised.items u false ≡ get_or old.raised.items u false

-- a wide operation of a pass over n unknowns from a first one on, or want of memory
abbrev pub IsPassStop : System → List (Option ℕ) → ℕ → ℕ → Growing → ℕ → Fault Spot → Type 0
IsPassStop system pick first n old round stop =
    (z : Vector) → Agrees system z old.bounds →
    IsStopIn (equations_of system) (pass_tests fitting (equations_of system) (transformers system) (exact_evidence (equations_of system))
    (length old.steps.items) z (unraised system pick old first n)) round stop

-- the bound that a step of one item gives its unknown
abbrev pub bound_given : CodeStep → Extended
bound_given (Plain []) = pos_inf
bound_given (Plain (item ∷ items)) = fin item.to
bound_given (Jump []) = pos_inf
bound_given (Jump (item ∷ items)) = fin item.to
bound_given (Ray items) = pos_inf

-- a step has an item
abbrev pub HasItem : CodeStep → Type 0
HasItem (Plain items) = 0 < length items
HasItem (Jump items) = 0 < length items
HasItem (Ray items) = Unit {0}

-- a step has one item, which names the unknown of a number
pub record NamesOne (rows : ℕ) (unknown : ℕ) (step : Step) : Type 0 where
  pub item : Item
  pub single : step.items ≡ item ∷ []
  pub point : item.point ≡ unknown / rows
  pub row : item.row ≡ unknown % rows

-- ---- one test
module _ (system : System) (edge unknown : ℕ) where
  -- the tested unknown and its edge
  abbrev pub tested : Item
  tested = choice_of (length system.template) unknown edge

  -- its transformer doesn't exceed its bound: no bound, no mark of a raise and no step changes
  pub record IsStay (z : Vector) (old new : Growing) : Type 0 where
    pub within : value_at (equations_of system) (transformers system) z tested ≤ᴱ z tested.point tested.row
    pub bounds : new.bounds ≡ old.bounds
    pub raised : new.raised.items ≡ old.raised.items
    pub steps : new.steps.items ≡ old.steps.items

  -- its transformer exceeds its bound: it is raised, and marked
  pub record IsGo (z : Vector) (old new : Growing) : Type 0 where
    pub exceeds : z tested.point tested.row <ᴱ value_at (equations_of system) (transformers system) z tested
    pub steps : steps_so_far system new ≡ steps_so_far system old ++ exact_raise fitting (equations_of system) z tested ∷ []
    pub agrees : Agrees system (after_step (exact_raise fitting (equations_of system) z tested) z) new.bounds
    pub raised : new.raised.items ≡ slice_set old.raised.items unknown true

  -- one of both
  abbrev pub IsTested : Vector → Growing → Growing → Bool → Type 0
  IsTested z old new false = IsStay z old new
  IsTested z old new true = IsGo z old new

  -- for every vector that has the old bounds
  abbrev pub AreTested : Growing → Growing → Bool → Type 0
  AreTested old new told = (z : Vector) → Agrees system z old.bounds → IsTested z old new told

  -- a wide operation of the test or of the raise that follows it, or want of memory
  abbrev pub IsTestStop : Growing → ℕ → Fault Spot → Type 0
  IsTestStop old round stop = (z : Vector) → Agrees system z old.bounds →
      IsStopIn (equations_of system) (record { vector = z; unknown = tested; raises = length old.steps.items } ∷ []) round stop

-- what a value is at the bounds: read from the last dictionary, the transformer, and with its evidence
pub record IsValueAt (system : System) (bounds : List Extended) (edge row : ℕ) (value : Value) : Type 0 where
  pub is_value : IsValue (equations_of system) (vector_at system bounds) (edge_at system edge) (row_at system row) value
  pub supremum : transformers system (vector_at system bounds) (edge_at system edge) (row_at system row) ≡ number_of value
  pub evidence : HasEvidence (equations_of system) (vector_at system bounds) (edge_at system edge) (row_at system row) value

-- the first wide operation of a test's problem, or want of memory
pub record IsValueSpot (system : System) (bounds : List Extended) (edge row number : ℕ) (spot : Spot) : Type 0 where
  pub round : spot.round ≡ number
  pub part : Part
  pub site : spot.site ≡ Growth edge row part
  pub wide : IsWidePart system bounds edge row part spot.wide

-- such a spot, or want of memory
abbrev pub IsValueStop : System → List Extended → ℕ → ℕ → ℕ → Fault Spot → Type 0
IsValueStop system bounds edge row round (Wide spot) = IsValueSpot system bounds edge row round spot
IsValueStop system bounds edge row round NoMemory = Unit {0}

-- the first wide operation of a raise
pub record IsStepSpot (operations : List Operation) (raises number : ℕ) (spot : Spot) : Type 0 where
  pub round : spot.round ≡ number
  pub site : spot.site ≡ Raise raises
  pub wide : first_wide long_limit operations ≡ Some (operation_of (λ (q : ℚ). q) spot.wide)

-- such a spot, or want of memory
abbrev pub IsStepStop : List Operation → ℕ → ℕ → Fault Spot → Type 0
IsStepStop operations raises round (Wide spot) = IsStepSpot operations raises round spot
IsStepStop operations raises round NoMemory = Unit {0}

-- nothing is raised yet
pub record IsFresh (system : System) (growing : Growing) : Type 0 where
  pub steps : growing.steps.items ≡ []
  pub raised : growing.raised.items ≡ replicate (length system.flow.points * length system.template) false

-- everything has grown from bounds by a pick
pub record IsGrown (system : System) (bounds : List Extended) (pick : List (Option ℕ)) (growing : Growing) : Type 0 where
  pub steps : steps_so_far system growing ≡ growth_at system bounds pick
  pub agrees : Agrees system (after_steps (steps_so_far system growing) (vector_at system bounds)) growing.bounds

-- the numbers below a count that are marked, in rising order
abbrev pub marked_numbers : List Bool → ℕ → List ℕ
marked_numbers raised count = filter (λ u. get_or raised u false) (range_with_len 0 count)
