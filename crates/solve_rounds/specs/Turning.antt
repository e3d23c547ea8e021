-- The turns of a round, on the way.
use Rattle.std.specs.Prelude.{◌≡◌, ◌⊎◌, ℕ, ◌+◌, ◌<◌, ◌≤◌, Bool, true, false, List, [], ◌∷◌, ◌++◌, length, map, get_or, Option}
use Rattle.std.specs.List.{range_with_len, filter}
use Rattle.base_facts.specs.Elements.{In}
use Rattle.base_numbers.specs.Rational.{ℚ, zero_ℚ}
use Rattle.base_numbers.specs.Extended.{Ext as Extended, neg_inf, fin, pos_inf}
use Rattle.base_limits.specs.declared.limits.TheConstants.{MOST_CELLS}
use Rattle.flow_systems.specs.Cells.{cells_of}
use Rattle.flow_systems.specs.Equations.{Vector}
use Rattle.flow_systems.specs.View.{equations_of}
use Rattle.flow_systems.specs.declared.system.System.{System}
use Rattle.flow_systems.specs.declared.trace.Trace.{Trace}
use Rattle.flow_systems.specs.declared.spot.Part.{Part}
use Rattle.flow_systems.specs.declared.spot.PartFault.TheVariants.{Wide as WideIn}
use Rattle.flow_systems.specs.declared.spot.Spot.{Spot}
use Rattle.flow_systems.specs.declared.spot.Site.TheVariants.{Joint}
use Rattle.theory_validity.specs.Steps.{Item, Step, after_step}
use Rattle.theory_validity.specs.Certificates.{after_steps}
use Rattle.cert_types.specs.declared.step.Step.{Step as CodeStep}
use Rattle.cert_types.specs.declared.step.Step.TheVariants.{Jump as JumpStep, Ray as RayStep}
use Rattle.cert_types.specs.declared.step.JumpItem.{JumpItem}
use Rattle.cert_types.specs.declared.step.RayItem.{RayItem}
use Rattle.cert_types.specs.Certificates.{step_of}
use Rattle.solve_ray.specs.declared.rate.RateOf.{RateOf}
use Rattle.theory_strategy.specs.Picks.{IsPick}
use Rattle.theory_strategy.specs.Round.{Outcome, OutcomeFacts, ListCondition}
use Rattle.theory_strategy.specs.Turns.{step_by, left_by, Leaves, AreTurnsOf, AreWaiting, PartsAreWaiting}
use Rattle.theory_rounds.specs.ComingTurns.{ComesInPart, ComesUp}
use Rattle.solve_joint.specs.Joints.{IsJointFault}
use Rattle.solve_joint.specs.Numbers.{ArePicked, Rises}
use Rattle.solve_joint.specs.PartLists.{part_numbers}
use Rattle.solve_joint.specs.Sizes.{cells_in}
use Rattle.solve_joint.specs.declared.joined.Joined.{Joined}
use Rattle.solve_joint.specs.declared.joined.Joined.TheVariants.{Point, Ray}
use Rattle.solve_rounds.specs.declared.turning.Turning.{Turning}
use Rattle.solve_rounds.specs.declared.halt.RoundStop.{RoundStop}
use Rattle.solve_rounds.specs.declared.halt.RoundStop.TheVariants.{Wide, Large, NoMemory}
use Rattle.solve_offers.specs.AtBounds.{vector_at, transformers}
use Rattle.solve_offers.specs.Improvement.{pick_of}
use Rattle.solve_rounds.specs.Growing.{Agrees}
use Rattle.solve_rounds.specs.Putting.{puts}
use Rattle.solve_rounds.specs.Lows.{no_trace, edge_in, low_in, raise_at, AreRaised, ArePickedRaises, items_at}

-- whether a bound is a fraction
abbrev pub is_finite : Extended → Bool
is_finite neg_inf = false
is_finite (fin c) = true
is_finite pos_inf = false

-- the unknowns of a list whose bounds are fractions
abbrev pub finite_in : List Extended → List ℕ → List ℕ
finite_in bounds list = filter (λ u. is_finite (get_or bounds u neg_inf)) list

-- the items of a jump, by their places in the list
abbrev pub jump_item_at : List CodeStep → List ℕ → List ℕ → List ℚ → List Trace → ℕ → JumpItem
jump_item_at raises places list to highs k = record {
  unknown = get_or list k 0;
  edge = edge_in (raise_at raises places (get_or list k 0));
  low = low_in (raise_at raises places (get_or list k 0));
  high = get_or highs k no_trace;
  to = get_or to k zero_ℚ;
}

-- in order
abbrev pub jump_items_at : List CodeStep → List ℕ → List ℕ → List ℚ → List Trace → List JumpItem
jump_items_at raises places list to highs = map (jump_item_at raises places list to highs) (range_with_len 0 (length list))

-- the item of a ray for a rate
abbrev pub ray_item_of : List CodeStep → List ℕ → RateOf → RayItem
ray_item_of raises places rate = record {
  unknown = rate.unknown;
  edge = edge_in (raise_at raises places rate.unknown);
  low = low_in (raise_at raises places rate.unknown);
  direction = rate.direction;
  rate = rate.rate;
}

-- the steps of the turns so far
abbrev pub turns_so_far : System → Turning → List Step
turns_so_far system turning = map (step_of (length system.template)) turning.steps.items

-- each picked edge of the system ends at its unknown's point, none at the entry
abbrev pub IsPickAt : System → List (Option ℕ) → Type 0
IsPickAt system pick = IsPick (equations_of system) (pick_of (length system.template) pick)

-- the list condition of a list's raises at bounds
abbrev pub MeetsCondition : System → List (Option ℕ) → List CodeStep → List ℕ → List ℕ → List Extended → Type 0
MeetsCondition system pick raises places list bounds =
    ListCondition (equations_of system) (transformers system) (pick_of (length system.template) pick) (vector_at system bounds)
    (items_at (length system.template) raises places list)

-- a list's unknowns wait for their turn since some growth, and no turn has moved their bounds
abbrev pub IsWaiting : System → List (Option ℕ) → List CodeStep → List ℕ → List ℕ → List Extended → Type 0
IsWaiting system pick raises places list bounds =
    (grown : Vector) × AreWaiting (equations_of system) (pick_of (length system.template) pick) grown (vector_at system bounds)
    (items_at (length system.template) raises places list)

-- the items of the parts of a list's raises
abbrev pub parts_at : System → List (Option ℕ) → List CodeStep → List ℕ → List ℕ → List (List Item)
parts_at system pick raises places list = map (items_at (length system.template) raises places) (part_numbers system pick list)

-- the unknowns of a list's parts wait for their turns
abbrev pub PartsWait : System → List (Option ℕ) → List CodeStep → List ℕ → List ℕ → List Extended → Type 0
PartsWait system pick raises places list bounds =
    (grown : Vector) × PartsAreWaiting (equations_of system) (pick_of (length system.template) pick) grown (vector_at system bounds)
    (parts_at system pick raises places list)

-- the first wide operation of the joint problem of a list at bounds, after so many turns
pub record IsJoinedSpot (system : System) (pick : List (Option ℕ)) (bounds : List Extended) (list : List ℕ) (turn number : ℕ)
    (spot : Spot) : Type 0 where
  pub round : spot.round ≡ number
  pub part : Part
  pub site : spot.site ≡ Joint turn part
  pub wide : IsJointFault system pick bounds list (WideIn part spot.wide)

-- the joint problem of a list is small enough to be solved: the largest one that the system can have is, or this one
abbrev pub IsSmall : System → List (Option ℕ) → List ℕ → Type 0
IsSmall system pick list = (cells_of (equations_of system) ≤ MOST_CELLS) ⊎ (cells_in system pick list ≤ MOST_CELLS)

-- it has so many cells, and isn't
pub record IsLarge (system : System) (pick : List (Option ℕ)) (list : List ℕ) (cells : ℕ) : Type 0 where
  pub beyond : MOST_CELLS < cells_of (equations_of system)
  pub above : MOST_CELLS < cells
  pub counted : cells ≡ cells_in system pick list

-- such a spot, so many cells, or want of memory
abbrev pub IsJoinedStop : System → List (Option ℕ) → List Extended → List ℕ → ℕ → ℕ → RoundStop → Type 0
IsJoinedStop system pick bounds list turn round (Wide spot) = IsJoinedSpot system pick bounds list turn round spot
IsJoinedStop system pick bounds list turn round (Large cells) = IsLarge system pick list cells
IsJoinedStop system pick bounds list turn round NoMemory = Unit {0}

-- a list of a part rises, and each of it is picked and was raised
pub record IsPart (system : System) (pick : List (Option ℕ)) (raises : List CodeStep) (places : List ℕ) (list : List ℕ) : Type 0 where
  pub rises : Rises 0 list
  pub picked : ArePicked system pick list
  pub raised : AreRaised raises places list
  pub edges : ArePickedRaises pick raises places list

-- one turn of a list: by some outcome of its joint problem that has its facts at the bounds, one step is made, and what the outcome leaves
-- is left
pub record IsTurned (system : System) (pick : List (Option ℕ)) (raises : List CodeStep) (places : List ℕ) (list : List ℕ)
    (old new : Turning)
    (left : List ℕ) : Type 0 where
  pub size : length new.bounds ≡ length old.bounds
  pub outcome : Outcome
  pub facts : OutcomeFacts (equations_of system) (transformers system) (vector_at system old.bounds)
      (items_at (length system.template) raises places list) outcome
  pub steps : turns_so_far system new ≡ turns_so_far system old ++ step_by outcome ∷ []
  pub left_is : items_at (length system.template) raises places left
      ≡ left_by outcome (items_at (length system.template) raises places list)
  pub agrees : Agrees system (after_step (step_by outcome) (vector_at system old.bounds)) new.bounds
  pub part : IsPart system pick raises places left
  pub fewer : length left < length list
  pub one : length new.steps.items ≡ length old.steps.items + 1

-- the turns of a part, each by some outcome that has its facts: nothing of it is left
pub record IsDone (system : System) (pick : List (Option ℕ)) (raises : List CodeStep) (places : List ℕ) (list : List ℕ)
    (old new : Turning) : Type 0 where
  pub size : length new.bounds ≡ length old.bounds
  pub made : List Step
  pub leaves : Leaves (equations_of system) (transformers system) (vector_at system old.bounds)
      (items_at (length system.template) raises places list) made []
  pub steps : turns_so_far system new ≡ turns_so_far system old ++ made
  pub agrees : Agrees system (after_steps made (vector_at system old.bounds)) new.bounds
  pub few : length new.steps.items ≤ length old.steps.items + length list

-- all turns of the parts of a list
pub record AreAllDone (system : System) (pick : List (Option ℕ)) (raises : List CodeStep) (places : List ℕ) (list : List ℕ)
    (old new : Turning) : Type 0 where
  pub size : length new.bounds ≡ length old.bounds
  pub made : List Step
  pub turns : AreTurnsOf (equations_of system) (transformers system) (vector_at system old.bounds)
      (parts_at system pick raises places list) made
  pub steps : turns_so_far system new ≡ turns_so_far system old ++ made
  pub agrees : Agrees system (after_steps made (vector_at system old.bounds)) new.bounds

-- a turn of a part comes up after so many turns of the round
abbrev pub ComesAfter : System → List CodeStep → List ℕ → List ℕ → Turning → ℕ → Vector → List Item → Type 0
ComesAfter system raises places list old number vector left =
    (more : ℕ) × (number ≡ length old.steps.items + more)
    × ComesInPart (equations_of system) (vector_at system old.bounds) (items_at (length system.template) raises places list) more vector
    left

-- a turn of the parts of a list does
abbrev pub ComesAmong : System → List (Option ℕ) → List CodeStep → List ℕ → List ℕ → List Extended → ℕ → Vector → List Item → Type 0
ComesAmong system pick raises places list bounds number vector left =
    ComesUp (equations_of system) (vector_at system bounds) (parts_at system pick raises places list) number vector left

-- a point has a number and a trace for each unknown of the list, and a ray's rates are of unknowns of the list
abbrev pub HasSizes : List ℕ → Joined → Type 0
HasSizes list (Point to highs) = (length to ≡ length list) × (length highs ≡ length list)
HasSizes list (Ray rates) = (rate : RateOf) → In rates.list rate → In list rate.unknown

-- what an outcome makes of the bounds, the steps and the list
abbrev pub IsTaken : List CodeStep → List ℕ → List ℕ → Joined → Turning → Turning → List ℕ → Type 0
IsTaken raises places list (Point to highs) old new left =
    (new.steps.items ≡ old.steps.items ++ JumpStep (jump_items_at raises places list to highs) ∷ [])
    × (new.bounds ≡ puts (λ k. fin (get_or to k zero_ℚ)) list old.bounds (length list)) × (left ≡ [])
IsTaken raises places list (Ray rates) old new left =
    (new.steps.items ≡ old.steps.items ++ RayStep (map (ray_item_of raises places) rates.list) ∷ [])
    × (new.bounds ≡ puts (λ k. pos_inf) (map (λ rate. rate.unknown) rates.list) old.bounds (length rates.list))
    × (left ≡ finite_in new.bounds list)
