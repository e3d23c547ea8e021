-- What a round answers at the bounds that the code has.
use Rattle.std.specs.Prelude.{◌≡◌, ◌⊎◌, ℕ, ◌+◌, ◌*◌, ◌<◌, List, length, map, Option}
use Rattle.base_numbers.specs.Extended.{Ext as Extended}
use Rattle.flow_systems.specs.Equations.{Vector}
use Rattle.flow_systems.specs.View.{equations_of}
use Rattle.flow_systems.specs.declared.system.System.{System}
use Rattle.flow_systems.specs.declared.spot.Part.{Part}
use Rattle.flow_systems.specs.declared.spot.PartFault.TheVariants.{Wide as WideIn}
use Rattle.flow_systems.specs.declared.spot.Spot.{Spot}
use Rattle.flow_systems.specs.declared.spot.Site.TheVariants.{Joint}
use Rattle.theory_validity.specs.Steps.{Below, Item, Step}
use Rattle.theory_validity.specs.Certificates.{ValidSteps}
use Rattle.theory_strategy.specs.Picks.{Above}
use Rattle.theory_strategy.specs.Round.{ListCondition}
use Rattle.theory_rounds.specs.ComingTurns.{ComesUp}
use Rattle.theory_rounds.specs.Cut.{exact_cut}
use Rattle.theory_rounds.specs.Rounds.{exact_grown, exact_round}
use Rattle.theory_rounds.specs.RoundSteps.{IsRoundBy}
use Rattle.solve_joint.specs.Joints.{IsJointFault}
use Rattle.solve_raise.specs.Numbers.{fitting}
use Rattle.flow_systems.specs.declared.fault.Fault.TheVariants.{Wide as WideStop}
use Rattle.solve_rounds.specs.declared.halt.RoundStop.{RoundStop}
use Rattle.solve_rounds.specs.declared.halt.RoundStop.TheVariants.{Wide, Large, NoMemory}
use Rattle.solve_offers.specs.AtBounds.{transformers, vector_at}
use Rattle.solve_offers.specs.Improvement.{pick_of}
use Rattle.solve_rounds.specs.Growth.{IsGrowthStop}
use Rattle.solve_rounds.specs.Turning.{IsLarge}

-- these are the steps of a round by a pick from bounds: those of the growth, and then one for each turn, made by some outcome of its joint
-- problem that has its facts
abbrev pub IsRoundAt : System → List Extended → List (Option ℕ) → List Step → Type 0
IsRoundAt system bounds pick steps = IsRoundBy fitting (equations_of system) (vector_at system bounds)
    (pick_of (length system.template) pick) steps

-- the vector to which the round leads, whichever outcomes its turns are made by
abbrev pub rounded_at : System → List Extended → List (Option ℕ) → Vector
rounded_at system bounds pick = exact_round fitting (equations_of system) (vector_at system bounds) (pick_of (length system.template) pick)

-- the vector after its growth
abbrev pub grown_at : System → List Extended → List (Option ℕ) → Vector
grown_at system bounds pick = exact_grown fitting (equations_of system) (vector_at system bounds) (pick_of (length system.template) pick)

-- the parts of the unknowns that the growth raised to fractions
abbrev pub cut_at : System → List Extended → List (Option ℕ) → List (List Item)
cut_at system bounds pick = exact_cut fitting (equations_of system) (vector_at system bounds) (pick_of (length system.template) pick)

-- bounds are a vector's at every unknown
abbrev pub AreBoundsOf : System → Vector → List Extended → Type 0
AreBoundsOf system z bounds = (p r : ℕ) → p < length system.flow.points → r < length system.template → vector_at system bounds p r ≡ z p r

-- the bounds are the least that are at least the old ones and closed under the pick
abbrev pub AreAbove : System → List Extended → List (Option ℕ) → List Extended → Type 0
AreAbove system old pick new = Above (equations_of system) (transformers system) (vector_at system old)
    (pick_of (length system.template) pick)
    (vector_at system new)

-- the steps are valid one after the other from the bounds on
abbrev pub AreValidFrom : System → List Extended → List Step → Type 0
AreValidFrom system bounds steps = ValidSteps (equations_of system) (vector_at system bounds) steps

-- the numbers of items' unknowns
abbrev pub numbers_of : ℕ → List Item → List ℕ
numbers_of rows items = map (λ u. u.point * rows + u.row) items

-- a turn comes up in the round by a pick from bounds: so many turns before it, made by outcomes that have their facts, lead to this vector
-- and leave this list, which meets the list condition there, between the vectors after the growth and after the round
pub record IsTurnOf (system : System) (bounds : List Extended) (pick : List (Option ℕ)) (number : ℕ) (vector : Vector) (list : List Item) :
    Type 0 where
  pub comes : ComesUp (equations_of system) (grown_at system bounds pick) (cut_at system bounds pick) number vector list
  pub condition : ListCondition (equations_of system) (transformers system) (pick_of (length system.template) pick) vector list
  pub over : Below (equations_of system) (grown_at system bounds pick) vector
  pub under : Below (equations_of system) vector (rounded_at system bounds pick)

-- a turn comes up, and an operation of a part of its list's joint problem at its bounds is the first that is wide
pub record IsTurnSpot (system : System) (pick : List (Option ℕ)) (comes : ℕ → Vector → List Item → Type 0) (round : ℕ) (spot : Spot) :
    Type 0 where
  pub round_is : spot.round ≡ round
  pub number : ℕ
  pub bounds : List Extended
  pub size : length bounds ≡ length system.flow.points * length system.template
  pub list : List Item
  pub turn : comes number (vector_at system bounds) list
  pub part : Part
  pub site : spot.site ≡ Joint number part
  pub wide : IsJointFault system pick bounds (numbers_of (length system.template) list) (WideIn part spot.wide)

-- a turn comes up, and its list's joint problem has so many cells, too many
pub record IsLargeTurn (system : System) (pick : List (Option ℕ)) (comes : ℕ → Vector → List Item → Type 0) (cells : ℕ) : Type 0 where
  pub number : ℕ
  pub bounds : List Extended
  pub size : length bounds ≡ length system.flow.points * length system.template
  pub list : List Item
  pub turn : comes number (vector_at system bounds) list
  pub large : IsLarge system pick (numbers_of (length system.template) list) cells

-- such a spot, such a turn, or want of memory
abbrev pub IsTurnStop : System → List (Option ℕ) → (ℕ → Vector → List Item → Type 0) → ℕ → RoundStop → Type 0
IsTurnStop system pick comes round (Wide spot) = IsTurnSpot system pick comes round spot
IsTurnStop system pick comes round (Large cells) = IsLargeTurn system pick comes cells
IsTurnStop system pick comes round NoMemory = Unit {0}

-- a wide operation of the round's growth, or want of memory
abbrev pub IsGrowthStopped : System → List Extended → List (Option ℕ) → ℕ → RoundStop → Type 0
IsGrowthStopped system bounds pick round (Wide spot) = IsGrowthStop system bounds pick round (WideStop spot)
IsGrowthStopped system bounds pick round (Large cells) = ⊥
IsGrowthStopped system bounds pick round NoMemory = Unit {0}

-- the round's growth or one of its turns stops
abbrev pub IsRoundStop : System → List Extended → List (Option ℕ) → ℕ → RoundStop → Type 0
IsRoundStop system bounds pick round stop = IsGrowthStopped system bounds pick round stop
    ⊎ IsTurnStop system pick (IsTurnOf system bounds pick) round stop
