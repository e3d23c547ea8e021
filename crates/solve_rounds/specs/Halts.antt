-- Why the rounds halt.
use Rattle.std.specs.Prelude.{◌≡◌, ◌⊎◌, ℕ, suc, ◌<◌, ◌≤◌, ◌*◌, List, length, Option}
use Rattle.base_numbers.specs.Extended.{Ext as Extended}
use Rattle.flow_systems.specs.Equations.{PostSolution}
use Rattle.flow_systems.specs.View.{equations_of}
use Rattle.flow_systems.specs.declared.system.System.{System}
use Rattle.flow_systems.specs.declared.spot.Spot.{Spot}
use Rattle.theory_strategy.specs.PickCount.{pick_count}
use Rattle.theory_rounds.specs.Rounds.{Choice}
use Rattle.solve_composition.specs.Faults.{IsPathFault}
use Rattle.solve_offers.specs.declared.offer.Offer.{Offer}
use Rattle.flow_systems.specs.declared.fault.Fault.TheVariants.{Wide as WideStop}
use Rattle.solve_rounds.specs.declared.halt.Halt.{Halt}
use Rattle.solve_rounds.specs.declared.halt.Halt.TheVariants.{Wide, Large, Spent, NoMemory}
use Rattle.solve_rounds.specs.declared.halt.RoundStop.TheVariants.{Wide as WideRound}
use Rattle.solve_offers.specs.Improvement.{pick_of}
use Rattle.solve_offers.specs.AtBounds.{vector_at}
use Rattle.solve_offers.specs.Stops.{IsOfferStop}
use Rattle.solve_rounds.specs.Round.{IsLargeTurn, IsRoundStop, IsTurnOf}
use Rattle.solve_rounds.specs.Chains.{state_at, bounds_after, IsChain}

-- a wide operation of an offer at the bounds after a chain of at most so many rounds, in the round that would be next
pub record IsOfferHalt (system : System) (policy : Offer → ℕ → Type 0) (limit : ℕ) (spot : Spot) : Type 0 where
  pub choose : ℕ → Choice
  pub made : ℕ
  pub chain : IsChain system policy made choose
  pub within : made ≤ limit
  pub stop : IsOfferStop system (bounds_after system choose made) (suc made) (WideStop spot)

-- a wide operation of the last round of a chain of at most so many: of its growth or of one of its turns, from the bounds before it by its
-- pick
pub record IsRoundHalt (system : System) (policy : Offer → ℕ → Type 0) (limit : ℕ) (spot : Spot) : Type 0 where
  pub choose : ℕ → Choice
  pub before : ℕ
  pub chain : IsChain system policy (suc before) choose
  pub within : before < limit
  pub pick : List (Option ℕ)
  pub size : length pick ≡ length system.flow.points * length system.template
  pub is_pick : pick_of (length system.template) pick ≡ (state_at system choose (suc before)).pick
  pub stop : IsRoundStop system (bounds_after system choose before) pick (suc before) (WideRound spot)

-- the first wide operation of the composition, or a wide one of an offer or of a round
abbrev pub IsSpotOf : System → (Offer → ℕ → Type 0) → ℕ → Spot → Type 0
IsSpotOf system policy limit spot =
    IsPathFault (equations_of system) (WideStop spot) ⊎ (IsOfferHalt system policy limit spot ⊎ IsRoundHalt system policy limit spot)

-- the bounds after a chain of as many rounds as the limit, which are no post-solution; there are more picks
pub record IsSpent (system : System) (policy : Offer → ℕ → Type 0) (limit : ℕ) (bounds : List Extended) : Type 0 where
  pub choose : ℕ → Choice
  pub chain : IsChain system policy limit choose
  pub same : bounds ≡ bounds_after system choose limit
  pub unsolved : PostSolution (equations_of system) (vector_at system bounds) → ⊥
  pub few : limit < pick_count (equations_of system)

-- the joint problem of a turn of the last round of a chain of at most so many has so many cells, too many
pub record IsLargeHalt (system : System) (policy : Offer → ℕ → Type 0) (limit cells : ℕ) : Type 0 where
  pub choose : ℕ → Choice
  pub before : ℕ
  pub chain : IsChain system policy (suc before) choose
  pub within : before < limit
  pub pick : List (Option ℕ)
  pub size : length pick ≡ length system.flow.points * length system.template
  pub is_pick : pick_of (length system.template) pick ≡ (state_at system choose (suc before)).pick
  pub turn : IsLargeTurn system pick (IsTurnOf system (bounds_after system choose before) pick) cells

-- such a spot, such a turn, such bounds, or want of memory
abbrev pub IsHalt : System → (Offer → ℕ → Type 0) → ℕ → Halt → Type 0
IsHalt system policy limit (Wide spot) = IsSpotOf system policy limit spot
IsHalt system policy limit (Large cells) = IsLargeHalt system policy limit cells
IsHalt system policy limit (Spent bounds) = IsSpent system policy limit bounds
IsHalt system policy limit NoMemory = Unit {0}
