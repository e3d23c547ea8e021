-- What the halts of rounds say of a system and a policy.
use Rattle.std.proofs.Common.{inl, ℕ, ◌≤◌, List, refl, arith}
use Rattle.base_limits.specs.declared.limits.TheConstants.{MOST_CELLS}
use Rattle.base_numbers.specs.Extended.{Ext as Extended}
use Rattle.flow_systems.specs.Cells.{cells_of}
use Rattle.flow_systems.specs.View.{equations_of}
use Rattle.flow_systems.specs.declared.spot.Spot.{Spot}
use Rattle.flow_systems.specs.declared.system.System.{System}
use Rattle.solve_rounds.specs.Halts.{IsLargeHalt, IsSpent, IsSpotOf}
use Rattle.ask_words.specs.declared.request.Policy.{Policy}
use Rattle.ask_words.specs.declared.request.Policy.TheVariants.{Best, First}
use Rattle.theory_chains.specs.Offers.{Best as MeantBest, First as MeantFirst}
use Rattle.solve_rounds.proofs.chains.Improvements.{best_means, first_means, spent_law}
use Rattle.solve_offers.specs.Policies.{by_best, by_first}
use Rattle.top_texts.specs.Policies.{rule_of}
use Rattle.top_texts.specs.Outcomes.{IsHalted}
use Rattle.top_texts.specs.Rounds.{RunsOut}
use Rattle.top_texts.specs.Questions.{IsOnlyWide}
use Rattle.top_texts.specs.Spots.{HasExcess, HasSpot}
use Rattle.ask_words.specs.declared.request.Purpose.{Purpose}
use Rattle.ask_words.specs.declared.request.Purpose.TheVariants.{Report, Certificate}
use Rattle.top_texts.specs.declared.refusal.Refusal.TheVariants as refusal
use Rattle.top_status.specs.declared.status.Excess.{Excess}
use Rattle.top_status.specs.declared.status.Excess.TheVariants.{Wide, Large}

-- improvements that are spent run out
pub runs_out : (system : System) (policy : Policy) (limit : ℕ) (bounds : List Extended) → IsSpent system (rule_of policy) limit bounds
    → RunsOut system policy limit
runs_out system Best limit bounds h = spent_law by_best MeantBest best_means system limit bounds h
runs_out system First limit bounds h = spent_law by_first MeantFirst first_means system limit bounds h

spot_has : (purpose : Purpose) (system : System) (policy : Policy) (limit : ℕ) (spot : Spot) → IsSpotOf system (rule_of policy) limit spot
    → HasSpot purpose system policy limit spot
spot_has Report system policy limit spot h = h
spot_has Certificate system policy limit spot h = inl h

-- a wide operation of the rounds halts the analysis
pub halted_wide : (purpose : Purpose) (system : System) (policy : Policy) (limit : ℕ) (spot : Spot)
    → IsSpotOf system (rule_of policy) limit spot → IsHalted purpose system policy limit (refusal.Exceeded (Wide spot))
halted_wide purpose system policy limit spot h = spot_has purpose system policy limit spot h

-- so does a joint problem of a turn that is too large
pub halted_large : (purpose : Purpose) (system : System) (policy : Policy) (limit cells : ℕ)
    → IsLargeHalt system (rule_of policy) limit cells → IsHalted purpose system policy limit (refusal.Exceeded (Large cells))
halted_large purpose system policy limit cells h = h

-- rounds that spend their limit halt the analysis
pub halted_spent : (purpose : Purpose) (system : System) (policy : Policy) (limit : ℕ) (bounds : List Extended)
    → IsSpent system (rule_of policy) limit bounds → IsHalted purpose system policy limit (refusal.Spent limit)
halted_spent purpose system policy limit bounds h = (runs_out system policy limit bounds h, refl)

-- where the largest joint problem of a system has few enough cells, only an operation exceeds exact work
pub only_wide : (purpose : Purpose) (system : System) (policy : Policy) (limit : ℕ) → cells_of (equations_of system) ≤ MOST_CELLS
    → (excess : Excess) → HasExcess purpose system policy limit excess
    → IsOnlyWide (λ spot. HasExcess purpose system policy limit (Wide spot)) excess
only_wide purpose system policy limit few (Wide spot) h = h
only_wide purpose system policy limit few (Large cells) h = let beyond = h.turn.large.beyond in omega (arith, few, beyond)
