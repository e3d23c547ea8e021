-- Rounds on the way.
use Rattle.std.specs.Prelude.{◌≡◌, ℕ, ◌*◌, ◌++◌, Bool, true, false, List, [], length, map, replicate, Option, None}
use Rattle.base_numbers.specs.Extended.{Ext as Extended, neg_inf, fin, pos_inf}
use Rattle.flow_systems.specs.Starts.{start_bounds}
use Rattle.flow_systems.specs.View.{equations_of}
use Rattle.flow_systems.specs.declared.system.System.{System}
use Rattle.cert_types.specs.Certificates.{step_of, evidence_of}
use Rattle.theory_validity.specs.Steps.{Step}
use Rattle.theory_rounds.specs.Rounds.{Choice}
use Rattle.theory_rounds.specs.Made.{exact_uppers}
use Rattle.solve_offers.specs.declared.offer.Offer.{Offer}
use Rattle.solve_rounds.specs.declared.solution.Solved.{Solved}
use Rattle.solve_rounds.specs.declared.solving.Progress.{Progress}
use Rattle.solve_offers.specs.Improvement.{pick_of}
use Rattle.solve_offers.specs.AtBounds.{vector_at}
use Rattle.solve_rounds.specs.Round.{IsRoundAt, rounded_at, AreBoundsOf}
use Rattle.solve_rounds.specs.Chains.{state_at, bounds_after, AreStepsAfter, IsChain}

-- whether a bound is above `-inf`
abbrev pub is_above_bottom : Extended → Bool
is_above_bottom neg_inf = false
is_above_bottom (fin c) = true
is_above_bottom pos_inf = true

-- bounds, pick and steps after a chain of so many rounds by the policy
pub record IsAfter (system : System) (policy : Offer → ℕ → Type 0) (made : ℕ) (progress : Progress) : Type 0 where
  pub choose : ℕ → Choice
  pub chain : IsChain system policy made choose
  pub bounds : progress.bounds ≡ bounds_after system choose made
  pub size : length progress.pick ≡ length system.flow.points * length system.template
  pub pick : pick_of (length system.template) progress.pick ≡ (state_at system choose made).pick
  pub steps : AreStepsAfter system choose made (map (step_of (length system.template)) progress.steps.items)

-- before the first round: the start bounds, no pick and no step
pub record IsBegun (system : System) (progress : Progress) : Type 0 where
  pub bounds : progress.bounds ≡ start_bounds (length system.flow.points) (length system.template)
  pub pick : progress.pick ≡ replicate (length system.flow.points * length system.template) None
  pub steps : progress.steps.items ≡ []

-- a round by a pick was made
pub record IsAdvanced (system : System) (better : List (Option ℕ)) (old new : Progress) : Type 0 where
  pub pick : new.pick ≡ better
  pub size : length new.bounds ≡ length old.bounds
  pub bounds : AreBoundsOf system (rounded_at system old.bounds better) new.bounds
  pub made : List Step
  pub round : IsRoundAt system old.bounds better made
  pub steps : map (step_of (length system.template)) new.steps.items ≡ map (step_of (length system.template)) old.steps.items ++ made

-- a solution has what the rounds have come to, and the evidence at its bounds
pub record IsFinished (system : System) (progress : Progress) (made : ℕ) (solved : Solved) : Type 0 where
  pub bounds : solved.bounds ≡ progress.bounds
  pub improvements : solved.improvements ≡ made
  pub steps : solved.steps ≡ progress.steps.items
  pub uppers : map evidence_of solved.uppers ≡ exact_uppers (equations_of system) (vector_at system progress.bounds)
