-- The steps of a chain of rounds whose turns are made by any outcomes with their facts are valid, and lead to the vector of the chain.
use Rattle.std.proofs.Common.{◌∙◌, Bool, ℕ, zero, suc, ◌<◌, ◌≤◌, List, ◌++◌, refl, sym, ap, subst, arith}
use Rattle.base_numbers.specs.Rational.{ℚ}
use Rattle.flow_systems.specs.Equations.{Equations, Vector}
use Rattle.theory_validity.specs.Steps.{Step, start_vector}
use Rattle.theory_validity.specs.Certificates.{ValidSteps, after_steps, PointsInRange}
use Rattle.theory_transformers.specs.EdgeProblems.{transformer}
use Rattle.theory_strategy.specs.Solve.{State, state}
use Rattle.theory_strategy.proofs.picks.Picks.{above_unique}
use Rattle.theory_strategy.proofs.growth.GrowthLaw.{led-append}
use Rattle.theory_strategy.proofs.round.CutLaw.{valid_append}
use Rattle.theory_rounds.specs.Evidence.{exact_evidence}
use Rattle.theory_rounds.specs.Agreement.{Agree}
use Rattle.theory_rounds.specs.Rounds.{Choice, TakesOne, Goes, exact_state}
use Rattle.theory_rounds.specs.RoundSteps.{IsRoundBy, AreStepsOf}
use Rattle.theory_rounds.proofs.raises.ProblemsAgree.{led_agrees}
use Rattle.theory_rounds.proofs.rounds.ExactChain.{RoundMade, round_made}
use Rattle.theory_rounds.proofs.rounds.RoundBy.{supported_agrees, round_by_is, round_by_agrees}

-- steps that lead from the start vector to one that agrees with this
abbrev pub LeadTo : Equations → Vector → List Step → Type 0
LeadTo system z steps = ValidSteps system start_vector steps × Agree system (after_steps steps start_vector) z

module _ (fitting : ℚ → Bool) (system : Equations) (range : PointsInRange system) (choose : ℕ → Choice)
    (among : (k : ℕ) → TakesOne (choose k)) (n : ℕ) (goes : (k : ℕ) → k < n → Goes system (choose k) (exact_state fitting system choose k))
  where
    abbrev now : ℕ → State
    now k = exact_state fitting system choose k

    one_more : (s t : State) (before last : List Step) → RoundMade fitting system range choose among s t → LeadTo system s.vector before
        → IsRoundBy fitting system s.vector t.pick last → LeadTo system t.vector (before ++ last)
    one_more s t before last made h by =
        let d = after_steps before start_vector in
        let back : Agree system s.vector d = λ p r l. sym (h.1 p r l) in
        let from = round_by_agrees fitting system s.vector d t.pick last made.better.is_pick back by in
        let there = round_by_is fitting system d t.pick last
        (supported_agrees system s.vector d back t.pick made.supported) from in
        let here = round_by_is fitting system s.vector t.pick last made.supported by in (
          valid_append system before last start_vector h.0 there.valid,
          λ p r l. ap (λ v. v p r) (led-append before last start_vector) ∙ led_agrees system last d s.vector h.1 p r l
              ∙ above_unique system (transformer system) (exact_evidence system) s.vector (after_steps last s.vector) t.vector t.pick
              here.above made.done.above p r l,
        )

    -- the steps of the first k rounds
    pub steps_lead : (k : ℕ) → k ≤ n → (steps : List Step) → AreStepsOf fitting system choose k steps → LeadTo system (now k).vector steps
    unfolding state after_steps
    steps_lead zero l steps h = subst (LeadTo system start_vector) (sym h) (tt, λ p r m. refl)
    steps_lead (suc k) l steps h =
        subst (LeadTo system (now (suc k)).vector) (sym h.2.2)
        (one_more (now k) (now (suc k)) h.0 h.2.0 (round_made fitting system range choose among n goes k (omega arith))
        (steps_lead k (omega arith) h.0 h.1) h.2.1)
