-- The certificate that rounds make is valid where no transformer exceeds its bound at the last vector.
use Rattle.std.proofs.Common.{◌≡◌, ◌∙◌, ◌⊎◌, inl, inr, Bool, ℕ, ◌+◌, ◌*◌, ◌<◌, ◌≤◌, le_trans, le-add_right, mul-le-mul_right, List, [], ◌∷◌}
use Rattle.std.proofs.Common.{length, refl, sym, ap, subst, subst₂, arith}
use Rattle.std.proofs.lemmas.Bool.{cases_lt}
use Rattle.std.proofs.lemmas.Option.{slice_get_within}
use Rattle.std.proofs.Math.ListN.{get_or-eq_default}
use Rattle.base_numbers.specs.Rational.{ℚ}
use Rattle.base_numbers.specs.Extended.{Ext, neg_inf, ◌≤ᴱ◌}
use Rattle.flow_systems.specs.Equations.{Equations, Vector}
use Rattle.flow_systems.proofs.view.Listed.{listed_law}
use Rattle.theory_validity.specs.Steps.{Item, Step, new_value, after_step, Placed, start_vector}
use Rattle.theory_validity.specs.Certificates.{ValidSteps, after_steps, PointsInRange, bounds_vector, ValidCertificate}
use Rattle.theory_validity.proofs.steps.Puts.{put-unnamed}
use Rattle.theory_transformers.specs.EdgeProblems.{transformer}
use Rattle.theory_strategy.proofs.round.Chain.{NoneExceeds, start_later}
use Rattle.theory_strategy.proofs.round.TurnLaw.{unnamed_by_all}
use Rattle.theory_rounds.specs.Agreement.{Agree}
use Rattle.theory_rounds.specs.Rounds.{Choice, exact_state, exact_steps, Goes, TakesOne}
use Rattle.theory_rounds.specs.Made.{listed_bounds, certificate_with, exact_certificate}
use Rattle.theory_rounds.proofs.raises.ProblemsAgree.{transformer_agrees}
use Rattle.theory_rounds.proofs.rounds.ExactChain.{state_valid, state_leads}
use Rattle.theory_rounds.proofs.rounds.StepsMade.{LeadTo}
use Rattle.theory_rounds.proofs.made.MadeNeeds.{exact_uppers_pass}

-- steps name no unknown past the points
led_past : (system : Equations) (steps : List Step) (z : Vector) (p r : ℕ) → ValidSteps system z steps → system.points ≤ p
    → after_steps steps z p r ≡ z p r
unfolding after_steps after_step
led_past system [] z p r v past = refl
led_past system (step ∷ steps) z p r v past =
    led_past system steps (after_step step z) p r v.1 past ∙ put-unnamed (new_value step.kind) step.items z p r
    (unnamed_by_all step.items p r (λ u m e f. behind u (v.0.placed u m) e))
  where
    behind : (u : Item) → Placed system u → u.point ≡ p → ⊥
    behind u placed e = let l = placed.point_within in absurd (omega arith)

bounds_past : (system : Equations) (bounds : List Ext) (p r : ℕ) → length bounds ≡ system.points * length system.template
    → system.points ≤ p → bounds_vector system bounds p r ≡ neg_inf
unfolding bounds_vector
bounds_past system bounds p r size past =
    get_or-eq_default bounds neg_inf (subst (λ n. n ≤ p * length system.template + r) (sym size)
    (le_trans (mul-le-mul_right (length system.template) past) (le-add_right (p * length system.template) r)))

-- a vector to which valid steps lead is that of its list of bounds
listed_agrees : (system : Equations) (steps : List Step) (z : Vector) → 0 < system.points → ValidSteps system start_vector steps
    → after_steps steps start_vector ≡ z → Agree system (bounds_vector system (listed_bounds system z)) z
unfolding bounds_vector
listed_agrees system steps z some valid leads p r l = by (cases_lt p system.points)
  where
    by : (p < system.points) ⊎ (system.points ≤ p) → bounds_vector system (listed_bounds system z) p r ≡ z p r
    by (inl h) = (listed_law system.points (length system.template)).vector z p r h l
    by (inr h) =
        bounds_past system (listed_bounds system z) p r ((listed_law system.points (length system.template)).count z) h
        ∙ sym (start_later p r (omega arith)) ∙ sym (led_past system steps start_vector p r valid h) ∙ ap (λ v. v p r) leads

-- where no transformer exceeds its bound at a vector, none does at one that agrees
pub none_agrees : (system : Equations) (z q : Vector) → Agree system z q → NoneExceeds system (transformer system) z
    → NoneExceeds system (transformer system) q
none_agrees system z q agree none edge r row listed e =
    subst₂ (λ a b. a ≤ᴱ b) (transformer_agrees system z q agree edge row) (agree edge.to r (slice_get_within system.template r row e))
    (none edge r row listed e)

module _ (fitting : ℚ → Bool) (system : Equations) (range : PointsInRange system) (choose : ℕ → Choice)
    (among : (k : ℕ) → TakesOne (choose k)) (n : ℕ)
    (goes : (k : ℕ) → k < n → Goes system (choose k) (exact_state fitting system choose k)) where
  -- the last vector is that of its bounds
  pub last_listed : Agree system (bounds_vector system (listed_bounds system (exact_state fitting system choose n).vector))
      (exact_state fitting system choose n).vector
  last_listed = listed_agrees system (exact_steps fitting system choose n) (exact_state fitting system choose n).vector range.entry
      (state_valid fitting system range choose among n goes) (state_leads fitting system range choose among n goes)

  -- the certificate of rounds that made steps to the last vector is valid
  pub made_with : (steps : List Step) → LeadTo system (exact_state fitting system choose n).vector steps
      → NoneExceeds system (transformer system) (exact_state fitting system choose n).vector
      → ValidCertificate system (certificate_with fitting system choose n steps)
  unfolding certificate_with
  made_with steps made none =
      let z = (exact_state fitting system choose n).vector in
      let bounds = listed_bounds system z in
      record {
        size = (listed_law system.points (length system.template)).count z;
        steps = made.0;
        final = λ p r h l. made.1 p r l ∙ sym (last_listed p r l);
        uppers = exact_uppers_pass system (bounds_vector system bounds)
            (none_agrees system z (bounds_vector system bounds) (λ p r l. sym (last_listed p r l)) none);
      }

  -- so is that by the exact joint problems
  pub made_valid : NoneExceeds system (transformer system) (exact_state fitting system choose n).vector
      → ValidCertificate system (exact_certificate fitting system choose n)
  unfolding exact_certificate
  made_valid none =
      made_with (exact_steps fitting system choose n) (
        state_valid fitting system range choose among n goes,
        λ p r l. ap (λ v. v p r) (state_leads fitting system range choose among n goes),
      ) none
