-- What the rounds end with.
use Rattle.std.specs.Prelude.{◌≡◌, ℕ, ◌<◌, ◌≤◌, ◌*◌, Bool, List, length, map, IsTrue, nat_le}
use Rattle.std.specs.List.{list_all}
use Rattle.flow_systems.specs.View.{equations_of}
use Rattle.flow_systems.specs.declared.system.System.{System}
use Rattle.theory_validity.specs.Certificates.{Certificate}
use Rattle.cert_types.specs.declared.cert.Cert.{Cert}
use Rattle.cert_types.specs.declared.step.Step.{Step as CodeStep}
use Rattle.cert_types.specs.declared.step.Step.TheVariants.{Plain, Jump, Ray}
use Rattle.cert_types.specs.Certificates.{step_of, evidence_of, certificate_of}
use Rattle.theory_strategy.specs.PickCount.{pick_count}
use Rattle.theory_rounds.specs.Rounds.{Choice}
use Rattle.theory_rounds.specs.Made.{exact_uppers}
use Rattle.solve_offers.specs.declared.offer.Offer.{Offer}
use Rattle.solve_rounds.specs.declared.solution.Solved.{Solved}
use Rattle.solve_offers.specs.AtBounds.{vector_at}
use Rattle.solve_rounds.specs.Chains.{bounds_after, AreStepsAfter, IsChain, IsEnded}

-- a chain of rounds by the policy that ends within the limit and before there are as many rounds as picks: the bounds after it,
-- how many rounds, their steps, and the evidence that is read from the outcomes at the bounds
pub record IsSolved (system : System) (policy : Offer → ℕ → Type 0) (limit : ℕ) (solved : Solved) : Type 0 where
  pub choose : ℕ → Choice
  pub chain : IsChain system policy solved.improvements choose
  pub ended : IsEnded system choose solved.improvements
  pub within : solved.improvements ≤ limit
  pub few : solved.improvements < pick_count (equations_of system)
  pub bounds : solved.bounds ≡ bounds_after system choose solved.improvements
  pub steps : AreStepsAfter system choose solved.improvements (map (step_of (length system.template)) solved.steps)
  pub uppers : map evidence_of solved.uppers ≡ exact_uppers (equations_of system) (vector_at system solved.bounds)

-- the certificate that is made of the template's rows and a solution
abbrev pub cert_with : System → Solved → Cert
cert_with system solved = record { rows = system.template; bounds = solved.bounds; steps = solved.steps; uppers = solved.uppers }

-- as the theory has it
abbrev pub made_certificate : System → Solved → Certificate
made_certificate system solved = certificate_of (length system.template) (cert_with system solved)

-- a step has at most so many items
abbrev pub has_most : ℕ → CodeStep → Bool
has_most count (Plain items) = nat_le (length items) count
has_most count (Jump items) = nat_le (length items) count
has_most count (Ray items) = nat_le (length items) count

-- steps can be numbered by 32 bits, and each has at most an item for each unknown
pub record AreNumbered (system : System) (steps : List CodeStep) : Type 0 where
  pub few : length steps < 4294967296
  pub short : IsTrue (list_all (has_most (length system.flow.points * length system.template)) steps)
