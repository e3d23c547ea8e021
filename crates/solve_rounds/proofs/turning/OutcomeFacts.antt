-- The facts of an outcome as the code has it.
use Rattle.std.specs.Prelude.{ℕ, List, length, map}
use Rattle.base_numbers.specs.Extended.{Ext as Extended}
use Rattle.flow_systems.specs.View.{equations_of}
use Rattle.flow_systems.specs.declared.system.System.{System}
use Rattle.cert_types.specs.declared.step.Step.{Step as CodeStep}
use Rattle.cert_types.specs.Certificates.{jump_item, ray_item}
use Rattle.theory_strategy.specs.Round.{Outcome, Point, Rays, OutcomeFacts}
use Rattle.solve_joint.specs.declared.joined.Joined.{Joined}
use Rattle.solve_joint.specs.declared.joined.Joined.TheVariants.{Point as PointRead, Ray as RayRead}
use Rattle.solve_offers.specs.AtBounds.{vector_at, transformers}
use Rattle.solve_rounds.specs.Lows.{items_at}
use Rattle.solve_rounds.specs.Turning.{jump_items_at, ray_item_of}

-- the outcome of the theory that it stands for
abbrev pub outcome_of : ℕ → List CodeStep → List ℕ → List ℕ → Joined → Outcome
outcome_of rows raises places list (PointRead to highs) = Point (map (jump_item rows) (jump_items_at raises places list to highs))
outcome_of rows raises places list (RayRead rates) = Rays (map (ray_item rows) (map (ray_item_of raises places) rates.list))

-- that has its facts at bounds
abbrev pub HasFacts : System → List CodeStep → List ℕ → List ℕ → List Extended → Joined → Type 0
HasFacts system raises places list bounds j =
    OutcomeFacts (equations_of system) (transformers system) (vector_at system bounds)
    (items_at (length system.template) raises places list) (outcome_of (length system.template) raises places list j)
