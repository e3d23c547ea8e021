-- An outcome that is found, from the joint problem or by a guess that passes its check, has its sizes and its facts.
use Rattle.std.proofs.Common.{◌≡◌, ⊎_elim, ℕ, ◌*◌, List, length}
use Rattle.std.specs.Prelude.{Option}
use Rattle.base_numbers.specs.Extended.{Ext as Extended}
use Rattle.flow_systems.specs.View.{equations_of}
use Rattle.flow_systems.specs.declared.system.System.{System}
use Rattle.cert_types.specs.declared.step.Step.{Step as CodeStep}
use Rattle.lp_theory.specs.Simplex.{lp}
use Rattle.theory_strategy.specs.Picks.{IsPick}
use Rattle.theory_strategy.specs.Round.{ListCondition}
use Rattle.solve_joint.specs.Problems.{problem_of}
use Rattle.solve_joint.specs.declared.joined.Joined.{Joined}
use Rattle.solve_joint.specs.declared.joined.Joined.TheVariants.{Point, Ray}
use Rattle.solve_offers.specs.AtBounds.{vector_at, transformers}
use Rattle.solve_offers.specs.Improvement.{pick_of}
use Rattle.solve_rounds.specs.Lows.{items_at}
use Rattle.solve_rounds.specs.Guessed.{IsPointReached, IsRayValid, IsFound}
use Rattle.solve_rounds.specs.Turning.{IsPart, HasSizes}
use Rattle.solve_rounds.proofs.turning.LayoutReads.{read_sizes}
use Rattle.solve_rounds.proofs.turning.OutcomeFacts.{HasFacts}
use Rattle.solve_rounds.proofs.turning.Turned.{read_facts}
use Rattle.solve_rounds.proofs.guessed.ReachedFacts.{point_facts}
use Rattle.solve_rounds.proofs.guessed.ValidRay.{ray_facts}

-- it has a number and a trace for each unknown of the list, or rates of some of them
pub found_sizes : (system : System) (pick : List (Option ℕ)) (raises : List CodeStep) (places : List ℕ) (bounds : List Extended)
    (list : List ℕ) (j : Joined) → IsFound system pick raises places bounds list j → HasSizes list j
found_sizes system pick raises places bounds list j found =
    ⊎_elim (read_sizes system pick bounds list (lp (problem_of system pick bounds list)) j) (λ h. ⊎_elim (at_point j) (along_ray j) h) found
  where
    at_point : (k : Joined) → IsPointReached system pick bounds list k → HasSizes list k
    at_point (Point to highs) h = (h.numbers, h.traces)
    at_point (Ray rates) h = absurd h

    along_ray : (k : Joined) → IsRayValid system raises places bounds list k → HasSizes list k
    along_ray (Point to highs) h = absurd h
    along_ray (Ray rates) h = h.listed

-- and its facts
pub found_facts : (system : System) (pick : List (Option ℕ))
    → IsPick (equations_of system) (pick_of (length system.template) pick) → (raises : List CodeStep) (places list : List ℕ)
    (part : IsPart system pick raises places list) (bounds : List Extended)
    (size : length bounds ≡ length system.flow.points * length system.template)
    (condition : ListCondition (equations_of system) (transformers system) (pick_of (length system.template) pick)
    (vector_at system bounds) (items_at (length system.template) raises places list)) (j : Joined)
    → IsFound system pick raises places bounds list j → HasFacts system raises places list bounds j
found_facts system pick is_pick raises places list part bounds size condition j found =
    ⊎_elim (read_facts system pick raises places list part bounds size condition is_pick j) (λ h. ⊎_elim (at_point j) (along_ray j) h) found
  where
    at_point : (k : Joined) → IsPointReached system pick bounds list k → HasFacts system raises places list bounds k
    at_point (Point to highs) h = point_facts system pick raises places list part bounds size condition to highs h
    at_point (Ray rates) h = absurd h

    along_ray : (k : Joined) → IsRayValid system raises places bounds list k → HasFacts system raises places list bounds k
    along_ray (Point to highs) h = absurd h
    along_ray (Ray rates) h = ray_facts system raises places list part.raised bounds rates.list h
