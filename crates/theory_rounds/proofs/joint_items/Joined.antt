-- The exact joint problems give turns with their facts, for every list that meets the list condition.
use Rattle.std.proofs.Common.{List}
use Rattle.flow_systems.specs.Equations.{Equations, Vector}
use Rattle.theory_validity.specs.Steps.{Item}
use Rattle.lp_theory.specs.Problem.{Outcome, best, unbounded, empty, IsOutcome}
use Rattle.lp_theory.specs.Simplex.{lp}
use Rattle.lp_theory.proofs.search.Programs.{lp_is}
use Rattle.theory_transformers.specs.EdgeProblems.{transformer}
use Rattle.theory_transformers.specs.JointProblems.{joint_problem}
use Rattle.theory_transformers.proofs.joint_problems.JointBest.{joint_never_empty}
use Rattle.theory_strategy.specs.Picks.{Pick, IsPick}
use Rattle.theory_strategy.specs.Round.{ListCondition, OutcomeFacts}
use Rattle.theory_strategy.proofs.round.PartLaw.{Joined}
use Rattle.theory_rounds.specs.JointItems.{listed_items, outcome_items, exact_joint}
use Rattle.theory_rounds.proofs.joint_items.ListedItems.{rising_items}
use Rattle.theory_rounds.proofs.joint_items.PointTurn.{point_turn}
use Rattle.theory_rounds.proofs.joint_items.RayTurn.{ray_turn}

-- an outcome of the joint problem gives a turn with its facts
outcome_facts : (system : Equations) (pick : Pick) → IsPick system pick → (b : Vector) (list : List Item)
    → ListCondition system (transformer system) pick b list → (o : Outcome) →
    IsOutcome (joint_problem system b (listed_items list)) o → OutcomeFacts system (transformer system) b list
    (outcome_items system b list o)
unfolding outcome_items
outcome_facts system pick is_pick b list h (best x v y) i = point_turn system b list x v y (rising_items system pick b list h) h.distinct i
outcome_facts system pick is_pick b list h (unbounded x d) i = ray_turn system b list x d (rising_items system pick b list h) h.distinct
    (λ u m. is_pick u (h.picked u m)) i
outcome_facts system pick is_pick b list h (empty y) i = absurd (joint_never_empty system b (listed_items list) y
    (rising_items system pick b list h) i)

-- the turn of the exact joint problem has its facts
pub exact_joined : (system : Equations) (pick : Pick) → IsPick system pick
    → Joined system (transformer system) pick (exact_joint system pick)
unfolding exact_joint
exact_joined system pick is_pick b list h = outcome_facts system pick is_pick b list h (lp (joint_problem system b (listed_items list)))
    (lp_is (joint_problem system b (listed_items list)))
