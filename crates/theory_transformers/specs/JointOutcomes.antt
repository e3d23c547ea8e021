-- What the exact run on a joint problem says.
use Rattle.std.specs.Prelude.{List}
use Rattle.flow_systems.specs.Equations.{Equations, Vector}
use Rattle.lp_theory.specs.Problem.{IsBest, IsUnbounded, Outcome, best, unbounded, empty}
use Rattle.theory_transformers.specs.Candidates.{GreatestSupported}
use Rattle.theory_transformers.specs.JointProblems.{Listed, raised, joint_problem}

-- the joint problem has a best point exactly where there is a greatest supported vector, which then is base plus rise, and else a ray
abbrev pub JointOutcome : Equations → Vector → List Listed → Outcome → Type 0
JointOutcome system b list (best x v y) = IsBest (joint_problem system b list) x v y × GreatestSupported system b list (raised list x b)
JointOutcome system b list (unbounded x d) = IsUnbounded (joint_problem system b list) x d
    × ((q : Vector) → GreatestSupported system b list q → ⊥)
JointOutcome system b list (empty y) = ⊥
