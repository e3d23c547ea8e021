-- The laws of transformers, joint problems and parts.
use Rattle.std.specs.Prelude.{◌≡◌, ◌↔◌, ℕ, ◌<◌, ℤ, List, [], length}
use Rattle.base_numbers.specs.Extended.{Ext, ◌≤ᴱ◌}
use Rattle.flow_edges.specs.declared.edge.Edge.{Edge}
use Rattle.flow_systems.specs.Equations.{Equations, Vector}
use Rattle.lp_theory.specs.Simplex.{lp}
use Rattle.theory_validity.specs.Steps.{Upper}
use Rattle.theory_validity.specs.Transformers.{Reaches}
use Rattle.theory_transformers.specs.EdgeProblems.{transformer}
use Rattle.theory_transformers.specs.JointOutcomes.{JointOutcome}
use Rattle.theory_transformers.specs.JointPoints.{Distinct}
use Rattle.theory_transformers.specs.JointProblems.{Listed, joint_problem, AllRising}
use Rattle.theory_transformers.specs.Parts.{Admissible, AreClasses, parts}

-- the transformer is the least number that every word along the edge has at most at its end
abbrev pub TransformersAreSuprema : Type 0
TransformersAreSuprema = (system : Equations) (z : Vector) (edge : Edge) (row : List ℤ) (v : Ext) → (transformer system z edge row ≤ᴱ v)
    ↔ Upper system z edge row v

-- it has its evidence: a word that reaches it, a word and a direction without end, or multipliers
abbrev pub TransformersAreReached : Type 0
TransformersAreReached = (system : Equations) (z : Vector) (edge : Edge) (row : List ℤ)
    → Reaches system z edge row (transformer system z edge row)

-- it depends on the bounds at the edge's source alone
abbrev pub TransformersAreLocal : Type 0
TransformersAreLocal = (system : Equations) (z q : Vector) (edge : Edge) (row : List ℤ) →
    ((r : ℕ) → r < length system.template → z edge.from r ≡ q edge.from r) →
    transformer system z edge row ≡ transformer system q edge row

-- the joint problem of a list whose picked transformers exceed their bounds finds the greatest supported vector, or that there is none
abbrev pub JointProblemsDecide : Type 0
JointProblemsDecide = (system : Equations) (b : Vector) (list : List Listed) → AllRising system b list → Distinct list →
    JointOutcome system b list (lp (joint_problem system b list))

-- the parts of a list are its classes of unknowns that lean on one another, each after those on which it leans
pub record PartsOf (system : Equations) (list : List Listed) : Type 0 where
  pub classes : AreClasses system list (parts system list)
  pub ordered : Admissible system list [] (parts system list)

-- the parts of every list are such
abbrev pub PartsAreOrdered : Type 0
PartsAreOrdered = (system : Equations) (list : List Listed) → PartsOf system list
