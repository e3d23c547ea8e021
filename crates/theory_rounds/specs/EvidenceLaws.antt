-- The laws of exact evidence.
use Rattle.std.specs.Prelude.{◌≡◌, ℤ, List, Bool, false}
use Rattle.base_numbers.specs.Rational.{ℚ}
use Rattle.flow_edges.specs.declared.edge.Edge.{Edge}
use Rattle.flow_systems.specs.Equations.{Equations, Vector}
use Rattle.theory_validity.specs.Steps.{Item, edge_of}
use Rattle.lp_theory.specs.Simplex.{lp}
use Rattle.theory_transformers.specs.EdgeProblems.{lost, transformer, whole_problem}
use Rattle.theory_strategy.specs.Growth.{Sizes}
use Rattle.theory_rounds.specs.Evidence.{exact_evidence}
use Rattle.theory_rounds.specs.Raises.{HasWords, raise_read, outcome_at}
use Rattle.theory_rounds.specs.Rounds.{exact_raise}

-- where no bound at the edge's source is −∞, the words of the exact evidence are those of the problem's outcome
abbrev pub EvidenceIsRead : Type 0
EvidenceIsRead = (system : Equations) (z : Vector) (edge : Edge) (row : List ℤ) → lost (z edge.from) system.template ≡ false →
    HasWords system z edge row (transformer system z edge row) (exact_evidence system z edge row) (lp (whole_problem system z edge row))

-- and they have a value for each column
abbrev pub EvidenceIsSized : Type 0
EvidenceIsSized = (system : Equations) (z : Vector) (edge : Edge) (row : List ℤ) →
    Sizes system z edge row (transformer system z edge row) (exact_evidence system z edge row)

-- where no bound at the source of an unknown's edge is −∞, the raise of the unknown is read from the outcome of its problem
abbrev pub RaisesAreRead : Type 0
RaisesAreRead = (fitting : ℚ → Bool) (system : Equations) (z : Vector) (u : Item) → lost (z (edge_of system u).from) system.template ≡ false
    →
    exact_raise fitting system z u ≡ raise_read fitting system z u (outcome_at system z u)
