-- The edge's problem over split columns: its points are words too, and its outcome gives the transformer.
use Rattle.std.proofs.Common.{◌≡◌, ◌∙◌, true, false, List, refl, ap, if◌then◌else◌}
use Rattle.std.specs.Prelude.{ℤ}
use Rattle.base_numbers.specs.Rational.{ℚ}
use Rattle.base_numbers.specs.Extended.{neg_inf}
use Rattle.flow_edges.specs.declared.edge.Edge.{Edge}
use Rattle.flow_systems.specs.Equations.{Equations, Vector}
use Rattle.theory_validity.specs.Words.{end_form}
use Rattle.lp_theory.specs.Problem.{Outcome, best, unbounded, empty}
use Rattle.lp_theory.specs.Simplex.{lp}
use Rattle.lp_theory.specs.Free.{split_problem, unsplit_outcome, free_lp}
use Rattle.theory_transformers.specs.EdgeProblems.{edge_problem, lost, value_of, transformer}

value_unsplit : (c : ℚ) (o : Outcome) → value_of c (unsplit_outcome o) ≡ value_of c o
value_unsplit c (best x v y) = refl
value_unsplit c (unbounded x d) = refl
value_unsplit c (empty y) = refl

-- where no source row is at −∞ the transformer is read from the outcome of the split problem
pub transformer_by_lp : (system : Equations) (z : Vector) (edge : Edge) (row : List ℤ) → lost (z edge.from) system.template ≡ false →
    transformer system z edge row ≡ value_of (end_form system.variables edge.actions row).constant
    (lp (split_problem (edge_problem system z edge row)))
unfolding transformer free_lp
transformer_by_lp system z edge row e =
    ap (λ b. if b then neg_inf else value_of (end_form system.variables edge.actions row).constant
    (free_lp (edge_problem system z edge row))) e
    ∙ value_unsplit (end_form system.variables edge.actions row).constant (lp (split_problem (edge_problem system z edge row)))

-- else it is −∞
pub transformer_lost : (system : Equations) (z : Vector) (edge : Edge) (row : List ℤ) → lost (z edge.from) system.template ≡ true
    → transformer system z edge row ≡ neg_inf
unfolding transformer
transformer_lost system z edge row e = ap (λ b. if b then neg_inf else value_of (end_form system.variables edge.actions row).constant
    (free_lp (edge_problem system z edge row))) e
