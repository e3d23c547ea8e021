-- The evidence of exact transformers, with the words that are read from the outcomes of their linear programs.
use Rattle.std.proofs.Common.{◌≡◌, ◌∙◌, Bool, true, false, refl, sym, ap, subst, if◌then◌else◌, List}
use Rattle.std.specs.Prelude.{ℕ, ℤ}
use Rattle.base_numbers.specs.Rational.{ℚ, zero_ℚ, ◌+ℚ◌, ◌<ℚ◌}
use Rattle.base_numbers.specs.Extended.{neg_inf}
use Rattle.flow_edges.specs.declared.edge.Edge.{Edge}
use Rattle.flow_systems.specs.Equations.{Equations, Vector}
use Rattle.theory_validity.specs.Words.{Word, val, lin, width, end_form}
use Rattle.theory_validity.specs.Steps.{end_value, Upper}
use Rattle.theory_validity.specs.Transformers.{Unlimited, Reaches}
use Rattle.theory_validity.proofs.words.WordLaws.{val-end_form}
use Rattle.theory_validity.proofs.words.Widths.{end_form_width}
use Rattle.lp_theory.specs.Problem.{Outcome, best, unbounded, empty, value_at}
use Rattle.lp_theory.specs.Simplex.{lp}
use Rattle.lp_theory.specs.Free.{unsplit, unsplit_outcome, free_lp, IsFreeOutcome, IsFreeUnbounded}
use Rattle.lp_theory.proofs.FreePrograms.{free_lp_is}
use Rattle.theory_transformers.specs.Limits.{limits_problem, product, tabulate}
use Rattle.theory_transformers.specs.EdgeProblems.{edge_problem, lost, value_of, transformer, NoneLost, whole_problem}
use Rattle.theory_transformers.proofs.limits.Products.{product_is_sum, product-tabulate}
use Rattle.theory_transformers.proofs.edge_problems.EdgePoints.{point_runs, direction_falls}
use Rattle.theory_transformers.proofs.edge_problems.TransformerOf.{none_lost, transformer_upper}
use Rattle.theory_strategy.specs.Growth.{Evident}

-- the word of an edge that stands in a point over split columns: each positive column minus the negative one
abbrev pub word_at : Equations → Edge → (ℕ → ℚ) → Word
word_at system edge x = tabulate (width system.variables edge.actions) (unsplit x)

-- the problem's goal at a point of any sign is the sum of products with the end form
goal_at : (system : Equations) (z : Vector) (edge : Edge) (row : List ℤ) (x : ℕ → ℚ) →
    value_at (edge_problem system z edge row) x ≡ product (end_form system.variables edge.actions row).coeffs x
unfolding edge_problem limits_problem
goal_at system z edge row x = product_is_sum (end_form system.variables edge.actions row).coeffs (width system.variables edge.actions) x
    (end_form_width system.variables edge.actions row)

-- and the value at the end of the point's word has the constant beside it
pub value_of_point : (system : Equations) (z : Vector) (edge : Edge) (row : List ℤ) (x : ℕ → ℚ) →
    end_value system edge row (tabulate (width system.variables edge.actions) x)
    ≡ value_at (edge_problem system z edge row) x +ℚ (end_form system.variables edge.actions row).constant
unfolding end_value val
value_of_point system z edge row x =
    let f = end_form system.variables edge.actions row in
    sym (val-end_form system.variables edge.actions row (tabulate (width system.variables edge.actions) x))
    ∙ ap (λ s. s +ℚ f.constant) (product-tabulate f.coeffs (width system.variables edge.actions) x
    (end_form_width system.variables edge.actions row)
    ∙ sym (goal_at system z edge row x))

-- the end value rises along the word of a direction in which the goal does
pub direction_gains : (system : Equations) (z : Vector) (edge : Edge) (row : List ℤ) (d : ℕ → ℚ)
    → zero_ℚ <ℚ value_at (edge_problem system z edge row) d →
    zero_ℚ <ℚ lin (end_form system.variables edge.actions row) (tabulate (width system.variables edge.actions) d)
unfolding lin
direction_gains system z edge row d h =
    subst (λ s. zero_ℚ <ℚ s) (goal_at system z edge row d
    ∙ sym (product-tabulate (end_form system.variables edge.actions row).coeffs (width system.variables edge.actions) d
    (end_form_width system.variables edge.actions row))) h

-- the outcome of the problem over split columns is one of the problem over columns of any sign
pub outcome_is : (system : Equations) (z : Vector) (edge : Edge) (row : List ℤ) →
    IsFreeOutcome (edge_problem system z edge row) (unsplit_outcome (lp (whole_problem system z edge row)))
unfolding free_lp
outcome_is system z edge row = free_lp_is (edge_problem system z edge row)

-- the evidence of an unbounded outcome
unfoldable pub unlimited_evidence : (system : Equations) (z : Vector) (edge : Edge) (row : List ℤ) (x d : ℕ → ℚ)
    → NoneLost (z edge.from) system.template →
    IsFreeUnbounded (edge_problem system z edge row) (unsplit x) (unsplit d) → Unlimited system z edge row
unlimited_evidence system z edge row x d none h = record {
  word = word_at system edge x;
  runs = point_runs system z edge row (unsplit x) none h.point;
  direction = word_at system edge d;
  still = (direction_falls system z edge row (unsplit d) h.keeps).1;
  falls = (direction_falls system z edge row (unsplit d) h.keeps).0;
  gains = direction_gains system z edge row (unsplit d) h.gains;
}

-- the evidence of an outcome
unfoldable pub outcome_evidence : (system : Equations) (z : Vector) (edge : Edge) (row : List ℤ) → NoneLost (z edge.from) system.template
    → (o : Outcome) →
    IsFreeOutcome (edge_problem system z edge row) (unsplit_outcome o) →
    Upper system z edge row (value_of (end_form system.variables edge.actions row).constant (unsplit_outcome o)) →
    Reaches system z edge row (value_of (end_form system.variables edge.actions row).constant (unsplit_outcome o))
outcome_evidence system z edge row none (best x v y) h upper = (
  upper,
  (
    word_at system edge x,
    point_runs system z edge row (unsplit x) none h.point,
    value_of_point system z edge row (unsplit x)
        ∙ ap (λ s. s +ℚ (end_form system.variables edge.actions row).constant) h.value,
  ),
)
outcome_evidence system z edge row none (unbounded x d) h upper = unlimited_evidence system z edge row x d none h
outcome_evidence system z edge row none (empty y) h upper = upper

-- by whether some bound at the source is −∞
unfoldable pub evidence_by : (system : Equations) (z : Vector) (edge : Edge) (row : List ℤ) (b : Bool)
    → lost (z edge.from) system.template ≡ b →
    Upper system z edge row (if b then neg_inf else value_of (end_form system.variables edge.actions row).constant
    (unsplit_outcome (lp (whole_problem system z edge row)))) →
    Reaches system z edge row (if b then neg_inf else value_of (end_form system.variables edge.actions row).constant
    (unsplit_outcome (lp (whole_problem system z edge row))))
evidence_by system z edge row true e upper = upper
evidence_by system z edge row false e upper =
    outcome_evidence system z edge row (none_lost (z edge.from) system.template e) (lp (whole_problem system z edge row))
    (outcome_is system z edge row) upper

-- the evidence of each exact transformer
unfoldable pub exact_evidence : (system : Equations) → Evident system (transformer system)
unfolding transformer free_lp
exact_evidence system z edge row = evidence_by system z edge row (lost (z edge.from) system.template) refl
    (transformer_upper system z edge row)
