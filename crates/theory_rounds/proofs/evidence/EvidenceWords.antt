-- What the words of exact evidence are: those of the outcome, with a value for each column; and the raise that they give.
use Rattle.std.proofs.Common.{◌≡◌, ◌∙◌, Bool, true, false, true≢false, List, [], ◌∷◌, length, refl, ap, if◌then◌else◌, ℕ}
use Rattle.std.specs.Prelude.{ℤ}
use Rattle.base_numbers.specs.Rational.{ℚ, ◌+ℚ◌}
use Rattle.base_numbers.specs.Extended.{Ext, neg_inf, fin, pos_inf}
use Rattle.flow_edges.specs.declared.edge.Edge.{Edge}
use Rattle.flow_systems.specs.Equations.{Equations, Vector}
use Rattle.theory_validity.specs.Words.{width, lin, end_form}
use Rattle.theory_validity.specs.Steps.{Item, Plain, Ray, Upper, edge_of, row_of}
use Rattle.theory_validity.specs.Transformers.{Reaches, Unlimited}
use Rattle.lp_theory.specs.Problem.{Outcome, best, unbounded, empty}
use Rattle.lp_theory.specs.Simplex.{lp}
use Rattle.lp_theory.specs.Free.{unsplit, unsplit_outcome, free_lp, IsFreeOutcome}
use Rattle.theory_transformers.specs.EdgeProblems.{edge_problem, lost, value_of, transformer, NoneLost, whole_problem}
use Rattle.theory_transformers.proofs.limits.Products.{length-tabulate}
use Rattle.theory_transformers.proofs.edge_problems.SplitProblems.{transformer_by_lp}
use Rattle.theory_transformers.proofs.edge_problems.TransformerOf.{none_lost, transformer_upper}
use Rattle.theory_strategy.specs.Picks.{value_at}
use Rattle.theory_strategy.specs.Growth.{Sizes, split, with_words, raised_to, ray_low, raise, raise_at}
use Rattle.theory_rounds.specs.Evidence.{word_at, unlimited_evidence, outcome_evidence, outcome_is, evidence_by}
use Rattle.theory_rounds.specs.Evidence.{exact_evidence}
use Rattle.theory_rounds.specs.Raises.{HasWords, low_word, raise_read, outcome_at}
use Rattle.theory_rounds.specs.Rounds.{exact_raise}

module _ (system : Equations) (z : Vector) (edge : Edge) (row : List ℤ) where
  constant : ℚ
  constant = (end_form system.variables edge.actions row).constant

  outcome_words : (none : NoneLost (z edge.from) system.template) (o : Outcome)
      (h : IsFreeOutcome (edge_problem system z edge row) (unsplit_outcome o))
      (upper : Upper system z edge row (value_of (end_form system.variables edge.actions row).constant (unsplit_outcome o))) →
      HasWords system z edge row (value_of (end_form system.variables edge.actions row).constant (unsplit_outcome o))
      (outcome_evidence system z edge row none o h upper) o
  unfolding outcome_evidence unlimited_evidence
  outcome_words none (best x v y) h upper = refl
  outcome_words none (unbounded x d) h upper = (refl, refl)
  outcome_words none (empty y) h upper = tt

  -- where no bound at the source is −∞, the evidence has the outcome's words
  pub evidence_words : lost (z edge.from) system.template ≡ false → HasWords system z edge row (transformer system z edge row)
      (exact_evidence system z edge row) (lp (whole_problem system z edge row))
  unfolding exact_evidence transformer free_lp evidence_by
  evidence_words e = by (lost (z edge.from) system.template) refl (transformer_upper system z edge row) e
    where
      by : (b : Bool) (f : lost (z edge.from) system.template ≡ b)
          (upper : Upper system z edge row (if b then neg_inf else value_of (end_form system.variables edge.actions row).constant
          (unsplit_outcome (lp (whole_problem system z edge row))))) →
          b ≡ false → HasWords system z edge row (if b then neg_inf else value_of (end_form system.variables edge.actions row).constant
          (unsplit_outcome (lp (whole_problem system z edge row))))
          (evidence_by system z edge row b f upper) (lp (whole_problem system z edge row))
      by true f upper g = absurd (true≢false g)
      by false f upper g = outcome_words (none_lost (z edge.from) system.template f) (lp (whole_problem system z edge row))
          (outcome_is system z edge row) upper

  word_size : (x : ℕ → ℚ) → length (word_at system edge x) ≡ width system.variables edge.actions
  word_size x = length-tabulate (width system.variables edge.actions) (unsplit x)

  outcome_sizes : (none : NoneLost (z edge.from) system.template) (o : Outcome)
      (h : IsFreeOutcome (edge_problem system z edge row) (unsplit_outcome o))
      (upper : Upper system z edge row (value_of (end_form system.variables edge.actions row).constant (unsplit_outcome o))) →
      Sizes system z edge row (value_of (end_form system.variables edge.actions row).constant (unsplit_outcome o))
      (outcome_evidence system z edge row none o h upper)
  unfolding outcome_evidence unlimited_evidence
  outcome_sizes none (best x v y) h upper = word_size x
  outcome_sizes none (unbounded x d) h upper = (word_size x, word_size d)
  outcome_sizes none (empty y) h upper = tt

  -- the words of exact evidence have a value for each column
  pub evidence_sizes : Sizes system z edge row (transformer system z edge row) (exact_evidence system z edge row)
  unfolding exact_evidence transformer free_lp evidence_by
  evidence_sizes = by (lost (z edge.from) system.template) refl (transformer_upper system z edge row)
    where
      by : (b : Bool) (f : lost (z edge.from) system.template ≡ b)
          (upper : Upper system z edge row (if b then neg_inf else value_of (end_form system.variables edge.actions row).constant
          (unsplit_outcome (lp (whole_problem system z edge row))))) →
          Sizes system z edge row (if b then neg_inf else value_of (end_form system.variables edge.actions row).constant
          (unsplit_outcome (lp (whole_problem system z edge row))))
          (evidence_by system z edge row b f upper)
      by true f upper = tt
      by false f upper = outcome_sizes (none_lost (z edge.from) system.template f) (lp (whole_problem system z edge row))
          (outcome_is system z edge row) upper

-- the low word of unlimited evidence
low_is : (system : Equations) (z : Vector) (edge : Edge) (row : List ℤ) (h : Unlimited system z edge row) (b : Ext)
    → ray_low system z edge row h b ≡ low_word system edge row h.word h.direction b
unfolding ray_low low_word
low_is system z edge row h neg_inf = refl
low_is system z edge row h (fin b) = refl
low_is system z edge row h pos_inf = refl

fin_same : (a b : ℚ) → fin a ≡ fin b → a ≡ b
fin_same a b e = cc

module _ (fitting : ℚ → Bool) (system : Equations) (z : Vector) (u : Item) where
  -- the raise by evidence with an outcome's number and words is the one read from the outcome
  pub raise_words : (v : Ext) (h : Reaches system z (edge_of system u) (row_of system u) v) (o : Outcome)
      → v ≡ value_of (end_form system.variables (edge_of system u).actions (row_of system u)).constant o →
      HasWords system z (edge_of system u) (row_of system u) v h o → raise fitting system z u v h ≡ raise_read fitting system z u o
  unfolding raise raise_read
  raise_words neg_inf h (best x v y) e w = absurd w
  raise_words neg_inf h (unbounded x d) e w = absurd w
  raise_words neg_inf h (empty y) e w = refl
  raise_words (fin c) h (best x v y) e w =
      let k = (end_form system.variables (edge_of system u).actions (row_of system u)).constant in
      ap (λ s. record {
        kind = Plain;
        items = with_words u (split system.variables s) (split 0 []) (raised_to fitting (z u.point u.row) c)
            ∷ [];
      }) w
      ∙ ap (λ s. record {
        kind = Plain;
        items = with_words u (split system.variables (word_at system (edge_of system u) x)) (split 0 [])
            (raised_to fitting (z u.point u.row) s) ∷ [];
      }) (fin_same c (v +ℚ k) e)
  raise_words (fin c) h (unbounded x d) e w = absurd w
  raise_words (fin c) h (empty y) e w = absurd w
  raise_words pos_inf h (best x v y) e w = absurd w
  raise_words pos_inf h (unbounded x d) e w =
      let edge = edge_of system u in
      let row = row_of system u in
      let b = z u.point u.row in
      ap (λ s. record {
        kind = Ray;
        items = with_words u (split system.variables s) (split system.variables h.direction)
            (lin (end_form system.variables edge.actions row) h.direction) ∷ [];
      }) (low_is system z edge row h b)
      ∙ ap (λ s. record {
        kind = Ray;
        items = with_words u (split system.variables (low_word system edge row s h.direction b))
            (split system.variables h.direction) (lin (end_form system.variables edge.actions row) h.direction) ∷ [];
      }) w.0
      ∙ ap (λ s. record {
        kind = Ray;
        items = with_words u (split system.variables (low_word system edge row (word_at system edge x) s b))
            (split system.variables s) (lin (end_form system.variables edge.actions row) s) ∷ [];
      }) w.1
  raise_words pos_inf h (empty y) e w = absurd w

  outcome_value : lost (z (edge_of system u).from) system.template ≡ false →
      value_at system (transformer system) z u ≡ value_of (end_form system.variables (edge_of system u).actions (row_of system u)).constant
      (outcome_at system z u)
  outcome_value e = transformer_by_lp system z (edge_of system u) (row_of system u) e

  -- where no bound at the source is −∞, the raise of an unknown is read from the outcome of its problem
  pub raise_is_read : lost (z (edge_of system u).from) system.template ≡ false
      → exact_raise fitting system z u ≡ raise_read fitting system z u (outcome_at system z u)
  unfolding raise_at
  raise_is_read e =
      raise_words (value_at system (transformer system) z u) (exact_evidence system z (edge_of system u) (row_of system u))
      (outcome_at system z u) (outcome_value e)
      (evidence_words system z (edge_of system u) (row_of system u) e)
