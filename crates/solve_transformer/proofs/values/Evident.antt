-- The evidence that an outcome of an edge's problem gives.
use Rattle.std.proofs.Common.{◌≡◌, ◌∙◌, ℕ, ◌<◌, false, ℤ, List, length, map, refl, ap, sym, subst}
use Rattle.base_numbers.proofs.vector.Vectors.{get_or-add_vec}
use Rattle.base_numbers.specs.Rational.{ℚ, zero_ℚ, ◌+ℚ◌, ◌≤ℚ◌, ◌<ℚ◌}
use Rattle.base_numbers.specs.Extended.{Ext as Extended, fin}
use Rattle.base_numbers.specs.Vector.{dot, vec_mat}
use Rattle.base_numbers.proofs.rational.Laws.{le_of_eq_ℚ}
use Rattle.flow_edges.specs.declared.edge.Edge.{Edge}
use Rattle.flow_systems.specs.Equations.{Equations, Vector}
use Rattle.flow_systems.specs.declared.trace.Trace.{Trace}
use Rattle.theory_validity.specs.Words.{val, lin, width, guard_forms, start_form, end_form}
use Rattle.theory_validity.specs.Steps.{Runs, end_value}
use Rattle.theory_validity.specs.Certificates.{coefficients, combination, row_side, side, Multipliers, BoundPasses, EmptyPasses}
use Rattle.theory_validity.proofs.words.WordLaws.{val-end_form}
use Rattle.theory_validity.proofs.words.Widths.{end_form_width}
use Rattle.lp_theory.specs.Problem.{Outcome, best, unbounded, empty, mixed, mixed_side, value_at}
use Rattle.lp_theory.specs.Simplex.{lp}
use Rattle.lp_theory.specs.Listed.{at}
use Rattle.lp_theory.specs.Free.{split_problem, unsplit, unsplit_outcome, free_lp, IsFreeOutcome, IsFreeBest, IsFreeUnbounded, IsFreeEmpty}
use Rattle.lp_theory.proofs.FreePrograms.{free_lp_is}
use Rattle.theory_transformers.specs.Limits.{limits_problem, tabulate}
use Rattle.theory_transformers.specs.EdgeProblems.{guard_limits, edge_limits, edge_problem, lost, value_of, transformer, NoneLost}
use Rattle.theory_transformers.specs.Spread.{spread, skip}
use Rattle.theory_transformers.proofs.limits.Products.{length-tabulate, product_is_sum, product-tabulate}
use Rattle.theory_transformers.proofs.edge_problems.EdgePoints.{point_runs, direction_falls}
use Rattle.theory_transformers.proofs.edge_problems.TransformerOf.{none_lost}
use Rattle.theory_transformers.proofs.edge_problems.SplitProblems.{transformer_by_lp, transformer_lost}
use Rattle.theory_transformers.proofs.spread.Spreads.{column_sum_is, side_sum_is, nonneg_for, guard_columns, guard_sides, guard_nonneg}
use Rattle.theory_transformers.proofs.spread.Spreads.{source_columns, source_sides, source_nonneg, spread_length, spread_zero}
use Rattle.solve_composition.specs.declared.value.Value.{Value}
use Rattle.solve_composition.specs.declared.value.Value.TheVariants.{Unreached, Empty, Best, Unbounded}
use Rattle.solve_transformer.specs.Values.{ReadsOutcome, IsValue}
use Rattle.theory_transformers.specs.EdgeProblems.{whole_problem}
use Rattle.solve_composition.specs.Value.{number_of, word_of}
use Rattle.solve_transformer.specs.Meanings.{IsUnboundedEvidence, HasEvidence}
use Rattle.solve_transformer.proofs.transform.Operated.{lost_at}

-- ---- the number
number_is : (n w : ℕ) (c : ℚ) (B : ℕ → Extended) (t : List (List ℤ)) (k : ℕ) (o : Outcome) (v : Value) → ReadsOutcome n w c B t k o v
    → value_of c o ≡ number_of v
number_is n w c B t k (best x q y) (Unreached r) h = absurd h
number_is n w c B t k (best x q y) (Empty rows guards) h = absurd h
number_is n w c B t k (best x q y) (Best value trace rows guards) h = ap fin (sym h.0)
number_is n w c B t k (best x q y) (Unbounded trace direction) h = absurd h
number_is n w c B t k (unbounded x d) (Unreached r) h = absurd h
number_is n w c B t k (unbounded x d) (Empty rows guards) h = absurd h
number_is n w c B t k (unbounded x d) (Best value trace rows guards) h = absurd h
number_is n w c B t k (unbounded x d) (Unbounded trace direction) h = refl
number_is n w c B t k (empty y) (Unreached r) h = absurd h
number_is n w c B t k (empty y) (Empty rows guards) h = refl
number_is n w c B t k (empty y) (Best value trace rows guards) h = absurd h
number_is n w c B t k (empty y) (Unbounded trace direction) h = absurd h

module _ (system : Equations) (z : Vector) (edge : Edge) (row : List ℤ) where
  by_problem : (v : Value) → lost (z edge.from) system.template ≡ false →
      ReadsOutcome system.variables (width system.variables edge.actions) (end_form system.variables edge.actions row).constant
      (z edge.from) system.template (length (guard_forms system.variables edge.actions)) (lp (whole_problem system z edge row)) v →
      transformer system z edge row ≡ number_of v
  by_problem v e h =
      transformer_by_lp system z edge row e
      ∙ number_is system.variables (width system.variables edge.actions) (end_form system.variables edge.actions row).constant (z edge.from)
      system.template (length (guard_forms system.variables edge.actions)) (lp (whole_problem system z edge row)) v h

  -- the number of a value is the transformer at the edge and the row
  pub is_transformer : (v : Value) → IsValue system z edge row v → transformer system z edge row ≡ number_of v
  is_transformer (Unreached r) h = transformer_lost system z edge row (lost_at (z edge.from) system.template r h.within h.is_lost)
  is_transformer (Empty rows guards) h = by_problem (Empty rows guards) h.0 h.1
  is_transformer (Best value trace rows guards) h = by_problem (Best value trace rows guards) h.0 h.1
  is_transformer (Unbounded trace direction) h = by_problem (Unbounded trace direction) h.0 h.1

  -- ---- the multipliers
  mix_is : (y : ℕ → ℚ) (j : ℕ) → mixed (edge_problem system z edge row) y j
      ≡ at (combination system edge (spread (z edge.from) system.template y)
      (tabulate (length (guard_forms system.variables edge.actions)) (skip (z edge.from) system.template y))) j
  unfolding edge_problem limits_problem edge_limits combination
  mix_is y j =
      let n = system.variables in
      let gs = guard_forms n edge.actions in
      let a = vec_mat (spread (z edge.from) system.template y) (coefficients (map (start_form n) system.template)) in
      column_sum_is (edge_limits system z edge) y j ∙ source_columns n (z edge.from) system.template (guard_limits (λ u. u) gs) y j
      ∙ ap (λ s. at a j +ℚ s) (guard_columns gs (skip (z edge.from) system.template y) j)
      ∙ sym (get_or-add_vec a (vec_mat (tabulate (length gs) (skip (z edge.from) system.template y)) (coefficients gs)) j)

  mix_side_is : (y : ℕ → ℚ) → mixed_side (edge_problem system z edge row) y
      ≡ side system z edge (spread (z edge.from) system.template y) (tabulate (length (guard_forms system.variables edge.actions))
      (skip (z edge.from) system.template y))
  unfolding edge_problem limits_problem edge_limits side
  mix_side_is y =
      let n = system.variables in
      let gs = guard_forms n edge.actions in
      side_sum_is (edge_limits system z edge) y ∙ source_sides n (z edge.from) system.template (guard_limits (λ u. u) gs) y
      ∙ ap (λ s. row_side (spread (z edge.from) system.template y) (z edge.from) +ℚ s)
      (guard_sides gs (skip (z edge.from) system.template y))

  multipliers_are : (y : ℕ → ℚ) → ((r : ℕ) → r < (edge_problem system z edge row).rows → zero_ℚ ≤ℚ y r) →
      Multipliers system z edge (spread (z edge.from) system.template y)
      (tabulate (length (guard_forms system.variables edge.actions)) (skip (z edge.from) system.template y))
  unfolding edge_problem limits_problem edge_limits
  multipliers_are y h =
      let n = system.variables in
      let gs = guard_forms n edge.actions in
      let a = source_nonneg n (z edge.from) system.template (guard_limits (λ u. u) gs) y (nonneg_for (edge_limits system z edge) y h) in
      record {
        row_count = spread_length (z edge.from) system.template y;
        guard_count = length-tabulate (length gs) (skip (z edge.from) system.template y);
        rows_nonneg = a.0;
        guards_nonneg = guard_nonneg gs (skip (z edge.from) system.template y) a.1;
        zero_where = λ r l e. spread_zero (z edge.from) system.template y r e;
      }

  best_bounds : (x y : ℕ → ℚ) (v : ℚ) → IsFreeBest (edge_problem system z edge row) x v y →
      BoundPasses system z edge row (fin (v +ℚ (end_form system.variables edge.actions row).constant))
      (spread (z edge.from) system.template y) (tabulate (length (guard_forms system.variables edge.actions))
      (skip (z edge.from) system.template y))
  unfolding edge_problem limits_problem
  best_bounds x y v b = record {
    multipliers = multipliers_are y b.multiplier;
    limit = v +ℚ (end_form system.variables edge.actions row).constant;
    finite = refl;
    same = λ k l. sym (mix_is y k) ∙ b.covers k l;
    small = le_of_eq_ℚ (ap (λ s. s +ℚ (end_form system.variables edge.actions row).constant) (sym (mix_side_is y) ∙ b.bound));
  }

  empty_passes : (y : ℕ → ℚ) → IsFreeEmpty (edge_problem system z edge row) y →
      EmptyPasses system z edge (spread (z edge.from) system.template y)
      (tabulate (length (guard_forms system.variables edge.actions)) (skip (z edge.from) system.template y))
  unfolding edge_problem limits_problem
  empty_passes y e = record {
    multipliers = multipliers_are y e.multiplier;
    same = λ k l. sym (mix_is y k) ∙ e.covers k l;
    negative = subst (λ s. s <ℚ zero_ℚ) (mix_side_is y) e.below;
  }

  -- ---- the traces
  goal_at : (x : ℕ → ℚ) → value_at (edge_problem system z edge row) x ≡ dot (end_form system.variables edge.actions row).coeffs
      (tabulate (width system.variables edge.actions) x)
  unfolding edge_problem limits_problem
  goal_at x =
      product_is_sum (end_form system.variables edge.actions row).coeffs (width system.variables edge.actions) x
      (end_form_width system.variables edge.actions row)
      ∙ sym (product-tabulate (end_form system.variables edge.actions row).coeffs (width system.variables edge.actions) x
      (end_form_width system.variables edge.actions row))

  end_at : (x : ℕ → ℚ) → end_value system edge row (tabulate (width system.variables edge.actions) x)
      ≡ value_at (edge_problem system z edge row) x +ℚ (end_form system.variables edge.actions row).constant
  unfolding end_value val
  end_at x = sym (val-end_form system.variables edge.actions row (tabulate (width system.variables edge.actions) x))
      ∙ ap (λ s. s +ℚ (end_form system.variables edge.actions row).constant) (sym (goal_at x))

  unlimited_by : (x d : ℕ → ℚ) → NoneLost (z edge.from) system.template → IsFreeUnbounded (edge_problem system z edge row) x d
      → (trace direction : Trace) → word_of trace ≡ tabulate (width system.variables edge.actions) x →
      word_of direction ≡ tabulate (width system.variables edge.actions) d → IsUnboundedEvidence system z edge row trace direction
  unfolding lin
  unlimited_by x d none u trace direction e f =
      let falls = direction_falls system z edge row d u.keeps in
      record {
        unlimited = record {
          word = tabulate (width system.variables edge.actions) x;
          runs = point_runs system z edge row x none u.point;
          direction = tabulate (width system.variables edge.actions) d;
          still = falls.1;
          falls = falls.0;
          gains = subst (λ s. zero_ℚ <ℚ s) (goal_at d) u.gains;
        };
        word = sym e;
        along = sym f;
      }

  outcome_evidence : (o : Outcome) → IsFreeOutcome (edge_problem system z edge row) (unsplit_outcome o)
      → NoneLost (z edge.from) system.template → (v : Value) →
      ReadsOutcome system.variables (width system.variables edge.actions) (end_form system.variables edge.actions row).constant
      (z edge.from) system.template (length (guard_forms system.variables edge.actions)) o v → HasEvidence system z edge row v
  outcome_evidence (best x q y) b none (Unreached r) h = absurd h
  outcome_evidence (best x q y) b none (Empty rows guards) h = absurd h
  outcome_evidence (best x q y) b none (Best value trace rows guards) h = record {
    runs = subst (Runs system z edge) (sym h.1.word) (point_runs system z edge row (unsplit x) none b.point);
    reaches = ap (end_value system edge row) h.1.word ∙ end_at (unsplit x)
        ∙ ap (λ s. s +ℚ (end_form system.variables edge.actions row).constant) b.value ∙ sym h.0;
    bounds = subst (λ rs. BoundPasses system z edge row (fin value) rs guards) (sym h.2.of_rows)
        (subst (λ gs. BoundPasses system z edge row (fin value) (spread (z edge.from) system.template y) gs) (sym h.2.of_guards)
        (subst (λ s. BoundPasses system z edge row (fin s) (spread (z edge.from) system.template y)
        (tabulate (length (guard_forms system.variables edge.actions)) (skip (z edge.from) system.template y))) (sym h.0)
        (best_bounds (unsplit x) y q b)));
  }
  outcome_evidence (best x q y) b none (Unbounded trace direction) h = absurd h
  outcome_evidence (unbounded x d) u none (Unreached r) h = absurd h
  outcome_evidence (unbounded x d) u none (Empty rows guards) h = absurd h
  outcome_evidence (unbounded x d) u none (Best value trace rows guards) h = absurd h
  outcome_evidence (unbounded x d) u none (Unbounded trace direction) h =
      unlimited_by (unsplit x) (unsplit d) none u trace direction h.0.word h.1.word
  outcome_evidence (empty y) e none (Unreached r) h = absurd h
  outcome_evidence (empty y) e none (Empty rows guards) h =
      subst (λ rs. EmptyPasses system z edge rs guards) (sym h.of_rows)
      (subst (λ gs. EmptyPasses system z edge (spread (z edge.from) system.template y) gs) (sym h.of_guards) (empty_passes y e))
  outcome_evidence (empty y) e none (Best value trace rows guards) h = absurd h
  outcome_evidence (empty y) e none (Unbounded trace direction) h = absurd h

  free_is : IsFreeOutcome (edge_problem system z edge row) (unsplit_outcome (lp (split_problem (edge_problem system z edge row))))
  unfolding free_lp
  free_is = free_lp_is (edge_problem system z edge row)

  -- a value comes with evidence at the edge and the row
  pub has_evidence : (v : Value) → IsValue system z edge row v → HasEvidence system z edge row v
  has_evidence (Unreached r) h = (h.within, h.is_lost)
  has_evidence (Empty rows guards) h = outcome_evidence (lp (whole_problem system z edge row)) free_is
      (none_lost (z edge.from) system.template h.0) (Empty rows guards) h.1
  has_evidence (Best value trace rows guards) h = outcome_evidence (lp (whole_problem system z edge row)) free_is
      (none_lost (z edge.from) system.template h.0) (Best value trace rows guards) h.1
  has_evidence (Unbounded trace direction) h = outcome_evidence (lp (whole_problem system z edge row)) free_is
      (none_lost (z edge.from) system.template h.0) (Unbounded trace direction) h.1
