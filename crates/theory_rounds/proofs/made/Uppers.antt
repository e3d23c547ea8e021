-- The evidence that is read from an outcome passes for every number below +∞ that is at least the transformer.
use Rattle.std.proofs.Common.{◌≡◌, ◌∙◌, ℕ, zero, suc, ◌<◌, Bool, true, false, true≢false, ◌||◌, List, [], ◌∷◌, length, map, refl, sym, ap}
use Rattle.std.proofs.Common.{subst, arith, if◌then◌else◌}
use Rattle.std.specs.Prelude.{ℤ}
use Rattle.base_numbers.proofs.vector.Vectors.{get_or-add_vec}
use Rattle.base_numbers.specs.Rational.{ℚ, zero_ℚ, ◌+ℚ◌, ◌≤ℚ◌, ◌<ℚ◌}
use Rattle.base_numbers.specs.Extended.{Ext, neg_inf, fin, pos_inf, ◌≤ᴱ◌, ◌<ᴱ◌}
use Rattle.base_numbers.specs.Vector.{vec_mat}
use Rattle.flow_edges.specs.declared.edge.Edge.{Edge}
use Rattle.flow_systems.specs.Equations.{Equations, Vector}
use Rattle.theory_validity.specs.Words.{guard_forms, start_form, end_form}
use Rattle.theory_validity.specs.Certificates.{Unreached, coefficients, combination, row_side, side, Multipliers, BoundPasses, EmptyPasses}
use Rattle.theory_validity.specs.Certificates.{EvidencePasses}
use Rattle.lp_theory.specs.Problem.{Outcome, best, unbounded, empty, mixed, mixed_side}
use Rattle.lp_theory.specs.Simplex.{lp}
use Rattle.lp_theory.specs.Listed.{at}
use Rattle.lp_theory.specs.Free.{unsplit, unsplit_outcome, free_lp, IsFreeOutcome, IsFreeBest, IsFreeEmpty}
use Rattle.theory_transformers.specs.Limits.{limits_problem}
use Rattle.theory_transformers.specs.EdgeProblems.{guard_limits, edge_limits, edge_problem, is_lost, lost, value_of, transformer}
use Rattle.theory_transformers.specs.Spread.{skip}
use Rattle.theory_transformers.proofs.limits.Products.{length-tabulate}
use Rattle.theory_transformers.proofs.spread.Spreads.{column_sum_is, side_sum_is, nonneg_for, guard_columns, guard_sides, guard_nonneg}
use Rattle.theory_transformers.proofs.spread.Spreads.{source_columns, source_sides, source_nonneg, spread_length, spread_zero}
use Rattle.theory_rounds.specs.Evidence.{outcome_is}
use Rattle.theory_transformers.specs.EdgeProblems.{whole_problem}
use Rattle.theory_rounds.specs.Made.{lowest_lost, row_multipliers, guard_multipliers, outcome_upper, exact_upper}

-- ---- the lowest row at −∞
lowest_lost_within : (bounds : ℕ → Ext) (rows : List (List ℤ)) → lost bounds rows ≡ true → lowest_lost bounds rows < length rows
unfolding lost lowest_lost
lowest_lost_within bounds [] e = absurd (true≢false (sym e))
lowest_lost_within bounds (row ∷ rows) e = by (is_lost (bounds 0)) refl (λ f. lowest_lost_within (λ r. bounds (suc r)) rows f)
  where
    by : (b : Bool) → is_lost (bounds 0) ≡ b → (lost (λ r. bounds (suc r)) rows ≡ true
        → lowest_lost (λ r. bounds (suc r)) rows < length rows) →
        (if b then 0 else suc (lowest_lost (λ r. bounds (suc r)) rows)) < suc (length rows)
    by true f rec = omega arith
    by false f rec = let l = rec (sym (ap (λ b. b || lost (λ r. bounds (suc r)) rows) f) ∙ e) in omega arith

is_neg : (v : Ext) → is_lost v ≡ true → v ≡ neg_inf
is_neg neg_inf e = refl
is_neg (fin c) e = absurd (true≢false (sym e))
is_neg pos_inf e = absurd (true≢false (sym e))

lowest_lost_is : (bounds : ℕ → Ext) (rows : List (List ℤ)) → lost bounds rows ≡ true → bounds (lowest_lost bounds rows) ≡ neg_inf
unfolding lost lowest_lost
lowest_lost_is bounds [] e = absurd (true≢false (sym e))
lowest_lost_is bounds (row ∷ rows) e = by (is_lost (bounds 0)) refl (λ f. lowest_lost_is (λ r. bounds (suc r)) rows f)
  where
    by : (b : Bool) → is_lost (bounds 0) ≡ b → (lost (λ r. bounds (suc r)) rows ≡ true
        → bounds (suc (lowest_lost (λ r. bounds (suc r)) rows)) ≡ neg_inf) →
        bounds (if b then 0 else suc (lowest_lost (λ r. bounds (suc r)) rows)) ≡ neg_inf
    by true f rec = is_neg (bounds 0) f
    by false f rec = rec (sym (ap (λ b. b || lost (λ r. bounds (suc r)) rows) f) ∙ e)

not_neg : (v : Ext) → is_lost v ≡ false → neg_inf <ᴱ v
not_neg neg_inf e = absurd (true≢false e)
not_neg (fin c) e = tt
not_neg pos_inf e = tt

-- no lower one is
pub lowest_lost_first : (bounds : ℕ → Ext) (rows : List (List ℤ)) (k : ℕ) → k < lowest_lost bounds rows → neg_inf <ᴱ bounds k
unfolding lowest_lost
lowest_lost_first bounds [] k l = absurd (omega arith)
lowest_lost_first bounds (row ∷ rows) k l = by (is_lost (bounds 0)) refl k l (λ j. lowest_lost_first (λ r. bounds (suc r)) rows j)
  where
    by : (b : Bool) → is_lost (bounds 0) ≡ b → (k : ℕ) → k < (if b then 0 else suc (lowest_lost (λ r. bounds (suc r)) rows)) →
        ((j : ℕ) → j < lowest_lost (λ r. bounds (suc r)) rows → neg_inf <ᴱ bounds (suc j)) → neg_inf <ᴱ bounds k
    by true f k l rec = absurd (omega arith)
    by false f zero l rec = not_neg (bounds 0) f
    by false f (suc k) l rec = rec k (omega arith)

-- ---- multipliers
module _ (system : Equations) (z : Vector) (edge : Edge) (row : List ℤ) where
  -- a column's mix is the combination's entry
  mix_is : (y : ℕ → ℚ) (j : ℕ) → mixed (edge_problem system z edge row) y j
      ≡ at (combination system edge (row_multipliers system z edge y) (guard_multipliers system z edge y)) j
  unfolding edge_problem limits_problem edge_limits combination
  mix_is y j =
      let n = system.variables in
      let gs = guard_forms n edge.actions in
      let a = vec_mat (row_multipliers system z edge y) (coefficients (map (start_form n) system.template)) in
      column_sum_is (edge_limits system z edge) y j ∙ source_columns n (z edge.from) system.template (guard_limits (λ u. u) gs) y j
      ∙ ap (λ s. at a j +ℚ s) (guard_columns gs (skip (z edge.from) system.template y) j)
      ∙ sym (get_or-add_vec a (vec_mat (guard_multipliers system z edge y) (coefficients gs)) j)

  mix_side_is : (y : ℕ → ℚ) → mixed_side (edge_problem system z edge row) y
      ≡ side system z edge (row_multipliers system z edge y) (guard_multipliers system z edge y)
  unfolding edge_problem limits_problem edge_limits side
  mix_side_is y =
      let gs = guard_forms system.variables edge.actions in
      side_sum_is (edge_limits system z edge) y ∙ source_sides system.variables (z edge.from) system.template (guard_limits (λ u. u) gs) y
      ∙ ap (λ s. row_side (row_multipliers system z edge y) (z edge.from) +ℚ s) (guard_sides gs (skip (z edge.from) system.template y))

  multipliers_are : (y : ℕ → ℚ) → ((r : ℕ) → r < (edge_problem system z edge row).rows → zero_ℚ ≤ℚ y r)
      → Multipliers system z edge (row_multipliers system z edge y) (guard_multipliers system z edge y)
  unfolding edge_problem limits_problem edge_limits
  multipliers_are y h =
      let gs = guard_forms system.variables edge.actions in
      let a = source_nonneg system.variables (z edge.from) system.template (guard_limits (λ u. u) gs) y
      (nonneg_for (edge_limits system z edge) y h) in
      record {
        row_count = spread_length (z edge.from) system.template y;
        guard_count = length-tabulate (length gs) (skip (z edge.from) system.template y);
        rows_nonneg = a.0;
        guards_nonneg = guard_nonneg gs (skip (z edge.from) system.template y) a.1;
        zero_where = λ r l e. spread_zero (z edge.from) system.template y r e;
      }

  best_passes : (x y : ℕ → ℚ) (v limit : ℚ) → IsFreeBest (edge_problem system z edge row) x v y
      → v +ℚ (end_form system.variables edge.actions row).constant ≤ℚ limit →
      BoundPasses system z edge row (fin limit) (row_multipliers system z edge y) (guard_multipliers system z edge y)
  unfolding edge_problem limits_problem
  best_passes x y v limit b h = record {
    multipliers = multipliers_are y b.multiplier;
    limit = limit;
    finite = refl;
    same = λ k l. sym (mix_is y k) ∙ b.covers k l;
    small = subst (λ s. s +ℚ (end_form system.variables edge.actions row).constant ≤ℚ limit) (sym b.bound ∙ mix_side_is y) h;
  }

  empty_passes : (y : ℕ → ℚ) → IsFreeEmpty (edge_problem system z edge row) y
      → EmptyPasses system z edge (row_multipliers system z edge y) (guard_multipliers system z edge y)
  unfolding edge_problem limits_problem
  empty_passes y e = record {
    multipliers = multipliers_are y e.multiplier;
    same = λ k l. sym (mix_is y k) ∙ e.covers k l;
    negative = subst (λ s. s <ℚ zero_ℚ) (mix_side_is y) e.below;
  }

  outcome_passes : (number : Ext) (o : Outcome) → IsFreeOutcome (edge_problem system z edge row) (unsplit_outcome o)
      → value_of (end_form system.variables edge.actions row).constant (unsplit_outcome o) ≤ᴱ number →
      number <ᴱ pos_inf → EvidencePasses system z edge row number (outcome_upper system z edge o)
  unfolding outcome_upper
  outcome_passes neg_inf (best x v y) h i l = absurd i
  outcome_passes (fin c) (best x v y) h i l = best_passes (unsplit x) y v c h i
  outcome_passes pos_inf (best x v y) h i l = absurd l
  outcome_passes neg_inf (unbounded x d) h i l = absurd i
  outcome_passes (fin c) (unbounded x d) h i l = absurd i
  outcome_passes pos_inf (unbounded x d) h i l = absurd l
  outcome_passes number (empty y) h i l = empty_passes y h

  -- the evidence passes for a number below +∞ that the transformer is at most
  pub exact_upper_passes : (number : Ext) → transformer system z edge row ≤ᴱ number → number <ᴱ pos_inf
      → EvidencePasses system z edge row number (exact_upper system z edge row)
  unfolding transformer free_lp exact_upper
  exact_upper_passes number h l = by (lost (z edge.from) system.template) refl h
    where
      by : (b : Bool) → lost (z edge.from) system.template ≡ b → (if b then neg_inf else value_of
          (end_form system.variables edge.actions row).constant (unsplit_outcome (lp (whole_problem system z edge row)))) ≤ᴱ number →
          EvidencePasses system z edge row number (if b then Unreached (lowest_lost (z edge.from) system.template) else outcome_upper system
          z edge (lp (whole_problem system z edge row)))
      by true e i = (lowest_lost_within (z edge.from) system.template e, lowest_lost_is (z edge.from) system.template e)
      by false e i = outcome_passes number (lp (whole_problem system z edge row)) (outcome_is system z edge row) i l
