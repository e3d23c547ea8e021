-- The evidence that a value shows is what the outcome at the bounds gives.
use Rattle.std.proofs.Common.{◌≡◌, ◌∙◌, ℕ, zero, suc, ◌||◌, Bool, true, false, true≢false, List, [], ◌∷◌, length, refl, sym, ap, ap₂, arith}
use Rattle.std.proofs.Common.{if◌then◌else◌}
use Rattle.std.specs.Prelude.{ℤ}
use Rattle.base_numbers.specs.Rational.{ℚ}
use Rattle.base_numbers.specs.Extended.{Ext, neg_inf, fin, pos_inf, ◌<ᴱ◌}
use Rattle.flow_edges.specs.declared.edge.Edge.{Edge}
use Rattle.flow_systems.specs.Equations.{Equations, Vector}
use Rattle.flow_systems.specs.declared.trace.Trace.{Trace}
use Rattle.theory_validity.specs.Certificates.{Evidence}
use Rattle.theory_validity.specs.Words.{guard_forms}
use Rattle.lp_theory.specs.Problem.{Outcome, best, unbounded, empty}
use Rattle.lp_theory.specs.Simplex.{lp}
use Rattle.theory_transformers.specs.EdgeProblems.{is_lost, lost, whole_problem}
use Rattle.theory_rounds.specs.Made.{lowest_lost, outcome_upper, exact_upper}
use Rattle.solve_composition.specs.declared.value.Value.{Value}
use Rattle.solve_composition.specs.declared.value.Value.TheVariants.{Unreached, Empty, Best, Unbounded}
use Rattle.solve_transformer.specs.Values.{IsLowestLost, ReadsOutcome, IsValue}
use Rattle.solve_offers.specs.Found.{upper_read}

is_lost_at : (v : Ext) → v ≡ neg_inf → is_lost v ≡ true
is_lost_at v e = ap is_lost e

above_not_lost : (v : Ext) → neg_inf <ᴱ v → is_lost v ≡ true → ⊥
above_not_lost neg_inf h e = absurd h
above_not_lost (fin c) h e = true≢false (sym e)
above_not_lost pos_inf h e = true≢false (sym e)

-- the lowest row at −∞ is the one that is found
lowest_is : (bounds : ℕ → Ext) (rows : List (List ℤ)) (r : ℕ) → IsLowestLost bounds (length rows) r
    → (lost bounds rows ≡ true) × (r ≡ lowest_lost bounds rows)
unfolding lost lowest_lost
lowest_is bounds [] r h = absurd (let l = h.within in omega arith)
lowest_is bounds (row ∷ rows) zero h =
    let e = is_lost_at (bounds 0) h.is_lost in (
      ap (λ b. b || lost (λ r. bounds (suc r)) rows) e,
      ap (λ b. if b then 0 else suc (lowest_lost (λ r. bounds (suc r)) rows)) (sym e),
    )
lowest_is bounds (row ∷ rows) (suc r) h =
    by (is_lost (bounds 0)) refl
    (lowest_is (λ k. bounds (suc k)) rows r (record {
      within = (let l = h.within in omega arith);
      is_lost = h.is_lost;
      lowest =
          λ k l. h.lowest (suc k) (omega arith);
    }))
  where
    by : (b : Bool) → is_lost (bounds 0) ≡ b → (lost (λ k. bounds (suc k)) rows ≡ true) × (r ≡ lowest_lost (λ k. bounds (suc k)) rows) →
        ((b || lost (λ k. bounds (suc k)) rows) ≡ true) × (suc r ≡ (if b then 0 else suc (lowest_lost (λ k. bounds (suc k)) rows)))
    by true e rec = absurd (above_not_lost (bounds 0) (h.lowest 0 (omega arith)) e)
    by false e rec = (rec.0, ap suc rec.1)

module _ (system : Equations) (z : Vector) (edge : Edge) (row : List ℤ) where
  -- where no row is lost, it is read from the outcome
  from_outcome : lost (z edge.from) system.template ≡ false → outcome_upper system z edge (lp (whole_problem system z edge row))
      ≡ exact_upper system z edge row
  unfolding exact_upper
  from_outcome e =
      ap (λ b. if b then Evidence.Unreached (lowest_lost (z edge.from) system.template) else outcome_upper system z edge
      (lp (whole_problem system z edge row))) (sym e)

  count : ℕ
  count = length (guard_forms system.variables edge.actions)

  read_empty : (n w : ℕ) (c : ℚ) (o : Outcome) (rows guards : List ℚ) →
      ReadsOutcome n w c (z edge.from) system.template (length (guard_forms system.variables edge.actions)) o (Empty rows guards) →
      Evidence.Empty rows guards ≡ outcome_upper system z edge o
  unfolding outcome_upper
  read_empty n w c (best x v y) rows guards h = absurd h
  read_empty n w c (unbounded x d) rows guards h = absurd h
  read_empty n w c (empty y) rows guards h = ap₂ Evidence.Empty h.of_rows h.of_guards

  read_best : (n w : ℕ) (c : ℚ) (o : Outcome) (value : ℚ) (trace : Trace) (rows guards : List ℚ) →
      ReadsOutcome n w c (z edge.from) system.template (length (guard_forms system.variables edge.actions)) o (Best value trace rows guards)
      → Evidence.Bound rows guards ≡ outcome_upper system z edge o
  unfolding outcome_upper
  read_best n w c (best x v y) value trace rows guards h = ap₂ Evidence.Bound h.2.of_rows h.2.of_guards
  read_best n w c (unbounded x d) value trace rows guards h = absurd h
  read_best n w c (empty y) value trace rows guards h = absurd h

  read_unbounded : (n w : ℕ) (c : ℚ) (o : Outcome) (trace direction : Trace) →
      ReadsOutcome n w c (z edge.from) system.template (length (guard_forms system.variables edge.actions)) o (Unbounded trace direction)
      → Evidence.Unreached 0 ≡ outcome_upper system z edge o
  unfolding outcome_upper
  read_unbounded n w c (best x v y) trace direction h = absurd h
  read_unbounded n w c (unbounded x d) trace direction h = refl
  read_unbounded n w c (empty y) trace direction h = absurd h

  -- the evidence that a value shows
  pub upper_is : (value : Value) → IsValue system z edge row value → upper_read value ≡ exact_upper system z edge row
  unfolding exact_upper
  upper_is (Unreached r) h =
      let l = lowest_is (z edge.from) system.template r h in
      ap Evidence.Unreached l.1
      ∙ ap (λ b. if b then Evidence.Unreached (lowest_lost (z edge.from) system.template) else outcome_upper system z edge
      (lp (whole_problem system z edge row))) (sym l.0)
  upper_is (Empty rows guards) h = read_empty _ _ _ (lp (whole_problem system z edge row)) rows guards h.1 ∙ from_outcome h.0
  upper_is (Best value trace rows guards) h = read_best _ _ _ (lp (whole_problem system z edge row)) value trace rows guards h.1
      ∙ from_outcome h.0
  upper_is (Unbounded trace direction) h = read_unbounded _ _ _ (lp (whole_problem system z edge row)) trace direction h.1
      ∙ from_outcome h.0
