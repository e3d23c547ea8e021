-- The code's outcome of a problem says the same as the theory's.
use Rattle.std.proofs.Common.{◌≡◌, ◌∙◌, ℕ, suc, ◌+◌, ◌<◌, ℤ, List, [], ◌∷◌, ◌++◌, length, get_or, map, refl, ap, ap₂, sym, subst, arith}
use Rattle.std.proofs.Common.{Some, None}
use Rattle.std.specs.List.{range_with_len}
use Rattle.std.proofs.lemmas.List.{map-id}
use Rattle.base_numbers.specs.Rational.{ℚ, zero_ℚ, ◌+ℚ◌, ◌-ℚ◌}
use Rattle.base_numbers.specs.Extended.{Ext as Extended, neg_inf, fin, pos_inf}
use Rattle.base_fractions.specs.Fits.{Fits, long_limit}
use Rattle.base_fractions.specs.declared.wide.Op.TheVariants.{Add, Sub}
use Rattle.base_fractions.specs.declared.wide.Wide.{Wide}
use Rattle.base_fractions.specs.Operation.{Operation, first_wide, operation_of}
use Rattle.flow_systems.specs.declared.trace.Trace.{Trace}
use Rattle.flow_systems.proofs.Widths.{first_wide_past, first_wide_here}
use Rattle.lp_theory.specs.Problem as lp
use Rattle.lp_theory.specs.Listed.{at}
use Rattle.lp_theory.specs.Free.{unsplit}
use Rattle.theory_transformers.specs.Limits.{Limit, tabulate}
use Rattle.theory_transformers.specs.EdgeProblems.{source_limit, source_limits}
use Rattle.theory_transformers.specs.Spread.{spread_one, spread, skip_one, skip}
use Rattle.theory_transformers.proofs.limits.Products.{tabulate_same}
use Rattle.lp_simplex.specs.declared.outcome.Outcome.{Outcome}
use Rattle.lp_simplex.specs.declared.outcome.Outcome.TheVariants as code
use Rattle.lp_simplex.specs.Outcomes.{IsListed, IsOutcomeOf}
use Rattle.solve_composition.specs.declared.value.Value.{Value}
use Rattle.solve_composition.specs.declared.value.Value.TheVariants.{Unreached, Empty, Best, Unbounded}
use Rattle.solve_transformer.specs.Values.{IsTraceOf, AreMultipliers, ReadsOutcome, entry_operations, reading_operations}
use Rattle.solve_transformer.specs.Readings.{listed_outcome, HasSizes}
use Rattle.solve_composition.proofs.Ranges.{range_map}
use Rattle.solve_transformer.proofs.read.Entries.{difference, tabulate_all}

-- ---- reading
pub multipliers_read : (B : ℕ → Extended) (template : List (List ℤ)) (count first : ℕ) (y : ℕ → ℚ) (rows guards : List ℚ)
    → rows ≡ spread B template y → skip B template y ≡ (λ k. y (first + k)) → guards ≡ map (λ k. y (first + k)) (range_with_len 0 count) →
    AreMultipliers B template count y rows guards
multipliers_read B template count first y rows guards e f g = record {
  of_rows = e;
  of_guards =
      g ∙ tabulate_all (λ k. y (first + k)) count ∙ ap (tabulate count) (sym f);
}

-- a last sum that does not fit is the first wide operation
pub sum_wide : (v c : ℚ) (os : List Operation) (w : Wide ℚ) → (¬ (Fits long_limit (v +ℚ c)))
    × (w ≡ record { op = Add; left = v; right = c }) → first_wide long_limit (record { op = Add; left = v; right = c } ∷ os)
    ≡ Some (operation_of (λ q. q) w)
sum_wide v c os w h = first_wide_here long_limit (record { op = Add; left = v; right = c }) os h.0
    ∙ ap (λ (x : Wide ℚ). Some (operation_of (λ q. q) x)) (sym h.1)

-- where the last sum fits, it has no wide operation
pub sum_fits : (v c r : ℚ) → (r ≡ v +ℚ c) × Fits long_limit r → first_wide long_limit (record { op = Add; left = v; right = c } ∷ []) ≡ None
sum_fits v c r h = first_wide_past long_limit (record { op = Add; left = v; right = c }) [] (subst (Fits long_limit) h.0 h.1)

-- ---- numbers that are the same where they count
listed_at : (n : ℕ) (f : ℕ → ℚ) (xs : List ℚ) → IsListed (λ (q : ℚ). q) n f xs → (j : ℕ) → j < n → at xs j ≡ f j
listed_at n f xs h j l = ap (λ ys. get_or ys j zero_ℚ) (sym (map-id xs)) ∙ h.each j l

module _ (w : ℕ) (x x' : ℕ → ℚ) (same : (j : ℕ) → j < w + w → x j ≡ x' j) where
  unsplit_same : (j : ℕ) → j < w → unsplit x j ≡ unsplit x' j
  unsplit_same j l = ap₂ (λ a b. a -ℚ b) (same (j + j) (omega (arith, l))) (same (suc (j + j)) (omega (arith, l)))

  trace_same : (n : ℕ) (trace : Trace) → IsTraceOf n w (unsplit x) trace → IsTraceOf n w (unsplit x') trace
  trace_same n trace h = record { size = h.size; word = h.word ∙ tabulate_same w (unsplit x) (unsplit x') unsplit_same }

  entries_same : entry_operations w x ≡ entry_operations w x'
  entries_same =
      range_map (difference x) (difference x') 0 w
      (λ j l. ap₂ (λ a b. let o : Operation = record { op = Sub; left = a; right = b } in o) (same (j + j) (omega (arith, l)))
      (same (suc (j + j)) (omega (arith, l))))

-- the rows of the problem that a source has
abbrev counted : (ℕ → Extended) → List (List ℤ) → ℕ
counted B template = length (source_limits (λ r u. u) 0 B template)

spread_one_same : (b : Extended) (row : List ℤ) (rest : List Limit) (m : ℕ) (y y' : ℕ → ℚ) (f : (ℕ → ℚ) → List ℚ)
    → ((k : ℕ) → k < length (source_limit (λ u. u) 0 b row rest) + m → y k ≡ y' k) →
    ((z z' : ℕ → ℚ) → ((k : ℕ) → k < length rest + m → z k ≡ z' k) → f z ≡ f z') → spread_one b y f ≡ spread_one b y' f
unfolding spread_one source_limit
spread_one_same neg_inf row rest m y y' f h g = ap (λ ys. zero_ℚ ∷ ys) (g y y' h)
spread_one_same (fin c) row rest m y y' f h g = ap₂ (λ q ys. q ∷ ys) (h 0 (omega arith))
    (g (λ k. y (suc k)) (λ k. y' (suc k)) (λ k l. h (suc k) (omega (arith, l))))
spread_one_same pos_inf row rest m y y' f h g = ap (λ ys. zero_ℚ ∷ ys) (g y y' h)

spread_same : (B : ℕ → Extended) (template : List (List ℤ)) (m : ℕ) (y y' : ℕ → ℚ) → ((k : ℕ) → k < counted B template + m → y k ≡ y' k)
    → spread B template y ≡ spread B template y'
unfolding spread source_limits
spread_same B [] m y y' h = refl
spread_same B (row ∷ rows) m y y' h =
    spread_one_same (B 0) row (source_limits (λ r u. u) 0 (λ r. B (suc r)) rows) m y y' (spread (λ r. B (suc r)) rows) h
    (λ z z' g. spread_same (λ r. B (suc r)) rows m z z' g)

skip_one_same : (b : Extended) (row : List ℤ) (rest : List Limit) (m j : ℕ) (y y' : ℕ → ℚ) (f : (ℕ → ℚ) → (ℕ → ℚ))
    → ((k : ℕ) → k < length (source_limit (λ u. u) 0 b row rest) + m → y k ≡ y' k) →
    ((z z' : ℕ → ℚ) → ((k : ℕ) → k < length rest + m → z k ≡ z' k) → f z j ≡ f z' j) → skip_one b y f j ≡ skip_one b y' f j
unfolding skip_one source_limit
skip_one_same neg_inf row rest m j y y' f h g = g y y' h
skip_one_same (fin c) row rest m j y y' f h g = g (λ k. y (suc k)) (λ k. y' (suc k)) (λ k l. h (suc k) (omega (arith, l)))
skip_one_same pos_inf row rest m j y y' f h g = g y y' h

skip_same : (B : ℕ → Extended) (template : List (List ℤ)) (m : ℕ) (y y' : ℕ → ℚ) → ((k : ℕ) → k < counted B template + m → y k ≡ y' k)
    → (j : ℕ) → j < m → skip B template y j ≡ skip B template y' j
unfolding skip source_limits
skip_same B [] m y y' h j l = h j (omega (arith, l))
skip_same B (row ∷ rows) m y y' h j l =
    skip_one_same (B 0) row (source_limits (λ r u. u) 0 (λ r. B (suc r)) rows) m j y y' (skip (λ r. B (suc r)) rows) h
    (λ z z' g. skip_same (λ r. B (suc r)) rows m z z' g j l)

multipliers_same : (B : ℕ → Extended) (template : List (List ℤ)) (count : ℕ) (y y' : ℕ → ℚ) (rows guards : List ℚ)
    → ((k : ℕ) → k < counted B template + count → y k ≡ y' k) → AreMultipliers B template count y rows guards
    → AreMultipliers B template count y' rows guards
multipliers_same B template count y y' rows guards same h = record {
  of_rows = h.of_rows ∙ spread_same B template count y y' same;
  of_guards = h.of_guards ∙ tabulate_same count (skip B template y) (skip B template y') (skip_same B template count y y' same);
}

-- ---- the outcome
module _ (P : lp.Problem) (n w : ℕ) (c : ℚ) (B : ℕ → Extended) (template : List (List ℤ)) (count : ℕ)
    (s : HasSizes P w B template count) where
  column_of : (f : ℕ → ℚ) (xs : List ℚ) → IsListed (λ (q : ℚ). q) P.cols f xs → (j : ℕ) → j < w + w → at xs j ≡ f j
  column_of f xs h j l = listed_at P.cols f xs h j (subst (λ m. j < m) (sym s.cols) l)

  row_of : (f : ℕ → ℚ) (xs : List ℚ) → IsListed (λ (q : ℚ). q) P.rows f xs → (k : ℕ) → k < counted B template + count → at xs k ≡ f k
  row_of f xs h k l = listed_at P.rows f xs h k (subst (λ m. k < m) (sym s.rows) l)

  -- the values that it reads as
  pub reads_same : (o : lp.Outcome) (outcome : Outcome ℚ) → IsOutcomeOf (λ (q : ℚ). q) P o outcome → (v : Value)
      → ReadsOutcome n w c B template count (listed_outcome outcome) v → ReadsOutcome n w c B template count o v
  reads_same (lp.best x v y) (code.Best point value multipliers) h (Unreached r) g = absurd g
  reads_same (lp.best x v y) (code.Best point value multipliers) h (Empty rows guards) g = absurd g
  reads_same (lp.best x v y) (code.Best point value multipliers) h (Best q trace rows guards) g = (
    g.0 ∙ ap (λ a. a +ℚ c) h.1,
    trace_same w (at point.items) x (column_of x point.items h.0) n trace g.1,
    multipliers_same B template count (at multipliers.items) y rows guards (row_of y multipliers.items h.2) g.2,
  )
  reads_same (lp.best x v y) (code.Best point value multipliers) h (Unbounded trace direction) g = absurd g
  reads_same (lp.best x v y) (code.Unbounded point ray) h u g = absurd h
  reads_same (lp.best x v y) (code.Empty multipliers) h u g = absurd h
  reads_same (lp.unbounded x d) (code.Best point value multipliers) h u g = absurd h
  reads_same (lp.unbounded x d) (code.Unbounded point ray) h (Unreached r) g = absurd g
  reads_same (lp.unbounded x d) (code.Unbounded point ray) h (Empty rows guards) g = absurd g
  reads_same (lp.unbounded x d) (code.Unbounded point ray) h (Best q trace rows guards) g = absurd g
  reads_same (lp.unbounded x d) (code.Unbounded point ray) h (Unbounded trace direction) g = (
    trace_same w (at point.items) x (column_of x point.items h.0) n trace g.0,
    trace_same w (at ray.items) d (column_of d ray.items h.1) n direction g.1,
  )
  reads_same (lp.unbounded x d) (code.Empty multipliers) h u g = absurd h
  reads_same (lp.empty y) (code.Best point value multipliers) h u g = absurd h
  reads_same (lp.empty y) (code.Unbounded point ray) h u g = absurd h
  reads_same (lp.empty y) (code.Empty multipliers) h (Unreached r) g = absurd g
  reads_same (lp.empty y) (code.Empty multipliers) h (Empty rows guards) g =
      multipliers_same B template count (at multipliers.items) y rows guards (row_of y multipliers.items h) g
  reads_same (lp.empty y) (code.Empty multipliers) h (Best q trace rows guards) g = absurd g
  reads_same (lp.empty y) (code.Empty multipliers) h (Unbounded trace direction) g = absurd g

  -- and the operations of reading it
  pub operations_same : (o : lp.Outcome) (outcome : Outcome ℚ) → IsOutcomeOf (λ (q : ℚ). q) P o outcome
      → reading_operations w c (listed_outcome outcome) ≡ reading_operations w c o
  operations_same (lp.best x v y) (code.Best point value multipliers) h =
      ap₂ (λ q os. (let o : Operation = record { op = Add; left = q; right = c } in o) ∷ os) h.1
      (entries_same w (at point.items) x (column_of x point.items h.0))
  operations_same (lp.best x v y) (code.Unbounded point ray) h = absurd h
  operations_same (lp.best x v y) (code.Empty multipliers) h = absurd h
  operations_same (lp.unbounded x d) (code.Best point value multipliers) h = absurd h
  operations_same (lp.unbounded x d) (code.Unbounded point ray) h =
      ap₂ (λ a b. a ++ b) (entries_same w (at point.items) x (column_of x point.items h.0))
      (entries_same w (at ray.items) d (column_of d ray.items h.1))
  operations_same (lp.unbounded x d) (code.Empty multipliers) h = absurd h
  operations_same (lp.empty y) (code.Best point value multipliers) h = absurd h
  operations_same (lp.empty y) (code.Unbounded point ray) h = absurd h
  operations_same (lp.empty y) (code.Empty multipliers) h = refl
