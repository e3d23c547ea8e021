-- From one turn of a phase's loop to the next, and to its end.
use Rattle.std.proofs.Common.{◌≡◌, ◌≢◌, ℕ, suc, ◌+◌, ◌<◌, ◌≤◌, ⊎_elim, Bool, true, false, cond, min, ℤ}
use Rattle.std.proofs.Common.{Some, None, ap, sym, ◌∙◌, subst, subst₂, arith, true≢false}
use Rattle.std.proofs.lemmas.Bool.{cases_lt, ne_eqb, lt-ltb, le-ltb}
use Rattle.base_numbers.specs.Rational.{ℚ}
use Rattle.lp_theory.specs.Problem as lp
use Rattle.lp_theory.specs.Dictionary.{pivot}
use Rattle.lp_theory.specs.Bland.{ray, choose, is_stop, stops}
use Rattle.lp_theory.specs.Simplex.{names}
use Rattle.lp_theory.specs.Table.{Table, Agree, pivot_table}
use Rattle.lp_theory.specs.Run.{phase_dict, phase_table, IsPhase, phase_of}
use Rattle.lp_theory.proofs.Pivots.{pivot_leaves}
use Rattle.lp_theory.proofs.run.Agrees.{agree_trans}
use Rattle.lp_theory.proofs.search.PhasePlaces.{pivots_left, pivots_fall}
use Rattle.lp_theory.proofs.search.Steps.{enters_free, leaves_basic}
use Rattle.lp_theory.proofs.search.Programs.{after-zero}
use Rattle.lp_theory.proofs.run.Phases.{phase_good}
use Rattle.lp_dictionary.specs.Build.{width_of}
use Rattle.base_fractions.specs.Operation.{operation_of}
use Rattle.lp_simplex.specs.declared.phase.End.{End}
use Rattle.lp_simplex.specs.declared.phase.End.TheVariants.{AtBest, AtRay, Left}
use Rattle.lp_simplex.specs.declared.step.Step.{Step}
use Rattle.lp_simplex.specs.declared.step.Step.TheVariants.{Optimal, Ray, Pivot}
use Rattle.lp_simplex.specs.declared.outcome.SolveFault.{SolveFault}
use Rattle.lp_simplex.specs.declared.outcome.SolveFault.TheVariants.{Wide, NoMemory}
use Rattle.lp_simplex.specs.Operations.{first_refused, step_operations, pivot_of_phase, phase_operations, whole_phase}
use Rattle.lp_simplex.specs.Operations.{capped}
use Rattle.lp_simplex.specs.Choices.{EntersAt, LeavesOf, PivotMade, StepIs, StepRefused}
use Rattle.lp_simplex.specs.Answers.{RefusesRun, BeginsPhase, EndOf, EndsPhase}
use Rattle.lp_simplex.proofs.operations.Numbering.{numbered_none, numbered_some, run_fits_more, run_wide_at, run_fits_none}
use Rattle.lp_simplex.proofs.operations.PhaseSteps.{enters_in, leaves_in, optimal_in, ray_in, pivot_in, dict_in, stays_in, goes_in}
use Rattle.lp_simplex.proofs.operations.PhaseSteps.{wide_in, fits_in}
use Rattle.lp_simplex.proofs.phase.PhaseLoops.{Stands}

capped_below : (k : ℕ) → k < 4294967295 → capped k ≡ k
capped_below k l = ap (λ b. cond b k 4294967295) (lt-ltb k 4294967295 l)

capped_above : (k : ℕ) → 4294967295 ≤ k → capped k ≡ 4294967295
capped_above k l = ap (λ b. cond b k 4294967295) (le-ltb k 4294967295 l)

-- one more pivot, in capped numbers
pub capped_next : (k p q : ℕ) → p ≡ capped k → q ≡ min (p + 1) 4294967295 → q ≡ capped (k + 1)
capped_next k p q e f = ⊎_elim
    (λ l. let a = capped_below k l in ⊎_elim
    (λ m. let b = capped_below (k + 1) m in let c : min (p + 1) 4294967295 ≡ k + 1 = omega (arith, e, a, m) in f ∙ c ∙ sym b)
    (λ m. let b = capped_above (k + 1) m in let c : min (p + 1) 4294967295 ≡ 4294967295 = omega (arith, e, a, m, l) in f ∙ c ∙ sym b)
    (cases_lt (k + 1) 4294967295))
    (λ l. let a = capped_above k l in let b = capped_above (k + 1) (omega (arith, l)) in
    let c : min (p + 1) 4294967295 ≡ 4294967295 = omega (arith, e, a) in f ∙ c ∙ sym b)
    (cases_lt k 4294967295)

module _ (L : ℤ) (P : lp.Problem) (aux : Bool) (h : IsPhase (names P) (phase_of P aux)) (T : Table) (pivots : ℕ)
    (s : Stands L P aux T pivots) where
  -- a phase that stops is at its end
  last_at : stops (phase_of P aux).goal (names P) (phase_dict (names P) (phase_of P aux) s.j) ≡ true → s.j ≡ (phase_of P aux).last
  last_at e = ⊎_elim (λ l. absurd (true≢false (sym e ∙ (h.goes_on s.j l).0))) (λ l. let b = s.below in omega (arith, l, b))
      (cases_lt s.j (phase_of P aux).last)

  -- one that goes on is not
  goes_at : stops (phase_of P aux).goal (names P) (phase_dict (names P) (phase_of P aux) s.j) ≡ false → s.j < (phase_of P aux).last
  goes_at e = ⊎_elim (λ l. l) (λ l. absurd (let b = s.below in over (omega (arith, l, b)))) (cases_lt s.j (phase_of P aux).last)
    where
      over : s.j ≡ (phase_of P aux).last → ⊥
      over q = ⊎_elim
          (λ t. true≢false (sym t ∙ ap (λ k. stops (phase_of P aux).goal (names P) (phase_dict (names P) (phase_of P aux) k)) (sym q) ∙ e))
          (λ f. true≢false (sym s.basic ∙ ap (λ k. (phase_dict (names P) (phase_of P aux) k).basic 0) q ∙ f))
          h.ends

  table_at : (U : Table) → Agree T U → s.j ≡ (phase_of P aux).last → Agree (phase_table (names P) (phase_of P aux) (phase_of P aux).last) U
  table_at U a e = subst (λ k. Agree (phase_table (names P) (phase_of P aux) k) U) e
      (agree_trans (phase_table (names P) (phase_of P aux) s.j) T U s.table a)

  goal_at : (U : Table) → Agree T U → U.row_name U.rows ≡ (phase_of P aux).goal
  goal_at U a = ap U.row_name a.rows ∙ a.row_name T.rows (let g = s.goals in omega (arith, g)) ∙ s.goal

  -- the table stands at the end where the phase has come there
  ends_at : (U : Table) → Agree T U → s.j ≡ (phase_of P aux).last → (end : End) → EndOf (names P) (phase_of P aux) U end
      → EndsPhase L P aux U end pivots
  ends_at U a q end why = record {
    table = table_at U a q;
    count = s.count ∙ ap (λ k. capped ((phase_of P aux).made + k)) q;
    fits = ap (λ k. first_refused L (phase_operations (names P) (phase_of P aux) k)) (sym q) ∙ s.fits;
    rows = a.rows ∙ s.rows;
    goals = let g = s.goals in let b = a.goals in omega (arith, g, b);
    width = a.width ∙ s.width;
    goal = goal_at U a;
    why = why;
  }

  -- no column enters
  ends_best : (U : Table) → Agree T U → EntersAt T T.rows T.width None → EndsPhase L P aux U AtBest pivots
  ends_best U a e =
      let c = optimal_in (names P) (phase_of P aux) h s.j T s.table s.goal s.goals e in
      let q = last_at (ap is_stop c) in
      ends_at U a q AtBest (
        ap (λ k. choose (phase_of P aux).goal (names P) (phase_dict (names P) (phase_of P aux) k)) (sym q) ∙ c,
        ap (λ k. (phase_dict (names P) (phase_of P aux) k).basic 0) (sym q) ∙ s.basic,
      )

  -- no row leaves
  ends_ray : (U : Table) (c : ℕ) → Agree T U → EntersAt T T.rows T.width (Some c) → LeavesOf T c T.rows None
      → EndsPhase L P aux U (AtRay c) pivots
  ends_ray U c a e l =
      let r = ray_in (names P) (phase_of P aux) h s.j T s.table s.goal s.goals c e l in
      let q = last_at (ap is_stop r) in
      ends_at U a q (AtRay c) (
        (let b = a.width in let w = e.0 in omega (arith, b, w)),
        ap (λ k. choose (phase_of P aux).goal (names P) (phase_dict (names P) (phase_of P aux) k)) (sym q) ∙ r
            ∙ ap ray (sym (a.col_name c e.0)),
        ap (λ k. (phase_dict (names P) (phase_of P aux) k).basic 0) (sym q) ∙ s.basic,
      )

  -- a step is refused
  pub refuses : {F : Type 0} (m : F → ℚ) (number : ℕ) (e : SolveFault F) → number ≡ capped ((phase_of P aux).made + s.j + 1)
      → StepRefused m L T T.rows T.width number e → RefusesRun m L (whole_phase P (phase_of P aux)) e
  unfolding phase_operations
  refuses m number (Wide pivot wide) c r =
      let w = wide_in (names P) (phase_of P aux) h s.j T s.table s.goal s.goals L (operation_of m wide) r.1 in
      let k : (phase_of P aux).made + s.j + 1 ≡ suc ((phase_of P aux).made + s.j) = omega arith in (
        suc ((phase_of P aux).made + s.j),
        r.0 ∙ c ∙ ap capped k,
        run_wide_at L s.j (phase_of P aux).last (pivot_of_phase (names P) (phase_of P aux))
            (record { pivot = suc ((phase_of P aux).made + s.j); operation = operation_of m wide }) (goes_at w.0) s.fits
            (numbered_some L (suc ((phase_of P aux).made + s.j)) (step_operations (phase_table (names P) (phase_of P aux) s.j)
            (choose (phase_of P aux).goal (names P) (phase_dict (names P) (phase_of P aux) s.j))) (operation_of m wide) w.1),
      )
  refuses m number NoMemory c r = tt

  module _ (U : Table) (name : ℕ) (p : PivotMade L T U T.rows T.width name) where
    made_below : s.j < (phase_of P aux).last
    made_below = goes_at (goes_in (names P) (phase_of P aux) h s.j T s.table s.goal s.goals p.col p.row p.enters p.leaves)

    made_table : Agree (phase_table (names P) (phase_of P aux) (s.j + 1)) U
    made_table = pivot_in (names P) (phase_of P aux) h s.j T s.table s.goal s.goals p.col p.row p.enters p.leaves U p.table

    made_fits : first_refused L (phase_operations (names P) (phase_of P aux) (s.j + 1)) ≡ None
    unfolding phase_operations
    made_fits = run_fits_more L s.j (pivot_of_phase (names P) (phase_of P aux)) s.fits
        (numbered_none L (suc ((phase_of P aux).made + s.j)) (step_operations (phase_table (names P) (phase_of P aux) s.j)
        (choose (phase_of P aux).goal (names P) (phase_dict (names P) (phase_of P aux) s.j)))
        (fits_in (names P) (phase_of P aux) h s.j T s.table s.goal s.goals L p.col p.row p.enters p.leaves p.fits))

    made_rows : U.rows ≡ P.rows
    unfolding pivot_table
    made_rows = p.table.rows ∙ s.rows

    made_goals : 0 < U.goals
    unfolding pivot_table
    made_goals = let g = s.goals in let b = p.table.goals in omega (arith, g, b)

    made_width : U.width ≡ width_of aux P.cols
    unfolding pivot_table
    made_width = p.table.width ∙ s.width

    made_goal : U.row_name U.rows ≡ (phase_of P aux).goal
    unfolding pivot_table
    made_goal =
        ap U.row_name p.table.rows ∙ p.table.row_name T.rows (let g = s.goals in omega (arith, g))
        ∙ ap (λ b. cond b (T.col_name p.col) (T.row_name T.rows)) (ne_eqb T.rows p.row (λ e. let l = p.leaves.row in omega (arith, e, l)))
        ∙ s.goal

    count_next : (number : ℕ) → number ≡ min (pivots + 1) 4294967295 → number ≡ capped ((phase_of P aux).made + (s.j + 1))
    count_next number e = capped_next ((phase_of P aux).made + s.j) pivots number s.count e
        ∙ ap capped (let k : (phase_of P aux).made + s.j + 1 ≡ (phase_of P aux).made + (s.j + 1) = omega arith in k)

    -- the loop goes on
    stands_next : (number : ℕ) → number ≡ min (pivots + 1) 4294967295 → name ≢ 0 → Stands L P aux U number
    stands_next number e z = record {
      j = s.j + 1;
      below = let l = made_below in omega (arith, l);
      table = made_table;
      count = count_next number e;
      fits = made_fits;
      basic = stays_in (names P) (phase_of P aux) h s.j T s.table s.goal s.goals p.col p.row p.enters p.leaves (λ f. z (p.named ∙ f))
          s.basic;
      rows = made_rows;
      goals = made_goals;
      width = made_width;
      goal = made_goal;
    }

    -- with fewer pivots left
    stands_less : pivots_left (names P) (phase_of P aux) U < pivots_left (names P) (phase_of P aux) T
    stands_less = pivots_fall (names P) (phase_of P aux) h s.j T U made_below s.table made_table

    left_basic : name ≡ 0 → (phase_dict (names P) (phase_of P aux) (s.j + 1)).basic 0 ≡ false
    left_basic z =
        let D = phase_dict (names P) (phase_of P aux) s.j in
        let form = (phase_good (names P) (phase_of P aux) h s.j).form in
        let e = enters_in (names P) (phase_of P aux) h s.j T s.table s.goal s.goals p.col p.enters in
        let l = leaves_in (names P) (phase_of P aux) h s.j T s.table s.goal s.goals p.col p.row p.enters.0 p.leaves in
        let d : T.row_name p.row ≢ T.col_name p.col = λ q. true≢false (sym
        (leaves_basic (names P) (phase_dict (names P) (phase_of P aux) s.j) form (T.col_name p.col) (T.row_name p.row) l.falls)
        ∙ ap (phase_dict (names P) (phase_of P aux) s.j).basic q ∙ enters_free (phase_of P aux).goal (names P)
        (phase_dict (names P) (phase_of P aux) s.j) form (T.col_name p.col) e.gains) in
        ap (λ E. E.basic 0) (dict_in (names P) (phase_of P aux) h s.j T s.table s.goal s.goals p.col p.row p.enters p.leaves)
        ∙ subst (λ q. (pivot (phase_dict (names P) (phase_of P aux) s.j) (T.row_name p.row) (T.col_name p.col)).basic q ≡ false)
        (sym p.named ∙ z) (pivot_leaves (phase_dict (names P) (phase_of P aux) s.j) (T.row_name p.row) (T.col_name p.col) d)

    -- the auxiliary variable has left
    ends_left : (number : ℕ) → number ≡ min (pivots + 1) 4294967295 → name ≡ 0 → EndsPhase L P aux U Left number
    ends_left number e z =
        let f = left_basic z in
        let q : s.j + 1 ≡ (phase_of P aux).last = ⊎_elim (λ l. absurd (true≢false (sym (h.goes_on (s.j + 1) l).1 ∙ f)))
        (λ l. let b = made_below in omega (arith, l, b)) (cases_lt (s.j + 1) (phase_of P aux).last) in
        record {
          table = subst (λ k. Agree (phase_table (names P) (phase_of P aux) k) U) q made_table;
          count = count_next number e ∙ ap (λ k. capped ((phase_of P aux).made + k)) q;
          fits = ap (λ k. first_refused L (phase_operations (names P) (phase_of P aux) k)) (sym q) ∙ made_fits;
          rows = made_rows;
          goals = made_goals;
          width = made_width;
          goal = made_goal;
          why = ap (λ k. (phase_dict (names P) (phase_of P aux) k).basic 0) (sym q) ∙ f;
        }

  -- ---- a step that is made with as many rows and columns as the phase has
  module _ (U : Table) {rows width : ℕ} (e : rows ≡ P.rows) (f : width ≡ width_of aux P.cols) {made : Step}
      (m : StepIs L T U rows width made) where
    here : (step : Step) → made ≡ step → StepIs L T U T.rows T.width step
    here step is = subst (StepIs L T U T.rows T.width) is (subst₂ (λ x y. StepIs L T U x y made) (e ∙ sym s.rows) (f ∙ sym s.width) m)

    -- no column enters
    pub made_best : made ≡ Optimal → EndsPhase L P aux U AtBest pivots
    made_best is = let b = here Optimal is in ends_best U b.0 b.1

    -- no row leaves
    pub made_ray : (c : ℕ) → made ≡ Ray c → EndsPhase L P aux U (AtRay c) pivots
    made_ray c is = let b = here (Ray c) is in ends_ray U c b.0 b.1 b.2

    module _ (name : ℕ) (is : made ≡ Pivot name) where
      -- the loop goes on
      pub made_next : (number : ℕ) → number ≡ min (pivots + 1) 4294967295 → name ≢ 0 → Stands L P aux U number
      made_next number n z = stands_next U name (here (Pivot name) is) number n z

      -- with fewer pivots left
      pub made_less : pivots_left (names P) (phase_of P aux) U < pivots_left (names P) (phase_of P aux) T
      made_less = stands_less U name (here (Pivot name) is)

      -- the auxiliary variable has left
      pub made_left : (number : ℕ) → number ≡ min (pivots + 1) 4294967295 → name ≡ 0 → EndsPhase L P aux U Left number
      made_left number n z = ends_left U name (here (Pivot name) is) number n z

-- where the loop begins
pub stands_first : (L : ℤ) (P : lp.Problem) (aux : Bool) (made : ℕ) (T : Table) → BeginsPhase P aux made T → Stands L P aux T made
unfolding phase_operations
stands_first L P aux made T b = record {
  j = 0;
  below = omega arith;
  table = b.table;
  count = b.count ∙ ap capped (let k : (phase_of P aux).made ≡ (phase_of P aux).made + 0 = omega arith in k);
  fits = run_fits_none L (pivot_of_phase (names P) (phase_of P aux));
  basic = ap (λ E. E.basic 0) (after-zero (phase_of P aux).goal (names P) (phase_of P aux).start) ∙ b.phase.begins;
  rows = b.rows;
  goals = b.goals;
  width = b.width;
  goal = b.goal;
}
