-- What the ends of the phases give.
use Rattle.std.proofs.Common.{◌≡◌, ℕ, ◌<◌, Bool, true, false, ℤ, List, ◌++◌, Some, None, refl}
use Rattle.std.proofs.Common.{ap, sym, ◌∙◌, subst, subst₂, arith}
use Rattle.base_numbers.specs.Rational.{ℚ, neg_ℚ}
use Rattle.lp_theory.specs.Problem as lp
use Rattle.lp_theory.specs.Dictionary.{IsDict}
use Rattle.lp_theory.specs.Search.{none, found}
use Rattle.lp_theory.specs.Bland.{choose, after, stop_index, index_of}
use Rattle.lp_theory.specs.Simplex.{names, main_row, aux_row, entered, lowest, phase_one_index, last_of, last_of_one}
use Rattle.lp_theory.specs.Simplex.{multipliers, point_of, ray_of, outcome_at, after_one, phase_one, phase_two, lp_from, lp as lp_of}
use Rattle.lp_theory.specs.Table.{Table, Shows, Agree, pivot_table}
use Rattle.lp_theory.specs.FirstTable.{first_table, plain_table}
use Rattle.lp_theory.specs.HasRows.{HasRows}
use Rattle.lp_theory.specs.Run.{Phase, phase_dict, phase_table, aux_phase, main_start, main_phase, phase_of}
use Rattle.lp_theory.proofs.first_table.FirstTables.{shows_agree}
use Rattle.lp_theory.proofs.run.HasRows.{has_agree, has_phase}
use Rattle.lp_theory.proofs.run.Agrees.{agree_trans, agree_pivot}
use Rattle.lp_theory.proofs.run.Phases.{phase_shows, phase_good}
use Rattle.lp_dictionary.specs.Exact.{start_from, start_table}
use Rattle.base_fractions.specs.Operation.{first_wide, operation_of}
use Rattle.lp_dictionary.specs.PivotOperations.{pivot_operations}
use Rattle.lp_simplex.specs.declared.outcome.Outcome.{Outcome}
use Rattle.lp_simplex.specs.declared.outcome.Outcome.TheVariants.{Best, Unbounded, Empty}
use Rattle.lp_simplex.specs.declared.outcome.SolveFault.{SolveFault}
use Rattle.lp_simplex.specs.declared.outcome.SolveFault.TheVariants.{Wide, NoMemory}
use Rattle.lp_simplex.specs.declared.phase.End.{End}
use Rattle.lp_simplex.specs.declared.phase.End.TheVariants.{AtBest, AtRay, Left}
use Rattle.lp_simplex.specs.Operations.{Numbered, numbered, first_refused, whole_phase, then_main, run_from, run_operations}
use Rattle.lp_simplex.specs.Placed.{IsPlaced}
use Rattle.lp_simplex.specs.Outcomes.{IsListed, IsOutcomeOf}
use Rattle.lp_simplex.specs.Answers.{RefusesRun, BeginsPhase, EndOf, EndsPhase, EntersRefused, IsDirection, ReadsBest, ReadsRay}
use Rattle.lp_simplex.specs.Answers.{main_outcome}
use Rattle.lp_simplex.proofs.operations.AgreeOperations.{agree_pivots}
use Rattle.lp_simplex.proofs.operations.Numbering.{numbered_none, numbered_some, refused_later, refused_sooner}
use Rattle.lp_simplex.proofs.placed.Readings.{point_read, ray_read, multipliers_read}

module _ (L : ℤ) (P : lp.Problem) (aux : Bool) (made : ℕ) (T₀ T : Table) (end : End) (pivots : ℕ) (b : BeginsPhase P aux made T₀)
    (e : EndsPhase L P aux T end pivots) where
  -- the table at the end of a phase shows the last dictionary of the phase
  pub shown_end : Shows (names P) T (phase_dict (names P) (phase_of P aux) (phase_of P aux).last)
  shown_end = shows_agree (names P) (phase_table (names P) (phase_of P aux) (phase_of P aux).last) T
      (phase_dict (names P) (phase_of P aux) (phase_of P aux).last) (phase_shows (names P) (phase_of P aux) b.phase (phase_of P aux).last)
      e.table

  form_end : IsDict (names P) (phase_dict (names P) (phase_of P aux) (phase_of P aux).last)
  form_end = (phase_good (names P) (phase_of P aux) b.phase (phase_of P aux).last).form

  has_end : HasRows (names P) T (phase_dict (names P) (phase_of P aux) (phase_of P aux).last)
  has_end = has_agree (names P) (phase_table (names P) (phase_of P aux) (phase_of P aux).last) T
      (phase_dict (names P) (phase_of P aux) (phase_of P aux).last) (has_phase (names P) (phase_of P aux) b.phase b.has
      (phase_of P aux).last) e.table

  -- names are apart
  pub rows_apart_end : (rows : ℕ) → rows ≡ P.rows → (i j : ℕ) → i < rows → j < rows → T.row_name i ≡ T.row_name j → i ≡ j
  rows_apart_end rows q i j l m f = let r = e.rows in shown_end.rows_apart i j (omega (arith, l, q, r)) (omega (arith, m, q, r)) f

  -- at the end of a phase no two columns have one name
  pub cols_apart_end : (width : ℕ) → width ≡ T.width → (i j : ℕ) → i < width → j < width → T.col_name i ≡ T.col_name j → i ≡ j
  cols_apart_end width q i j l m f = shown_end.cols_apart i j (omega (arith, l, q)) (omega (arith, m, q)) f

  -- what is read
  point_end : {F : Type 0} (m : F → ℚ) (rows cols : ℕ) (xs : List F) → rows ≡ P.rows → cols ≡ P.cols
      → IsPlaced m T.row_name (λ i. T.entry i T.width) rows 0 cols xs →
      IsListed m P.cols (point_of (phase_dict (names P) (phase_of P aux) (phase_of P aux).last)) xs
  point_end m rows cols xs q c p =
      point_read m P T (phase_dict (names P) (phase_of P aux) (phase_of P aux).last) shown_end form_end has_end xs
      (subst₂ (λ r w. IsPlaced m T.row_name (λ i. T.entry i T.width) r 0 w xs) (q ∙ sym e.rows) c p)

  ray_end : {F : Type 0} (m : F → ℚ) (rows cols c : ℕ) (xs : List F) → rows ≡ P.rows → cols ≡ P.cols → c < T.width
      → IsDirection m T rows cols c xs → IsListed m P.cols (ray_of (phase_dict (names P) (phase_of P aux) (phase_of P aux).last)
      (T.col_name c)) xs
  ray_end m rows cols c xs q w l p =
      ray_read m P T (phase_dict (names P) (phase_of P aux) (phase_of P aux).last) shown_end form_end has_end c l xs
      (subst₂ (λ r w. IsDirection m T r w c xs) (q ∙ sym e.rows) w p)

  -- what is read from the followed goal's row at the end of a phase are the multipliers of the last dictionary
  pub multipliers_end : {F : Type 0} (m : F → ℚ) (rows cols width : ℕ) (ys : List F) → rows ≡ P.rows → cols ≡ P.cols → width ≡ T.width
      → IsPlaced m T.col_name (λ k. neg_ℚ (T.entry rows k)) width cols rows ys →
      IsListed m P.rows (multipliers P (phase_dict (names P) (phase_of P aux) (phase_of P aux).last) (phase_of P aux).goal) ys
  multipliers_end m rows cols width ys q c w p =
      multipliers_read m P T (phase_dict (names P) (phase_of P aux) (phase_of P aux).last) shown_end form_end has_end (phase_of P aux).goal
      e.goal e.goals ys
      (subst₂ (λ r k. IsPlaced m T.col_name (λ i. neg_ℚ (T.entry r i)) T.width P.cols k ys) (q ∙ sym e.rows) q
      (subst₂ (λ x y. IsPlaced m T.col_name (λ i. neg_ℚ (T.entry rows i)) x y rows ys) w c p))

  value_end : T.entry T.rows T.width ≡ (phase_dict (names P) (phase_of P aux) (phase_of P aux).last).const (phase_of P aux).goal
  value_end = shown_end.constants T.rows (let g = e.goals in omega (arith, g))
      ∙ ap (phase_dict (names P) (phase_of P aux) (phase_of P aux).last).const e.goal

-- the outcome of the second phase where no column enters
pub best_end : (L : ℤ) (P : lp.Problem) (made : ℕ) (T₀ T : Table) (pivots : ℕ) → BeginsPhase P false made T₀
    → EndsPhase L P false T AtBest pivots → {F : Type 0} (m : F → ℚ) (rows cols : ℕ) (o : Outcome F) → rows ≡ P.rows → cols ≡ P.cols
    → ReadsBest m T rows cols o →
    IsOutcomeOf m P (main_outcome P) o
unfolding main_outcome
best_end L P made T₀ T pivots b e m rows cols (Best point value ys) q c r =
    subst (λ x. IsOutcomeOf m P (outcome_at P (phase_dict (names P) (main_phase P) (main_phase P).last) x) (Best point value ys))
    (sym e.why.0) (
      point_end L P false made T₀ T AtBest pivots b e m rows cols point.items q c r.0,
      r.1 ∙ ap (λ i. T.entry i T.width) (q ∙ sym e.rows) ∙ value_end L P false made T₀ T AtBest pivots b e,
      multipliers_end L P false made T₀ T AtBest pivots b e m rows cols T.width ys.items q c refl r.2,
    )
best_end L P made T₀ T pivots b e m rows cols (Unbounded point rise) q c r = absurd r
best_end L P made T₀ T pivots b e m rows cols (Empty ys) q c r = absurd r

-- and where no row leaves
pub unbounded_end : (L : ℤ) (P : lp.Problem) (made : ℕ) (T₀ T : Table) (c : ℕ) (pivots : ℕ) → BeginsPhase P false made T₀
    → EndsPhase L P false T (AtRay c) pivots → {F : Type 0} (m : F → ℚ) (rows cols : ℕ) (o : Outcome F) → rows ≡ P.rows → cols ≡ P.cols
    → ReadsRay m T rows cols c o →
    IsOutcomeOf m P (main_outcome P) o
unfolding main_outcome
unbounded_end L P made T₀ T c pivots b e m rows cols (Best point value ys) q w r = absurd r
unbounded_end L P made T₀ T c pivots b e m rows cols (Unbounded point rise) q w r =
    subst (λ x. IsOutcomeOf m P (outcome_at P (phase_dict (names P) (main_phase P) (main_phase P).last) x) (Unbounded point rise))
    (sym e.why.1) (
      point_end L P false made T₀ T (AtRay c) pivots b e m rows cols point.items q w r.0,
      ray_end L P false made T₀ T (AtRay c) pivots b e m rows cols c rise.items q w e.why.0 r.1,
    )
unbounded_end L P made T₀ T c pivots b e m rows cols (Empty ys) q w r = absurd r

-- the outcome of the problem is that of the second phase
pub lp_plain_is : (P : lp.Problem) → lowest P ≡ none → lp_of P ≡ main_outcome P
unfolding lp_of phase_two last_of main_outcome
lp_plain_is P e =
    ap (lp_from P) e
    ∙ sym (ap (λ s. outcome_at P (after (main_row P) (names P) (main_start P s) (stop_index (main_row P) (names P) (main_start P s)))
    (choose (main_row P) (names P) (after (main_row P) (names P) (main_start P s)
    (stop_index (main_row P) (names P) (main_start P s))))) e)

-- where the auxiliary variable has left, the outcome of the problem is that of the second phase
pub lp_main_is : (P : lp.Problem) (r : ℕ) → lowest P ≡ found r → (phase_dict (names P) (aux_phase P) (aux_phase P).last).basic 0 ≡ false
    → lp_of P ≡ main_outcome P
unfolding lp_of phase_one phase_two last_of last_of_one main_outcome
lp_main_is P r e f =
    let i : index_of (lowest P) ≡ r = ap index_of e in
    let g : (last_of_one P (entered P r)).basic 0 ≡ false = subst (λ s.
    (after (aux_row P) (names P) (entered P s) (phase_one_index P (entered P s))).basic 0 ≡ false) i f in
    ap (lp_from P) e ∙ ap (after_one P (last_of_one P (entered P r))) g
    ∙ sym (ap (λ s. outcome_at P (after (main_row P) (names P) (main_start P s) (stop_index (main_row P) (names P) (main_start P s)))
    (choose (main_row P) (names P) (after (main_row P) (names P) (main_start P s)
    (stop_index (main_row P) (names P) (main_start P s))))) e)

-- or there is no point
pub lp_empty_is : (P : lp.Problem) (r : ℕ) → lowest P ≡ found r → (phase_dict (names P) (aux_phase P) (aux_phase P).last).basic 0 ≡ true
    → lp_of P ≡ lp.empty (multipliers P (phase_dict (names P) (aux_phase P) (aux_phase P).last) (aux_row P))
unfolding lp_of phase_one last_of_one
lp_empty_is P r e f =
    let i : index_of (lowest P) ≡ r = ap index_of e in
    let g : (last_of_one P (entered P r)).basic 0 ≡ true = subst (λ s.
    (after (aux_row P) (names P) (entered P s) (phase_one_index P (entered P s))).basic 0 ≡ true) i f in
    ap (lp_from P) e ∙ ap (after_one P (last_of_one P (entered P r))) g
    ∙ sym (ap (λ s. lp.empty (multipliers P (after (aux_row P) (names P) (entered P s) (phase_one_index P (entered P s))) (aux_row P))) i)

-- the operations of the run
pub run_plain : (P : lp.Problem) → lowest P ≡ none → run_operations P ≡ whole_phase P (main_phase P)
unfolding run_operations
run_plain P e = ap (run_from P) e

run_found : (P : lp.Problem) (r : ℕ) → lowest P ≡ found r → run_operations P
    ≡ numbered 1 (pivot_operations (first_table P) r P.cols) ++ (whole_phase P (aux_phase P)
    ++ then_main P ((phase_dict (names P) (aux_phase P) (aux_phase P).last).basic 0))
unfolding run_operations
run_found P r e = ap (run_from P) e

-- a fault of a part of the run is one of the run
refused_as : {F : Type 0} (m : F → ℚ) (L : ℤ) (os ps : List Numbered) →
    ((o : Numbered) → first_refused L os ≡ Some o → first_refused L ps ≡ Some o) → (f : SolveFault F) → RefusesRun m L os f
    → RefusesRun m L ps f
refused_as m L os ps h (Wide pivot wide) r = (r.0, r.1, h (record { pivot = r.0; operation = operation_of m wide }) r.2)
refused_as m L os ps h NoMemory r = tt

-- a fault of a run is one of each run with the same operations
pub refused_same : {F : Type 0} (m : F → ℚ) (L : ℤ) (os ps : List Numbered) → os ≡ ps → (f : SolveFault F) → RefusesRun m L os f
    → RefusesRun m L ps f
refused_same m L os ps e f r = subst (λ x. RefusesRun m L x f) e r

module _ (L : ℤ) (P : lp.Problem) (r : ℕ) (e : lowest P ≡ found r) (r_in : r < P.rows) (T : Table) (a : Agree (first_table P) T) where
  first_operations : pivot_operations T r P.cols ≡ pivot_operations (first_table P) r P.cols
  unfolding first_table
  first_operations = agree_pivots (first_table P) T a r P.cols r_in (omega arith)

  -- a fault of the special first pivot is the fault of the run
  pub refused_first : {F : Type 0} (m : F → ℚ) (f : SolveFault F) → EntersRefused m L (pivot_operations T r P.cols) f
      → RefusesRun m L (run_operations P) f
  refused_first m (Wide pivot wide) w = (
    1,
    w.0,
    ap (first_refused L) (run_found P r e) ∙ refused_sooner L (numbered 1 (pivot_operations (first_table P) r P.cols))
        (whole_phase P (aux_phase P) ++ then_main P ((phase_dict (names P) (aux_phase P) (aux_phase P).last).basic 0))
        (record { pivot = 1; operation = operation_of m wide }) (numbered_some L 1 (pivot_operations (first_table P) r P.cols)
        (operation_of m wide) (ap (first_wide L) (sym first_operations) ∙ w.1)),
  )
  refused_first m NoMemory w = tt

  module _ (fits : first_wide L (pivot_operations T r P.cols) ≡ None) where
    past_first : first_refused L (run_operations P) ≡ first_refused L (whole_phase P (aux_phase P)
        ++ then_main P ((phase_dict (names P) (aux_phase P) (aux_phase P).last).basic 0))
    past_first = ap (first_refused L) (run_found P r e) ∙ refused_later L (numbered 1 (pivot_operations (first_table P) r P.cols))
        (whole_phase P (aux_phase P) ++ then_main P ((phase_dict (names P) (aux_phase P) (aux_phase P).last).basic 0))
        (numbered_none L 1 (pivot_operations (first_table P) r P.cols) (ap (first_wide L) (sym first_operations) ∙ fits))

    -- where the special first pivot fits, a fault of the first phase is the fault of the run
    pub refused_aux : {F : Type 0} (m : F → ℚ) (f : SolveFault F) → RefusesRun m L (whole_phase P (aux_phase P)) f
        → RefusesRun m L (run_operations P) f
    refused_aux m f w = refused_as m L (whole_phase P (aux_phase P)) (run_operations P)
        (λ o q. past_first ∙ refused_sooner L (whole_phase P (aux_phase P))
        (then_main P ((phase_dict (names P) (aux_phase P) (aux_phase P).last).basic 0)) o q) f w

    module _ (aux_fits : first_refused L (whole_phase P (aux_phase P)) ≡ None) where
      past_aux : first_refused L (run_operations P) ≡ first_refused L (then_main P
          ((phase_dict (names P) (aux_phase P) (aux_phase P).last).basic 0))
      past_aux = past_first ∙ refused_later L (whole_phase P (aux_phase P))
          (then_main P ((phase_dict (names P) (aux_phase P) (aux_phase P).last).basic 0)) aux_fits

      -- where the auxiliary variable is still basic
      pub fits_empty : (phase_dict (names P) (aux_phase P) (aux_phase P).last).basic 0 ≡ true → first_refused L (run_operations P) ≡ None
      fits_empty g = past_aux ∙ ap (λ b. first_refused L (then_main P b)) g

      -- where it has left
      pub run_main : (phase_dict (names P) (aux_phase P) (aux_phase P).last).basic 0 ≡ false
          → first_refused L (run_operations P) ≡ first_refused L (whole_phase P (main_phase P))
      run_main g = past_aux ∙ ap (λ b. first_refused L (then_main P b)) g

      -- where the first phase fits and the auxiliary variable has left, a fault of the second phase is that of the run
      pub refused_main : (phase_dict (names P) (aux_phase P) (aux_phase P).last).basic 0 ≡ false
          → {F : Type 0} (m : F → ℚ) (f : SolveFault F) → RefusesRun m L (whole_phase P (main_phase P)) f
          → RefusesRun m L (run_operations P) f
      refused_main g m f w = refused_as m L (whole_phase P (main_phase P)) (run_operations P) (λ o q. run_main g ∙ q) f w

-- a phase that ends otherwise than by the auxiliary variable's leaving still has it
pub not_left : (n : ℕ) (ph : Phase) (T : Table) (end : End) → EndOf n ph T end → (end ≡ Left → ⊥) → (phase_dict n ph ph.last).basic 0 ≡ true
not_left n ph T AtBest w k = w.1
not_left n ph T (AtRay c) w k = w.2
not_left n ph T Left w k = absurd (k refl)

-- the first table
pub start_plain : (P : lp.Problem) → lowest P ≡ none → start_table P ≡ plain_table P
unfolding start_table
start_plain P e = ap (start_from P) e

-- where some side is below 0, the run begins with the first table
pub start_first : (P : lp.Problem) (r : ℕ) → lowest P ≡ found r → start_table P ≡ first_table P
unfolding start_table
start_first P r e = ap (start_from P) e

-- the table after the special first pivot
pub entered_agrees : (P : lp.Problem) (r : ℕ) (T U : Table) → r < P.rows → Agree (first_table P) T → Agree (pivot_table T r P.cols) U
    → Agree (pivot_table (first_table P) r P.cols) U
unfolding first_table
entered_agrees P r T U l a b = agree_trans (pivot_table (first_table P) r P.cols) (pivot_table T r P.cols) U
    (agree_pivot (first_table P) T a r P.cols l (omega arith)) b
