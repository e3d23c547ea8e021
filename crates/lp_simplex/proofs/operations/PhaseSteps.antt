-- What a step of the code is in the exact run.
use Rattle.std.proofs.Common.{◌≡◌, ◌≢◌, ℕ, suc, ◌+◌, ◌<◌, ⊎_elim, true, false, ℤ}
use Rattle.std.proofs.Common.{◌++◌, Some, None, refl, ap, ap₂, sym, ◌∙◌, subst, arith}
use Rattle.std.proofs.lemmas.Bool.{cases_Bool}
use Rattle.base_numbers.specs.Rational.{zero_ℚ, ◌≤ℚ◌}
use Rattle.base_numbers.proofs.rational.Laws.{not_le_of_lt}
use Rattle.lp_theory.specs.Dictionary.{Dict, IsDict, pivot}
use Rattle.lp_theory.specs.Bland.{Enters, Leaves, Choice, optimal, ray, step, choose, take_step, is_stop, stops, ChoiceIs}
use Rattle.lp_theory.specs.Table.{Table, Shows, Agree, pivot_table}
use Rattle.lp_theory.specs.Run.{row_place, col_place, Phase, phase_dict, phase_table, IsPhase}
use Rattle.lp_theory.proofs.search.Steps.{choose_is, enters_only}
use Rattle.lp_theory.proofs.NoRepeat.{turned_free}
use Rattle.lp_theory.proofs.search.Stops.{after-suc}
use Rattle.lp_theory.proofs.search.Places.{place_only}
use Rattle.lp_theory.proofs.first_table.FirstTables.{shows_agree}
use Rattle.lp_theory.proofs.TableChoices.{choose_only, table_enters, table_optimal, table_leaves, table_ray}
use Rattle.lp_theory.proofs.run.Agrees.{agree_trans, agree_pivot}
use Rattle.lp_theory.proofs.run.Phases.{phase_shows, phase_good, phase_next, next-is}
use Rattle.base_fractions.specs.Operation.{Operation, first_wide}
use Rattle.lp_dictionary.specs.PivotOperations.{pivot_operations}
use Rattle.lp_dictionary.proofs.Widths.{first_wide_sooner}
use Rattle.lp_dictionary.proofs.listed.Joins.{joined_fits_each}
use Rattle.lp_simplex.specs.Operations.{ratio_operation, ratio_operations, step_operations}
use Rattle.lp_simplex.specs.Choices.{EntersAt, LeavesAt, LeavesOf, StepWide}
use Rattle.lp_simplex.proofs.operations.AgreeOperations.{agree_ratios, agree_pivots}
use Rattle.lp_simplex.proofs.scan.Scans.{ratio_none}

none_not_some : {A : Type 0} {o : A} → None ≡ Some o → ⊥
none_not_some e = cc

-- no ratio is formed where no entry is negative
ratios_none : (L : ℤ) (T : Table) (c : ℕ) → ((i : ℕ) → i < T.rows → zero_ℚ ≤ℚ T.entry i c) → first_wide L (ratio_operations T c) ≡ None
unfolding ratio_operations
ratios_none L T c z = joined_fits_each L T.rows (ratio_operation T c) (λ i l. ratio_none L T c i (z i l))

module _ (n : ℕ) (ph : Phase) (h : IsPhase n ph) (j : ℕ) (T : Table) (a : Agree (phase_table n ph j) T) (goal : T.row_name T.rows ≡ ph.goal)
    (goals : 0 < T.goals) where
  D : Dict
  D = phase_dict n ph j

  -- the table at a step of a phase shows the phase's dictionary
  pub shown : Shows n T (phase_dict n ph j)
  shown = shows_agree n (phase_table n ph j) T (phase_dict n ph j) (phase_shows n ph h j) a

  form : IsDict n (phase_dict n ph j)
  form = (phase_good n ph h j).form

  goal_in : T.rows < T.rows + T.goals
  goal_in = omega (arith, goals)

  -- the column that the scan finds has the entering name
  pub enters_in : (c : ℕ) → EntersAt T T.rows T.width (Some c) → Enters ph.goal n (phase_dict n ph j) (T.col_name c)
  enters_in c e = subst (λ g. Enters g n (phase_dict n ph j) (T.col_name c)) goal
      (table_enters n T (phase_dict n ph j) shown form T.rows c goal_in e.0 e.1 e.2)

  -- where the scan finds no column, the rule says that the dictionary is optimal
  pub optimal_in : EntersAt T T.rows T.width None → choose ph.goal n (phase_dict n ph j) ≡ optimal
  optimal_in e = choose_only ph.goal n (phase_dict n ph j) optimal (subst (λ g. ChoiceIs g n (phase_dict n ph j) optimal) goal
      (table_optimal n T (phase_dict n ph j) shown form T.rows goal_in e))

  -- where the scan finds a column and no row, the rule says that there is a ray
  pub ray_in : (c : ℕ) → EntersAt T T.rows T.width (Some c) → LeavesOf T c T.rows None
      → choose ph.goal n (phase_dict n ph j) ≡ ray (T.col_name c)
  ray_in c e l = choose_only ph.goal n (phase_dict n ph j) (ray (T.col_name c))
      (enters_in c e, table_ray n T (phase_dict n ph j) shown form c e.0 l)

  -- the row that the scan finds has the leaving name
  pub leaves_in : (c r : ℕ) → c < T.width → LeavesAt T c T.rows r → Leaves n (phase_dict n ph j) (T.col_name c) (T.row_name r)
  leaves_in c r m l = table_leaves n T (phase_dict n ph j) shown form c r m l.row l.falls l.least l.before

  step_in : (c r : ℕ) → EntersAt T T.rows T.width (Some c) → LeavesAt T c T.rows r
      → choose ph.goal n (phase_dict n ph j) ≡ step (T.col_name c) (T.row_name r)
  step_in c r e l = choose_only ph.goal n (phase_dict n ph j) (step (T.col_name c) (T.row_name r)) (enters_in c e, leaves_in c r e.0 l)

  col_back : (c : ℕ) → c < T.width → col_place (phase_table n ph j) (T.col_name c) ≡ c
  col_back c l =
      let c_in : c < (phase_table n ph j).width = omega (arith, l, a.width) in
      ap (col_place (phase_table n ph j)) (a.col_name c c_in) ∙ place_only (phase_table n ph j).col_name (phase_table n ph j).width c c_in
      (λ i k p q f. (phase_shows n ph h j).cols_apart i k p q f)

  row_back : (r : ℕ) → r < T.rows → row_place (phase_table n ph j) (T.row_name r) ≡ r
  row_back r l =
      let r_in : r < (phase_table n ph j).rows = omega (arith, l, a.rows) in
      ap (row_place (phase_table n ph j)) (a.row_name r (omega (arith, r_in)))
      ∙ place_only (phase_table n ph j).row_name (phase_table n ph j).rows r r_in
      (λ i k p q f. (phase_shows n ph h j).rows_apart i k (omega (arith, p)) (omega (arith, q)) f)

  -- the operations of the step
  operations_in : (c r : ℕ) → EntersAt T T.rows T.width (Some c) → LeavesAt T c T.rows r
      → step_operations (phase_table n ph j) (choose ph.goal n (phase_dict n ph j)) ≡ ratio_operations T c ++ pivot_operations T r c
  operations_in c r e l =
      let c_in : c < (phase_table n ph j).width = omega (arith, e.0, a.width) in
      let r_in : r < (phase_table n ph j).rows = let m = l.row in omega (arith, m, a.rows) in
      ap (step_operations (phase_table n ph j)) (step_in c r e l)
      ∙ ap₂ (λ x y. ratio_operations (phase_table n ph j) x ++ pivot_operations (phase_table n ph j) y x) (col_back c e.0)
      (row_back r l.row)
      ∙ sym (ap₂ (λ os ps. os ++ ps) (agree_ratios (phase_table n ph j) T a c c_in) (agree_pivots (phase_table n ph j) T a r c r_in c_in))

  -- the table after a pivot
  pub pivot_in : (c r : ℕ) → EntersAt T T.rows T.width (Some c) → LeavesAt T c T.rows r → (U : Table) → Agree (pivot_table T r c) U
      → Agree (phase_table n ph (j + 1)) U
  pivot_in c r e l U b =
      let c_in : c < (phase_table n ph j).width = omega (arith, e.0, a.width) in
      let r_in : r < (phase_table n ph j).rows = let m = l.row in omega (arith, m, a.rows) in
      subst (λ V. Agree V U) (sym (phase_next n ph h j T a r c l.row e.0 (enters_in c e) (leaves_in c r e.0 l)))
      (agree_trans (pivot_table (phase_table n ph j) r c) (pivot_table T r c) U (agree_pivot (phase_table n ph j) T a r c r_in c_in) b)

  -- the dictionary after it
  pub dict_in : (c r : ℕ) → EntersAt T T.rows T.width (Some c) → LeavesAt T c T.rows r
      → phase_dict n ph (j + 1) ≡ pivot (phase_dict n ph j) (T.row_name r) (T.col_name c)
  dict_in c r e l =
      let s : j + 1 ≡ suc j = omega arith in
      ap (phase_dict n ph) s ∙ after-suc ph.goal n ph.start j ∙ sym (next-is ph.goal n (phase_dict n ph j))
      ∙ ap (take_step (phase_dict n ph j)) (step_in c r e l)

  -- the auxiliary variable stays where another name leaves
  pub stays_in : (c r : ℕ) → EntersAt T T.rows T.width (Some c) → LeavesAt T c T.rows r → T.row_name r ≢ 0
      → (phase_dict n ph j).basic 0 ≡ true → (phase_dict n ph (j + 1)).basic 0 ≡ true
  stays_in c r e l z b = ⊎_elim (λ t. t)
      (λ f. absurd (z (sym (turned_free (phase_dict n ph j) (T.row_name r) (T.col_name c) 0 b
      (ap (λ E. E.basic 0) (sym (dict_in c r e l)) ∙ f)))))
      (cases_Bool ((phase_dict n ph (j + 1)).basic 0))

  -- no step where the phase is over
  pub goes_in : (c r : ℕ) → EntersAt T T.rows T.width (Some c) → LeavesAt T c T.rows r → stops ph.goal n (phase_dict n ph j) ≡ false
  goes_in c r e l = ap is_stop (step_in c r e l)

  wide_choice : (L : ℤ) (c : ℕ) (o : Operation) → EntersAt T T.rows T.width (Some c) → first_wide L (ratio_operations T c) ≡ Some o
      → (x : Choice) → ChoiceIs ph.goal n (phase_dict n ph j) x →
      (is_stop x ≡ false) × (first_wide L (step_operations (phase_table n ph j) x) ≡ Some o)
  wide_choice L c o e w optimal k = absurd (not_le_of_lt (enters_in c e).gains (k (T.col_name c) (enters_in c e).name))
  wide_choice L c o e w (ray d) k =
      let q = enters_only ph.goal n (phase_dict n ph j) (T.col_name c) d (enters_in c e) k.0 in
      absurd (none_wide (λ i l. subst (λ x. zero_ℚ ≤ℚ x) (sym (shown.entries i c (omega (arith, l)) e.0
      ∙ ap ((phase_dict n ph j).coef (T.row_name i)) q)) (k.1 (T.row_name i) (shown.row_below i l))))
    where
      none_wide : ((i : ℕ) → i < T.rows → zero_ℚ ≤ℚ T.entry i c) → ⊥
      none_wide z = none_not_some (sym (ratios_none L T c z) ∙ w)
  wide_choice L c o e w (step d r) k =
      let q = enters_only ph.goal n (phase_dict n ph j) (T.col_name c) d (enters_in c e) k.0 in
      let c_in : c < (phase_table n ph j).width = omega (arith, e.0, a.width) in
      let p : col_place (phase_table n ph j) d ≡ c = ap (col_place (phase_table n ph j)) (sym q) ∙ col_back c e.0 in (
        refl,
        first_wide_sooner L (ratio_operations (phase_table n ph j) (col_place (phase_table n ph j) d))
            (pivot_operations (phase_table n ph j) (row_place (phase_table n ph j) r) (col_place (phase_table n ph j) d)) o
            (ap (λ x. first_wide L (ratio_operations (phase_table n ph j) x)) p
            ∙ ap (first_wide L) (sym (agree_ratios (phase_table n ph j) T a c c_in)) ∙ w),
      )

  -- a step that is refused
  pub wide_in : (L : ℤ) (o : Operation) → StepWide L T T.rows T.width o
      → (stops ph.goal n (phase_dict n ph j) ≡ false) × (first_wide L (step_operations (phase_table n ph j)
      (choose ph.goal n (phase_dict n ph j))) ≡ Some o)
  wide_in L o s = ⊎_elim
      (λ w. wide_choice L s.col o s.enters w (choose ph.goal n (phase_dict n ph j)) (choose_is ph.goal n (phase_dict n ph j)))
      (λ w. (goes_in s.col w.0 s.enters w.1, ap (first_wide L) (operations_in s.col w.0 s.enters w.1) ∙ w.2))
      s.wide

  -- a step that is made
  pub fits_in : (L : ℤ) (c r : ℕ) → EntersAt T T.rows T.width (Some c) → LeavesAt T c T.rows r
      → first_wide L (ratio_operations T c ++ pivot_operations T r c) ≡ None
      → first_wide L (step_operations (phase_table n ph j) (choose ph.goal n (phase_dict n ph j))) ≡ None
  fits_in L c r e l w = ap (first_wide L) (operations_in c r e l) ∙ w
