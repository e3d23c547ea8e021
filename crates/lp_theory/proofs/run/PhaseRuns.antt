-- The two phases are phases, and the number of a phase's table is told by its names.
use Rattle.std.proofs.Common.{◌≡◌, ℕ, zero, suc, ◌+◌, ◌-◌, ◌^◌, ◌<◌, ◌≤◌, inl, inr, ⊎_elim, Bool, true, false, not, cond, ◌||◌, refl, ap}
use Rattle.std.proofs.Common.{ap₂, sym, ◌∙◌, subst, arith, true≢false}
use Rattle.std.proofs.lemmas.Bool.{ne_eqb, or_cases, cases_Bool, not-false, not-true}
use Rattle.base_numbers.specs.Rational.{zero_ℚ, lt_ℚ, ◌≤ℚ◌}
use Rattle.base_numbers.proofs.rational.Laws.{one_ne_zero}
use Rattle.lp_theory.specs.Problem.{Problem}
use Rattle.lp_theory.specs.Dictionary.{delta, Dict, IsDict, extend, drop_zero}
use Rattle.lp_theory.specs.Search.{none, found}
use Rattle.lp_theory.specs.Bland.{Choice, optimal, ray, step, choose, after, stops, stop_index, index_of, ChoiceIs, IsGood}
use Rattle.lp_theory.proofs.Pivots.{pivot_enters}
use Rattle.lp_theory.specs.Simplex.{names, slack_name, main_row, aux_row, first_dict, entered, lowest, phase_one_index, last_of_one}
use Rattle.lp_theory.specs.Table.{Table, Shows, pivot_table}
use Rattle.lp_theory.specs.FirstTable.{first_table, plain_table}
use Rattle.lp_theory.specs.Run.{place_of, leave_table, step_table, tables_after, Phase, phase_dict, phase_table, IsPhase, aux_phase}
use Rattle.lp_theory.specs.Run.{main_start, main_table, main_made, main_phase}
use Rattle.lp_theory.proofs.search.Searches.{LeastIs, least_is, IsLeast, lt_no}
use Rattle.lp_theory.proofs.dictionary.Dictionaries.{extend_models, extend_free}
use Rattle.lp_theory.proofs.NoRepeat.{no_repeat}
use Rattle.lp_theory.proofs.search.Stops.{chain_from, stop_index_is, after_good}
use Rattle.lp_theory.proofs.search.Steps.{choose_is}
use Rattle.lp_theory.proofs.bland.Pigeons.{code, code_same}
use Rattle.lp_theory.proofs.simplex.Roles.{first_free}
use Rattle.lp_theory.proofs.simplex.Outcomes.{IsMain, after_main}
use Rattle.lp_theory.proofs.bland.PhaseOne.{entered_good, entered_aux, after_aux}
use Rattle.lp_theory.proofs.search.Programs.{phase_one_index_is, dropped_main, first_aux}
use Rattle.lp_theory.proofs.table.PlainTables.{plain_table_shows}
use Rattle.lp_theory.proofs.simplex.EnteredTables.{entered_shows}
use Rattle.lp_theory.proofs.TableDrops.{table_drop}
use Rattle.lp_theory.proofs.Sums.{delta_same}
use Rattle.lp_theory.proofs.search.Places.{place_in}
use Rattle.lp_theory.proofs.run.Phases.{phase_shows, phase_good, places_of_step, tables_show}

-- in the second phase the auxiliary variable counts as basic
main_basic : (P : Problem) (D : Dict) → IsMain P D → D.basic 0 ≡ true
main_basic P D d = ⊎_elim (λ t. t) (λ f. absurd (clash f)) (cases_Bool (D.basic 0))
  where
    clash : D.basic 0 ≡ false → ⊥
    clash f = one_ne_zero (sym (delta_same 0) ∙ sym (extend_free (names P) D d.good.form (delta 0) 0 f)
        ∙ d.zero_out (extend (names P) D (delta 0)) (extend_models (names P) D d.good.form (delta 0)))

-- a phase that begins with a dictionary of the second kind
main_runs : (P : Problem) (D : Dict) (T : Table) (made : ℕ) → IsMain P D → Shows (names P) T D
    → IsPhase (names P) (record { goal = main_row P; start = D; table = T; made = made; last = stop_index (main_row P) (names P) D })
main_runs P D T made d h =
    let w = stop_index_is (main_row P) (names P) D d.good in
    record {
      good = d.good;
      shows = h;
      begins = main_basic P D d;
      goes_on = λ j l. (w.before j l, main_basic P (after (main_row P) (names P) D j) (after_main (main_row P) P D d j));
      ends = inl w.stop;
    }

or_first : (a b : Bool) → (a || b) ≡ false → a ≡ false
or_first true b e = e
or_first false b e = refl

or_second : (a b : Bool) → (a || b) ≡ false → b ≡ false
or_second true b e = absurd (true≢false e)
or_second false b e = e

-- a phase of the first kind
aux_runs : (P : Problem) (D : Dict) (T : Table) → IsGood (names P) D → Shows (names P) T D → D.basic 0 ≡ true
    → IsPhase (names P) (record { goal = aux_row P; start = D; table = T; made = 1; last = phase_one_index P D })
aux_runs P D T d h b =
    let w = phase_one_index_is P D d in
    let k = phase_one_index P D in
    record {
      good = d;
      shows = h;
      begins = b;
      goes_on = λ j l.
          let s = stops (aux_row P) (names P) (after (aux_row P) (names P) D j) in
          let b = (after (aux_row P) (names P) D j).basic 0 in (
            or_first (stops (aux_row P) (names P) (after (aux_row P) (names P) D j)) (not ((after (aux_row P) (names P) D j).basic 0))
                (w.before j l),
            not-false ((after (aux_row P) (names P) D j).basic 0) (or_second (stops (aux_row P) (names P) (after (aux_row P) (names P) D j))
                (not ((after (aux_row P) (names P) D j).basic 0)) (w.before j l)),
          );
      ends = ⊎_elim (λ a. inl a) (λ a. inr (not-true ((after (aux_row P) (names P) D k).basic 0) a))
          (or_cases (stops (aux_row P) (names P) (after (aux_row P) (names P) D k)) (not ((after (aux_row P) (names P) D k).basic 0))
          w.over);
    }

-- the row of the least side
pub lowest_is : (P : Problem) (r : ℕ) → lowest P ≡ found r → IsLeast (λ r. lt_ℚ (P.side r) zero_ℚ) P.side P.rows r
unfolding lowest
lowest_is P r e = subst (LeastIs (λ r. lt_ℚ (P.side r) zero_ℚ) P.side P.rows) e (least_is (λ r. lt_ℚ (P.side r) zero_ℚ) P.side P.rows)

lowest_none : (P : Problem) → lowest P ≡ none → (r : ℕ) → r < P.rows → zero_ℚ ≤ℚ P.side r
unfolding lowest
lowest_none P e r l = lt_no (P.side r) zero_ℚ (subst (LeastIs (λ r. lt_ℚ (P.side r) zero_ℚ) P.side P.rows) e
    (least_is (λ r. lt_ℚ (P.side r) zero_ℚ) P.side P.rows) r l)

-- the first phase, where a side is below 0
pub aux_is_phase : (P : Problem) (r : ℕ) → lowest P ≡ found r → IsPhase (names P) (aux_phase P)
aux_is_phase P r e =
    let w = lowest_is P r e in
    subst (λ s. IsPhase (names P) (record {
      goal = aux_row P;
      start = entered P (index_of s);
      table =
          pivot_table (first_table P) (index_of s) P.cols;
      made = 1;
      last = phase_one_index P (entered P (index_of s));
    })) (sym e)
    (aux_runs P (entered P r) (pivot_table (first_table P) r P.cols) (entered_good P r w) (entered_shows P r w.below)
    (pivot_enters (first_dict P) (slack_name P r) 0))

-- the second phase, with no side below 0
pub plain_is_phase : (P : Problem) → lowest P ≡ none → IsPhase (names P) (main_phase P)
plain_is_phase P e =
    subst (λ s. IsPhase (names P) (record {
      goal = main_row P;
      start = main_start P s;
      table = main_table P s;
      made = main_made P s;
      last =
          stop_index (main_row P) (names P) (main_start P s);
    })) (sym e)
    (main_runs P (drop_zero (first_dict P)) (plain_table P) 0 (dropped_main P (first_dict P) (first_aux P (lowest_none P e))
    (first_free P 0 (omega arith))) (plain_table_shows P))

-- the table that is left shows the dictionary with the auxiliary variable dropped
left_shows : (n : ℕ) (T : Table) (D : Dict) → Shows n T D → IsDict n D → 0 < n → T.goals ≡ 2 → D.basic 0 ≡ false
    → Shows n (leave_table T) (drop_zero D)
unfolding leave_table
left_shows n T D h d p g f =
    let k = h.all_cols 0 p f in
    let w = place_in T.col_name T.width 0 k.0 k.1 k.2 in
    table_drop n T D h d (T.goals - 1) (T.width - 1) (place_of T.col_name T.width 0) (omega (arith, g)) (omega (arith, k.1)) w.0 w.1

step_goals : (T : Table) (x : Choice) → (step_table T x).goals ≡ T.goals
unfolding pivot_table
step_goals T optimal = refl
step_goals T (ray c) = refl
step_goals T (step c r) = refl

step_rows : (T : Table) (x : Choice) → (step_table T x).rows ≡ T.rows
unfolding pivot_table
step_rows T optimal = refl
step_rows T (ray c) = refl
step_rows T (step c r) = refl

-- the sizes of a table do not change
pub goals_after : (g n : ℕ) (T : Table) (D : Dict) (j : ℕ) → (tables_after g n T D j).goals ≡ T.goals
unfolding tables_after
goals_after g n T D zero = refl
goals_after g n T D (suc j) = step_goals (tables_after g n T D j) (choose g n (after g n D j)) ∙ goals_after g n T D j

-- the steps of a run keep the number of rows
pub rows_after : (g n : ℕ) (T : Table) (D : Dict) (j : ℕ) → (tables_after g n T D j).rows ≡ T.rows
unfolding tables_after
rows_after g n T D zero = refl
rows_after g n T D (suc j) = step_rows (tables_after g n T D j) (choose g n (after g n D j)) ∙ rows_after g n T D j

entered_goals : (P : Problem) (r : ℕ) → (pivot_table (first_table P) r P.cols).goals ≡ 2
unfolding pivot_table first_table
entered_goals P r = refl

-- the second phase after the first, where the auxiliary variable has left
pub main_is_phase : (P : Problem) (r : ℕ) → lowest P ≡ found r → (phase_dict (names P) (aux_phase P) (aux_phase P).last).basic 0 ≡ false
    → IsPhase (names P) (main_phase P)
unfolding last_of_one
main_is_phase P r e f =
    let a = entered_aux P r (lowest_is P r e) in
    let k = phase_one_index P (entered P r) in
    let D = last_of_one P (entered P r) in
    let i : index_of (lowest P) ≡ r = ap index_of e in
    let g : (last_of_one P (entered P r)).basic 0 ≡ false = subst (λ s.
    (after (aux_row P) (names P) (entered P s) (phase_one_index P (entered P s))).basic 0 ≡ false) i f in
    let h = phase_shows (names P) (aux_phase P) (aux_is_phase P r e) (aux_phase P).last in
    let o = phase_good (names P) (aux_phase P) (aux_is_phase P r e) (aux_phase P).last in
    let two = goals_after (aux_row P) (names P) (pivot_table (first_table P) (index_of (lowest P)) P.cols) (entered P (index_of (lowest P)))
    (aux_phase P).last ∙ entered_goals P (index_of (lowest P)) in
    let shown = left_shows (names P) (phase_table (names P) (aux_phase P) (aux_phase P).last)
    (phase_dict (names P) (aux_phase P) (aux_phase P).last) h o.form (omega arith) two f in
    let shown2 = subst (λ s. Shows (names P) (leave_table (phase_table (names P) (aux_phase P) (aux_phase P).last))
    (drop_zero (after (aux_row P) (names P) (entered P s) (phase_one_index P (entered P s))))) i shown in
    subst (λ s. IsPhase (names P) (record {
      goal = main_row P;
      start = main_start P s;
      table = main_table P s;
      made = main_made P s;
      last =
          stop_index (main_row P) (names P) (main_start P s);
    })) (sym e)
    (main_runs P (drop_zero (last_of_one P (entered P r))) (leave_table (phase_table (names P) (aux_phase P) (aux_phase P).last)) (suc k)
    (dropped_main P (last_of_one P (entered P r)) (after_aux (aux_row P) P (entered P r) a k) g) shown2)

-- no set of basic names comes twice in a phase
pub code_alike : (s t : ℕ → Bool) (n : ℕ) → ((q : ℕ) → q < n → s q ≡ t q) → code s n ≡ code t n
code_alike s t zero h = refl
code_alike s t (suc n) h = ap₂ (λ a b. a + cond b (2 ^ n) 0) (code_alike s t n (λ q l. h q (omega (arith, l)))) (h n (omega arith))

module _ (n : ℕ) (ph : Phase) (h : IsPhase n ph) where
  -- two dictionaries of a phase have basis sets of different numbers
  pub codes_apart : (i j : ℕ) → i < j → j ≤ ph.last → code (phase_dict n ph i).basic n ≡ code (phase_dict n ph j).basic n → ⊥
  codes_apart i j l m e =
      let k = j - i in
      let s : (j - i) + i ≡ j = omega (arith, l) in
      let z : 0 + i ≡ i = omega arith in
      let p : 0 < j - i = omega (arith, l) in
      no_repeat ph.goal n (λ l. after ph.goal n ph.start (l + i)) _ _ (j - i)
      (chain_from ph.goal n ph.start h.good i (j - i) (λ a b. (h.goes_on a (omega (arith, b, s, m))).0))
      p
      (λ q b. ap (λ x. (after ph.goal n ph.start x).basic q) z ∙ code_same (after ph.goal n ph.start i).basic
      (after ph.goal n ph.start j).basic n e q b ∙ ap (λ x. (after ph.goal n ph.start x).basic q) (sym s))

step_goal_name : (g n : ℕ) (T : Table) (D : Dict) → Shows n T D → IsDict n D → (x : Choice) → ChoiceIs g n D x → (i : ℕ) → T.rows ≤ i
    → (step_table T x).row_name i ≡ T.row_name i
unfolding pivot_table
step_goal_name g n T D h d optimal w i l = refl
step_goal_name g n T D h d (ray c) w i l = refl
step_goal_name g n T D h d (step c r) w i l =
    let p = places_of_step g n T D h d c r w.0 w.1 in
    ap (λ b. cond b (T.col_name (place_of T.col_name T.width c)) (T.row_name i))
    (ne_eqb i (place_of T.row_name T.rows r) (λ e. let q = p.0 in omega (arith, e, q, l)))

-- the goals keep their names
pub goal_names_after : (g n : ℕ) (T : Table) (D : Dict) → Shows n T D → IsGood n D → (i : ℕ) → T.rows ≤ i → (j : ℕ)
    → (tables_after g n T D j).row_name i ≡ T.row_name i
unfolding tables_after
goal_names_after g n T D h d i l zero = refl
goal_names_after g n T D h d i l (suc j) =
    let r = rows_after g n T D j in
    step_goal_name g n (tables_after g n T D j) (after g n D j) (tables_show g n T D h d j) (after_good g n D d j).form
    (choose g n (after g n D j)) (choose_is g n (after g n D j)) i (omega (arith, r, l))
    ∙ goal_names_after g n T D h d i l j

-- in the second phase the auxiliary variable counts as basic throughout
pub plain_stays : (P : Problem) → lowest P ≡ none → (j : ℕ) → (phase_dict (names P) (main_phase P) j).basic 0 ≡ true
plain_stays P e j =
    let D = drop_zero (first_dict P) in
    let d = dropped_main P (first_dict P) (first_aux P (lowest_none P e)) (first_free P 0 (omega arith)) in
    subst (λ s. (after (main_row P) (names P) (main_start P s) j).basic 0 ≡ true) (sym e)
    (main_basic P (after (main_row P) (names P) (drop_zero (first_dict P)) j)
    (after_main (main_row P) P (drop_zero (first_dict P)) d j))

-- where the auxiliary variable has left in phase 1, it counts as basic throughout phase 2
pub main_stays : (P : Problem) (r : ℕ) → lowest P ≡ found r → (phase_dict (names P) (aux_phase P) (aux_phase P).last).basic 0 ≡ false
    → (j : ℕ) → (phase_dict (names P) (main_phase P) j).basic 0 ≡ true
unfolding last_of_one
main_stays P r e f j =
    let a = entered_aux P r (lowest_is P r e) in
    let i : index_of (lowest P) ≡ r = ap index_of e in
    let g : (last_of_one P (entered P r)).basic 0 ≡ false = subst (λ s.
    (after (aux_row P) (names P) (entered P s) (phase_one_index P (entered P s))).basic 0 ≡ false) i f in
    let d = dropped_main P (last_of_one P (entered P r)) (after_aux (aux_row P) P (entered P r) a (phase_one_index P (entered P r))) g in
    subst (λ s. (after (main_row P) (names P) (main_start P s) j).basic 0 ≡ true) (sym e)
    (main_basic P (after (main_row P) (names P) (drop_zero (last_of_one P (entered P r))) j)
    (after_main (main_row P) P (drop_zero (last_of_one P (entered P r))) d j))
