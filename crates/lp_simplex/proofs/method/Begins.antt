-- How the phases begin.
use Rattle.std.proofs.Common.{◌≡◌, ◌≢◌, ℕ, suc, ◌+◌, ◌-◌, ◌<◌, ◌≤◌, true, false, cond, eqb, ltb, ℤ, refl}
use Rattle.std.proofs.Common.{ap, sym, ◌∙◌, subst, arith, true≢false}
use Rattle.std.proofs.lemmas.Bool.{ne_eqb, eq-eqb, le-ltb}
use Rattle.base_numbers.specs.Rational.{zero_ℚ, one_ℚ, neg_ℚ}
use Rattle.base_numbers.proofs.rational.Laws.{one_ne_zero}
use Rattle.lp_theory.specs.Problem as lp
use Rattle.lp_theory.specs.Dictionary.{drop_zero}
use Rattle.lp_theory.specs.Search.{none, found}
use Rattle.lp_theory.specs.Bland.{after, index_of}
use Rattle.lp_theory.specs.Simplex.{names, main_row, aux_row, slack_name, entered, lowest, phase_one_index, last_of_one}
use Rattle.lp_theory.specs.Table.{Table, Agree, drop_table, pivot_table}
use Rattle.lp_theory.specs.FirstTable.{first_table, plain_table}
use Rattle.lp_theory.specs.HasRows.{HasRows}
use Rattle.lp_theory.specs.Run.{leave_table, phase_dict, phase_table, aux_phase, main_start, main_table, main_made}
use Rattle.lp_theory.specs.Run.{main_phase}
use Rattle.lp_theory.proofs.TableDrops.{skip_above}
use Rattle.lp_theory.proofs.first_table.FirstTables.{entry_slack}
use Rattle.lp_theory.proofs.run.Agrees.{agree_trans, agree_leave}
use Rattle.lp_theory.proofs.run.HasRows.{has_entered, has_plain, has_left, has_phase}
use Rattle.lp_theory.proofs.run.Phases.{tables_after-zero}
use Rattle.lp_theory.proofs.run.PhaseRuns.{lowest_is, aux_is_phase, plain_is_phase, main_is_phase, goals_after, goal_names_after}
use Rattle.lp_theory.proofs.run.PhaseRuns.{plain_stays, main_stays}
use Rattle.lp_simplex.specs.Operations.{capped}
use Rattle.lp_simplex.specs.Answers.{BeginsPhase, EndsPhase}
use Rattle.lp_simplex.specs.declared.phase.End.{End}
use Rattle.lp_simplex.specs.declared.phase.End.TheVariants.{Left}

plain_sizes : (P : lp.Problem) → ((plain_table P).rows ≡ P.rows) × ((plain_table P).goals ≡ 1) × ((plain_table P).width ≡ P.cols)
unfolding plain_table
plain_sizes P = (refl, refl, refl)

plain_goal : (P : lp.Problem) → (plain_table P).row_name P.rows ≡ main_row P
unfolding plain_table
plain_goal P = ap (λ b. cond b (slack_name P P.rows) (main_row P)) (le-ltb P.rows P.rows (omega arith))

-- the second phase with no side below 0
pub begins_plain : (P : lp.Problem) (T : Table) → lowest P ≡ none → Agree (plain_table P) T → BeginsPhase P false 0 T
begins_plain P T e a =
    let z = plain_sizes P in
    record {
      phase = plain_is_phase P e;
      table = subst (λ U. Agree U T) (sym (tables_after-zero (main_row P) (names P) (main_table P (lowest P)) (main_start P (lowest P))))
          (subst (λ s. Agree (main_table P s) T) (sym e) a);
      count = subst (λ s. 0 ≡ capped (main_made P s)) (sym e) refl;
      rows = a.rows ∙ z.0;
      goals = let g = a.goals in omega (arith, g, z.1);
      width = a.width ∙ z.2;
      goal = ap T.row_name (a.rows ∙ z.0) ∙ a.row_name P.rows (omega (arith, z.0, z.1)) ∙ plain_goal P;
      has = subst (λ s. HasRows (names P) (main_table P s) (main_start P s)) (sym e) (has_plain P);
      stays = λ _. plain_stays P e (main_phase P).last;
    }

first_sizes : (P : lp.Problem) → ((first_table P).rows ≡ P.rows) × ((first_table P).goals ≡ 2) × ((first_table P).width ≡ suc P.cols)
unfolding first_table
first_sizes P = (refl, refl, refl)

entered_sizes : (P : lp.Problem) (r : ℕ) → ((pivot_table (first_table P) r P.cols).rows ≡ P.rows)
    × ((pivot_table (first_table P) r P.cols).goals ≡ 2) × ((pivot_table (first_table P) r P.cols).width ≡ suc P.cols)
unfolding pivot_table first_table
entered_sizes P r = (refl, refl, refl)

entered_goal : (P : lp.Problem) (r i : ℕ) → r < P.rows → P.rows ≤ i → (pivot_table (first_table P) r P.cols).row_name i
    ≡ cond (eqb i P.rows) (aux_row P) (main_row P)
unfolding pivot_table first_table
entered_goal P r i l m =
    ap (λ b. cond b (cond (ltb P.cols P.cols) (suc P.cols) 0) (cond (ltb i P.rows) (slack_name P i)
    (cond (eqb i P.rows) (aux_row P) (main_row P)))) (ne_eqb i r (λ e. omega (arith, e, l, m)))
    ∙ ap (λ b. cond b (slack_name P i) (cond (eqb i P.rows) (aux_row P) (main_row P))) (le-ltb i P.rows m)

-- the first phase
pub begins_aux : (P : lp.Problem) (r : ℕ) (U : Table) → lowest P ≡ found r → Agree (pivot_table (first_table P) r P.cols) U
    → BeginsPhase P true 1 U
begins_aux P r U e a =
    let z = entered_sizes P r in
    let l = (lowest_is P r e).below in
    let i : index_of (lowest P) ≡ r = ap index_of e in
    record {
      phase = aux_is_phase P r e;
      table = subst (λ V. Agree V U) (sym (tables_after-zero (aux_row P) (names P)
          (pivot_table (first_table P) (index_of (lowest P)) P.cols) (entered P (index_of (lowest P)))))
          (subst (λ s. Agree (pivot_table (first_table P) s P.cols) U) (sym i) a);
      count = refl;
      rows = a.rows ∙ z.0;
      goals = let g = a.goals in omega (arith, g, z.1);
      width = a.width ∙ z.2;
      goal = ap U.row_name (a.rows ∙ z.0) ∙ a.row_name P.rows (omega (arith, z.0, z.1)) ∙ entered_goal P r P.rows l (omega arith)
          ∙ ap (λ b. cond b (aux_row P) (main_row P)) (eq-eqb P.rows P.rows refl);
      has = has_entered P (index_of (lowest P)) (omega (arith, l, i));
      stays = λ f. absurd (true≢false f);
    }

leave_sizes : (T : Table) → ((leave_table T).rows ≡ T.rows) × ((leave_table T).goals ≡ T.goals - 1) × ((leave_table T).width ≡ T.width - 1)
unfolding leave_table drop_table
leave_sizes T = (refl, refl, refl)

leave_goal : (T : Table) → (leave_table T).row_name T.rows ≡ T.row_name (suc T.rows)
unfolding leave_table drop_table
leave_goal T = ap T.row_name (skip_above T.rows T.rows (omega arith))

-- a table at the end of the first phase has both goals
pub two_goals : (L : ℤ) (P : lp.Problem) (T : Table) (end : End) (pivots : ℕ) → EndsPhase L P true T end pivots → T.goals ≡ 2
two_goals L P T end pivots e = e.table.goals ∙ goals_after (aux_row P) (names P) (pivot_table (first_table P) (index_of (lowest P)) P.cols)
    (entered P (index_of (lowest P))) (aux_phase P).last ∙ (entered_sizes P (index_of (lowest P))).1

-- the second phase after the first
pub begins_main : (L : ℤ) (P : lp.Problem) (r : ℕ) (T U : Table) (pivots : ℕ) → lowest P ≡ found r → EndsPhase L P true T Left pivots
    → Agree (leave_table T) U → BeginsPhase P false pivots U
unfolding last_of_one
begins_main L P r T U pivots e w a =
    let z = leave_sizes T in
    let h = aux_is_phase P r e in
    let l = (lowest_is P r e).below in
    let i : index_of (lowest P) ≡ r = ap index_of e in
    let two = two_goals L P T Left pivots w in
    let V = phase_table (names P) (aux_phase P) (aux_phase P).last in
    let v_goals : (phase_table (names P) (aux_phase P) (aux_phase P).last).goals ≡ 2 = sym w.table.goals ∙ two in
    let v_rows : (phase_table (names P) (aux_phase P) (aux_phase P).last).rows ≡ P.rows = sym w.table.rows ∙ w.rows in
    let v_width : (phase_table (names P) (aux_phase P) (aux_phase P).last).width ≡ suc P.cols = sym w.table.width ∙ w.width in
    let left = agree_trans (leave_table (phase_table (names P) (aux_phase P) (aux_phase P).last)) (leave_table T) U
    (agree_leave (phase_table (names P) (aux_phase P) (aux_phase P).last) T w.table (omega (arith, v_goals))
    (omega (arith, v_width))) a in
    let last_same : (aux_phase P).last ≡ phase_one_index P (entered P r) = ap (λ s. phase_one_index P (entered P s)) i in
    record {
      phase = main_is_phase P r e w.why;
      table = subst (λ X. Agree X U) (sym (tables_after-zero (main_row P) (names P) (main_table P (lowest P)) (main_start P (lowest P))))
          (subst (λ s. Agree (main_table P s) U) (sym e) left);
      count = subst (λ s. pivots ≡ capped (main_made P s)) (sym e) (w.count
          ∙ ap capped (let k : 1 + (aux_phase P).last ≡ suc (phase_one_index P (entered P r)) = omega (arith, last_same) in k));
      rows = a.rows ∙ z.0 ∙ w.rows;
      goals = let g = a.goals in omega (arith, g, z.1, two);
      width = a.width ∙ z.2 ∙ (let q = w.width in omega (arith, q));
      goal = ap U.row_name (a.rows ∙ z.0) ∙ a.row_name T.rows (omega (arith, z.0, z.1, two)) ∙ leave_goal T
          ∙ ap (λ k. T.row_name (suc k)) w.rows ∙ w.table.row_name (suc P.rows) (omega (arith, v_rows, v_goals))
          ∙ goal_names_after (aux_row P) (names P) (pivot_table (first_table P) (index_of (lowest P)) P.cols)
          (entered P (index_of (lowest P))) h.shows h.good (suc P.rows)
          (let q = (entered_sizes P (index_of (lowest P))).0 in omega (arith, q)) (aux_phase P).last
          ∙ entered_goal P (index_of (lowest P)) (suc P.rows) (omega (arith, l, i)) (omega arith)
          ∙ ap (λ b. cond b (aux_row P) (main_row P)) (ne_eqb (suc P.rows) P.rows (λ q. omega (arith, q)));
      has = subst (λ s. HasRows (names P) (main_table P s) (main_start P s)) (sym e)
          (subst (λ s. HasRows (names P) (leave_table (phase_table (names P) (aux_phase P) (aux_phase P).last))
          (drop_zero (after (aux_row P) (names P) (entered P s) (phase_one_index P (entered P s))))) i
          (has_left (names P) (phase_table (names P) (aux_phase P) (aux_phase P).last)
          (phase_dict (names P) (aux_phase P) (aux_phase P).last)
          (has_phase (names P) (aux_phase P) h (has_entered P (index_of (lowest P)) (omega (arith, l, i))) (aux_phase P).last)));
      stays = λ _. main_stays P r e w.why (main_phase P).last;
    }

first_one : (P : lp.Problem) (r : ℕ) → r < P.rows → (first_table P).entry r P.cols ≡ one_ℚ
unfolding first_table
first_one P r l =
    entry_slack P r P.cols l ∙ ap (λ b. cond b (neg_ℚ (P.coef r P.cols)) (cond (eqb P.cols P.cols) one_ℚ (P.side r)))
    (le-ltb P.cols P.cols (omega arith))
    ∙ ap (λ b. cond b one_ℚ (P.side r)) (eq-eqb P.cols P.cols refl)

-- the entry of the special first pivot is 1
pub first_pivot : (P : lp.Problem) (r : ℕ) (T : Table) → r < P.rows → Agree (first_table P) T
    → (r < T.rows) × (P.cols < T.width) × (T.entry r P.cols ≢ zero_ℚ)
first_pivot P r T l a =
    let z = first_sizes P in (
      (let q = a.rows in omega (arith, l, q, z.0)),
      (let q = a.width in omega (arith, q, z.2)),
      λ e. one_ne_zero (sym (a.entry r P.cols (omega (arith, l, z.0)) (omega (arith, z.2)) ∙ first_one P r l) ∙ e),
    )
