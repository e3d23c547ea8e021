-- Each basic name but 0 has a row in the tables of a run.
use Rattle.std.proofs.Common.{◌≡◌, ◌≢◌, ℕ, zero, suc, ◌<◌, ⊎_elim, true, false, cond, refl, ap, ap₂, sym, ◌∙◌, subst, arith, true≢false}
use Rattle.std.proofs.lemmas.Bool.{cases_eq, eq-eqb, ne_eqb, lt-ltb}
use Rattle.lp_theory.specs.Problem.{Problem}
use Rattle.lp_theory.specs.Dictionary.{Dict, pivot, drop_zero}
use Rattle.lp_theory.specs.Bland.{Choice, optimal, ray, step, choose, take_step, after, ChoiceIs, IsGood}
use Rattle.lp_theory.specs.Simplex.{names, main_row, slack_name, first_dict, entered}
use Rattle.lp_theory.specs.Table.{Table, Shows, Agree, pivot_table, drop_table}
use Rattle.lp_theory.specs.FirstTable.{first_table, plain_table}
use Rattle.lp_theory.specs.HasRows.{HasRows}
use Rattle.lp_theory.specs.Run.{row_place, col_place, leave_table, step_table, tables_after, Phase, phase_dict, phase_table, IsPhase}
use Rattle.lp_theory.proofs.search.Steps.{choose_is}
use Rattle.lp_theory.proofs.search.Stops.{after_good}
use Rattle.lp_theory.proofs.simplex.Roles.{name_cases}
use Rattle.lp_theory.proofs.first_table.FirstTables.{some_row}
use Rattle.lp_theory.proofs.TableDrops.{skip_below}
use Rattle.lp_theory.proofs.simplex.EnteredTables.{first_row_name, first_col_name}
use Rattle.lp_theory.proofs.run.Phases.{places_of_step, tables_show, next-is}

-- a table that agrees with one that has a row for each basic name but 0 has these rows too
pub has_agree : (n : ℕ) (T U : Table) (D : Dict) → HasRows n T D → Agree T U → HasRows n U D
has_agree n T U D h a = record {
  has = λ q l z b. let w = h.has q l z b in (
    w.0,
    (let m = w.1 in omega (arith, m, a.rows)),
    a.row_name w.0 (let m = w.1 in omega (arith, m)) ∙ w.2,
  );
}

-- after a pivot
has_pivot : (n : ℕ) (T : Table) (D : Dict) → HasRows n T D → (r c : ℕ) → r < T.rows
    → HasRows n (pivot_table T r c) (pivot D (T.row_name r) (T.col_name c))
unfolding pivot_table pivot
has_pivot n T D h r c r_in = record {
  has = λ q l z b. ⊎_elim
      (λ e. (r, r_in, ap (λ t. cond t (T.col_name c) (T.row_name r)) (eq-eqb r r refl) ∙ sym e))
      (λ d. ⊎_elim
      (λ e. absurd (true≢false (sym b ∙ ap₂ (λ s t. cond s true (cond t false (D.basic q))) (ne_eqb q (T.col_name c) d)
      (eq-eqb q (T.row_name r) e))))
      (λ f. let w = h.has q l z (sym (ap₂ (λ s t. cond s true (cond t false (D.basic q))) (ne_eqb q (T.col_name c) d)
      (ne_eqb q (T.row_name r) f)) ∙ b) in
      (w.0, w.1, ap (λ t. cond t (T.col_name c) (T.row_name w.0)) (ne_eqb w.0 r (λ e. f (sym w.2 ∙ ap T.row_name e))) ∙ w.2))
      (cases_eq q (T.row_name r)))
      (cases_eq q (T.col_name c));
}

has_step : (g n : ℕ) (T : Table) (D : Dict) → Shows n T D → IsGood n D → HasRows n T D → (x : Choice) → ChoiceIs g n D x
    → HasRows n (step_table T x) (take_step D x)
has_step g n T D h d k optimal w = k
has_step g n T D h d k (ray c) w = k
has_step g n T D h d k (step c r) w =
    let p = places_of_step g n T D h d.form c r w.0 w.1 in
    subst (λ y. HasRows n (pivot_table T (row_place T r) (col_place T c)) (pivot D y c)) p.1
    (subst (λ x. HasRows n (pivot_table T (row_place T r) (col_place T c)) (pivot D (T.row_name (row_place T r)) x)) p.3
    (has_pivot n T D k (row_place T r) (col_place T c) p.0))

-- along a run
has_after : (g n : ℕ) (T : Table) (D : Dict) → Shows n T D → IsGood n D → HasRows n T D → (j : ℕ)
    → HasRows n (tables_after g n T D j) (after g n D j)
unfolding tables_after after
has_after g n T D h d k zero = k
has_after g n T D h d k (suc j) =
    subst (HasRows n (step_table (tables_after g n T D j) (choose g n (after g n D j)))) (next-is g n (after g n D j))
    (has_step g n (tables_after g n T D j) (after g n D j) (tables_show g n T D h d j) (after_good g n D d j) (has_after g n T D h d k j)
    (choose g n (after g n D j)) (choose_is g n (after g n D j)))

-- at the beginning
has_first : (P : Problem) → HasRows (names P) (first_table P) (first_dict P)
unfolding first_table
has_first P = record { has = λ q l z b. some_row P q b (name_cases P q l) }

first_rows : (P : Problem) → (first_table P).rows ≡ P.rows
unfolding first_table
first_rows P = refl

-- after the special first pivot of phase 1 each basic name but 0 has a row
pub has_entered : (P : Problem) (r : ℕ) → r < P.rows → HasRows (names P) (pivot_table (first_table P) r P.cols) (entered P r)
has_entered P r l =
    subst (λ y. HasRows (names P) (pivot_table (first_table P) r P.cols) (pivot (first_dict P) y 0)) (first_row_name P r l)
    (subst (λ x. HasRows (names P) (pivot_table (first_table P) r P.cols) (pivot (first_dict P) ((first_table P).row_name r) x))
    (first_col_name P)
    (has_pivot (names P) (first_table P) (first_dict P) (has_first P) r P.cols (omega (arith, l, first_rows P))))

drop_basic_at : (D : Dict) (q : ℕ) → q ≢ 0 → (drop_zero D).basic q ≡ D.basic q
unfolding drop_zero
drop_basic_at D zero h = absurd (h refl)
drop_basic_at D (suc q) h = refl

plain_name : (P : Problem) (i : ℕ) → i < P.rows → (plain_table P).row_name i ≡ (first_table P).row_name i
unfolding plain_table
plain_name P i l = ap (λ b. cond b (slack_name P i) (main_row P)) (lt-ltb i P.rows l) ∙ sym (first_row_name P i l)

plain_rows : (P : Problem) → (plain_table P).rows ≡ P.rows
unfolding plain_table
plain_rows P = refl

-- the table without the auxiliary variable has a row for each basic name
pub has_plain : (P : Problem) → HasRows (names P) (plain_table P) (drop_zero (first_dict P))
has_plain P = record {
  has = λ q l z b.
      let w = (has_first P).has q l z (sym (drop_basic_at (first_dict P) q z) ∙ b) in
      let m : w.0 < P.rows = let u = w.1 in omega (arith, u, first_rows P) in
      (w.0, (let u = w.1 in omega (arith, u, first_rows P, plain_rows P)), plain_name P w.0 m ∙ w.2);
}

-- where the auxiliary variable is left out, each basic name but 0 still has a row
pub has_left : (n : ℕ) (T : Table) (D : Dict) → HasRows n T D → HasRows n (leave_table T) (drop_zero D)
unfolding leave_table drop_table
has_left n T D h = record {
  has = λ q l z b. let w = h.has q l z (sym (drop_basic_at D q z) ∙ b) in (w.0, w.1, ap T.row_name (skip_below T.rows w.0 w.1) ∙ w.2);
}

-- in each table of a phase whose first table has a row for each basic name but 0, each of these names has a row
pub has_phase : (n : ℕ) (ph : Phase) → IsPhase n ph → HasRows n ph.table ph.start → (j : ℕ)
    → HasRows n (phase_table n ph j) (phase_dict n ph j)
has_phase n ph h k j = has_after ph.goal n ph.table ph.start h.shows h.good k j
