-- The tables of a phase show its dictionaries, and which pivot leads from one to the next.
use Rattle.std.proofs.Common.{◌≡◌, ℕ, zero, suc, ◌+◌, ◌<◌, ⊎_elim, refl, ap, ap₂, sym, ◌∙◌, subst, subst₂, arith, add-one}
use Rattle.base_numbers.specs.Rational.{zero_ℚ, ◌<ℚ◌}
use Rattle.base_numbers.proofs.rational.Laws.{<ℚ_irrefl}
use Rattle.lp_theory.specs.Dictionary.{Dict, IsDict}
use Rattle.lp_theory.specs.Bland.{Choice, optimal, ray, step, choose, next, take_step, after, Enters, Leaves, ChoiceIs, IsGood}
use Rattle.lp_theory.specs.Table.{Table, Shows, Agree, pivot_table}
use Rattle.lp_theory.specs.Run.{row_place, col_place, step_table, tables_after, Phase, phase_dict, phase_table, IsPhase}
use Rattle.lp_theory.proofs.search.Steps.{choose_is, enters_free, leaves_basic}
use Rattle.lp_theory.proofs.search.Stops.{after_good}
use Rattle.lp_theory.proofs.search.Places.{place_only, place_in}
use Rattle.lp_theory.proofs.TableChoices.{choose_only, table_next}

-- after no step the table is the one that the run begins with
pub tables_after-zero : (g n : ℕ) (T : Table) (D : Dict) → tables_after g n T D 0 ≡ T
unfolding tables_after
tables_after-zero g n T D = refl

tables_after-suc : (g n : ℕ) (T : Table) (D : Dict) (j : ℕ) → tables_after g n T D (suc j)
    ≡ step_table (tables_after g n T D j) (choose g n (after g n D j))
unfolding tables_after
tables_after-suc g n T D j = refl

-- where the names of a step stand
pub places_of_step : (g n : ℕ) (T : Table) (D : Dict) → Shows n T D → IsDict n D → (c r : ℕ) → Enters g n D c → Leaves n D c r →
    (row_place T r < T.rows) × (T.row_name (row_place T r) ≡ r) × (col_place T c < T.width) × (T.col_name (col_place T c) ≡ c)
places_of_step g n T D h d c r e l =
    let k = h.all_cols c e.name (enters_free g n D d c e.gains) in
    let w = place_in T.col_name T.width c k.0 k.1 k.2 in
    ⊎_elim
    (λ i. let v = place_in T.row_name T.rows r i.0 i.1 i.2 in (v.0, v.1, w.0, w.1))
    (λ z. absurd (<ℚ_irrefl (subst (λ x. x <ℚ zero_ℚ) (z c) l.falls)))
    (h.all_rows r l.name (leaves_basic n D d c r l.falls))

-- the dictionary of the next step
pub next-is : (g n : ℕ) (D : Dict) → take_step D (choose g n D) ≡ next g n D
unfolding next
next-is g n D = refl

shows_step : (g n : ℕ) (T : Table) (D : Dict) → Shows n T D → IsGood n D → (x : Choice) → choose g n D ≡ x → ChoiceIs g n D x
    → Shows n (step_table T x) (take_step D x)
shows_step g n T D h d optimal e w = h
shows_step g n T D h d (ray c) e w = h
shows_step g n T D h d (step c r) e w =
    let p = places_of_step g n T D h d.form c r w.0 w.1 in
    let en : Enters g n D (T.col_name (col_place T c)) = subst (Enters g n D) (sym p.3) w.0 in
    let le : Leaves n D (T.col_name (col_place T c)) (T.row_name (row_place T r)) = subst₂ (Leaves n D) (sym p.3) (sym p.1) w.1 in
    subst (Shows n (pivot_table T (row_place T r) (col_place T c))) (sym (next-is g n D) ∙ ap (take_step D) e)
    (table_next n T D h d.form g (row_place T r) (col_place T c) p.0 p.2 en le)

-- each table of the run shows its dictionary
pub tables_show : (g n : ℕ) (T : Table) (D : Dict) → Shows n T D → IsGood n D → (j : ℕ) → Shows n (tables_after g n T D j) (after g n D j)
unfolding tables_after after
tables_show g n T D h d zero = h
tables_show g n T D h d (suc j) =
    subst (Shows n (step_table (tables_after g n T D j) (choose g n (after g n D j)))) (next-is g n (after g n D j))
    (shows_step g n (tables_after g n T D j) (after g n D j) (tables_show g n T D h d j) (after_good g n D d j) (choose g n (after g n D j))
    refl (choose_is g n (after g n D j)))

module _ (n : ℕ) (ph : Phase) (h : IsPhase n ph) where
  -- each table of a phase shows the phase's dictionary of the same number
  pub phase_shows : (j : ℕ) → Shows n (phase_table n ph j) (phase_dict n ph j)
  phase_shows j = tables_show ph.goal n ph.table ph.start h.shows h.good j

  -- each dictionary of a phase has the form of a dictionary, and is feasible
  pub phase_good : (j : ℕ) → IsGood n (phase_dict n ph j)
  phase_good j = after_good ph.goal n ph.start h.good j

  -- the pivot at the rule's row and column leads to the next table
  pub phase_next : (j : ℕ) (T : Table) → Agree (phase_table n ph j) T → (r c : ℕ) → r < T.rows → c < T.width
      → Enters ph.goal n (phase_dict n ph j) (T.col_name c) → Leaves n (phase_dict n ph j) (T.col_name c) (T.row_name r) →
      phase_table n ph (j + 1) ≡ pivot_table (phase_table n ph j) r c
  phase_next j T a r c l m e v =
      let U = phase_table n ph j in
      let s = phase_shows j in
      let r_in : r < (phase_table n ph j).rows = omega (arith, l, a.rows) in
      let c_in : c < (phase_table n ph j).width = omega (arith, m, a.width) in
      let rn = a.row_name r (omega (arith, r_in)) in
      let cn = a.col_name c c_in in
      ap (phase_table n ph) (add-one j) ∙ tables_after-suc ph.goal n ph.table ph.start j
      ∙ ap (step_table (phase_table n ph j)) (choose_only ph.goal n (phase_dict n ph j) (step (T.col_name c) (T.row_name r)) (e, v))
      ∙ ap₂ (λ x y. pivot_table (phase_table n ph j) x y)
      (ap (row_place (phase_table n ph j)) rn ∙ place_only (phase_table n ph j).row_name (phase_table n ph j).rows r r_in
      (λ i k p q f. s.rows_apart i k (omega (arith, p)) (omega (arith, q)) f))
      (ap (col_place (phase_table n ph j)) cn ∙ place_only (phase_table n ph j).col_name (phase_table n ph j).width c c_in
      (λ i k p q f. s.cols_apart i k p q f))
