-- What a code finds in a table by positions is the choice of the rule in the dictionary that the table shows.
use Rattle.std.proofs.Common.{◌≡◌, ◌≢◌, ℕ, ◌+◌, ◌<◌, ◌≤◌, ⊎_elim, refl, ap, sym, ◌∙◌, subst, subst₂, arith}
use Rattle.std.proofs.lemmas.Bool.{cases_eq, cases_Bool}
use Rattle.base_numbers.specs.Rational.{ℚ, zero_ℚ, neg_ℚ, ◌/ℚ◌, ◌≤ℚ◌, ◌<ℚ◌}
use Rattle.base_numbers.proofs.rational.Laws.{≤ℚ_refl, <ℚ_irrefl, not_le_of_lt, le_of_lt_ℚ, zero_lt_one, ne_of_lt_ℚ}
use Rattle.lp_theory.specs.Dictionary.{delta, Dict, IsDict}
use Rattle.lp_theory.specs.Bland.{ratio_of, Enters, Leaves, Choice, optimal, ray, step, choose, take_step, next, ChoiceIs}
use Rattle.lp_theory.specs.Table.{Table, pivot_table, Shows}
use Rattle.lp_theory.proofs.Sums.{delta_same, delta_other}
use Rattle.lp_theory.proofs.dictionary.Dictionaries.{free_below}
use Rattle.lp_theory.proofs.search.Steps.{choose_is, enters_only, leaves_only, enters_free, leaves_basic}
use Rattle.lp_theory.proofs.table.TablePivots.{table_pivot}

same_choice : (g n : ℕ) (D : Dict) (x y : Choice) → ChoiceIs g n D x → ChoiceIs g n D y → x ≡ y
same_choice g n D optimal optimal h k = refl
same_choice g n D optimal (ray c) h k = absurd (not_le_of_lt k.0.gains (h c k.0.name))
same_choice g n D optimal (step c r) h k = absurd (not_le_of_lt k.0.gains (h c k.0.name))
same_choice g n D (ray c) optimal h k = absurd (not_le_of_lt h.0.gains (k c h.0.name))
same_choice g n D (ray c) (ray d) h k = ap ray (enters_only g n D c d h.0 k.0)
same_choice g n D (ray c) (step d r) h k = absurd (not_le_of_lt k.1.falls
    (subst (λ x. zero_ℚ ≤ℚ D.coef r x) (enters_only g n D c d h.0 k.0) (h.1 r k.1.name)))
same_choice g n D (step c r) optimal h k = absurd (not_le_of_lt h.0.gains (k c h.0.name))
same_choice g n D (step c r) (ray d) h k = absurd (not_le_of_lt h.1.falls
    (subst (λ x. zero_ℚ ≤ℚ D.coef r x) (enters_only g n D d c k.0 h.0) (k.1 r h.1.name)))
same_choice g n D (step c r) (step d s) h k =
    let e = enters_only g n D c d h.0 k.0 in
    ap (λ x. step x r) e ∙ ap (step d) (leaves_only n D d r s (subst (λ x. Leaves n D x r) e h.1) k.1)

-- the choice is the only one that is as the rule says
pub choose_only : (g n : ℕ) (D : Dict) (x : Choice) → ChoiceIs g n D x → choose g n D ≡ x
choose_only g n D x h = same_choice g n D (choose g n D) x (choose_is g n D) h

-- the ratio of a row of a table
abbrev pub table_ratio : Table → ℕ → ℕ → ℚ
table_ratio T c i = T.entry i T.width /ℚ neg_ℚ (T.entry i c)

delta_nonneg : (i k : ℕ) → zero_ℚ ≤ℚ delta i k
delta_nonneg i k = ⊎_elim (λ e. subst (λ x. zero_ℚ ≤ℚ x) (sym (ap (delta i) (sym e) ∙ delta_same i)) (le_of_lt_ℚ zero_lt_one))
    (λ e. subst (λ x. zero_ℚ ≤ℚ x) (sym (delta_other i k e)) (≤ℚ_refl zero_ℚ)) (cases_eq i k)

module _ (n : ℕ) (T : Table) (D : Dict) (h : Shows n T D) (d : IsDict n D) where
  row_in : (i : ℕ) → i < T.rows → i < T.rows + T.goals
  row_in i a = omega (arith, a)

  shown_ratio : (c i : ℕ) → c < T.width → i < T.rows → table_ratio T c i ≡ ratio_of D (T.col_name c) (T.row_name i)
  unfolding ratio_of
  shown_ratio c i m a = ap (λ x. x /ℚ neg_ℚ (T.entry i c)) (h.constants i (row_in i a))
      ∙ ap (λ x. D.const (T.row_name i) /ℚ neg_ℚ x) (h.entries i c (row_in i a) m)

  -- the column with the smallest name among those with a positive entry in the goal's row
  pub table_enters : (g c : ℕ) → g < T.rows + T.goals → c < T.width → zero_ℚ <ℚ T.entry g c
      → ((k : ℕ) → k < T.width → zero_ℚ <ℚ T.entry g k → T.col_name c ≤ T.col_name k) → Enters (T.row_name g) n D (T.col_name c)
  table_enters g c a m p s = record {
    name = free_below n D d (T.col_name c) (h.col_free c m);
    gains = subst (λ x. zero_ℚ <ℚ x) (h.entries g c a m) p;
    smallest = λ q l u.
        let w = h.all_cols q l (enters_free (T.row_name g) n D d q u) in
        subst (λ x. T.col_name c ≤ x) w.2 (s w.0 w.1 (subst (λ x. zero_ℚ <ℚ x)
        (sym (h.entries g w.0 a w.1 ∙ ap (D.coef (T.row_name g)) w.2)) u));
  }

  -- no positive entry in the goal's row
  pub table_optimal : (g : ℕ) → g < T.rows + T.goals → ((k : ℕ) → k < T.width → T.entry g k ≤ℚ zero_ℚ) → ChoiceIs (T.row_name g) n D optimal
  table_optimal g a s = λ q l. ⊎_elim
      (λ b. subst (λ x. x ≤ℚ zero_ℚ) (sym (d.column (T.row_name g) q b)) (≤ℚ_refl zero_ℚ))
      (λ f. let w = h.all_cols q l f in subst (λ x. x ≤ℚ zero_ℚ) (h.entries g w.0 a w.1 ∙ ap (D.coef (T.row_name g)) w.2) (s w.0 w.1))
      (cases_Bool (D.basic q))

  row_of : (c q : ℕ) → c < T.width → q < n → D.coef q (T.col_name c) <ℚ zero_ℚ → (i : ℕ) × (i < T.rows) × (T.row_name i ≡ q)
  row_of c q m l u = ⊎_elim (λ w. w) (λ z. absurd (<ℚ_irrefl (subst (λ x. x <ℚ zero_ℚ) (z (T.col_name c)) u)))
      (h.all_rows q l (leaves_basic n D d (T.col_name c) q u))

  -- the row of the least ratio among those with a negative entry, with the smallest name on ties
  pub table_leaves : (c r : ℕ) → c < T.width → r < T.rows → T.entry r c <ℚ zero_ℚ →
      ((i : ℕ) → i < T.rows → T.entry i c <ℚ zero_ℚ → table_ratio T c r ≤ℚ table_ratio T c i) →
      ((i : ℕ) → i < T.rows → T.entry i c <ℚ zero_ℚ → T.row_name i < T.row_name r → table_ratio T c r <ℚ table_ratio T c i) →
      Leaves n D (T.col_name c) (T.row_name r)
  table_leaves c r m l f s t = record {
    name = h.row_below r l;
    falls = subst (λ x. x <ℚ zero_ℚ) (h.entries r c (row_in r l) m) f;
    least = λ q a u.
        let w = row_of c q m a u in
        let v : T.entry w.0 c <ℚ zero_ℚ = subst (λ x. x <ℚ zero_ℚ) (sym
        (h.entries w.0 c (row_in w.0 w.1) m ∙ ap (λ x. D.coef x (T.col_name c)) w.2)) u in
        subst₂ (λ x y. x ≤ℚ y) (shown_ratio c r m l) (shown_ratio c w.0 m w.1 ∙ ap (ratio_of D (T.col_name c)) w.2) (s w.0 w.1 v);
    before = λ q b u.
        let w = row_of c q m (let e = h.row_below r l in omega (arith, e, b)) u in
        let v : T.entry w.0 c <ℚ zero_ℚ = subst (λ x. x <ℚ zero_ℚ) (sym
        (h.entries w.0 c (row_in w.0 w.1) m ∙ ap (λ x. D.coef x (T.col_name c)) w.2)) u in
        subst₂ (λ x y. x <ℚ y) (shown_ratio c r m l) (shown_ratio c w.0 m w.1 ∙ ap (ratio_of D (T.col_name c)) w.2)
        (t w.0 w.1 v (subst (λ x. x < T.row_name r) (sym w.2) b));
  }

  -- no negative entry in the entering column
  pub table_ray : (c : ℕ) → c < T.width → ((i : ℕ) → i < T.rows → zero_ℚ ≤ℚ T.entry i c) → (q : ℕ) → q < n
      → zero_ℚ ≤ℚ D.coef q (T.col_name c)
  table_ray c m s q l = ⊎_elim
      (λ b. ⊎_elim
      (λ w. subst (λ x. zero_ℚ ≤ℚ x) (h.entries w.0 c (row_in w.0 w.1) m ∙ ap (λ x. D.coef x (T.col_name c)) w.2) (s w.0 w.1))
      (λ z. subst (λ x. zero_ℚ ≤ℚ x) (sym (z (T.col_name c))) (≤ℚ_refl zero_ℚ))
      (h.all_rows q l b))
      (λ f. subst (λ x. zero_ℚ ≤ℚ x) (sym (d.unit q (T.col_name c) f)) (delta_nonneg q (T.col_name c)))
      (cases_Bool (D.basic q))

  -- where the rule steps at the names of r and c, the pivot of the table shows the next dictionary
  pub table_next : (g r c : ℕ) → r < T.rows → c < T.width → Enters g n D (T.col_name c) → Leaves n D (T.col_name c) (T.row_name r)
      → Shows n (pivot_table T r c) (next g n D)
  unfolding next
  table_next g r c l m e v =
      let p : T.entry r c ≢ zero_ℚ = λ z. ne_of_lt_ℚ v.falls (sym (h.entries r c (row_in r l) m) ∙ z) in
      subst (λ x. Shows n (pivot_table T r c) (take_step D x)) (sym (choose_only g n D (step (T.col_name c) (T.row_name r)) (e, v)))
      (table_pivot n T D h d r c l m p)
