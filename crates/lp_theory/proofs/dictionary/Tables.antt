-- A pivot of a table by the four formulas shows the pivot of the dictionary that the table shows.
use Rattle.std.proofs.Common.{◌≡◌, ◌≢◌, ℕ, ◌+◌, ◌<◌, ⊎_elim, true, false, cond, [], ◌∷◌, refl, ap, sym, ◌∙◌, subst, arith, true≢false}
use Rattle.std.proofs.Common.{eq-eqb, ne_eqb}
use Rattle.std.proofs.lemmas.Bool.{cases_eq}
use Rattle.base_numbers.specs.Rational.{ℚ, zero_ℚ, one_ℚ, ◌+ℚ◌, ◌*ℚ◌, neg_ℚ, ◌-ℚ◌, ◌/ℚ◌}
use Rattle.base_numbers.proofs.rational.Quotients.{quotient_times, quotient_is}
use Rattle.base_numbers.proofs.tactics.Linarith.{eq, eq_times, lin_eq, reads_all}
use Rattle.lp_theory.specs.Dictionary.{delta, Dict, IsDict, share, pivot}
use Rattle.lp_theory.specs.Table.{Table, pivot_row_entry, pivot_other_entry, pivot_table, Shows}
use Rattle.lp_theory.proofs.Sums.{delta_same, delta_other}
use Rattle.lp_theory.proofs.Pivots.{pivot-coef, pivot-const, share_times}

-- the formulas by their places
pivot_row_at : (T : Table) (r c : ℕ) → pivot_row_entry T r c c ≡ one_ℚ /ℚ T.entry r c
unfolding pivot_row_entry
pivot_row_at T r c = ap (λ b. cond b (one_ℚ /ℚ T.entry r c) (neg_ℚ (T.entry r c /ℚ T.entry r c))) (eq-eqb c c refl)

-- formula 2
pivot_row_off : (T : Table) (r c k : ℕ) → k ≢ c → pivot_row_entry T r c k ≡ neg_ℚ (T.entry r k /ℚ T.entry r c)
unfolding pivot_row_entry
pivot_row_off T r c k h = ap (λ b. cond b (one_ℚ /ℚ T.entry r c) (neg_ℚ (T.entry r k /ℚ T.entry r c))) (ne_eqb k c h)

-- formula 3
pivot_other_at : (T : Table) (r c i : ℕ) → pivot_other_entry T r c i c ≡ T.entry i c *ℚ (one_ℚ /ℚ T.entry r c)
unfolding pivot_other_entry
pivot_other_at T r c i = ap (λ b. cond b (T.entry i c *ℚ pivot_row_entry T r c c) (T.entry i c +ℚ T.entry i c *ℚ pivot_row_entry T r c c))
    (eq-eqb c c refl) ∙ ap (λ x. T.entry i c *ℚ x) (pivot_row_at T r c)

-- formula 4
pivot_other_off : (T : Table) (r c i k : ℕ) → k ≢ c → pivot_other_entry T r c i k
    ≡ T.entry i k +ℚ T.entry i c *ℚ neg_ℚ (T.entry r k /ℚ T.entry r c)
unfolding pivot_other_entry
pivot_other_off T r c i k h = ap (λ b. cond b (T.entry i c *ℚ pivot_row_entry T r c c)
    (T.entry i k +ℚ T.entry i c *ℚ pivot_row_entry T r c k)) (ne_eqb k c h)
    ∙ ap (λ x. T.entry i k +ℚ T.entry i c *ℚ x) (pivot_row_off T r c k h)

-- an entry of the pivot's row
table_entry_row : (T : Table) (r c k : ℕ) → (pivot_table T r c).entry r k ≡ pivot_row_entry T r c k
unfolding pivot_table
table_entry_row T r c k = ap (λ b. cond b (pivot_row_entry T r c k) (pivot_other_entry T r c r k)) (eq-eqb r r refl)

-- an entry of another row
table_entry_other : (T : Table) (r c i k : ℕ) → i ≢ r → (pivot_table T r c).entry i k ≡ pivot_other_entry T r c i k
unfolding pivot_table
table_entry_other T r c i k h = ap (λ b. cond b (pivot_row_entry T r c k) (pivot_other_entry T r c i k)) (ne_eqb i r h)

-- the pivot's row gets the column's name
pub table_row_new : (T : Table) (r c : ℕ) → (pivot_table T r c).row_name r ≡ T.col_name c
unfolding pivot_table
table_row_new T r c = ap (λ b. cond b (T.col_name c) (T.row_name r)) (eq-eqb r r refl)

-- another row keeps its name
pub table_row_old : (T : Table) (r c i : ℕ) → i ≢ r → (pivot_table T r c).row_name i ≡ T.row_name i
unfolding pivot_table
table_row_old T r c i h = ap (λ b. cond b (T.col_name c) (T.row_name i)) (ne_eqb i r h)

-- the pivot's column gets the row's name
pub table_col_new : (T : Table) (r c : ℕ) → (pivot_table T r c).col_name c ≡ T.row_name r
unfolding pivot_table
table_col_new T r c = ap (λ b. cond b (T.row_name r) (T.col_name c)) (eq-eqb c c refl)

-- another column keeps its name
pub table_col_old : (T : Table) (r c k : ℕ) → k ≢ c → (pivot_table T r c).col_name k ≡ T.col_name k
unfolding pivot_table
table_col_old T r c k h = ap (λ b. cond b (T.row_name r) (T.col_name k)) (ne_eqb k c h)

-- ---- the arithmetic of the four places: p the pivot, s the share of the row
row_at : (p s a z d u : ℚ) → p ≢ zero_ℚ → s *ℚ p ≡ one_ℚ → a ≡ zero_ℚ → z ≡ zero_ℚ → d ≡ one_ℚ → one_ℚ /ℚ p ≡ a +ℚ s *ℚ (d -ℚ z)
row_at p s a z d u h e f g k = sym (quotient_is s one_ℚ p h e) ∙ lin_eq (s ∷ a ∷ z ∷ d ∷ []) (eq f ∷ eq_times s g ∷ eq_times s k ∷ [])
    (search reads_all depth 40) tt

row_off : (p s a b d : ℚ) → p ≢ zero_ℚ → s *ℚ p ≡ one_ℚ → a ≡ zero_ℚ → d ≡ zero_ℚ → neg_ℚ (b /ℚ p) ≡ a +ℚ s *ℚ (d -ℚ b)
row_off p s a b d h e f g =
    let q = quotient_times b p h in
    lin_eq (p ∷ s ∷ a ∷ b ∷ d ∷ (b /ℚ p) ∷ []) (eq f ∷ eq_times s g ∷ eq_times (b /ℚ p) e ∷ eq_times s q ∷ [])
    (search reads_all depth 40 fits 9000) tt

other_at : (p s a t z d : ℚ) → p ≢ zero_ℚ → s *ℚ p ≡ t → a ≡ zero_ℚ → z ≡ zero_ℚ → d ≡ one_ℚ → t *ℚ (one_ℚ /ℚ p) ≡ a +ℚ s *ℚ (d -ℚ z)
other_at p s a t z d h e f g k =
    let q = quotient_times one_ℚ p h in
    lin_eq (p ∷ s ∷ a ∷ t ∷ z ∷ d ∷ (one_ℚ /ℚ p) ∷ []) (eq f ∷ eq_times s g ∷ eq_times s k ∷ eq_times (one_ℚ /ℚ p) e ∷ eq_times s q ∷ [])
    (search reads_all depth 40 fits 9000) tt

other_off : (p s a b t d : ℚ) → p ≢ zero_ℚ → s *ℚ p ≡ t → d ≡ zero_ℚ → a +ℚ t *ℚ neg_ℚ (b /ℚ p) ≡ a +ℚ s *ℚ (d -ℚ b)
other_off p s a b t d h e g =
    let q = quotient_times b p h in
    lin_eq (p ∷ s ∷ a ∷ b ∷ t ∷ d ∷ (b /ℚ p) ∷ []) (eq_times s g ∷ eq_times (b /ℚ p) e ∷ eq_times s q ∷ [])
    (search reads_all depth 40 fits 9000) tt

row_const : (p s a b : ℚ) → p ≢ zero_ℚ → s *ℚ p ≡ one_ℚ → a ≡ zero_ℚ → neg_ℚ (b /ℚ p) ≡ a -ℚ s *ℚ b
row_const p s a b h e f =
    let q = quotient_times b p h in
    lin_eq (p ∷ s ∷ a ∷ b ∷ (b /ℚ p) ∷ []) (eq f ∷ eq_times (b /ℚ p) e ∷ eq_times s q ∷ []) (search reads_all depth 40 fits 9000) tt

other_const : (p s a b t : ℚ) → p ≢ zero_ℚ → s *ℚ p ≡ t → a +ℚ t *ℚ neg_ℚ (b /ℚ p) ≡ a -ℚ s *ℚ b
other_const p s a b t h e =
    let q = quotient_times b p h in
    lin_eq (p ∷ s ∷ a ∷ b ∷ t ∷ (b /ℚ p) ∷ []) (eq_times (b /ℚ p) e ∷ eq_times s q ∷ []) (search reads_all depth 40 fits 9000) tt

module _ (n : ℕ) (T : Table) (D : Dict) (h : Shows n T D) (d : IsDict n D) (r c : ℕ) (l : r < T.rows) (m : c < T.width)
    (p : T.entry r c ≢ zero_ℚ) where
  abbrev B : ℕ
  B = T.row_name r

  abbrev N : ℕ
  N = T.col_name c

  in_rows : r < T.rows + T.goals
  in_rows = omega (arith, l)

  -- the row's name is basic
  pub basic_row : D.basic (T.row_name r) ≡ true
  basic_row = h.row_basic r in_rows

  -- the column's name is free
  pub free_col : D.basic (T.col_name c) ≡ false
  free_col = h.col_free c m

  -- the two names are apart
  pub names_apart : T.row_name r ≢ T.col_name c
  names_apart e = true≢false (sym basic_row ∙ ap D.basic e ∙ free_col)

  -- the pivot is the dictionary's coefficient
  pivot_entry : T.entry r c ≡ D.coef (T.row_name r) (T.col_name c)
  pivot_entry = h.entries r c in_rows m

  -- which is not 0
  pivot_nonzero : D.coef (T.row_name r) (T.col_name c) ≢ zero_ℚ
  pivot_nonzero e = p (pivot_entry ∙ e)

  -- the share of a row times the pivot
  share_of : (i : ℕ) → i < T.rows + T.goals → share D (T.row_name r) (T.col_name c) (T.row_name i) *ℚ T.entry r c ≡ T.entry i c
  share_of i a = ap (λ x. share D (T.row_name r) (T.col_name c) (T.row_name i) *ℚ x) pivot_entry
      ∙ share_times D (T.row_name r) (T.col_name c) (T.row_name i) pivot_nonzero ∙ sym (h.entries i c a m)

  share_new : share D (T.row_name r) (T.col_name c) (T.col_name c) *ℚ T.entry r c ≡ one_ℚ
  share_new = ap (λ x. share D (T.row_name r) (T.col_name c) (T.col_name c) *ℚ x) pivot_entry
      ∙ share_times D (T.row_name r) (T.col_name c) (T.col_name c) pivot_nonzero ∙ d.unit (T.col_name c) (T.col_name c) free_col
      ∙ delta_same (T.col_name c)

  -- the leaving name is none of the old columns
  delta_col : (k : ℕ) → k < T.width → delta (T.row_name r) (T.col_name k) ≡ zero_ℚ
  delta_col k a = delta_other (T.row_name r) (T.col_name k) (λ e. true≢false (sym basic_row ∙ ap D.basic e ∙ h.col_free k a))

  -- each new entry is the coefficient of the new dictionary
  pub shown_entry : (i k : ℕ) → i < T.rows + T.goals → k < T.width → (pivot_table T r c).entry i k
      ≡ (pivot D (T.row_name r) (T.col_name c)).coef ((pivot_table T r c).row_name i) ((pivot_table T r c).col_name k)
  shown_entry i k a b = ⊎_elim
      (λ x. ⊎_elim (λ y. subst (λ z. At z k) (sym x) (subst (λ z. At r z) (sym y) at_at)) (λ y. subst (λ z. At z k) (sym x) (at_off k b y))
      (cases_eq k c))
      (λ x. ⊎_elim (λ y. subst (λ z. At i z) (sym y) (off_at i a x)) (λ y. off_off i k a b x y) (cases_eq k c))
      (cases_eq i r)
    where
      At : ℕ → ℕ → Type 0
      At i k = (pivot_table T r c).entry i k ≡ (pivot D (T.row_name r) (T.col_name c)).coef ((pivot_table T r c).row_name i)
          ((pivot_table T r c).col_name k)

      goal_at : (i k I K : ℕ) (v : ℚ) → (pivot_table T r c).row_name i ≡ I → (pivot_table T r c).col_name k ≡ K
          → (pivot_table T r c).entry i k ≡ v → v ≡ D.coef I K +ℚ share D (T.row_name r) (T.col_name c) I *ℚ
          (delta (T.row_name r) K -ℚ D.coef (T.row_name r) K) → At i k
      goal_at i k I K v e f g w = g ∙ w ∙ sym (pivot-coef D (T.row_name r) (T.col_name c) I K)
          ∙ ap (λ x. (pivot D (T.row_name r) (T.col_name c)).coef x K) (sym e)
          ∙ ap (λ x. (pivot D (T.row_name r) (T.col_name c)).coef ((pivot_table T r c).row_name i) x) (sym f)

      at_at : At r c
      at_at = goal_at r c N B (one_ℚ /ℚ T.entry r c) (table_row_new T r c) (table_col_new T r c)
          (table_entry_row T r c c ∙ pivot_row_at T r c)
          (row_at (T.entry r c) (share D B N N) (D.coef N B) (D.coef B B) (delta B B) zero_ℚ p share_new (d.column N B basic_row)
          (d.column B B basic_row) (delta_same B))

      at_off : (k : ℕ) → k < T.width → k ≢ c → At r k
      at_off k b y = goal_at r k N (T.col_name k) (neg_ℚ (T.entry r k /ℚ T.entry r c)) (table_row_new T r c) (table_col_old T r c k y)
          (table_entry_row T r c k ∙ pivot_row_off T r c k y)
          (row_off (T.entry r c) (share D B N N) (D.coef N (T.col_name k)) (T.entry r k) (delta B (T.col_name k)) p share_new
          (d.unit N (T.col_name k) free_col ∙ delta_other N (T.col_name k) (λ e. y (sym (h.cols_apart c k m b e)))) (delta_col k b)
          ∙ ap (λ x. D.coef N (T.col_name k) +ℚ share D B N N *ℚ (delta B (T.col_name k) -ℚ x)) (h.entries r k in_rows b))

      off_at : (i : ℕ) → i < T.rows + T.goals → i ≢ r → At i c
      off_at i a x = goal_at i c (T.row_name i) B (T.entry i c *ℚ (one_ℚ /ℚ T.entry r c)) (table_row_old T r c i x) (table_col_new T r c)
          (table_entry_other T r c i c x ∙ pivot_other_at T r c i)
          (other_at (T.entry r c) (share D B N (T.row_name i)) (D.coef (T.row_name i) B) (T.entry i c) (D.coef B B) (delta B B) p
          (share_of i a) (d.column (T.row_name i) B basic_row) (d.column B B basic_row) (delta_same B))

      off_off : (i k : ℕ) → i < T.rows + T.goals → k < T.width → i ≢ r → k ≢ c → At i k
      off_off i k a b x y = goal_at i k (T.row_name i) (T.col_name k) (T.entry i k +ℚ T.entry i c *ℚ neg_ℚ (T.entry r k /ℚ T.entry r c))
          (table_row_old T r c i x) (table_col_old T r c k y) (table_entry_other T r c i k x ∙ pivot_other_off T r c i k y)
          (other_off (T.entry r c) (share D B N (T.row_name i)) (T.entry i k) (T.entry r k) (T.entry i c) (delta B (T.col_name k)) p
          (share_of i a) (delta_col k b)
          ∙ ap (λ x. x +ℚ share D B N (T.row_name i) *ℚ (delta B (T.col_name k) -ℚ T.entry r k)) (h.entries i k a b)
          ∙ ap (λ x. D.coef (T.row_name i) (T.col_name k) +ℚ share D B N (T.row_name i) *ℚ (delta B (T.col_name k) -ℚ x))
          (h.entries r k in_rows b))

  -- each new constant is the constant of the new dictionary
  pub shown_const : (i : ℕ) → i < T.rows + T.goals → (pivot_table T r c).entry i T.width
      ≡ (pivot D (T.row_name r) (T.col_name c)).const ((pivot_table T r c).row_name i)
  shown_const i a = ⊎_elim
      (λ x. subst (λ z. (pivot_table T r c).entry z T.width ≡ (pivot D B N).const ((pivot_table T r c).row_name z)) (sym x)
      (table_entry_row T r c T.width ∙ pivot_row_off T r c T.width last
      ∙ row_const (T.entry r c) (share D B N N) (D.const N) (T.entry r T.width) p share_new (d.still N free_col)
      ∙ ap (λ x. D.const N -ℚ share D B N N *ℚ x) (h.constants r in_rows) ∙ sym (pivot-const D B N N)
      ∙ ap (pivot D B N).const (sym (table_row_new T r c))))
      (λ x. table_entry_other T r c i T.width x ∙ pivot_other_off T r c i T.width last
      ∙ other_const (T.entry r c) (share D B N (T.row_name i)) (T.entry i T.width) (T.entry r T.width) (T.entry i c) p (share_of i a)
      ∙ ap (λ x. x -ℚ share D B N (T.row_name i) *ℚ T.entry r T.width) (h.constants i a)
      ∙ ap (λ x. D.const (T.row_name i) -ℚ share D B N (T.row_name i) *ℚ x) (h.constants r in_rows)
      ∙ sym (pivot-const D B N (T.row_name i)) ∙ ap (pivot D B N).const (sym (table_row_old T r c i x)))
      (cases_eq i r)
    where
      last : T.width ≢ c
      last e = omega (arith, e, m)
