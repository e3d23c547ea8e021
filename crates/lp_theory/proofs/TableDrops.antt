-- A table with the auxiliary variable's column and the first goal left out shows the dictionary with that variable dropped.
use Rattle.std.proofs.Common.{◌≡◌, ◌≢◌, ℕ, zero, suc, ◌+◌, ◌-◌, ◌<◌, ◌≤◌, ◌⊎◌, inl, inr, ⊎_elim, true, false, cond, refl, ap, sym, ◌∙◌}
use Rattle.std.proofs.Common.{subst, arith, true≢false, lt-ltb, le-ltb}
use Rattle.std.proofs.lemmas.Bool.{cases_lt, cases_eq}
use Rattle.base_numbers.specs.Rational.{zero_ℚ}
use Rattle.lp_theory.specs.Dictionary.{delta, Dict, IsDict, drop_zero}
use Rattle.lp_theory.specs.Table.{Table, Shows, skip, drop_table}

-- a position before the place that is left out stays
pub skip_below : (z k : ℕ) → k < z → skip z k ≡ k
skip_below z k l = ap (λ b. cond b k (suc k)) (lt-ltb k z l)

-- a position from the place that is left out on is one further
pub skip_above : (z k : ℕ) → z ≤ k → skip z k ≡ suc k
skip_above z k l = ap (λ b. cond b k (suc k)) (le-ltb k z l)

-- the position stays within one more
pub skip_bound : (z k w : ℕ) → k < w → skip z k < suc w
skip_bound z k w l = ⊎_elim (λ h. omega (arith, l, skip_below z k h)) (λ h. omega (arith, l, skip_above z k h)) (cases_lt k z)

-- the place left out is not met
skip_not : (z k : ℕ) → skip z k ≢ z
skip_not z k e = ⊎_elim (λ h. omega (arith, e, h, skip_below z k h)) (λ h. omega (arith, e, h, skip_above z k h)) (cases_lt k z)

-- two positions stay apart
skip_apart : (z j k : ℕ) → skip z j ≡ skip z k → j ≡ k
skip_apart z j k e = ⊎_elim
    (λ h. ⊎_elim (λ i. omega (arith, e, skip_below z j h, skip_below z k i))
    (λ i. omega (arith, e, h, i, skip_below z j h, skip_above z k i)) (cases_lt k z))
    (λ h. ⊎_elim (λ i. omega (arith, e, h, i, skip_above z j h, skip_below z k i))
    (λ i. omega (arith, e, skip_above z j h, skip_above z k i)) (cases_lt k z))
    (cases_lt j z)

-- each other position is met
skip_meets : (z k w : ℕ) → k < suc w → k ≢ z → z < suc w → (j : ℕ) × (j < w) × (skip z j ≡ k)
skip_meets z k w l h m = ⊎_elim
    (λ i. (k, omega (arith, i, m), skip_below z k i))
    (λ i. let p : suc (k - 1) ≡ k = omega (arith, i, h) in (k - 1, omega (arith, p, l), skip_above z (k - 1) (omega (arith, p, i, h)) ∙ p))
    (cases_lt k z)

drop_basic : (D : Dict) (k : ℕ) → k ≢ 0 → (drop_zero D).basic k ≡ D.basic k
unfolding drop_zero
drop_basic D zero h = absurd (h refl)
drop_basic D (suc k) h = refl

drop_basic_true : (D : Dict) (k : ℕ) → D.basic k ≡ true → (drop_zero D).basic k ≡ true
unfolding drop_zero
drop_basic_true D zero e = refl
drop_basic_true D (suc k) e = e

drop_coef_off : (D : Dict) (i k : ℕ) → k ≢ 0 → (drop_zero D).coef i k ≡ D.coef i k
unfolding drop_zero
drop_coef_off D i zero h = absurd (h refl)
drop_coef_off D i (suc k) h = refl

drop_const_is : (D : Dict) (i : ℕ) → (drop_zero D).const i ≡ D.const i
unfolding drop_zero
drop_const_is D i = refl

-- the row of the name dropped is 0
drop_row_zero : (n : ℕ) (D : Dict) → IsDict n D → D.basic 0 ≡ false → (k : ℕ) → (drop_zero D).coef 0 k ≡ zero_ℚ
unfolding drop_zero delta
drop_row_zero n D d f zero = refl
drop_row_zero n D d f (suc k) = d.unit 0 (suc k) f

drop_row_keeps : (D : Dict) (q : ℕ) → ((k : ℕ) → D.coef q k ≡ zero_ℚ) → (k : ℕ) → (drop_zero D).coef q k ≡ zero_ℚ
unfolding drop_zero
drop_row_keeps D q z zero = refl
drop_row_keeps D q z (suc k) = z (suc k)

-- T has the goals' rows goals + 1 and the columns width + 1, the name 0 at the column z
module _ (n : ℕ) (T : Table) (D : Dict) (h : Shows n T D) (d : IsDict n D) (goals width z : ℕ) (g : T.goals ≡ suc goals)
    (w : T.width ≡ suc width) (l : z < T.width) (zero_col : T.col_name z ≡ 0) where
  row_in : (i : ℕ) → i < T.rows + goals → skip T.rows i < T.rows + T.goals
  row_in i a = let b = skip_bound T.rows i (T.rows + goals) a in omega (arith, b, g)

  col_in : (k : ℕ) → k < width → skip z k < T.width
  col_in k a = let b = skip_bound z k width a in omega (arith, b, w)

  col_off : (k : ℕ) → k < width → T.col_name (skip z k) ≢ 0
  col_off k a e = skip_not z k (h.cols_apart (skip z k) z (col_in k a) l (e ∙ sym zero_col))

  zero_free : D.basic 0 ≡ false
  zero_free = ap D.basic (sym zero_col) ∙ h.col_free z l

  cols : (q : ℕ) → q < n → (drop_zero D).basic q ≡ false → (k : ℕ) × (k < width) × (T.col_name (skip z k) ≡ q)
  unfolding drop_zero
  cols zero a f = absurd (true≢false f)
  cols (suc q) a f =
      let v = h.all_cols (suc q) a f in
      let off : v.0 ≢ z = λ e. let e2 : suc q ≡ 0 = sym v.2 ∙ ap T.col_name e ∙ zero_col in omega (arith, e2) in
      let s = skip_meets z v.0 width (omega (arith, v.1, w)) off (omega (arith, l, w)) in
      (s.0, s.1, ap T.col_name s.2 ∙ v.2)

  rows : (q : ℕ) → q < n → (drop_zero D).basic q ≡ true → ((i : ℕ) × (i < T.rows) × (T.row_name (skip T.rows i) ≡ q))
      ⊎ ((k : ℕ) → (drop_zero D).coef q k ≡ zero_ℚ)
  rows q a b = ⊎_elim
      (λ e. inr (λ k. ap (λ x. (drop_zero D).coef x k) e ∙ drop_row_zero n D d zero_free k))
      (λ e. ⊎_elim
      (λ v. inl (v.0, v.1, ap T.row_name (skip_below T.rows v.0 v.1) ∙ v.2))
      (λ v. inr (drop_row_keeps D q v))
      (h.all_rows q a (sym (drop_basic D q e) ∙ b)))
      (cases_eq q 0)

  -- the smaller table shows the dictionary with name 0 dropped
  pub table_drop : Shows n (drop_table T goals width z) (drop_zero D)
  unfolding drop_table
  table_drop = record {
    row_below = λ i a. subst (λ x. T.row_name x < n) (sym (skip_below T.rows i a)) (h.row_below i a);
    row_basic = λ i a. drop_basic_true D (T.row_name (skip T.rows i)) (h.row_basic (skip T.rows i) (row_in i a));
    rows_apart = λ i j a b e. skip_apart T.rows i j (h.rows_apart (skip T.rows i) (skip T.rows j) (row_in i a) (row_in j b) e);
    col_free = λ k a. drop_basic D (T.col_name (skip z k)) (col_off k a) ∙ h.col_free (skip z k) (col_in k a);
    cols_apart = λ j k a b e. skip_apart z j k (h.cols_apart (skip z j) (skip z k) (col_in j a) (col_in k b) e);
    entries = λ i k a b. h.entries (skip T.rows i) (skip z k) (row_in i a) (col_in k b)
        ∙ sym (drop_coef_off D (T.row_name (skip T.rows i)) (T.col_name (skip z k)) (col_off k b));
    constants = λ i a. ap (T.entry (skip T.rows i)) (skip_above z width (omega (arith, l, w)) ∙ sym w)
        ∙ h.constants (skip T.rows i) (row_in i a) ∙ sym (drop_const_is D (T.row_name (skip T.rows i)));
    all_cols = cols;
    all_rows = rows;
  }
