-- Lists of entries without a column.
use Rattle.std.proofs.Common.{◌≡◌, ◌≢◌, ℕ, suc, ◌+◌, ◌-◌, ◌<◌, ◌≤◌, ⊎_elim, cond, ltb, List, [], ◌∷◌, ◌++◌, length, map, get_or, take, drop}
use Rattle.std.proofs.Common.{refl, ap, ap₂, sym, ◌∙◌, subst, arith, lt-ltb, le-ltb}
use Rattle.std.specs.Prelude.{remove}
use Rattle.std.proofs.lemmas.Bool.{cases_lt, cases_eq, eq-eqb, ne_eqb}
use Rattle.std.proofs.lemmas.List.{map-append, take-map, drop-map, length-map}
use Rattle.std.proofs.lemmas.List.Edits.{get_or-remove_below, get_or-remove_above}
use Rattle.base_numbers.specs.Rational.{ℚ}
use Rattle.lp_theory.specs.Table.{skip}
use Rattle.lp_theory.proofs.TableDrops.{skip_below, skip_above}
use Rattle.lp_dictionary.specs.declared.entry.Entry.{Entry}
use Rattle.lp_sparse.specs.declared.row.SparseRow.{SparseRow}
use Rattle.lp_dictionary.specs.Entries.{value_at, Rises, HasNoZero}
use Rattle.lp_sparse.specs.Entries.{moved, left_out}
use Rattle.lp_sparse.specs.Rows.{row_at}
use Rattle.lp_dictionary.proofs.kept.Lists.{head_on, head_off}

-- where a column other than z moves to
abbrev place : ℕ → ℕ → ℕ
place z c = cond (ltb c z) c (c - 1)

place_below : (z c : ℕ) → c < z → place z c ≡ c
place_below z c l = ap (λ b. cond b c (c - 1)) (lt-ltb c z l)

place_above : (z c : ℕ) → z ≤ c → place z c ≡ c - 1
place_above z c l = ap (λ b. cond b c (c - 1)) (le-ltb c z l)

skip_off : (z k : ℕ) → skip z k ≢ z
skip_off z k e = ⊎_elim (λ a. let s = skip_below z k a in omega (arith, s, e, a)) (λ a. let s = skip_above z k a in omega (arith, s, e, a))
    (cases_lt k z)

place_skip : (z c k : ℕ) → c ≢ z → c ≡ skip z k → place z c ≡ k
place_skip z c k d e = ⊎_elim
    (λ a. let s = skip_below z k a in let p = place_below z c (omega (arith, s, e, a)) in omega (arith, p, s, e))
    (λ a. let s = skip_above z k a in let p = place_above z c (omega (arith, s, e, a)) in omega (arith, p, s, e))
    (cases_lt k z)

skip_place : (z c k : ℕ) → c ≢ z → place z c ≡ k → c ≡ skip z k
skip_place z c k d e = ⊎_elim
    (λ a. let p = place_below z c a in let s = skip_below z k (omega (arith, p, e, a)) in omega (arith, p, s, e))
    (λ a. let p = place_above z c a in let s = skip_above z k (omega (arith, p, e, a, d)) in omega (arith, p, s, e, a, d))
    (cases_lt c z)

module _ {F : Type 0} where
  -- the columns rise still
  pub left_out_rises : (z lo lo' n : ℕ) (es : List (Entry F)) → z ≤ n → lo' ≤ lo → (z < lo → lo' + 1 ≤ lo) → Rises lo (suc n) es
      → Rises lo' n (left_out z es)
  left_out_rises z lo lo' n [] b l h r = tt
  left_out_rises z lo lo' n (e ∷ es) b l h r = ⊎_elim
      (λ q. subst (λ t. Rises lo' n (cond t (left_out z es) (moved z e ∷ left_out z es))) (sym (eq-eqb e.col z q))
      (left_out_rises z (suc e.col) lo' n es b (let x = r.0 in omega (arith, x, l)) (λ s. let x = r.0 in omega (arith, x, l)) r.2))
      (λ d. subst (λ t. Rises lo' n (cond t (left_out z es) (moved z e ∷ left_out z es))) (sym (ne_eqb e.col z d))
      (⊎_elim
      (λ a. let p = place_below z e.col a in let x = r.0 in (
        omega (arith, p, x, l),
        omega (arith, p, a, b),
        left_out_rises z (suc e.col) (suc (place z e.col)) n es b (omega (arith, p))
            (λ s. omega (arith, s, a)) r.2,
      ))
      (λ a. let p = place_above z e.col a in let x = r.0 in let y = r.1 in (
        ⊎_elim (λ s. let u = h s in omega (arith, p, x, u)) (λ s. omega (arith, p, s, l, a, d)) (cases_lt z lo),
        omega (arith, p, y, a, d),
        left_out_rises z (suc e.col) (suc (place z e.col)) n es b (omega (arith, p)) (λ s. omega (arith, p, a, d)) r.2,
      ))
      (cases_lt e.col z)))
      (cases_eq e.col z)

  module _ (m : F → ℚ) where
    -- the numbers at the columns that are left
    pub value_left : (z k : ℕ) (es : List (Entry F)) → value_at m (left_out z es) k ≡ value_at m es (skip z k)
    value_left z k [] = refl
    value_left z k (e ∷ es) = ⊎_elim
        (λ q. ap (λ t. value_at m (cond t (left_out z es) (moved z e ∷ left_out z es)) k) (eq-eqb e.col z q) ∙ value_left z k es
        ∙ sym (head_off m e es (skip z k) (λ s. skip_off z k (sym s ∙ q))))
        (λ d. ap (λ t. value_at m (cond t (left_out z es) (moved z e ∷ left_out z es)) k) (ne_eqb e.col z d) ∙ ⊎_elim
        (λ q. ap (λ t. cond t (m e.value) (value_at m (left_out z es) k)) (eq-eqb (place z e.col) k (place_skip z e.col k d q))
        ∙ sym (head_on m e es (skip z k) q))
        (λ q. ap (λ t. cond t (m e.value) (value_at m (left_out z es) k)) (ne_eqb (place z e.col) k (λ s. q (skip_place z e.col k d s)))
        ∙ value_left z k es ∙ sym (head_off m e es (skip z k) q))
        (cases_eq e.col (skip z k)))
        (cases_eq e.col z)

    -- a list without a zero entry has none when a column is left out
    pub no_zero_left : (z : ℕ) (es : List (Entry F)) → HasNoZero m es → HasNoZero m (left_out z es)
    no_zero_left z [] h = tt
    no_zero_left z (e ∷ es) h = ⊎_elim
        (λ q. subst (λ t. HasNoZero m (cond t (left_out z es) (moved z e ∷ left_out z es))) (sym (eq-eqb e.col z q))
        (no_zero_left z es h.1))
        (λ d. subst (λ t. HasNoZero m (cond t (left_out z es) (moved z e ∷ left_out z es))) (sym (ne_eqb e.col z d))
        (h.0, no_zero_left z es h.1))
        (cases_eq e.col z)

  -- the rows without one of them
  pub row_removed : (rows : List (SparseRow F)) (z i : ℕ) → z < length rows → row_at (remove rows z) i ≡ row_at rows (skip z i)
  row_removed rows z i l =
      let f = λ (r : SparseRow F). r.entries.items in
      let b : z < length (map f rows) = subst (λ n. z < n) (sym (length-map rows f)) l in
      let e : map f (remove rows z) ≡ remove (map f rows) z = map-append f (take z rows) (drop (suc z) rows)
      ∙ ap₂ (λ x y. x ++ y) (sym (take-map f z rows)) (sym (drop-map f (suc z) rows)) in
      ap (λ xs. get_or xs i []) e ∙ ⊎_elim
      (λ a. get_or-remove_below (map f rows) z [] i a b ∙ ap (λ j. get_or (map f rows) j []) (sym (skip_below z i a)))
      (λ a. get_or-remove_above (map f rows) z [] i a b ∙ ap (λ j. get_or (map f rows) j [])
      (let s = skip_above z i a in let t : i + 1 ≡ skip z i = omega (arith, s) in t))
      (cases_lt i z)
