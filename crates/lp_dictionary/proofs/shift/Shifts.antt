-- One more entry, and one more row, moved forward.
use Rattle.std.proofs.Common.{◌≡◌, ℕ, ◌+◌, ◌-◌, ◌*◌, ◌<◌, ◌≤◌, inl, inr, ⊎_elim, List, length, get_or, set, ap, sym}
use Rattle.std.proofs.Common.{◌∙◌, subst, arith}
use native.Mathlib.Nat.{mul-le-mul_right, mul-le-mul_left}
use Rattle.std.proofs.lemmas.Bool.{cases_lt}
use Rattle.base_numbers.specs.Rational.{ℚ}
use Rattle.lp_theory.specs.Table.{skip}
use Rattle.lp_theory.proofs.TableDrops.{skip_below, skip_above}
use Rattle.lp_dictionary.specs.Cells.{cell, row_from}
use Rattle.lp_dictionary.specs.Rows.{SetsRow, ShiftsRows}
use Rattle.lp_dictionary.proofs.cells.Cells.{cell_read, sets_more}
use Rattle.lp_dictionary.proofs.cells.RowLoops.{row_end}

-- before the place that is left out, the code takes the entry at the same place
pub place_before : (z k p : ℕ) → k < z → p ≡ k → p ≡ skip z k
place_before z k p l e = e ∙ sym (skip_below z k l)

-- from the place that is left out on, the code takes the entry one place further
pub place_behind : (z k p : ℕ) → z ≤ k → p ≡ k + 1 → p ≡ skip z k
place_behind z k p l e = let s = skip_above z k l in omega (arith, e, s)

-- the place is not before its number
skip_least : (z k : ℕ) → k ≤ skip z k
skip_least z k = ⊎_elim (λ l. omega (arith, skip_below z k l)) (λ l. omega (arith, skip_above z k l)) (cases_lt k z)

-- a number is moved by one place at most when a place is left out
pub skip_most : (z k : ℕ) → skip z k ≤ k + 1
skip_most z k = ⊎_elim (λ l. omega (arith, skip_below z k l)) (λ l. omega (arith, skip_above z k l)) (cases_lt k z)

module _ {F : Type 0} (m : F → ℚ) where
  -- one entry more is moved forward
  pub shift_more : (old ys : List F) (from to k c p : ℕ) (x : F) → SetsRow m to k (λ j. row_from m old from (skip c j)) old ys → to ≤ from
      → p ≡ skip c k → from + p < length ys → x ≡ get_or ys (from + p) x →
      SetsRow m to (k + 1) (λ j. row_from m old from (skip c j)) old (set ys (to + k) x)
  shift_more old ys from to k c p x h o e l i =
      let q : k ≤ p = subst (λ y. k ≤ y) (sym e) (skip_least c k) in
      sets_more m to k (λ j. row_from m old from (skip c j)) old ys x h (omega (arith, l, o, q))
      (sym (cell_read m ys (from + p) x l i) ∙ h.outside (from + p) (inr (omega (arith, o, q))) ∙ ap (row_from m old from) e)

  -- one more row
  pub rows_shift_more : (old ys zs : List F) (i r s c p : ℕ) → 0 < s → ShiftsRows m i r s c old ys → p ≡ skip r i
      → SetsRow m (i * (s - 1)) (s - 1) (λ k. row_from m ys (p * s) (skip c k)) ys zs → ShiftsRows m (i + 1) r s c old zs
  rows_shift_more old ys zs i r s c p b h e w = record {
    moved = λ j k l a. ⊎_elim
        (λ f. w.outside (j * (s - 1) + k) (inl (let g = row_end j i (s - 1) f in omega (arith, g, a))) ∙ h.moved j k f a)
        (λ f. let n : j ≡ i = omega (arith, l, f) in
        subst (λ x. cell m zs (x * (s - 1) + k) ≡ cell m old (skip r x * s + skip c k)) (sym n)
        (w.inside k a ∙ h.later (p * s + skip c k) (source k) ∙ ap (λ y. cell m old (y * s + skip c k)) e))
        (cases_lt j i);
    later = λ q a.
        let d : (i + 1) * (s - 1) ≡ i * (s - 1) + (s - 1) = omega arith in
        w.outside q (inr (omega (arith, a, d))) ∙ h.later q (omega (arith, a, d));
  }
    where
      source : (k : ℕ) → i * (s - 1) ≤ p * s + skip c k
      source k =
          let q : i ≤ p = subst (λ y. i ≤ y) (sym e) (skip_least r i) in
          let u : i * (s - 1) ≤ p * (s - 1) = mul-le-mul_right (s - 1) q in
          let v : p * (s - 1) ≤ p * s = mul-le-mul_left p (omega (arith, b)) in
          omega (arith, u, v)
