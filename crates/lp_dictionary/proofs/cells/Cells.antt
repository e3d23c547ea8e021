-- Entries of a list by place, and rows that are set one entry after another.
use Rattle.std.proofs.Common.{◌≡◌, ◌≢◌, ℕ, ◌+◌, ◌<◌, inl, inr, ⊎_elim, List, length, map, get_or, set, sym, ap, ◌∙◌}
use Rattle.std.proofs.Common.{subst, arith, get_or-set_same, get_or-set_other}
use Rattle.std.proofs.lemmas.List.{get_or-map, length-map, map-set}
use Rattle.std.proofs.lemmas.Bool.{cases_lt}
use Rattle.base_numbers.specs.Rational.{ℚ, zero_ℚ}
use Rattle.lp_dictionary.specs.Cells.{cell}
use Rattle.lp_dictionary.specs.Rows.{SetsRow}

module _ {F : Type 0} (m : F → ℚ) where
  -- the entry that is read at a place
  pub cell_read : (xs : List F) (p : ℕ) (x : F) → p < length xs → x ≡ get_or xs p x → cell m xs p ≡ m x
  cell_read xs p x h e = get_or-map m xs p x zero_ℚ h ∙ ap m (sym e)

  -- the entry that was written
  pub cell_written : (xs : List F) (p : ℕ) (x : F) → p < length xs → cell m (set xs p x) p ≡ m x
  cell_written xs p x h = ap (λ ys. get_or ys p zero_ℚ) (map-set m xs p x)
      ∙ get_or-set_same (map m xs) p (m x) zero_ℚ (subst (λ n. p < n) (sym (length-map xs m)) h)

  -- any other entry stays
  pub cell_kept : (xs : List F) (p q : ℕ) (x : F) → q ≢ p → cell m (set xs p x) q ≡ cell m xs q
  cell_kept xs p q x n = ap (λ ys. get_or ys q zero_ℚ) (map-set m xs p x) ∙ get_or-set_other (map m xs) p q (m x) zero_ℚ n

  -- no entry of the row is set
  pub sets_none : (start : ℕ) (f : ℕ → ℚ) (xs : List F) → SetsRow m start 0 f xs xs
  sets_none start f xs = record { inside = λ k l. absurd (omega (arith, l)); outside = λ p h. refl_cell p }
    where
      refl_cell : (p : ℕ) → cell m xs p ≡ cell m xs p
      refl_cell p = λ _. cell m xs p

  -- one more entry of the row is set
  pub sets_more : (start k : ℕ) (f : ℕ → ℚ) (xs ys : List F) (x : F) → SetsRow m start k f xs ys → start + k < length ys → m x ≡ f k
      → SetsRow m start (k + 1) f xs (set ys (start + k) x)
  sets_more start k f xs ys x h l e = record {
    inside = λ j b. ⊎_elim
        (λ c. cell_kept ys (start + k) (start + j) x (λ q. absurd (omega (arith, q, c))) ∙ h.inside j c)
        (λ c. let s : j ≡ k = omega (arith, b, c) in ap (λ i. cell m (set ys (start + k) x) (start + i)) s ∙ cell_written ys (start + k) x l
        ∙ e ∙ ap f (sym s))
        (cases_lt j k);
    outside = λ p o. cell_kept ys (start + k) p x (⊎_elim (λ a q. absurd (omega (arith, a, q))) (λ a q. absurd (omega (arith, a, q))) o)
        ∙ h.outside p (⊎_elim (λ a. inl a) (λ a. inr (omega (arith, a))) o);
  }
