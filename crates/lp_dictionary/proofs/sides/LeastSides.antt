-- The least side so far, one row further, and at the end.
use Rattle.std.proofs.Common.{◌≡◌, ℕ, ◌+◌, ◌<◌, ⊎_elim, Option, Some, None, length}
use Rattle.std.proofs.Common.{get_or, ap, sym, ◌∙◌, subst, arith}
use Rattle.std.proofs.lemmas.Bool.{cases_lt}
use Rattle.std.proofs.lemmas.List.{get_or-map}
use Rattle.base_numbers.specs.Rational.{ℚ, zero_ℚ, lt_ℚ, ◌≤ℚ◌, ◌<ℚ◌}
use Rattle.base_numbers.proofs.rational.Laws.{≤ℚ_refl, ≤ℚ_trans, le_of_lt_ℚ, lt_of_lt_of_le_ℚ, <ℚ_trans}
use Rattle.lp_theory.specs.Problem as lp
use Rattle.lp_theory.specs.Simplex.{lowest}
use Rattle.lp_theory.proofs.search.Searches.{lt_does, least_is}
use Rattle.lp_theory.proofs.search.Runs.{least_none, least_same, not_below}
use Rattle.lp_dictionary.specs.declared.problem.Row.{Row}
use Rattle.lp_dictionary.specs.declared.problem.Problem.{Problem}
use Rattle.lp_dictionary.specs.Exact.{exact, search_of}
use Rattle.lp_dictionary.specs.Sides.{IsLeastSoFar}

-- the side of a row that was read
pub side_read : {F : Type 0} (m : F → ℚ) (p : Problem F) (i : ℕ) (r : Row F) → i < length p.rows.items → r ≡ get_or p.rows.items i r
    → (exact m p).side i ≡ m r.side
side_read m p i r l e = get_or-map (λ (x : Row _). m x.side) p.rows.items i r zero_ℚ l ∙ ap (λ (x : Row _). m x.side) (sym e)

-- one row further, where its side is not less
pub least_kept : (f : ℕ → ℚ) (n : ℕ) (x : ℚ) (o : Option ℕ) → IsLeastSoFar f n x o → x ≤ℚ f n → IsLeastSoFar f (n + 1) x o
least_kept f n x None h l = (
  h.0,
  λ k b. ⊎_elim (λ a. h.1 k a) (λ a. let e : k ≡ n = omega (arith, a, b) in
      subst (λ j. zero_ℚ ≤ℚ f j) (sym e) (subst (λ y. y ≤ℚ f n) h.0 l)) (cases_lt k n),
)
least_kept f n x (Some r) h l = (
  omega (arith, h.0),
  h.1,
  h.2,
  λ k b. ⊎_elim (λ a. h.3 k a) (λ a. let e : k ≡ n = omega (arith, a, b) in subst (λ j. x ≤ℚ f j) (sym e) l) (cases_lt k n),
  h.4,
)

below_zero : (f : ℕ → ℚ) (n : ℕ) (x y : ℚ) (o : Option ℕ) → IsLeastSoFar f n x o → y <ℚ x → y <ℚ zero_ℚ
below_zero f n x y None h l = subst (λ z. y <ℚ z) h.0 l
below_zero f n x y (Some r) h l = <ℚ_trans l h.2

above_all : (f : ℕ → ℚ) (n : ℕ) (x : ℚ) (o : Option ℕ) → IsLeastSoFar f n x o → (k : ℕ) → k < n → x ≤ℚ f k
above_all f n x None h k l = subst (λ z. z ≤ℚ f k) (sym h.0) (h.1 k l)
above_all f n x (Some r) h k l = h.3 k l

-- one row further, where its side y is less
pub least_found : (f : ℕ → ℚ) (n : ℕ) (x y : ℚ) (o : Option ℕ) → IsLeastSoFar f n x o → f n ≡ y → y <ℚ x → IsLeastSoFar f (n + 1) y (Some n)
least_found f n x y o h e l = (
  omega arith,
  e,
  below_zero f n x y o h l,
  λ k b. ⊎_elim (λ a. ≤ℚ_trans (le_of_lt_ℚ l) (above_all f n x o h k a))
      (λ a. let s : k ≡ n = omega (arith, a, b) in subst (λ j. y ≤ℚ f j) (sym s) (subst (λ z. y ≤ℚ z) (sym e) (≤ℚ_refl y))) (cases_lt k n),
  λ k b. lt_of_lt_of_le_ℚ l (above_all f n x o h k b),
)

-- after all rows
pub least_lowest : (P : lp.Problem) (x : ℚ) (o : Option ℕ) → IsLeastSoFar P.side P.rows x o → search_of o ≡ lowest P
unfolding lowest
least_lowest P x None h = sym (least_none (λ r. lt_ℚ (P.side r) zero_ℚ) P.side P.rows (lowest P)
    (least_is (λ r. lt_ℚ (P.side r) zero_ℚ) P.side P.rows) (λ i l. not_below (P.side i) (h.1 i l)))
least_lowest P x (Some r) h = sym (least_same (λ r. lt_ℚ (P.side r) zero_ℚ) P.side P.rows (lowest P) r
    (least_is (λ r. lt_ℚ (P.side r) zero_ℚ) P.side P.rows) record {
      below = h.0;
      wanted = lt_does (subst (λ y. y <ℚ zero_ℚ) (sym h.1) h.2);
      least = λ i l w. subst (λ y. y ≤ℚ P.side i) (sym h.1) (h.3 i l);
      before = λ i l w. subst (λ y. y <ℚ P.side i) (sym h.1) (h.4 i l);
    })
