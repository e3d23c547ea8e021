-- The test of a state row by row.
use Rattle.std.proofs.Common.{◌≡◌, ◌∙◌, ◌↔◌, ℕ, zero, suc, ◌+◌, ◌<◌, ◌≤◌, ⊎_elim, ℤ, Bool, true, false, T, cond, List, [], ◌∷◌, ◌++◌}
use Rattle.std.proofs.Common.{length, get_or, drop, Some, None, refl, ap, sym, subst, subst₂, true≢false, add-one, arith}
use Rattle.std.specs.Prelude.{IsTrue, slice_get}
use Rattle.std.specs.Ordering.{partial_le, is_le, as_partial_cmp}
use Rattle.std.specs.declared.cmp.Ordering.{Ordering}
use Rattle.std.specs.declared.cmp.Ordering.TheVariants.{Less, Equal, Greater}
use Rattle.std.proofs.lemmas.Bool.{cases_lt}
use Rattle.std.proofs.lemmas.List.{drop_more, drop_all}
use Rattle.std.proofs.lemmas.Option.{slice_get-get_or, get_or_from_slice_get}
use Rattle.base_numbers.specs.Rational.{ℚ, le_ℚ, ◌≤ℚ◌}
use Rattle.base_numbers.specs.Compare.{cmp_ℚ}
use Rattle.base_numbers.specs.Extended.{Ext, neg_inf, fin, pos_inf, ◌≤ᴱ◌}
use Rattle.base_numbers.proofs.rational.Laws.{le_of_lt_ℚ, le_of_eq_ℚ, not_le_of_lt}
use Rattle.base_numbers.proofs.compare.Compared.{cmp-less, cmp-equal, cmp-greater}
use Rattle.base_fractions.specs.Fits.{long_limit}
use Rattle.base_fractions.specs.Operation.{Operation, first_wide}
use Rattle.flow_systems.specs.States.{RationalState, dotℚ}
use Rattle.flow_systems.specs.FitTests.{is_at_most, row_test, fit_operations}
use Rattle.flow_systems.proofs.Widths.{first_wide_later, first_wide_sooner}

-- what `<=` answers
pub test_le : (a b : ℚ) (r : Bool) → r ≡ partial_le (as_partial_cmp cmp_ℚ) a b → IsTrue r ↔ (a ≤ℚ b)
test_le a b r e = by (cmp_ℚ a b) refl
  where
    by : (o : Ordering) → cmp_ℚ a b ≡ o → IsTrue r ↔ (a ≤ℚ b)
    by Less f = (λ t. le_of_lt_ℚ (cmp-less a b f), λ h. e ∙ ap is_le f)
    by Equal f = (λ t. le_of_eq_ℚ (cmp-equal a b f), λ h. e ∙ ap is_le f)
    by Greater f = (λ t. absurd (true≢false (sym t ∙ e ∙ ap is_le f)), λ h. absurd (not_le_of_lt (cmp-greater a b f) h))

-- the test of a bound
truth : (b : Bool) → T b → b ≡ true
truth true t = refl
truth false t = absurd t

untruth : (b : Bool) → b ≡ true → T b
untruth true e = tt
untruth false e = absurd (true≢false (sym e))

-- the test of a bound answers yes for a value that is at most the bound
pub at_most_yes : (q : ℚ) (b : Ext) → fin q ≤ᴱ b → is_at_most q b ≡ true
at_most_yes q neg_inf h = absurd h
at_most_yes q (fin b) h = truth (le_ℚ q b) h.le
at_most_yes q pos_inf h = refl

-- the test of a bound answers no for any other value
pub at_most_no : (q : ℚ) (b : Ext) → ¬ (fin q ≤ᴱ b) → is_at_most q b ≡ false
at_most_no q neg_inf n = refl
at_most_no q (fin b) n = by (le_ℚ q b) refl
  where
    by : (t : Bool) → le_ℚ q b ≡ t → t ≡ false
    by true e = absurd (n (record { le = untruth (le_ℚ q b) e }))
    by false e = refl
at_most_no q pos_inf n = absurd (n tt)

slice_get-at : (rows : List (List ℤ)) (i : ℕ) (row : List ℤ) → i < length rows → row ≡ get_or rows i row → slice_get rows i ≡ Some row
slice_get-at rows i row l e = slice_get-get_or rows i row l ∙ ap Some (sym e)

in_range : (rows : List (List ℤ)) (r : ℕ) (row : List ℤ) → slice_get rows r ≡ Some row → r < length rows
in_range [] r row e = cc
in_range (y ∷ ys) zero row e = omega arith
in_range (y ∷ ys) (suc r) row e = let l = in_range ys r row e in omega (arith, l)

-- a test as far as its first i rows are passed
pub record IsTested (rows : List (List ℤ)) (bounds : ℕ → Ext) (x : RationalState) (i : ℕ) : Type 0 where
  -- the first i rows are at most their bounds
  pub passed : (r : ℕ) (row : List ℤ) → r < i → slice_get rows r ≡ Some row → fin (dotℚ row x) ≤ᴱ bounds r
  -- the first wide operation of the test is that of the rows from i on
  pub first : first_wide long_limit (fit_operations rows bounds 0 x) ≡ first_wide long_limit (fit_operations (drop i rows) bounds i x)

tested_none : (rows : List (List ℤ)) (bounds : ℕ → Ext) (x : RationalState) → IsTested rows bounds x 0
tested_none rows bounds x = record { passed = λ r row l e. absurd (omega (arith, l)); first = refl }

module _ (rows : List (List ℤ)) (bounds : ℕ → Ext) (x : RationalState) (i : ℕ) (h : IsTested rows bounds x i) (row : List ℤ)
    (l : i < length rows) (e : row ≡ get_or rows i row) (bound : Ext) (k : bound ≡ bounds i) where
  left : first_wide long_limit (fit_operations rows bounds 0 x) ≡ first_wide long_limit
      (row_test row x bound ++ cond (is_at_most (dotℚ row x) bound) (fit_operations (drop (i + 1) rows) bounds (suc i) x) [])
  left =
      h.first ∙ ap (λ rs. first_wide long_limit (fit_operations rs bounds i x))
      (drop_more rows i row l ∙ ap (λ y. y ∷ drop (i + 1) rows) (sym e))
      ∙ ap (λ b. first_wide long_limit (row_test row x b ++ cond (is_at_most (dotℚ row x) b)
      (fit_operations (drop (i + 1) rows) bounds (suc i) x) [])) (sym k)

  -- one more row that is passed
  pub tested_more : fin (dotℚ row x) ≤ᴱ bound → first_wide long_limit (row_test row x bound) ≡ None → IsTested rows bounds x (i + 1)
  tested_more b n = record {
    passed = λ r other m f. ⊎_elim (λ s. h.passed r other s f) (at_row r other m f) (cases_lt r i);
    first = left ∙ first_wide_later long_limit (row_test row x bound) (cond (is_at_most (dotℚ row x) bound)
        (fit_operations (drop (i + 1) rows) bounds (suc i) x) []) n
        ∙ ap (λ t. first_wide long_limit (cond t (fit_operations (drop (i + 1) rows) bounds (suc i) x) []))
        (at_most_yes (dotℚ row x) bound b)
        ∙ ap (λ j. first_wide long_limit (fit_operations (drop (i + 1) rows) bounds j x)) (sym (add-one i));
  }
    where
      at_row : (r : ℕ) (other : List ℤ) → r < i + 1 → slice_get rows r ≡ Some other → i ≤ r → fin (dotℚ other x) ≤ᴱ bounds r
      at_row r other m f s =
          let q : i ≡ r = omega (arith, m, s) in
          subst₂ (λ u v. fin (dotℚ u x) ≤ᴱ v) (e ∙ ap (λ j. get_or rows j row) q ∙ get_or_from_slice_get rows r other row f)
          (k ∙ ap bounds q) b

  -- one that fails
  pub tested_fails : ¬ (fin (dotℚ row x) ≤ᴱ bound) → first_wide long_limit (row_test row x bound) ≡ None
      → first_wide long_limit (fit_operations rows bounds 0 x) ≡ None
  tested_fails b n =
      left ∙ first_wide_later long_limit (row_test row x bound) (cond (is_at_most (dotℚ row x) bound)
      (fit_operations (drop (i + 1) rows) bounds (suc i) x) []) n
      ∙ ap (λ t. first_wide long_limit (cond t (fit_operations (drop (i + 1) rows) bounds (suc i) x) [])) (at_most_no (dotℚ row x) bound b)

  -- where a row's value isn't at most its bound, not all rows are at most theirs
  pub fails_at : ¬ (fin (dotℚ row x) ≤ᴱ bound) → ¬ ((r : ℕ) (other : List ℤ) → slice_get rows r ≡ Some other
      → fin (dotℚ other x) ≤ᴱ bounds r)
  fails_at b all = b (subst (λ y. fin (dotℚ row x) ≤ᴱ y) (sym k) (all i row (slice_get-at rows i row l e)))

  -- one whose value is wide
  pub tested_wide : (o : Operation) → first_wide long_limit (row_test row x bound) ≡ Some o
      → first_wide long_limit (fit_operations rows bounds 0 x) ≡ Some o
  tested_wide o w = left ∙ first_wide_sooner long_limit (row_test row x bound)
      (cond (is_at_most (dotℚ row x) bound) (fit_operations (drop (i + 1) rows) bounds (suc i) x) []) o w

-- all rows
pub tested_all : (rows : List (List ℤ)) (bounds : ℕ → Ext) (x : RationalState) (i : ℕ) → length rows ≤ i → IsTested rows bounds x i →
    ((r : ℕ) (row : List ℤ) → slice_get rows r ≡ Some row → fin (dotℚ row x) ≤ᴱ bounds r)
    × (first_wide long_limit (fit_operations rows bounds 0 x) ≡ None)
tested_all rows bounds x i l h = (
  λ r row e. h.passed r row (omega (arith, l, in_range rows r row e)) e,
  h.first ∙ ap (λ rs. first_wide long_limit (fit_operations rs bounds i x)) (drop_all i rows l),
)
