-- The first wide operation of lists that are joined.
use Rattle.std.proofs.Common.{◌≡◌, ℕ, zero, suc, ◌+◌, ◌<◌, ◌≤◌, ⊎_elim, ℤ, List, [], ◌++◌, Option, Some, None, refl}
use Rattle.std.proofs.Common.{ap, ap₂, sym, ◌∙◌, arith, add-one}
use Rattle.std.proofs.lemmas.Bool.{cases_lt}
use Rattle.base_fractions.specs.Operation.{Operation, first_wide}
use Rattle.lp_dictionary.specs.Listed.{joined}
use Rattle.lp_dictionary.proofs.Widths.{first_wide_later, first_wide_sooner}

-- the lists of n + 1 indexes joined are those of n indexes joined, and then the last one
pub joined-suc : {A : Type 0} (n : ℕ) (f : ℕ → List A) → joined (n + 1) f ≡ joined n f ++ f n
unfolding joined
joined-suc n f = ap (λ k. joined k f) (add-one n)

-- no lists joined are the empty list
pub joined-zero : {A : Type 0} (f : ℕ → List A) → joined 0 f ≡ []
unfolding joined
joined-zero f = refl

-- lists that agree below n
pub joined_same : {A : Type 0} (n : ℕ) (f g : ℕ → List A) → ((k : ℕ) → k < n → f k ≡ g k) → joined n f ≡ joined n g
unfolding joined
joined_same zero f g h = refl
joined_same (suc n) f g h = ap₂ (λ x y. x ++ y) (joined_same n f g (λ k l. h k (omega (arith, l)))) (h n (omega arith))

-- where what is found first in two lists is what is found in the first one, and where nothing is found there, in the second one
module _ {A B : Type 0} (first : List A → Option B) (sooner : (xs ys : List A) (o : B) → first xs ≡ Some o → first (xs ++ ys) ≡ Some o)
    (later : (xs ys : List A) → first xs ≡ None → first (xs ++ ys) ≡ first ys) where
  -- one more list, in which nothing is found
  pub none_found_more : (n : ℕ) (f : ℕ → List A) → first (joined n f) ≡ None → first (f n) ≡ None → first (joined (n + 1) f) ≡ None
  none_found_more n f h k = ap first (joined-suc n f) ∙ later (joined n f) (f n) h ∙ k

  -- what is found first stays the first in longer lists
  found_more : (k n : ℕ) (f : ℕ → List A) (o : B) → k ≤ n → first (joined k f) ≡ Some o → first (joined n f) ≡ Some o
  found_more k zero f o l h = ap (λ x. first (joined x f)) (let e : 0 ≡ k = omega (arith, l) in e) ∙ h
  found_more k (suc n) f o l h = ⊎_elim
      (λ b. ap (λ x. first (joined x f)) (sym (add-one n)) ∙ ap first (joined-suc n f)
      ∙ sooner (joined n f) (f n) o (found_more k n f o (omega (arith, b)) h))
      (λ b. ap (λ x. first (joined x f)) (let e : suc n ≡ k = omega (arith, b, l) in e) ∙ h)
      (cases_lt k (suc n))

  -- what the list number k has first, where nothing is found before it
  pub found_at : (k n : ℕ) (f : ℕ → List A) (o : B) → k < n → first (joined k f) ≡ None → first (f k) ≡ Some o → first (joined n f) ≡ Some o
  found_at k n f o l h w =
      found_more (k + 1) n f o (omega (arith, l)) (ap first (joined-suc k f) ∙ later (joined k f) (f k) h ∙ w)

-- one more list, of which none is wide
pub joined_fits_more : (L : ℤ) (n : ℕ) (f : ℕ → List Operation) → first_wide L (joined n f) ≡ None → first_wide L (f n) ≡ None
    → first_wide L (joined (n + 1) f) ≡ None
joined_fits_more L n f h k = none_found_more (first_wide L) (first_wide_sooner L) (first_wide_later L) n f h k

-- the list number k has the first that is wide
pub joined_wide_at : (L : ℤ) (k n : ℕ) (f : ℕ → List Operation) (o : Operation) → k < n → first_wide L (joined k f) ≡ None
    → first_wide L (f k) ≡ Some o → first_wide L (joined n f) ≡ Some o
joined_wide_at L k n f o l h w = found_at (first_wide L) (first_wide_sooner L) (first_wide_later L) k n f o l h w

-- none of no lists is wide
pub joined_fits_none : (L : ℤ) (f : ℕ → List Operation) → first_wide L (joined 0 f) ≡ None
joined_fits_none L f = ap (first_wide L) (joined-zero f)

-- lists that are empty below n
pub joined_fits_empty : (L : ℤ) (n : ℕ) (f : ℕ → List Operation) → ((k : ℕ) → k < n → f k ≡ []) → first_wide L (joined n f) ≡ None
unfolding joined
joined_fits_empty L zero f h = refl
joined_fits_empty L (suc n) f h = first_wide_later L (joined n f) (f n) (joined_fits_empty L n f (λ k l. h k (omega (arith, l))))
    ∙ ap (first_wide L) (h n (omega arith))

-- lists below n of which none is wide
pub joined_fits_each : (L : ℤ) (n : ℕ) (f : ℕ → List Operation) → ((k : ℕ) → k < n → first_wide L (f k) ≡ None)
    → first_wide L (joined n f) ≡ None
unfolding joined
joined_fits_each L zero f h = refl
joined_fits_each L (suc n) f h = first_wide_later L (joined n f) (f n) (joined_fits_each L n f (λ k l. h k (omega (arith, l))))
    ∙ h n (omega arith)
