-- Products of coefficients and entries, summed from the left.
use Rattle.std.proofs.Common.{◌≡◌, ◌∙◌, ⊎_elim, ℕ, ◌+◌, ◌<◌, ◌≤◌, List, [], ◌∷◌, ◌++◌, length, get_or, drop, min, Some, None, Result}
use Rattle.std.proofs.Common.{MatchResult, refl, ap, ap₂, sym, subst₂, arith}
use Rattle.std.proofs.lemmas.Bool.{cases_lt}
use Rattle.std.proofs.lemmas.List.{drop_more, drop_all}
use Rattle.base_numbers.specs.Rational.{ℚ, zero_ℚ, ◌+ℚ◌, ◌*ℚ◌}
use Rattle.base_numbers.specs.Vector.{dot}
use Rattle.base_numbers.proofs.rational.Laws.{+ℚ_assoc, +ℚ_idr, +ℚ_idl}
use Rattle.base_fractions.specs.Fits.{Fits, long_limit}
use Rattle.base_fractions.specs.declared.wide.Op.TheVariants.{Add}
use Rattle.base_fractions.specs.declared.wide.Wide.{Wide}
use Rattle.base_fractions.specs.Operation.{Operation, Answers, first_wide, product_sum_operations}
use Rattle.flow_systems.proofs.Widths.{first_wide_later, first_wide_sooner, one_answer, after}
use Rattle.theory_validity.specs.Words.{val}
use Rattle.solve_composition.specs.declared.affine.Affine.{Affine}
use Rattle.solve_composition.specs.ComposedLaws.{form_of}
use Rattle.solve_transformer.specs.Places.{products_reading, form_reading}

-- a sum from the left as far as its first i products are added: what is left of value and operations
pub record IsSummed (coeffs word : List ℚ) (i : ℕ) (sum : ℚ) : Type 0 where
  -- all products are the sum so far, and those still to come
  pub value : dot coeffs word ≡ sum +ℚ dot (drop i coeffs) (drop i word)
  -- the first wide operation is that of the products still to come
  pub first : first_wide long_limit (products_reading zero_ℚ coeffs word)
      ≡ first_wide long_limit (products_reading sum (drop i coeffs) (drop i word))

-- before any product is added the sum is 0
pub summed_none : (coeffs word : List ℚ) (sum : ℚ) → sum ≡ zero_ℚ → IsSummed coeffs word 0 sum
summed_none coeffs word sum e = record {
  value = sym (ap (λ s. s +ℚ dot coeffs word) e ∙ +ℚ_idl (dot coeffs word));
  first = ap (λ s. first_wide long_limit (products_reading s coeffs word)) (sym e);
}

dot_more : (c x : ℚ) (cs xs : List ℚ) → dot (c ∷ cs) (x ∷ xs) ≡ (c *ℚ x) +ℚ dot cs xs
unfolding dot
dot_more c x cs xs = refl

dot_none : (xs : List ℚ) → dot [] xs ≡ zero_ℚ
unfolding dot
dot_none xs = refl

dot_over : (cs : List ℚ) → dot cs [] ≡ zero_ℚ
unfolding dot
dot_over [] = refl
dot_over (c ∷ cs) = refl

reading_over : (sum : ℚ) (cs : List ℚ) → products_reading sum cs [] ≡ []
reading_over sum [] = refl
reading_over sum (c ∷ cs) = refl

module _ (coeffs word : List ℚ) (i : ℕ) (sum : ℚ) (h : IsSummed coeffs word i sum) (l : i < length coeffs) (k : i < length word) (c x : ℚ)
    (d : c ≡ get_or coeffs i c) (f : x ≡ get_or word i x) where
  coeffs_left : drop i coeffs ≡ c ∷ drop (i + 1) coeffs
  coeffs_left = drop_more coeffs i c l ∙ ap (λ y. y ∷ drop (i + 1) coeffs) (sym d)

  word_left : drop i word ≡ x ∷ drop (i + 1) word
  word_left = drop_more word i x k ∙ ap (λ y. y ∷ drop (i + 1) word) (sym f)

  left : products_reading sum (drop i coeffs) (drop i word) ≡ product_sum_operations sum c x
      ++ products_reading (sum +ℚ (c *ℚ x)) (drop (i + 1) coeffs) (drop (i + 1) word)
  left = ap₂ (λ cs xs. products_reading sum cs xs) coeffs_left word_left

  -- one more product that is not wide
  pub summed_more : (next : ℚ) → next ≡ sum +ℚ (c *ℚ x) → first_wide long_limit (product_sum_operations sum c x) ≡ None
      → IsSummed coeffs word (i + 1) next
  summed_more next e n = record {
    value = h.value ∙ ap₂ (λ cs xs. sum +ℚ dot cs xs) coeffs_left word_left
        ∙ ap (λ s. sum +ℚ s) (dot_more c x (drop (i + 1) coeffs) (drop (i + 1) word))
        ∙ sym (+ℚ_assoc sum (c *ℚ x) (dot (drop (i + 1) coeffs) (drop (i + 1) word)))
        ∙ ap (λ s. s +ℚ dot (drop (i + 1) coeffs) (drop (i + 1) word)) (sym e);
    first = h.first ∙ ap (first_wide long_limit) left
        ∙ first_wide_later long_limit (product_sum_operations sum c x) (products_reading (sum +ℚ (c *ℚ x)) (drop (i + 1) coeffs)
        (drop (i + 1) word)) n
        ∙ ap (λ s. first_wide long_limit (products_reading s (drop (i + 1) coeffs) (drop (i + 1) word))) (sym e);
  }

  -- one that is
  pub summed_wide : (o : Operation) → first_wide long_limit (product_sum_operations sum c x) ≡ Some o
      → first_wide long_limit (products_reading zero_ℚ coeffs word) ≡ Some o
  summed_wide o w =
      h.first ∙ ap (first_wide long_limit) left ∙ first_wide_sooner long_limit (product_sum_operations sum c x)
      (products_reading (sum +ℚ (c *ℚ x)) (drop (i + 1) coeffs) (drop (i + 1) word)) o w

-- all products
pub summed_all : (coeffs word : List ℚ) (i : ℕ) (sum : ℚ) → min (length coeffs) (length word) ≤ i → IsSummed coeffs word i sum
    → (sum ≡ dot coeffs word) × (first_wide long_limit (products_reading zero_ℚ coeffs word) ≡ None)
summed_all coeffs word i sum m h =
    ⊎_elim (λ l.
    let over : length word ≤ i = omega (arith, l, m) in
    let none = drop_all i word over in (
      sym (h.value ∙ ap (λ xs. sum +ℚ dot (drop i coeffs) xs) none ∙ ap (λ s. sum +ℚ s) (dot_over (drop i coeffs)) ∙ +ℚ_idr sum),
      h.first ∙ ap (λ xs. first_wide long_limit (products_reading sum (drop i coeffs) xs)) none
          ∙ ap (first_wide long_limit) (reading_over sum (drop i coeffs)),
    ))
    (λ k.
    let none = drop_all i coeffs k in (
      sym (h.value ∙ ap (λ cs. sum +ℚ dot cs (drop i word)) none ∙ ap (λ s. sum +ℚ s) (dot_none (drop i word)) ∙ +ℚ_idr sum),
      h.first ∙ ap (λ cs. first_wide long_limit (products_reading sum cs (drop i word))) none,
    ))
    (cases_lt i (length coeffs))

-- ---- a form
-- a form whose products are wide
pub form_refused : (form : Affine) (word coeffs : List ℚ) (o : Operation) → coeffs ≡ form.coeffs
    → first_wide long_limit (products_reading zero_ℚ coeffs word) ≡ Some o → first_wide long_limit (form_reading word form) ≡ Some o
form_refused form word coeffs o e h =
    first_wide_sooner long_limit (products_reading zero_ℚ form.coeffs word)
    (record { op = Add; left = dot form.coeffs word; right = form.constant } ∷ []) o
    (ap (λ cs. first_wide long_limit (products_reading zero_ℚ cs word)) (sym e) ∙ h)

-- and one whose constant is added
pub form_added : (form : Affine) (word coeffs : List ℚ) (sum : ℚ) (res : Result ℚ (Wide ℚ)) → coeffs ≡ form.coeffs → sum ≡ dot coeffs word
    → first_wide long_limit (products_reading zero_ℚ coeffs word) ≡ None →
    MatchResult res (λ r. (r ≡ sum +ℚ form.constant) × Fits long_limit r) (λ e. (¬ (Fits long_limit (sum +ℚ form.constant)))
    × (e ≡ record { op = Add; left = sum; right = form.constant })) →
    Answers (λ q. q) long_limit (val (form_of form) word) (form_reading word form) res
unfolding val
form_added form word coeffs sum res e v n m =
    after (dot form.coeffs word +ℚ form.constant) (products_reading zero_ℚ form.coeffs word)
    (record { op = Add; left = dot form.coeffs word; right = form.constant } ∷ []) res
    (ap (λ cs. first_wide long_limit (products_reading zero_ℚ cs word)) (sym e) ∙ n)
    (subst₂ (λ x y. Answers (λ q. q) long_limit (x +ℚ y) (record { op = Add; left = x; right = y } ∷ []) res)
    (v ∙ ap (λ cs. dot cs word) e) refl (one_answer Add sum form.constant res m))
