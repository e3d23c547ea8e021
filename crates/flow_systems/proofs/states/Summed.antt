-- Sums from the left, product by product.
use Rattle.std.proofs.Common.{◌≡◌, ◌∙◌, ◌==◌, ◌&&◌, ℕ, ◌+◌, ◌<◌, ◌≤◌, ℤ, pos, List, [], ◌∷◌, ◌++◌}
use Rattle.std.proofs.Common.{length, get_or, drop, min, Bool, true, false}
use Rattle.std.proofs.Common.{true≢false, to_z, of_z, Option, Some, None, Result, MatchResult, MatchOption, IsSome, IsTrue, nat_abs, ◌⊎◌}
use Rattle.std.proofs.Common.{⊎_elim, ◌≢◌, refl, ap, ap₂, sym, subst, subst₂, arith}
use Rattle.std.specs.Prelude.{nat_le}
use mir.Syntax.{w64}
use Rattle.std.proofs.lemmas.Int.{ints, to_z-of_z}
use Rattle.std.proofs.lemmas.List.Folds.{list_all_at}
use Rattle.std.proofs.lemmas.Bool.{leb-true, cases_lt}
use Rattle.std.proofs.lemmas.List.{drop_more, drop_all}
use Rattle.base_numbers.specs.Rational.{ℚ, whole, zero_ℚ, ◌+ℚ◌, ◌*ℚ◌, ◌/ℚ◌}
use Rattle.base_numbers.proofs.rational.Parts.{num-whole, den-whole}
use Rattle.base_numbers.proofs.rational.Quotients.{whole_over_one}
use Rattle.base_numbers.proofs.rational.Laws.{+ℚ_assoc, +ℚ_idr, +ℚ_idl}
use Rattle.base_fractions.specs.Fits.{Fits, long_limit}
use Rattle.base_fractions.specs.declared.wide.Op.TheVariants.{Add, Mul}
use Rattle.base_fractions.specs.declared.wide.Wide.{Wide}
use Rattle.lang_tree.specs.declared.form.Form.{Form}
use Rattle.lang_tree.specs.Limits.{is_form, has_numbers}
use Rattle.lang_tree.specs.Numbers.{is_number, are_numbers}
use Rattle.base_fractions.specs.Operation.{Operation, first_wide, operation_of}
use Rattle.flow_systems.specs.States.{RationalState, dotℚ, valueℚ}
use Rattle.flow_systems.specs.Sums.{product_operations, products_operations, row_operations, form_operations}
use Rattle.flow_systems.specs.Sums.{SumAnswers}
use Rattle.flow_systems.proofs.Sizes.{both}
use Rattle.flow_systems.proofs.Widths.{first_wide_later, first_wide_sooner, first_wide_past, first_wide_here, one_answer, after}

-- a sum from the left as far as its first i products are added: what is left of value and operations
pub record IsSummed (row : List ℤ) (state : RationalState) (i : ℕ) (sum : ℚ) : Type 0 where
  -- the row's value is the sum so far, and that of the products still to come
  pub value : dotℚ row state ≡ sum +ℚ dotℚ (drop i row) (drop i state)
  -- the first wide operation of the row is that of the products still to come
  pub first : first_wide long_limit (row_operations row state) ≡ first_wide long_limit (products_operations sum (drop i row) (drop i state))

-- before any product is added the sum is 0
pub summed_none : (row : List ℤ) (state : RationalState) (sum : ℚ) → sum ≡ zero_ℚ → IsSummed row state 0 sum
summed_none row state sum e = record {
  value = sym (ap (λ s. s +ℚ dotℚ row state) e ∙ +ℚ_idl (dotℚ row state));
  first =
      ap (λ s. first_wide long_limit (products_operations s row state)) (sym e);
}

module _ (row : List ℤ) (state : RationalState) (i : ℕ) (sum : ℚ) (h : IsSummed row state i sum) (l : i < length row) (k : i < length state)
    (c : ℤ) (x : ℚ) (d : c ≡ get_or row i (pos 0)) (f : x ≡ get_or state i x) where
  row_left : drop i row ≡ c ∷ drop (i + 1) row
  row_left = drop_more row i (pos 0) l ∙ ap (λ y. y ∷ drop (i + 1) row) (sym d)

  state_left : drop i state ≡ x ∷ drop (i + 1) state
  state_left = drop_more state i x k ∙ ap (λ y. y ∷ drop (i + 1) state) (sym f)

  left : products_operations sum (drop i row) (drop i state) ≡ product_operations sum c x
      ++ products_operations (sum +ℚ (whole c *ℚ x)) (drop (i + 1) row) (drop (i + 1) state)
  left = ap₂ (λ cs xs. products_operations sum cs xs) row_left state_left

  -- one more product that is not wide
  pub summed_more : (next : ℚ) → next ≡ sum +ℚ (whole c *ℚ x) → first_wide long_limit (product_operations sum c x) ≡ None
      → IsSummed row state (i + 1) next
  summed_more next e n = record {
    value = h.value ∙ ap₂ (λ cs xs. sum +ℚ dotℚ cs xs) row_left state_left
        ∙ sym (+ℚ_assoc sum (whole c *ℚ x) (dotℚ (drop (i + 1) row) (drop (i + 1) state)))
        ∙ ap (λ s. s +ℚ dotℚ (drop (i + 1) row) (drop (i + 1) state)) (sym e);
    first = h.first ∙ ap (first_wide long_limit) left
        ∙ first_wide_later long_limit (product_operations sum c x) (products_operations (sum +ℚ (whole c *ℚ x)) (drop (i + 1) row)
        (drop (i + 1) state)) n
        ∙ ap (λ s. first_wide long_limit (products_operations s (drop (i + 1) row) (drop (i + 1) state))) (sym e);
  }

  -- one that is
  pub summed_wide : (o : Operation) → first_wide long_limit (product_operations sum c x) ≡ Some o
      → first_wide long_limit (row_operations row state) ≡ Some o
  summed_wide o w =
      h.first ∙ ap (first_wide long_limit) left ∙ first_wide_sooner long_limit (product_operations sum c x)
      (products_operations (sum +ℚ (whole c *ℚ x)) (drop (i + 1) row) (drop (i + 1) state)) o w

-- a row without values
dot_over : (cs : List ℤ) → dotℚ cs [] ≡ zero_ℚ
dot_over [] = refl
dot_over (c ∷ cs) = refl

products_over : (sum : ℚ) (cs : List ℤ) → products_operations sum cs [] ≡ []
products_over sum [] = refl
products_over sum (c ∷ cs) = refl

-- all products, up to the end of row or state
pub summed_all : (row : List ℤ) (state : RationalState) (i : ℕ) (sum : ℚ) → min (length row) (length state) ≤ i → IsSummed row state i sum
    → (sum ≡ dotℚ row state) × (first_wide long_limit (row_operations row state) ≡ None)
summed_all row state i sum m h =
    ⊎_elim (λ l.
    let over : length state ≤ i = omega (arith, l, m) in
    let none = drop_all i state over in (
      sym (h.value ∙ ap (λ xs. sum +ℚ dotℚ (drop i row) xs) none ∙ ap (λ s. sum +ℚ s) (dot_over (drop i row)) ∙ +ℚ_idr sum),
      h.first ∙ ap (λ xs. first_wide long_limit (products_operations sum (drop i row) xs)) none
          ∙ ap (first_wide long_limit) (products_over sum (drop i row)),
    ))
    (λ k.
    let none = drop_all i row k in (
      sym (h.value ∙ ap (λ cs. sum +ℚ dotℚ cs (drop i state)) none ∙ +ℚ_idr sum),
      h.first ∙ ap (λ cs. first_wide long_limit (products_operations sum cs (drop i state))) none,
    ))
    (cases_lt i (length row))

-- a product that is wide, and one that is added
pub product_refused : (sum f x : ℚ) (c : ℤ) (w : Wide ℚ) → f ≡ whole c → ¬ (Fits long_limit (f *ℚ x))
    → w ≡ record { op = Mul; left = f; right = x } →
    first_wide long_limit (product_operations sum c x) ≡ Some (operation_of (λ q. q) w)
product_refused sum f x c w e n k =
    first_wide_here long_limit (record { op = Mul; left = whole c; right = x }) (record { op = Add; left = sum; right = whole c *ℚ x } ∷ [])
    (λ h. n (subst (λ g. Fits long_limit (g *ℚ x)) (sym e) h))
    ∙ ap (λ g. Some (record { op = Mul; left = g; right = x })) (sym e) ∙ ap (λ (y : Wide ℚ). Some (operation_of (λ q. q) y)) (sym k)

-- where the product fits, the answer of the sum is that of the product and the sum
pub product_added : (sum f x p : ℚ) (c : ℤ) (res : Result ℚ (Wide ℚ)) → f ≡ whole c → p ≡ f *ℚ x → Fits long_limit p →
    MatchResult res (λ r. (r ≡ sum +ℚ p) × Fits long_limit r) (λ e. (¬ (Fits long_limit (sum +ℚ p)))
    × (e ≡ record { op = Add; left = sum; right = p })) →
    SumAnswers (sum +ℚ (whole c *ℚ x)) (product_operations sum c x) res
product_added sum f x p c res e k h m =
    let q : p ≡ whole c *ℚ x = k ∙ ap (λ g. g *ℚ x) e in
    after (sum +ℚ (whole c *ℚ x)) (record { op = Mul; left = whole c; right = x } ∷ [])
    (record { op = Add; left = sum; right = whole c *ℚ x } ∷ []) res
    (first_wide_past long_limit (record { op = Mul; left = whole c; right = x }) [] (subst (Fits long_limit) q h))
    (subst (λ y. SumAnswers (sum +ℚ y) (record { op = Add; left = sum; right = y } ∷ []) res) q (one_answer Add sum p res m))

-- a whole number of a program as a fraction
number_fits : (z : ℤ) → IsTrue (is_number z) → Fits long_limit (whole z /ℚ whole (pos 1))
number_fits z h =
    let l = leb-true (nat_abs z) 9223372036854775807 h in
    subst (λ q. Fits long_limit q) (sym (whole_over_one z)) record {
      num_fits =
          let e = ap nat_abs (num-whole z) in omega (arith, ints, l);
      den_fits = let e = den-whole z in omega (arith, ints);
    }

-- a coefficient of a row, and a number of a program as the code passes it
pub number_at : (row : List ℤ) (i : ℕ) → IsTrue (are_numbers row) → i < length row → IsTrue (is_number (get_or row i (pos 0)))
number_at row i h l = by (is_number (get_or row i (pos 0))) refl
  where
    by : (b : Bool) → is_number (get_or row i (pos 0)) ≡ b → b ≡ true
    by true e = refl
    by false e = absurd (true≢false (sym h ∙ list_all_at is_number row i (pos 0) l e))

-- a number of a program is itself as code passes it
pub number_same : (z : ℤ) → IsTrue (is_number z) → to_z w64 (of_z w64 z) ≡ z
number_same z h = let l = leb-true (nat_abs z) 9223372036854775807 h in to_z-of_z w64 z (omega (arith, ints, l))

-- a number of a program is made as a fraction
pub number_made : (z : ℤ) (o : Option ℚ) → IsTrue (is_number z) →
    MatchOption o ((pos 1 ≡ pos 0) ⊎ (¬ (Fits long_limit (whole z /ℚ whole (pos 1)))))
    (λ r. (r ≡ whole z /ℚ whole (pos 1)) × Fits long_limit r × (pos 1 ≢ pos 0)) → IsSome o
number_made z None h a = ⊎_elim (λ e. absurd (omega (arith, ints, e))) (λ n. absurd (n (number_fits z h))) a
number_made z (Some x) h a = refl

-- a form whose row is wide, and one whose constant is added
pub form_refused : (form : Form) (state : RationalState) (coeffs : List ℤ) (w : Wide ℚ) → coeffs ≡ form.coeffs
    → first_wide long_limit (row_operations coeffs state) ≡ Some (operation_of (λ q. q) w) →
    first_wide long_limit (form_operations form state) ≡ Some (operation_of (λ q. q) w)
form_refused form state coeffs w e h =
    first_wide_sooner long_limit (row_operations form.coeffs state) (record {
      op = Add;
      left = dotℚ form.coeffs state;
      right =
          whole form.constant;
    } ∷ []) (operation_of (λ q. q) w)
    (ap (λ cs. first_wide long_limit (row_operations cs state)) (sym e) ∙ h)

-- where no operation of the row is wide, the answer of adding the constant is that of the form
pub form_added : (form : Form) (state : RationalState) (coeffs : List ℤ) (sum constant : ℚ) (res : Result ℚ (Wide ℚ)) → coeffs ≡ form.coeffs
    → sum ≡ dotℚ coeffs state → first_wide long_limit (row_operations coeffs state) ≡ None →
    constant ≡ whole form.constant →
    MatchResult res (λ r. (r ≡ sum +ℚ constant) × Fits long_limit r) (λ e. (¬ (Fits long_limit (sum +ℚ constant)))
    × (e ≡ record { op = Add; left = sum; right = constant })) →
    SumAnswers (valueℚ form state) (form_operations form state) res
form_added form state coeffs sum constant res e v n k m =
    after (valueℚ form state) (row_operations form.coeffs state) (record {
      op = Add;
      left = dotℚ form.coeffs state;
      right =
          whole form.constant;
    } ∷ []) res
    (ap (λ cs. first_wide long_limit (row_operations cs state)) (sym e) ∙ n)
    (subst₂ (λ x y. SumAnswers (x +ℚ y) (record { op = Add; left = x; right = y } ∷ []) res) (v ∙ ap (λ cs. dotℚ cs state) e) k
    (one_answer Add sum constant res m))

-- the coefficients and the constant of a form are numbers of a program
pub numbers_at : (form : Form) → IsTrue (has_numbers form) → IsTrue (are_numbers form.coeffs) × IsTrue (is_number form.constant)
numbers_at form h = both (are_numbers form.coeffs) (is_number form.constant) h

-- a form within the limits has such numbers
pub form_numbers : (n : ℕ) (form : Form) → IsTrue (is_form n form) → IsTrue (has_numbers form)
form_numbers n form h = (both (nat_le (length form.coeffs) n) (has_numbers form) h).1
