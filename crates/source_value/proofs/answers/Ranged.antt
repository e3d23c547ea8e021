-- Checks that what is computed is one of the integers.
use Rattle.std.proofs.Common.{◌≡◌, ◌∙◌, ◌++◌, ◌∷◌, ◌+◌, [], ℕ, zero, suc, ℤ, pos, negsuc, ◌+ℤ◌, ◌*ℤ◌, ◌⊎◌, inl, inr, ⊎_elim, List, map}
use Rattle.std.proofs.Common.{Bool, true, false, ◌&&◌, nat_le, refl, sym, ap, subst, arith, replicate}
use Rattle.std.specs.Prelude.{◌-ℤ◌, nat_abs}
use Rattle.std.proofs.lemmas.Int.{ints}
use Rattle.std.proofs.lemmas.Bool.{and_from, and_left, and_right, and_parts, and_cases, lt-leb, leb-false}
use Rattle.lang_tree.specs.declared.form.Form.{Form}
use Rattle.lang_tree.specs.declared.cond.Rel.TheVariants.{Le}
use Rattle.lang_tree.specs.declared.check.CheckKind.TheVariants.{Range}
use Rattle.lang_tree.specs.Numbers.{is_number, are_numbers}
use Rattle.lang_tree.specs.Limits.{has_numbers}
use Rattle.lang_tree.specs.Tree.{Condition}
use Rattle.base_integers.specs.declared.integers.Width.{Width}
use Rattle.base_integers.specs.declared.integers.Width.TheVariants.{Bits8, Bits16, Bits32}
use Rattle.base_integers.specs.declared.integers.Integers.{Integers}
use Rattle.base_integers.specs.declared.integers.Integers.TheVariants.{Mathematical, Machine}
use Rattle.base_integers.specs.Integers.{greatest}
use Rattle.source_tree.specs.Expressions.{Direction, up, down}
use Rattle.source_core.specs.Forms.{constant_form, variable_form, minus}
use Rattle.source_core.specs.Elaborated.{Elaborated, form_behind, related, has, is_held, form_in, checked, number_at, ranged}
use Rattle.source_core.specs.Fits.{is_comparable, condition_fits, deeds_fit, result_fits, fits}
use Rattle.source_value.specs.declared.value.Value.{Value}
use Rattle.source_value.specs.Stands.{Stands}
use Rattle.source_value.proofs.answers.Parts.{first_unfit, last_unfit}
use Rattle.source_value.proofs.answers.Handed.{when_false}
use Rattle.source_value.specs.Steps.{stepped_form}
use Rattle.source_value.proofs.forms.Made.{form_with, minus-constant, sums-nothing}
use Rattle.source_value.proofs.numbers.Lists.{zeros_then}

-- ---- a variable that is compared with the bounds is always in range
comparable : (cs : List ℤ) (z : ℤ) → are_numbers cs ≡ true → is_number z ≡ true → nat_le (nat_abs z + 1) 9223372036854775807 ≡ true
    → is_comparable (form_with cs z) ≡ true
comparable cs z e f g =
    and_from (are_numbers cs && is_number z) (nat_le (nat_abs z + 1) 9223372036854775807)
    (and_from (are_numbers cs) (is_number z) e f) g

opposite_zeros : (n : ℕ) → are_numbers (map (λ x. negsuc 0 *ℤ x) (replicate n (pos 0) ++ pos 1 ∷ [])) ≡ true
opposite_zeros zero = refl
opposite_zeros (suc n) = opposite_zeros n

-- the bounds of a width, each less a number, may be compared
abbrev near_bounds : Width → ℤ → Bool
near_bounds width z =
    is_comparable (constant_form (negsuc (greatest width) +ℤ (negsuc 0 *ℤ z))) && is_comparable (constant_form (z -ℤ pos (greatest width)))

zero_near : (width : Width) → near_bounds width (pos 0) ≡ true
zero_near Bits8 = refl
zero_near Bits16 = refl
zero_near Bits32 = refl

one_near : (width : Width) → near_bounds width (pos 1) ≡ true
one_near Bits8 = refl
one_near Bits16 = refl
one_near Bits32 = refl

minus_one_near : (width : Width) → near_bounds width (negsuc 0) ≡ true
minus_one_near Bits8 = refl
minus_one_near Bits16 = refl
minus_one_near Bits32 = refl

module _ (h : ℕ) where
  abbrev list : List ℤ
  list = replicate h (pos 0) ++ pos 1 ∷ []

  -- so are those less the variable and such a number
  near_fits : (width : Width) (z : ℤ) → near_bounds width z ≡ true → condition_fits (is_held width (form_with list z)) ≡ true
  near_fits width z e =
      let least = negsuc (greatest width) +ℤ (negsuc 0 *ℤ z) in
      let most = z -ℤ pos (greatest width) in
      let p = and_parts (is_comparable (constant_form least)) (is_comparable (constant_form most)) e in
      let f = form_with list z in
      let low = and_parts (is_number least) (nat_le (nat_abs least + 1) 9223372036854775807) p.0 in
      let high = and_parts (is_number most) (nat_le (nat_abs most + 1) 9223372036854775807) p.1 in
      and_from (condition_fits (related Le (constant_form (negsuc (greatest width))) f))
      (condition_fits (related Le f (constant_form (pos (greatest width)))))
      (comparable (map (λ x. negsuc 0 *ℤ x) list) least (opposite_zeros h) low.0 low.1)
      (ap is_comparable (minus-constant f (pos (greatest width))) ∙ comparable list most (zeros_then h (pos 1) refl) high.0 high.1)

  -- the whole condition is
  pub held_fits : (width : Width) → condition_fits (is_held width (variable_form h)) ≡ true
  held_fits width = near_fits width (pos 0) (zero_near width)

  -- so is that of what the variable has behind a step
  pub stepped_held : (width : Width) (d : Direction) → condition_fits (is_held width (stepped_form d h)) ≡ true
  stepped_held width up =
      ap (λ cs. condition_fits (is_held width (form_with cs (pos 1)))) (sums-nothing list) ∙ near_fits width (pos 1) (one_near width)
  stepped_held width down =
      ap (λ cs. condition_fits (is_held width (form_with cs (negsuc 0)))) (sums-nothing list)
      ∙ near_fits width (negsuc 0) (minus_one_near width)

-- ---- a form out of range is out of it where it is compared with the bounds
constant_unfit : (g : ℕ) (z : ℤ) → is_number z ≡ false
    → (is_number (negsuc g +ℤ (negsuc 0 *ℤ z)) ≡ false) ⊎ (is_number (z -ℤ pos g) ≡ false)
constant_unfit g (pos n) e = inl (ap is_number (both_down g n)
    ∙ lt-leb (suc (g + n)) 9223372036854775807 (omega (arith, leb-false n 9223372036854775807 e))) where
      both_down : (g n : ℕ) → negsuc g +ℤ (negsuc 0 *ℤ pos n) ≡ negsuc (g + n)
      both_down g n = omega (arith, ints)
constant_unfit g (negsuc n) e = inr (ap is_number (further_down g n)
    ∙ lt-leb (suc (n + g)) 9223372036854775807 (omega (arith, leb-false (suc n) 9223372036854775807 e))) where
      further_down : (g n : ℕ) → negsuc n -ℤ pos g ≡ negsuc (n + g)
      further_down g n = omega (arith, ints)

-- the condition is out of range with its form
pub held_unfit : (width : Width) (f : Form) → has_numbers f ≡ false → condition_fits (is_held width f) ≡ false
held_unfit width f e =
    let least = minus (constant_form (negsuc (greatest width))) f in
    let z = f.constant -ℤ pos (greatest width) in
    let a = condition_fits (related Le (constant_form (negsuc (greatest width))) f) in
    let b = condition_fits (related Le f (constant_form (pos (greatest width)))) in
    let last = λ (p : are_numbers f.coeffs && is_number z ≡ false). and_right a b
    (ap is_comparable (minus-constant f (pos (greatest width)))
    ∙ and_left (are_numbers f.coeffs && is_number z) (nat_le (nat_abs z + 1) 9223372036854775807) p) in
    ⊎_elim (λ p. last (and_left (are_numbers f.coeffs) (is_number z) p))
    (λ p. ⊎_elim (λ q. and_left a b (and_left (has_numbers least) (nat_le (nat_abs least.constant + 1) 9223372036854775807)
    (and_right (are_numbers least.coeffs) (is_number least.constant) q)))
    (λ q. last (and_right (are_numbers f.coeffs) (is_number z) q)) (constant_unfit (greatest width) f.constant p))
    (and_cases (are_numbers f.coeffs) (is_number f.constant) e)

-- ---- checks behind values
module _ (integers : Integers) (line place : ℕ) (holds : Width → Form → Condition) (e : Elaborated) where
  -- by all integers there is none
  pub is_unranged : integers ≡ Mathematical → e ≡ ranged integers line place holds e
  is_unranged q = ap (λ i. ranged i line place holds e) (sym q)

  -- by those of a machine there is one
  abbrev pub with_check : Width → Elaborated
  with_check width = record {
    prelude = e.prelude ++ checked line Range place (holds width (form_in e.result)) ∷ [];
    result = e.result;
    next = e.next;
  }

  -- by a machine's integers the check stands behind it
  pub is_ranged : (width : Width) → integers ≡ Machine width → with_check width ≡ ranged integers line place holds e
  is_ranged width q = ap (λ i. ranged i line place holds e) (sym q)

  -- a value that stands for one stands for it
  pub unranged_stands : (n : ℕ) (v : Value) → integers ≡ Mathematical → Stands n v e → Stands n v (ranged integers line place holds e)
  unranged_stands n v q s = subst (λ x. Stands n v x) (is_unranged q) s

  -- so does one with the check
  pub ranged_stands : (n : ℕ) (v : Value) (width : Width) → integers ≡ Machine width → Stands n v (with_check width)
      → Stands n v (ranged integers line place holds e)
  ranged_stands n v width q s = subst (λ x. Stands n v x) (is_ranged width q) s

  -- where the check is out of range, so is the value
  pub check_unfit : (width : Width) → integers ≡ Machine width → condition_fits (holds width (form_in e.result)) ≡ false
      → fits (ranged integers line place holds e) ≡ false
  check_unfit width q p =
      let check = checked line Range place (holds width (form_in e.result)) in
      ap fits (sym (is_ranged width q)) ∙ and_left (deeds_fit (e.prelude ++ check ∷ [])) (result_fits e.result)
      (last_unfit e.prelude check p)

-- a number that is none of the integers
pub number_outside : (integers : Integers) (line : ℕ) (v : ℤ) (at h : ℕ) (width : Width) → integers ≡ Machine width → has width v ≡ false
    → with_check integers line at is_held (form_behind [] h (constant_form v)) width ≡ number_at integers line v at h
number_outside integers line v at h width q e =
    when_false (λ x. with_check integers line at is_held (form_behind [] h (constant_form v)) width ≡ x)
    (has width v) _ _ e refl ∙ ap (λ i. number_at i line v at h) (sym q)

-- a value that is out of range is so with a check behind it
pub value_unfit : (integers : Integers) (line place : ℕ) (holds : Width → Form → Condition) (e : Elaborated) → fits e ≡ false
    → fits (ranged integers line place holds e) ≡ false
value_unfit Mathematical line place holds e q = q
value_unfit (Machine width) line place holds e q =
    let check = checked line Range place (holds width (form_in e.result)) in
    ⊎_elim (λ p. and_left (deeds_fit (e.prelude ++ check ∷ [])) (result_fits e.result) (first_unfit e.prelude (check ∷ []) p))
    (λ p. and_right (deeds_fit (e.prelude ++ check ∷ [])) (result_fits e.result) p)
    (and_cases (deeds_fit e.prelude) (result_fits e.result) q)
