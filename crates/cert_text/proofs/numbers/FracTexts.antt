-- A number is read from its canonical text, and from no other.
use Rattle.std.proofs.Common.{◌≡◌, ◌≢◌, ◌⊎◌, ⊎_elim, ◌==◌, ◌&&◌, ℕ, zero, suc, ◌+◌, ◌-◌, ◌<◌, ◌≤◌, ◌^◌, Bool, true, false, cond, eqb, List}
use Rattle.std.proofs.Common.{[], ◌∷◌, length, drop, ℤ, pos, negsuc, neg_ℤ, nat_abs, Option, None, Some, MatchOption, decimal, refl, ap}
use Rattle.std.proofs.Common.{ap₂, sym, ◌∙◌, subst, arith, ne_eqb, Decides}
use Rattle.std.specs.Prelude.{nat_le, if◌then◌else◌, option_map, option_and_then, codes, IsTrue}
use Rattle.std.proofs.lemmas.Int.{ints}
use Rattle.std.proofs.lemmas.List.{take_all, length-drop}
use Rattle.std.proofs.lemmas.Bool.{le-leb}
use Rattle.std.proofs.lemmas.Fmt.{decimal_is_IsNumeral, IsAscii-decimal, IsAscii-signed}
use Rattle.std.proofs.lemmas.Slice.Eq.{bytes_eq-Decides}
use Rattle.std.proofs.lemmas.Str.{IsAscii-append}
use Rattle.std.proofs.lemmas.Str.Ascii.{IsAscii-nil}
use Rattle.std.specs.Fmt.{signed_decimal}
use Rattle.std.specs.List.{position}
use Rattle.std.specs.Str.{bytes_eq, IsAscii}
use Rattle.std.specs.Str.Parse.{AllDigits, digits_value, signed_digits_value}
use Rattle.std.specs.Char.{digit_value}
use Rattle.base_numbers.specs.Rational.{ℚ, ratio, whole, ◌/ℚ◌}
use Rattle.base_numbers.proofs.rational.Parts.{num-whole, den-whole, ratio-parts}
use Rattle.base_numbers.proofs.rational.Quotients.{whole_over_one}
use Rattle.base_fractions.specs.Fits.{Fits, long_limit}
use Rattle.base_fractions.specs.Texts.{frac_text}
use Rattle.base_fractions.specs.declared.ext.Ext.TheVariants.{NegInf, Fin, PosInf}
use Rattle.lang_tree.specs.Numbers.{is_number}
use Rattle.base_fractions.proofs.texts.Slashes.{cut, mag_small, uncut}
use Rattle.base_fractions.proofs.extended.Words.{only_neg, only_pos}
use Rattle.cert_text.specs.Numbers.{ext_of, frac_of, if_whole, is_kept, named, quotient_of, whole_of}

digit_is_not : (x y : ℕ) → digit_value x < 10 → 10 ≤ digit_value y → eqb x y ≡ false
digit_is_not x y h l = ne_eqb x y (λ e. absurd (let k : digit_value y < 10 = subst (λ z. digit_value z < 10) e h in omega (arith, k, l)))

-- digits without a sign
unsigned : (xs : List ℕ) → 0 < length xs → AllDigits 10 xs → signed_digits_value 10 xs ≡ pos (digits_value 10 xs)
unsigned [] l h = absurd (omega (arith, l))
unsigned (x ∷ xs) l h =
    let minus : eqb x 45 ≡ false = digit_is_not x 45 h.0 (omega arith) in
    let plus : eqb x 43 ≡ false = digit_is_not x 43 h.0 (omega arith) in
    ap (λ b. cond b (neg_ℤ (pos (digits_value 10 (cond b xs (drop (cond (eqb x 43) 1 0) (x ∷ xs))))))
    (pos (digits_value 10 (cond b xs (drop (cond (eqb x 43) 1 0) (x ∷ xs)))))) minus
    ∙ ap (λ b. pos (digits_value 10 (drop (cond b 1 0) (x ∷ xs)))) plus

-- a whole number is what its decimal text writes
signed_back : (z : ℤ) → nat_abs z < 2 ^ 63 → signed_digits_value 10 (signed_decimal z) ≡ z
signed_back (pos n) h = let k = decimal_is_IsNumeral n (omega (arith, h)) in unsigned (decimal n) k.0.0 k.0.1 ∙ ap pos k.1
signed_back (negsuc n) h = let k = decimal_is_IsNumeral (suc n) (omega (arith, h)) in ap (λ m. neg_ℤ (pos m)) k.1

small_num : (q : ℚ) → Fits long_limit q → nat_abs q.num < 2 ^ 63
small_num q f = let h = f.num_fits in omega (arith, ints, h)

small_den : (q : ℚ) → Fits long_limit q → q.den < 2 ^ 63
small_den q f = let h = f.den_fits in omega (arith, ints, h)

module _ (q : ℚ) (f : Fits long_limit q) where
  whole_is : 1 ≡ q.den → whole q.num ≡ q
  unfolding whole
  whole_is one = ap (ratio q.num) one ∙ ratio-parts q

  at_slash : (o : Option ℕ) → position (λ b. b == 47) (frac_text q) ≡ o → quotient_of o (frac_text q) ≡ q
  at_slash None e =
      let k = uncut (frac_text q) q.num q.den (small_num q f) refl e in
      ap whole (ap (signed_digits_value 10) k.1 ∙ signed_back q.num (small_num q f)) ∙ whole_is (sym k.0)
  at_slash (Some at) e =
      let k = cut (frac_text q) q.num q.den (small_num q f) refl at e in
      let rest : drop (at + 1) (frac_text q) ≡ decimal q.den =
      sym (take_all (length (frac_text q) - (at + 1)) (drop (at + 1) (frac_text q)) (omega (arith, length-drop (at + 1) (frac_text q))))
      ∙ k.1 in
      ap₂ ratio (ap (signed_digits_value 10) k.0 ∙ signed_back q.num (small_num q f))
      (ap (digits_value 10) rest ∙ (decimal_is_IsNumeral q.den (omega (arith, small_den q f))).1) ∙ ratio-parts q

  named_back : named (frac_text q) ≡ q
  unfolding named
  named_back = at_slash (position (λ b. b == 47) (frac_text q)) refl

kept : (q : ℚ) → Fits long_limit q → is_kept q ≡ true
kept q f = ap₂ (λ a b. a && b) (le-leb (nat_abs q.num) 9223372036854775807 (omega (arith, small_num q f)))
    (le-leb q.den 9223372036854775807 (omega (arith, small_den q f)))

-- the text of a number is read as the number
pub frac_back : (q : ℚ) → Fits long_limit q → frac_of (frac_text q) ≡ Some q
unfolding frac_of
frac_back q f =
    ap (λ r. if bytes_eq (frac_text q) (frac_text r) && is_kept r then Some r else None) (named_back q f)
    ∙ ap₂ (λ a b. if a && b then Some q else None) ((bytes_eq-Decides (frac_text q) (frac_text q)).1 refl) (kept q f)

and_both : (a b : Bool) → (a && b) ≡ true → (a ≡ true) × (b ≡ true)
and_both true b e = (refl, e)
and_both false b e = (e, absurd cc)

le_of_kept : (n : ℕ) → nat_le n 9223372036854775807 ≡ true → n ≤ 9223372036854775807
le_of_kept n e = grind (arith, e)

fits_kept : (q : ℚ) → is_kept q ≡ true → Fits long_limit q
fits_kept q e =
    let k = and_both _ _ e in
    let n = le_of_kept (nat_abs q.num) k.0 in
    let d = le_of_kept q.den k.1 in
    record { num_fits = omega (arith, ints, n); den_fits = omega (arith, ints, d) }

if_is : {A : Type 0} (b : Bool) (x y : A) → (if b then Some x else None) ≡ Some y → (b ≡ true) × (x ≡ y)
if_is true x y e = (refl, cc)
if_is false x y e = absurd cc

-- no other text is read as the number
pub frac_text_of : (text : List ℕ) (q : ℚ) → frac_of text ≡ Some q → (text ≡ frac_text q) × Fits long_limit q
unfolding frac_of
frac_text_of text q e =
    let k = if_is (bytes_eq text (frac_text (named text)) && is_kept (named text)) (named text) q e in
    let b = and_both _ _ k.0 in (
      (bytes_eq-Decides text (frac_text (named text))).0 b.0 ∙ ap frac_text k.1,
      subst (λ r. Fits long_limit r) k.1 (fits_kept (named text) b.1),
    )

none_or : {A : Type 0} (o : Option A) → ((x : A) → o ≡ Some x → ⊥) → None ≡ o
none_or None h = refl
none_or (Some x) h = absurd (h x refl)

-- what the reader of fractions answers
pub frac_read : (text : List ℕ) (o : Option ℚ) → MatchOption o ((q : ℚ) → Fits long_limit q → text ≢ frac_text q)
    (λ r. (text ≡ frac_text r) × Fits long_limit r) → o ≡ frac_of text
frac_read text None h = none_or (frac_of text) (λ q e. let k = frac_text_of text q e in h q k.1 k.0)
frac_read text (Some q) h = sym (ap frac_of h.0 ∙ frac_back q h.1)

-- ---- texts are ASCII

one_or_more : (d : ℕ) → d < 2 ^ 64 → (b : Bool) → IsAscii (if b then [] else 47 ∷ decimal d)
one_or_more d h true = IsAscii-nil
one_or_more d h false = slashed
  where
    slashed : IsAscii (47 ∷ decimal d)
    slashed zero = omega arith
    slashed (suc i) = IsAscii-decimal d h i

-- the text of a fraction that fits is ASCII
pub frac_ascii : (q : ℚ) → Fits long_limit q → IsAscii (frac_text q)
frac_ascii q f = IsAscii-append (signed_decimal q.num) _ (IsAscii-signed q.num (mag_small q.num (small_num q f)))
    (one_or_more q.den (omega (arith, small_den q f)) (q.den == 1))

-- ---- whole numbers

-- a whole number within 2^63 - 1 fits
pub whole_fits : (z : ℤ) → IsTrue (is_number z) → Fits long_limit (whole z)
whole_fits z t =
    let n = ap nat_abs (num-whole z) in
    let d = den-whole z in
    let h = le_of_kept (nat_abs z) t in
    record { num_fits = omega (arith, ints, n, h); den_fits = omega (arith, ints, d) }

-- x is z as the code passes it
pub whole_made : (z x : ℤ) (o : Option ℚ) → x ≡ z → IsTrue (is_number z)
    → MatchOption o ((pos 1 ≡ pos 0) ⊎ (¬ (Fits long_limit (whole x /ℚ whole (pos 1)))))
    (λ r. (r ≡ whole x /ℚ whole (pos 1)) × Fits long_limit r × (pos 1 ≢ pos 0)) → o ≡ Some (whole z)
whole_made z x None e t h =
    absurd (⊎_elim (λ e. let k = ap nat_abs e in omega (arith, k)) (λ n. n
    (subst (λ q. Fits long_limit q) (sym (ap (λ y. whole y /ℚ whole (pos 1)) e ∙ whole_over_one z)) (whole_fits z t))) h)
whole_made z x (Some q) e t h = ap Some (h.0 ∙ ap (λ y. whole y /ℚ whole (pos 1)) e ∙ whole_over_one z)

-- a whole number's text is read as it
pub whole_back : (z : ℤ) → IsTrue (is_number z) → whole_of (frac_text (whole z)) ≡ Some z
whole_back z t =
    ap (λ (o : Option ℚ). option_and_then if_whole o) (frac_back (whole z) (whole_fits z t))
    ∙ ap₂ (λ d n. if d == 1 then Some n else None) (den-whole z) (num-whole z)

-- ---- fractions and infinities

false_of : (b : Bool) {P : Type 0} → Decides b P → (P → ⊥) → b ≡ false
false_of true d n = absurd (n (d.0 refl))
false_of false d n = refl

-- a fraction's text is no infinity's, and is read as the fraction
pub fin_back : (q : ℚ) → Fits long_limit q → ext_of (frac_text q) ≡ Some (Fin q)
fin_back q f =
    let low : bytes_eq (frac_text q) (codes "-inf") ≡ false = false_of _ (bytes_eq-Decides (frac_text q) (codes "-inf"))
    (λ e. absurd (let k = only_neg (Fin q) f e in cc)) in
    let high : bytes_eq (frac_text q) (codes "+inf") ≡ false = false_of _ (bytes_eq-Decides (frac_text q) (codes "+inf"))
    (λ e. absurd (let k = only_pos (Fin q) f e in cc)) in
    ap₂ (λ a b. if a then Some NegInf else (if b then Some PosInf else option_map (λ (r : ℚ). Fin r) (frac_of (frac_text q)))) low high
    ∙ ap (λ o. option_map (λ (r : ℚ). Fin r) o) (frac_back q f)
