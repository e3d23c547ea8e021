-- No fraction's text is that of an infinity.
use Rattle.std.proofs.Common.{◌≡◌, ℕ, suc, ◌<◌, ◌^◌, List, [], ◌∷◌, ◌++◌, get_or, ℤ, pos, negsuc, nat_abs, decimal, refl, ap, subst, arith}
use Rattle.std.proofs.lemmas.Int.{ints}
use Rattle.std.specs.Str.Parse.{IsNumeral}
use Rattle.std.specs.Char.{digit_value}
use Rattle.std.specs.Fmt.{signed_decimal}
use Rattle.std.proofs.lemmas.Fmt.{decimal_is_IsNumeral}
use Rattle.base_fractions.specs.declared.ext.Ext.{Ext}
use Rattle.base_fractions.specs.declared.ext.Ext.TheVariants.{NegInf, Fin, PosInf}
use Rattle.base_fractions.specs.Extended.{ExtFits, ext_text}

abbrev head : List ℕ → ℕ
head xs = get_or xs 0 0

-- a text that begins with a numeral begins with a digit
first_digit : (xs rest ys : List ℕ) (y : ℕ) → IsNumeral 10 xs → xs ++ rest ≡ y ∷ ys → digit_value y < 10
first_digit [] rest ys y h e = absurd (omega (arith, h.0))
first_digit (x ∷ xs) rest ys y h e = subst (λ z. digit_value z < 10) (ap head e) h.1.0

digit_first : (n : ℕ) (rest ys : List ℕ) (y : ℕ) → n < 2 ^ 64 → decimal n ++ rest ≡ y ∷ ys → digit_value y < 10
digit_first n rest ys y l e = first_digit (decimal n) rest ys y (decimal_is_IsNumeral n l).0 e

abbrev tail : List ℕ → List ℕ
tail [] = []
tail (x ∷ xs) = xs

no_neg_word : (n : ℤ) (rest : List ℕ) → nat_abs n < 2 ^ 63 → signed_decimal n ++ rest ≡ 45 ∷ 105 ∷ 110 ∷ 102 ∷ [] → ⊥
no_neg_word (pos n) rest h e = let k : 36 < 10 = digit_first n rest (105 ∷ 110 ∷ 102 ∷ []) 45 (omega (arith, h)) e in omega (arith, k)
no_neg_word (negsuc n) rest h e = let k : 18 < 10 = digit_first (suc n) rest (110 ∷ 102 ∷ []) 105 (omega (arith, h)) (ap tail e) in
    omega (arith, k)

no_pos_word : (n : ℤ) (rest : List ℕ) → nat_abs n < 2 ^ 63 → signed_decimal n ++ rest ≡ 43 ∷ 105 ∷ 110 ∷ 102 ∷ [] → ⊥
no_pos_word (pos n) rest h e = let k : 36 < 10 = digit_first n rest (105 ∷ 110 ∷ 102 ∷ []) 43 (omega (arith, h)) e in omega (arith, k)
no_pos_word (negsuc n) rest h e = let k : 45 ≡ 43 = ap head e in omega (arith, k)

-- a value with the text `-inf` is minus infinity
pub only_neg : (e : Ext) → ExtFits e → ext_text e ≡ 45 ∷ 105 ∷ 110 ∷ 102 ∷ [] → NegInf ≡ e
only_neg NegInf f e = refl
only_neg (Fin q) f e = absurd (no_neg_word q.num _ (let h = f.num_fits in omega (arith, ints, h)) e)
only_neg PosInf f e = absurd (let k : 43 ≡ 45 = ap head e in omega (arith, k))

-- a value with the text `+inf` is plus infinity
pub only_pos : (e : Ext) → ExtFits e → ext_text e ≡ 43 ∷ 105 ∷ 110 ∷ 102 ∷ [] → PosInf ≡ e
only_pos NegInf f e = absurd (let k : 45 ≡ 43 = ap head e in omega (arith, k))
only_pos (Fin q) f e = absurd (no_pos_word q.num _ (let h = f.num_fits in omega (arith, ints, h)) e)
only_pos PosInf f e = refl
