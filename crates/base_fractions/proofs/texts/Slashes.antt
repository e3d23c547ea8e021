-- The texts of fractions, taken apart.
use Rattle.std.proofs.Common.{◌≡◌, ◌≢◌, ◌==◌, ℕ, zero, suc, ◌+◌, ◌-◌, ◌<◌, ◌^◌, ◌⊎◌, inl, inr, ⊎_elim, false, not, cond, eqb, List, [], ◌∷◌}
use Rattle.std.proofs.Common.{◌++◌, length, take, drop, ℤ, pos, negsuc, nat_abs, None, Some, decimal, refl, ap, ap₂, sym, ◌∙◌, subst, arith}
use Rattle.std.proofs.Common.{eq-eqb, ne_eqb, length-append, append-nil}
use lib.Signed.{mag}
use Rattle.std.specs.Fmt.{signed_decimal}
use Rattle.std.specs.Str.Parse.{AllDigits}
use Rattle.std.specs.Char.{digit_value}
use Rattle.std.specs.List.{prefix_len, position}
use Rattle.std.proofs.lemmas.Fmt.{decimal_is_IsNumeral}
use Rattle.std.proofs.lemmas.Bool.{le-ltb, lt-ltb}
use Rattle.std.proofs.lemmas.List.{take_all}
use Rattle.std.proofs.Math.Seq.{take-append_seam, drop-append-add}
use Rattle.base_fractions.specs.Texts.{parts_text}

-- what an integer keeps beside its sign is below 2 ^ 63 where its size is
pub mag_small : (z : ℤ) → nat_abs z < 2 ^ 63 → mag z < 2 ^ 63
mag_small (pos n) h = h
mag_small (negsuc n) h = omega (arith, h)

-- no byte is a slash
abbrev NoSlash : List ℕ → Type 0
NoSlash [] = Unit {0}
NoSlash (x ∷ xs) = (eqb x 47 ≡ false) × NoSlash xs

digit_no_slash : (x : ℕ) → digit_value x < 10 → eqb x 47 ≡ false
digit_no_slash x h = ne_eqb x 47 (λ e. absurd (let k : 36 < 10 = subst (λ y. digit_value y < 10) e h in omega (arith, k)))

digits_no_slash : (xs : List ℕ) → AllDigits 10 xs → NoSlash xs
digits_no_slash [] h = tt
digits_no_slash (x ∷ xs) h = (digit_no_slash x h.0, digits_no_slash xs h.1)

signed_no_slash : (z : ℤ) → nat_abs z < 2 ^ 63 → NoSlash (signed_decimal z)
signed_no_slash (pos n) h = digits_no_slash (decimal n) (decimal_is_IsNumeral n (omega (arith, h))).0.1
signed_no_slash (negsuc n) h = (refl, digits_no_slash (decimal (suc n)) (decimal_is_IsNumeral (suc n) (omega (arith, h))).0.1)

prefix_no_slash : (xs ys : List ℕ) → NoSlash xs → prefix_len (λ x. not (x == 47)) (xs ++ ys)
    ≡ length xs + prefix_len (λ x. not (x == 47)) ys
prefix_no_slash [] ys h = omega arith
prefix_no_slash (x ∷ xs) ys h =
    ap (λ b. cond (not b) (1 + prefix_len (λ x. not (x == 47)) (xs ++ ys)) 0) h.0 ∙ ap (λ n. 1 + n) (prefix_no_slash xs ys h.1)
    ∙ omega arith

-- the first slash of a text
no_slash_position : (xs : List ℕ) → NoSlash xs → position (λ b. b == 47) xs ≡ None
no_slash_position xs h =
    let e : prefix_len (λ x. not (x == 47)) xs ≡ length xs = ap (prefix_len (λ x. not (x == 47))) (sym (append-nil xs))
    ∙ prefix_no_slash xs [] h ∙ omega arith in
    ap (λ b. cond b (Some (prefix_len (λ x. not (x == 47)) xs)) None) (le-ltb (prefix_len (λ x. not (x == 47)) xs) (length xs)
    (omega (arith, e)))

slash_position : (xs ys : List ℕ) → NoSlash xs → position (λ b. b == 47) (xs ++ 47 ∷ ys) ≡ Some (length xs)
slash_position xs ys h =
    let e : prefix_len (λ x. not (x == 47)) (xs ++ 47 ∷ ys) ≡ length xs = prefix_no_slash xs (47 ∷ ys) h ∙ omega arith in
    ap₂ (λ b n. cond b (Some n) None) (lt-ltb (prefix_len (λ x. not (x == 47)) (xs ++ 47 ∷ ys)) (length (xs ++ 47 ∷ ys))
    (omega (arith, e, length-append xs (47 ∷ ys)))) e

-- the text of a fraction with the denominator 1 is its numerator's
pub whole_text : (n : ℤ) (d : ℕ) → d ≡ 1 → parts_text n d ≡ signed_decimal n
whole_text n d e = ap (λ b. signed_decimal n ++ cond b [] (47 ∷ decimal d)) (eq-eqb d 1 e) ∙ append-nil (signed_decimal n)

slash_text : (n : ℤ) (d : ℕ) → d ≢ 1 → parts_text n d ≡ signed_decimal n ++ 47 ∷ decimal d
slash_text n d e = ap (λ b. signed_decimal n ++ cond b [] (47 ∷ decimal d)) (ne_eqb d 1 e)

one_or_not : (d : ℕ) → (d ≡ 1) ⊎ (d ≢ 1)
one_or_not zero = inr (λ e. omega (arith, e))
one_or_not (suc zero) = inl refl
one_or_not (suc (suc d)) = inr (λ e. omega (arith, e))

none_not_some : {A : Type 0} {x : A} → None ≡ Some x → ⊥
none_not_some e = cc

-- two options with a value that are equal have one value
pub some_same : {A : Type 0} {x y : A} → Some x ≡ Some y → x ≡ y
some_same e = cc

cut_lists : (xs ys : List ℕ) (x at : ℕ) → at ≡ length xs → (take at (xs ++ x ∷ ys) ≡ xs)
    × (take (length (xs ++ x ∷ ys) - (at + 1)) (drop (at + 1) (xs ++ x ∷ ys)) ≡ ys)
cut_lists xs ys x at e =
    let rest : drop (at + 1) (xs ++ x ∷ ys) ≡ ys = ap (λ n. drop (n + 1) (xs ++ x ∷ ys)) e ∙ drop-append-add xs (x ∷ ys) 1 in (
      ap (λ n. take n (xs ++ x ∷ ys)) e ∙ take-append_seam xs (x ∷ ys),
      ap (take (length (xs ++ x ∷ ys) - (at + 1))) rest ∙ take_all (length (xs ++ x ∷ ys) - (at + 1)) ys
          (omega (arith, e, length-append xs (x ∷ ys))),
    )

module _ (text : List ℕ) (n : ℤ) (d : ℕ) (hn : nat_abs n < 2 ^ 63) (e : text ≡ parts_text n d) where
  -- where a slash stands in the text, the numerator's text is before the first one, and the denominator's after it
  pub cut : (at : ℕ) → position (λ b. b == 47) text ≡ Some at → (take at text ≡ signed_decimal n)
      × (take (length text - (at + 1)) (drop (at + 1) text) ≡ decimal d)
  cut at s = ⊎_elim
      (λ one. absurd (none_not_some (sym (ap (position (λ b. b == 47)) (e ∙ whole_text n d one)
      ∙ no_slash_position (signed_decimal n) (signed_no_slash n hn)) ∙ s)))
      (λ more.
      let f = e ∙ slash_text n d more in
      let at_is : at ≡ length (signed_decimal n) = some_same (sym s ∙ ap (position (λ b. b == 47)) f
      ∙ slash_position (signed_decimal n) (decimal d) (signed_no_slash n hn)) in
      let k = cut_lists (signed_decimal n) (decimal d) 47 at at_is in
      (ap (take at) f ∙ k.0, ap (λ t. take (length t - (at + 1)) (drop (at + 1) t)) f ∙ k.1))
      (one_or_not d)

  -- a text without a slash has the denominator 1, and is the numerator's
  pub uncut : position (λ b. b == 47) text ≡ None → (d ≡ 1) × (text ≡ signed_decimal n)
  uncut s = ⊎_elim
      (λ one. (one, e ∙ whole_text n d one))
      (λ more. absurd (none_not_some (sym s ∙ ap (position (λ b. b == 47)) (e ∙ slash_text n d more)
      ∙ slash_position (signed_decimal n) (decimal d) (signed_no_slash n hn))))
      (one_or_not d)
