-- The terms of a row, as expressions with a value.
use Rattle.std.proofs.Common.{◌≡◌, ◌==◌, ◌≤◌, ◌+◌, ◌*ℤ◌, ◌+ℤ◌, ℕ, suc, ℤ, pos, negsuc, nat_abs, Bool, true, false, IsTrue, List, [], ◌∷◌}
use Rattle.std.proofs.Common.{◌++◌, length, Some, Ok, refl, sym, ap, ◌∙◌, subst, arith}
use Rattle.std.specs.Prelude.{◌-ℤ◌, decimal, if◌then◌else◌}
use Rattle.std.proofs.lemmas.Int.{ints}
use Rattle.std.proofs.lemmas.Bool.{le-leb, eqb-true}
use Rattle.lang_tokens.specs.declared.sign.Sign.{Sign}
use Rattle.lang_tokens.specs.declared.sign.Sign.TheVariants.{Star}
use Rattle.lang_tokens.specs.Bytes.{is_word_byte}
use Rattle.lang_tokens.specs.Signs.{sign_bytes}
use Rattle.lang_tokens.specs.Lexemes.{IsName, greatest_literal}
use Rattle.lang_tokens.proofs.lexemes.Heads.{heads}
use Rattle.lang_grammar.specs.Grammar as g
use Rattle.lang_grammar.specs.View.{sign_kind}
use Rattle.lang_tree.specs.declared.form.Form.{Form}
use Rattle.lang_tree.specs.Numbers.{is_number, are_numbers}
use Rattle.lang_meaning.specs.Names.{place_of}
use Rattle.lang_meaning.specs.Forms.{scaled, pairwise, products}
use Rattle.lang_meaning.specs.Walk.{a_form, combined, ranged}
use Rattle.lang_meaning.proofs.forms.Ranges.{zeros_fit}
use Rattle.flow_systems.specs.Report.{term_text, first_sign}
use Rattle.acsl_notes.proofs.written.Forms.{form_of, sum_of, zeros, one_at, ranged_ok, zeros_constant}
use Rattle.acsl_notes.proofs.written.Forms.{products_zeros, products_one, one_fits}
use Rattle.acsl_notes.proofs.written.Lexed.{Lexed, beside, a_space, a_mark, nothing, decimal_numeral}
use Rattle.acsl_notes.proofs.written.Spelled.{Spelled, number_spelled, name_spelled, negated, joins, word_plain, numeral_plain}

-- ---- what signs make of sums
pub form_is : (cs ds : List ℤ) (c d : ℤ) → cs ≡ ds → c ≡ d → form_of cs c ≡ form_of ds d
form_is cs ds c d e f = rw (e, f) refl

ranged_is : (a : ℕ) (f : Form) (ds : List ℤ) → f.coeffs ≡ ds → f.constant ≡ pos 0 → IsTrue (are_numbers ds) → ranged a f ≡ Ok (sum_of ds)
ranged_is a f ds e z fits =
    ranged_ok a f (subst (λ (cs : List ℤ). IsTrue (are_numbers cs)) (sym e) fits) (subst (λ (c : ℤ). IsTrue (is_number c)) (sym z) refl)
    ∙ ap Ok (form_is f.coeffs ds f.constant (pos 0) e z)

-- a number times a sum
pub times_value : (w a at b : ℕ) (z : ℤ) (cs ds : List ℤ) → products z cs ≡ ds → IsTrue (are_numbers ds)
    → combined g.times_op a (a_form (form_of (zeros w) (z)) at) (a_form (sum_of cs) b) ≡ Ok (a_form (sum_of ds) at)
times_value w a at b z cs ds e fits =
    rw (zeros_constant w, ranged_is a (scaled z (sum_of cs)) ds e (omega (arith, ints)) fits) refl

-- the sum of two
pub sum_value : (a at b : ℕ) (xs ys zs : List ℤ) → pairwise false xs ys ≡ zs → IsTrue (are_numbers zs)
    → combined g.plus_op a (a_form (sum_of xs) at) (a_form (sum_of ys) b) ≡ Ok (a_form (sum_of zs) at)
sum_value a at b xs ys zs e fits =
    rw (ranged_is a (form_of (pairwise false xs ys) (pos 0 +ℤ pos 0)) zs e refl fits) refl

-- their difference
pub difference_value : (a at b : ℕ) (xs ys zs : List ℤ) → pairwise true xs ys ≡ zs → IsTrue (are_numbers zs)
    → combined g.minus_op a (a_form (sum_of xs) at) (a_form (sum_of ys) b) ≡ Ok (a_form (sum_of zs) at)
difference_value a at b xs ys zs e fits =
    rw (ranged_is a (form_of (pairwise true xs ys) (pos 0 -ℤ pos 0)) zs e refl fits) refl

-- ---- terms
-- a name with its number, i names before it and k behind it
pub record IsPlaced (all : List (List ℕ)) (name : List ℕ) (i k : ℕ) : Type 0 where
  -- it is a name of the language
  pub named : IsName name
  -- its number is its place
  pub place : place_of name all ≡ Some i
  -- there are the names before it, itself and those behind it
  pub size : length all ≡ i + suc k

-- a sign with a space on both sides
pub spaced : (p : ℕ) (s : Sign) → ((rest : List ℕ) → heads nothing rest ≡ false → heads nothing ((sign_bytes s ++ 32 ∷ []) ++ rest) ≡ false)
    → Lexed p (32 ∷ (sign_bytes s ++ 32 ∷ [])) (g.token (sign_kind s) (p + 1) ∷ []) nothing
spaced p s h = beside (a_space p) (beside (a_mark (p + 1) s) (a_space (p + 1 + length (sign_bytes s))) (λ rest none. refl)) h

minus_is : (n : ℕ) → negsuc 0 *ℤ pos (suc n) ≡ negsuc n
minus_is n = omega (arith, ints)

-- a number with `-` before it
pub negative_number : {all : List (List ℕ)} {l depth : ℕ} (at n : ℕ) → depth ≤ 64 → suc n ≤ greatest_literal
    → Spelled all at (45 ∷ decimal (suc n)) is_word_byte l depth (a_form (form_of (zeros (length all)) (negsuc n)) at)
negative_number {all} {l} {depth} at n d h =
    let small : IsTrue (is_number (negsuc n)) = le-leb (suc n) 9223372036854775807 h in
    let minus : Spelled all at (45 ∷ decimal (suc n)) is_word_byte l depth
    (a_form (scaled (negsuc 0) (form_of (zeros (length all)) (pos (suc n)))) at) =
    negated at (number_spelled (at + 1) (suc n) h) d (λ rest. numeral_plain (decimal (suc n)) rest (decimal_numeral (suc n) (omega arith)))
    (subst (λ (cs : List ℤ). IsTrue (are_numbers cs)) (sym (products_zeros (negsuc 0) (length all))) (zeros_fit (length all)))
    (subst (λ (c : ℤ). IsTrue (is_number c)) (sym (minus_is n)) small) in
    subst (λ (f : Form). Spelled all at (45 ∷ decimal (suc n)) is_word_byte l depth (a_form f at))
    (form_is (products (negsuc 0) (zeros (length all))) (zeros (length all)) (negsuc 0 *ℤ pos (suc n)) (negsuc n)
    (products_zeros (negsuc 0) (length all)) (minus_is n)) minus

module _ {all : List (List ℕ)} (name : List ℕ) (i k : ℕ) (placed : IsPlaced all name i k) where
  alone : {l depth : ℕ} (at : ℕ) → Spelled all at name is_word_byte l depth (a_form (sum_of (one_at i (pos 1) k)) at)
  alone at = name_spelled at name i k placed.named placed.place placed.size

  -- a number, `*` and the name
  multiple : {depth : ℕ} {bytes : List ℕ} (at : ℕ) (z : ℤ)
      → Spelled all at bytes is_word_byte 6 depth (a_form (form_of (zeros (length all)) (z)) at) → IsTrue (is_number z)
      → z *ℤ pos 1 ≡ z → Spelled all at (bytes ++ 42 ∷ name) is_word_byte 5 depth (a_form (sum_of (one_at i z k)) at)
  multiple {bytes = bytes} at z e fits same =
      joins {m = 6} g.times_op (at + length bytes) e (a_mark (at + length bytes) Star) (alone (at + length bytes + 1))
      (omega arith) (omega arith)
      (λ rest. refl) (λ rest. word_plain name rest placed.named.word) (a_form (sum_of (one_at i z k)) at)
      (times_value (length all) (at + length bytes) at (at + length bytes + 1) z (one_at i (pos 1) k) (one_at i z k)
      (products_one z (pos 1) i k ∙ ap (λ (c : ℤ). one_at i c k) same) (one_fits i z k fits))

  unsigned_by : {depth : ℕ} (t : Bool) (at n : ℕ) → (n == 1) ≡ t → n ≤ greatest_literal
      → Spelled all at (if t then name else decimal n ++ 42 ∷ name) is_word_byte 5 depth (a_form (sum_of (one_at i (pos n) k)) at)
  unsigned_by {depth} true at n e h = subst (λ (m : ℕ). Spelled all at name is_word_byte 5 depth (a_form (sum_of (one_at i (pos m) k)) at))
      (sym (eqb-true n 1 e)) (alone at)
  unsigned_by false at n e h = multiple at (pos n) (number_spelled at n h) (le-leb n 9223372036854775807 h) (omega (arith, ints))

  -- a term without its sign
  pub unsigned_term : {depth : ℕ} (at n : ℕ) → n ≤ greatest_literal
      → Spelled all at (term_text n name) is_word_byte 5 depth (a_form (sum_of (one_at i (pos n) k)) at)
  unsigned_term at n h = unsigned_by (n == 1) at n refl h

  negative_by : {depth : ℕ} (t : Bool) (at n : ℕ) → depth ≤ 64 → (suc n == 1) ≡ t → suc n ≤ greatest_literal
      → Spelled all at (45 ∷ (if t then name else decimal (suc n) ++ 42 ∷ name)) is_word_byte 5 depth
      (a_form (sum_of (one_at i (negsuc n) k)) at)
  negative_by {depth} true at n d e h =
      let one : n ≡ 0 = omega (arith, eqb-true (suc n) 1 e) in
      let form : scaled (negsuc 0) (sum_of (one_at i (pos 1) k)) ≡ sum_of (one_at i (negsuc n) k) =
      form_is (products (negsuc 0) (one_at i (pos 1) k)) (one_at i (negsuc n) k) (negsuc 0 *ℤ pos 0) (pos 0)
      (products_one (negsuc 0) (pos 1) i k ∙ ap (λ (m : ℕ). one_at i (negsuc m) k) (sym one)) refl in
      subst (λ (f : Form). Spelled all at (45 ∷ name) is_word_byte 5 depth (a_form f at)) form
      (negated at (alone (at + 1)) d (λ rest. word_plain name rest placed.named.word)
      (subst (λ (cs : List ℤ). IsTrue (are_numbers cs)) (sym (products_one (negsuc 0) (pos 1) i k)) (one_fits i (negsuc 0) k refl)) refl)
  negative_by {depth} false at n d e h =
      multiple at (negsuc n) (negative_number at n d h) (le-leb (suc n) 9223372036854775807 h) (omega (arith, ints))

  -- the first term of a row
  pub first_term : {depth : ℕ} (at : ℕ) (c : ℤ) → depth ≤ 64 → nat_abs c ≤ greatest_literal
      → Spelled all at (first_sign c ++ term_text (nat_abs c) name) is_word_byte 5 depth (a_form (sum_of (one_at i c k)) at)
  first_term at (pos n) d h = unsigned_term at n h
  first_term at (negsuc n) d h = negative_by (suc n == 1) at n d refl h
