-- The value of a pair isn't the text 0.
use Rattle.std.proofs.Common.{◌≡◌, ◌∙◌, ◌==◌, Bool, true, false, Some, not, nat_abs, pos, refl, sym, ap, ap₂, codes}
use Rattle.std.specs.Fmt.{digits}
use Rattle.std.specs.Str.{bytes_eq}
use Rattle.std.proofs.lemmas.Slice.Eq.{bytes_eq-Decides}
use Rattle.base_numbers.specs.Rational.{ℚ, whole}
use Rattle.base_numbers.proofs.rational.Parts.{den-whole, num-whole}
use Rattle.base_fractions.specs.Texts.{frac_text, parts_text}
use Rattle.base_fractions.proofs.texts.Slashes.{some_same}
use Rattle.cert_written.specs.declared.pairs.Pair.{Pair}
use Rattle.cert_written.specs.Pairs.{is_nil}
use Rattle.cert_text.specs.Numbers.{frac_data, frac_of}
use Rattle.cert_text.proofs.numbers.FracTexts.{frac_back, whole_fits}
use Rattle.cert_text.specs.Pairs.{is_pair, is_value, pair_data}

zero_text : frac_text (whole (pos 0)) ≡ codes "0"
unfolding digits
zero_text = ap₂ parts_text (num-whole (pos 0)) (den-whole (pos 0))

zero_read : frac_of (codes "0") ≡ Some (whole (pos 0))
zero_read = ap frac_of (sym zero_text) ∙ frac_back (whole (pos 0)) (whole_fits (pos 0) refl)

zero_nil : is_nil (whole (pos 0)) ≡ true
zero_nil = ap (λ n. nat_abs n == 0) (num-whole (pos 0))

value_text : (q : ℚ) → frac_of (frac_text q) ≡ Some q → not (is_nil q) ≡ true → is_value (frac_data q) ≡ true
value_text q e h = by (bytes_eq (frac_text q) (codes "0")) refl
  where
    by : (b : Bool) → bytes_eq (frac_text q) (codes "0") ≡ b → not b ≡ true
    by false k = refl
    by true k =
        let is : q ≡ whole (pos 0) = some_same (sym e ∙ ap frac_of ((bytes_eq-Decides (frac_text q) (codes "0")).0 k) ∙ zero_read) in
        absurd (let f : false ≡ true = ap not (sym zero_nil) ∙ sym (ap (λ x. not (is_nil x)) is) ∙ h in cc)

-- the value of a pair whose value isn't 0 has the shape of one
pub pair_shape : (p : Pair) → frac_of (frac_text p.value) ≡ Some p.value → not (is_nil p.value) ≡ true → is_pair (pair_data p) ≡ true
pair_shape p e h = value_text p.value e h
