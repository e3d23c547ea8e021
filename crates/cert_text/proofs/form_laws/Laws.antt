-- The laws of the format, and the round trip.
use Rattle.std.proofs.Common.{◌≡◌, ◌≢◌, ◌⊎◌, inl, inr, ◌==◌, ◌<◌, ◌≤◌, nat_lt, ℕ, ℤ, Bool, true, false, List, Option, Some, None, Result}
use Rattle.std.proofs.Common.{Ok, Err, IfOk, IfErr, refl, sym, ap, ◌∙◌, subst, codes, arith}
use Rattle.std.specs.Prelude.{IsErrOf, if◌then◌else◌, option_and_then, option_map}
use Rattle.std.specs.Fmt.{signed_decimal}
use Rattle.std.specs.Str.{bytes_eq}
use Rattle.std.proofs.lemmas.Slice.Eq.{bytes_eq-Decides}
use Rattle.serde_json.specs.Data.{Data}
use Rattle.base_numbers.specs.Rational.{ℚ, whole}
use Rattle.base_numbers.proofs.rational.Parts.{den-whole, num-whole}
use Rattle.base_fractions.specs.Texts.{frac_text}
use Rattle.base_fractions.specs.Extended.{ExtFits, ext_text}
use Rattle.base_fractions.specs.declared.ext.Ext.{Ext}
use Rattle.base_fractions.specs.declared.ext.Ext.TheVariants.{NegInf, Fin, PosInf}
use Rattle.base_fractions.proofs.texts.Slashes.{some_same, whole_text}
use Rattle.cert_written.specs.Bare.{bare_cert}
use Rattle.cert_written.specs.declared.cert.Cert.{Cert}
use Rattle.cert_text.specs.declared.fault.FormFault.{FormFault}
use Rattle.cert_text.specs.declared.fault.FormFault.TheVariants.{Expanded, NoMemory, NotJson, Number, Shape, Version}
use Rattle.cert_text.specs.declared.limits.TheConstants.{MOST_VALUES}
use Rattle.cert_text.specs.Numbers.{ext_of, frac_of, if_whole, whole_of}
use Rattle.cert_text.specs.Certificates.{IsBeyond, IsWithin, Spells, SpellsCert, SpellsTooMany, cert_in, read_again, written_values}
use Rattle.cert_text.specs.FormLaws.{BoundsByText, FractionsByText, OneReading, WholesByText}
use Rattle.cert_text.proofs.numbers.FracTexts.{fin_back, frac_back, frac_text_of, whole_back}
use Rattle.cert_text.proofs.rows.RowNumbers.{whole_small}

ok_same : (x y : Cert) (r : Result Cert FormFault) → r ≡ Ok x → r ≡ Ok y → x ≡ y
ok_same x y r e f = cc

same_data : (bytes : List ℕ) (d f : Data) → Spells bytes d → Spells bytes f → d ≡ f
same_data bytes d f s t = some_same (sym s.value ∙ t.value)

-- bytes are one certificate at most
pub one_reading : OneReading
one_reading bytes c e s t = ok_same c e (cert_in s.data_is) s.reads (ap cert_in (same_data bytes s.data_is t.data_is s.spells t.spells)
    ∙ t.reads)

-- a text is read as a fraction exactly where it is the canonical text of one that fits
pub fractions : FractionsByText
fractions text q = (λ e. frac_text_of text q e, λ h. ap frac_of h.0 ∙ frac_back q h.1)

-- ---- whole numbers

whole_decimal : (z : ℤ) → frac_text (whole z) ≡ signed_decimal z
whole_decimal z = whole_text (whole z).num (whole z).den (den-whole z) ∙ ap signed_decimal (num-whole z)

eqb_one : (n : ℕ) → (n == 1) ≡ true → n ≡ 1
eqb_one n e = grind (arith, e)

whole_parts : (text : List ℕ) (q : ℚ) (z : ℤ) → text ≡ frac_text q → (b : Bool) → (q.den == 1) ≡ b
    → (if b then Some q.num else None) ≡ Some z → text ≡ signed_decimal z
whole_parts text q z t true d e = t ∙ whole_text q.num q.den (eqb_one q.den d) ∙ ap signed_decimal (some_same e)
whole_parts text q z t false d e = absurd cc

whole_from : (text : List ℕ) (o : Option ℚ) (z : ℤ) → frac_of text ≡ o → option_and_then if_whole o ≡ Some z → text ≡ signed_decimal z
whole_from text None z f e = absurd cc
whole_from text (Some q) z f e = whole_parts text q z (frac_text_of text q f).0 (q.den == 1) refl e

-- a text is read as a whole number exactly where it is the decimal text of one within 2^63 - 1
pub wholes : WholesByText
wholes text z = (
  λ e. (whole_from text (frac_of text) z refl e, whole_small text (frac_of text) z refl e),
  λ h. ap whole_of (h.0 ∙ sym (whole_decimal z)) ∙ whole_back z h.1,
)

-- ---- bounds

fin_from : (text : List ℕ) (o : Option ℚ) (e : Ext) → frac_of text ≡ o → option_map (λ (q : ℚ). Fin q) o ≡ Some e
    → (text ≡ ext_text e) × ExtFits e
fin_from text None e f h = absurd cc
fin_from text (Some q) e f h = subst (λ (x : Ext). (text ≡ ext_text x) × ExtFits x) (some_same h) (frac_text_of text q f)

ext_from : (text : List ℕ) (e : Ext) (a b : Bool) → bytes_eq text (codes "-inf") ≡ a → bytes_eq text (codes "+inf") ≡ b
    → (if a then Some NegInf else (if b then Some PosInf else option_map (λ (q : ℚ). Fin q) (frac_of text))) ≡ Some e
    → (text ≡ ext_text e) × ExtFits e
ext_from text e true b p q h = subst (λ (x : Ext). (text ≡ ext_text x) × ExtFits x) (some_same h)
    ((bytes_eq-Decides text (codes "-inf")).0 p, tt)
ext_from text e false true p q h = subst (λ (x : Ext). (text ≡ ext_text x) × ExtFits x) (some_same h)
    ((bytes_eq-Decides text (codes "+inf")).0 q, tt)
ext_from text e false false p q h = fin_from text (frac_of text) e refl h

ext_back : (e : Ext) → ExtFits e → ext_of (ext_text e) ≡ Some e
ext_back NegInf f = refl
ext_back (Fin q) f = fin_back q f
ext_back PosInf f = refl

-- a text is read as a bound exactly where it is the text of a fraction that fits or of an infinity
pub bounds : BoundsByText
bounds text e = (
  λ h. ext_from text e (bytes_eq text (codes "-inf")) (bytes_eq text (codes "+inf")) refl refl h,
  λ h. ap ext_of h.0 ∙ ext_back e h.1,
)

-- ---- the round trip

-- bytes that are read with an answer have no other one
module _ (bytes : List ℕ) (a : Result Cert FormFault) (d : Data) (s : Spells bytes d) (is : cert_in d ≡ a) where
  answer_same : (r : Result Cert FormFault) (e : Data) → Spells bytes e → cert_in e ≡ r → r ≡ a
  answer_same r e t h = sym h ∙ ap cert_in (same_data bytes e d t s) ∙ is

  refused_with : (f : FormFault) → (e : Data) × Spells bytes e × (cert_in e ≡ Err f) → Err f ≡ a
  refused_with f h = answer_same (Err f) h.0 h.1 h.2

  -- bytes that spell a value are read as what that value is, or memory is wanted
  one_answer : (r : Result Cert FormFault) → IfOk r (λ e. SpellsCert bytes e) → (IsErrOf r NotJson → (e : Data) → Spells bytes e → ⊥)
      → IfErr r (λ f. f ≢ NotJson → f ≢ NoMemory → (e : Data) × Spells bytes e × (cert_in e ≡ Err f)) → (r ≡ a) ⊎ (r ≡ Err NoMemory)
  one_answer (Ok e) h n k = inl (answer_same (Ok e) h.data_is h.spells h.reads)
  one_answer (Err NotJson) h n k = absurd (n refl d s)
  one_answer (Err (Shape f)) h n k = inl (refused_with (Shape f) (k (λ e. cc) (λ e. cc)))
  one_answer (Err (Number f)) h n k = inl (refused_with (Number f) (k (λ e. cc) (λ e. cc)))
  one_answer (Err Version) h n k = inl (refused_with Version (k (λ e. cc) (λ e. cc)))
  one_answer (Err Expanded) h n k = inl (refused_with Expanded (k (λ e. cc) (λ e. cc)))
  one_answer (Err NoMemory) h n k = inr refl

lt_from : (m n : ℕ) → nat_lt m n ≡ true → m < n
lt_from m n e = grind (arith, e)

le_from : (m n : ℕ) → nat_lt m n ≡ false → n ≤ m
le_from m n e = grind (arith, e)

module _ (c : Cert) where
  abbrev over : Bool
  over = nat_lt MOST_VALUES (written_values c)

  -- bytes that a certificate is written as spell a value that is read as the certificate, or as one that expands too far
  read_as : (bytes : List ℕ) → (IsWithin c → SpellsCert bytes (bare_cert c)) → (IsBeyond c → SpellsTooMany bytes)
      → (d : Data) × Spells bytes d × (cert_in d ≡ read_again c)
  read_as bytes w b = by over refl
    where
      by : (o : Bool) → over ≡ o → (d : Data) × Spells bytes d × (cert_in d ≡ (if o then Err Expanded else Ok (bare_cert c)))
      by true h = b (lt_from MOST_VALUES (written_values c) h)
      by false h = let k = w (le_from MOST_VALUES (written_values c) h) in (k.data_is, k.spells, k.reads)

  -- what a certificate was written as is read as the certificate, or as one that expands too far, unless memory is wanted
  pub read_back : {written bytes : List ℕ} → bytes ≡ written → (IsWithin c → SpellsCert written (bare_cert c)) → (IsBeyond c
      → SpellsTooMany written)
      → (r : Result Cert FormFault) → IfOk r (λ e. SpellsCert bytes e) → (IsErrOf r NotJson → (e : Data) → Spells bytes e → ⊥)
      → IfErr r (λ f. f ≢ NotJson → f ≢ NoMemory → (e : Data) × Spells bytes e × (cert_in e ≡ Err f))
      → (r ≡ read_again c) ⊎ (r ≡ Err NoMemory)
  read_back {bytes = bytes} same w b =
      let k = read_as bytes (subst (λ (x : List ℕ). IsWithin c → SpellsCert x (bare_cert c)) (sym same) w)
      (subst (λ (x : List ℕ). IsBeyond c → SpellsTooMany x) (sym same) b) in
      one_answer bytes (read_again c) k.0 k.1 k.2

  -- a certificate that is read again is the same
  pub again_same : (r : Result Cert FormFault) → (r ≡ read_again c) ⊎ (r ≡ Err NoMemory) → IfOk r (λ e. e ≡ bare_cert c)
  again_same (Err f) h = tt
  again_same (Ok e) (inl h) = by over h
    where
      by : (o : Bool) → Ok e ≡ (if o then Err Expanded else Ok (bare_cert c)) → e ≡ bare_cert c
      by true k = absurd cc
      by false k = cc
  again_same (Ok e) (inr h) = absurd cc

  -- a certificate that is read again is within the limit of values
  pub again_within : (r : Result Cert FormFault) → (r ≡ read_again c) ⊎ (r ≡ Err NoMemory) → IfOk r (λ _. IsWithin c)
  again_within (Err f) h = tt
  again_within (Ok e) (inl h) = by over refl h
    where
      by : (o : Bool) → over ≡ o → Ok e ≡ (if o then Err Expanded else Ok (bare_cert c)) → IsWithin c
      by true p k = absurd cc
      by false p k = le_from MOST_VALUES (written_values c) p
  again_within (Ok e) (inr h) = absurd cc

  -- a certificate is refused when it is read again only for want of memory, or where it expands too far
  pub again_refused : (r : Result Cert FormFault) → (r ≡ read_again c) ⊎ (r ≡ Err NoMemory)
      → IfErr r (λ f. (f ≡ NoMemory) ⊎ ((f ≡ Expanded) × IsBeyond c))
  again_refused (Ok e) h = tt
  again_refused (Err f) (inl h) = by over refl h
    where
      by : (o : Bool) → over ≡ o → Err f ≡ (if o then Err Expanded else Ok (bare_cert c)) → (f ≡ NoMemory) ⊎ ((f ≡ Expanded) × IsBeyond c)
      by true p k = inr (cc, lt_from MOST_VALUES (written_values c) p)
      by false p k = absurd cc
  again_refused (Err f) (inr h) = inl cc
