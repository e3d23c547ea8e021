-- What the definitions of the format come to.
use Rattle.std.specs.Prelude.{◌≡◌, ◌↔◌, ℕ, ℤ, IsTrue, List, Some}
use Rattle.std.specs.Fmt.{signed_decimal}
use Rattle.base_numbers.specs.Rational.{ℚ}
use Rattle.base_fractions.specs.Fits.{Fits, long_limit}
use Rattle.base_fractions.specs.Texts.{frac_text}
use Rattle.base_fractions.specs.Extended.{ExtFits, ext_text}
use Rattle.base_fractions.specs.declared.ext.Ext.{Ext}
use Rattle.lang_tree.specs.Numbers.{is_number}
use Rattle.cert_written.specs.declared.cert.Cert.{Cert}
use Rattle.cert_text.specs.Numbers.{ext_of, frac_of, whole_of}
use Rattle.cert_text.specs.Certificates.{SpellsCert}

-- bytes are one certificate at most
abbrev pub OneReading : Type 0
OneReading = (bytes : List ℕ) (c e : Cert) → SpellsCert bytes c → SpellsCert bytes e → c ≡ e

-- a text is read as a fraction exactly where it is the canonical text of one that fits
abbrev pub FractionsByText : Type 0
FractionsByText = (text : List ℕ) (q : ℚ) → (frac_of text ≡ Some q) ↔ ((text ≡ frac_text q) × Fits long_limit q)

-- and as a whole number exactly where it is the decimal text of one within 2^63 - 1
abbrev pub WholesByText : Type 0
WholesByText = (text : List ℕ) (z : ℤ) → (whole_of text ≡ Some z) ↔ ((text ≡ signed_decimal z) × IsTrue (is_number z))

-- and as a fraction or infinity likewise
abbrev pub BoundsByText : Type 0
BoundsByText = (text : List ℕ) (e : Ext) → (ext_of text ≡ Some e) ↔ ((text ≡ ext_text e) × ExtFits e)
