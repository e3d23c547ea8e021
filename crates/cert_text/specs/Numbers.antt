-- Numbers as texts.
use Rattle.std.specs.Prelude.{◌==◌, ◌+◌, ◌&&◌, ℕ, ℤ, Bool, List, Option, Some}
use Rattle.std.specs.Prelude.{None, take, drop, nat_abs, nat_le, is_some, if◌then◌else◌, option_and_then, option_map, codes}
use Rattle.std.specs.List.{position}
use Rattle.std.specs.Str.{bytes_eq}
use Rattle.std.specs.Str.Parse.{digits_value, signed_digits_value}
use Rattle.serde_json.specs.Data.{Data, string}
use Rattle.serde_json.specs.Find.{as_str}
use Rattle.base_numbers.specs.Rational.{ℚ, ratio, whole}
use Rattle.base_numbers.specs.Extended.{Ext as Extended}
use Rattle.base_fractions.specs.Texts.{frac_text}
use Rattle.base_fractions.specs.Extended.{extended}
use Rattle.base_fractions.specs.declared.ext.Ext.{Ext}
use Rattle.base_fractions.specs.declared.ext.Ext.TheVariants.{NegInf, Fin, PosInf}
use Rattle.flow_systems.specs.Report.{bound_text}

-- the quotient of the numbers before and after a slash, if there is one
abbrev pub quotient_of : Option ℕ → List ℕ → ℚ
quotient_of None text = whole (signed_digits_value 10 text)
quotient_of (Some at) text = ratio (signed_digits_value 10 (take at text)) (digits_value 10 (drop (at + 1) text))

-- the number that a text names, canonical or not, by the first slash (47) in it
unfoldable pub named : List ℕ → ℚ
named text = quotient_of (position (λ byte. byte == 47) text) text

-- both parts are at most 2^63 - 1
abbrev pub is_kept : ℚ → Bool
is_kept q = nat_le (nat_abs q.num) 9223372036854775807 && nat_le q.den 9223372036854775807

-- the number whose canonical text this is
unfoldable pub frac_of : List ℕ → Option ℚ
frac_of text = if bytes_eq text (frac_text (named text)) && is_kept (named text) then Some (named text) else None

-- a fraction without a denominator
abbrev pub if_whole : ℚ → Option ℤ
if_whole q = if q.den == 1 then Some q.num else None

-- the whole number whose canonical text this is
abbrev pub whole_of : List ℕ → Option ℤ
whole_of text = option_and_then if_whole (frac_of text)

-- the fraction or infinity whose canonical text this is
abbrev pub ext_of : List ℕ → Option Ext
ext_of text = if bytes_eq text (codes "-inf") then Some NegInf
    else (if bytes_eq text (codes "+inf") then Some PosInf else option_map (λ q. Fin q) (frac_of text))

-- ---- as JSON

-- it is a text
abbrev pub is_text : Data → Bool
is_text d = is_some (as_str d)

-- the fraction that a value is
abbrev pub frac_in : Data → Option ℚ
frac_in d = option_and_then frac_of (as_str d)

-- the fraction or infinity that a value is
abbrev pub ext_in : Data → Option Ext
ext_in d = option_and_then ext_of (as_str d)

-- the value of a fraction
abbrev pub frac_data : ℚ → Data
frac_data q = string (frac_text q)

-- the value of a bound, as an extended number
abbrev pub bound_data : Extended → Data
bound_data e = string (bound_text e)

-- the value of a bound, as the code has it
abbrev pub ext_data : Ext → Data
ext_data e = bound_data (extended e)
