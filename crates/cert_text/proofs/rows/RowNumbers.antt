-- Rows that are read: whole numbers, within 2^63 - 1.
use Rattle.std.proofs.Common.{◌≡◌, ◌∙◌, ◌==◌, ◌&&◌, ℕ, suc, Bool, true, false, List, [], ◌∷◌, Option, None, Some, ℤ, nat_abs}
use Rattle.std.proofs.Common.{refl, ap, ap₂, subst, arith}
use Rattle.std.specs.List.{list_all}
use Rattle.std.specs.Prelude.{option_and_then, if◌then◌else◌}
use Rattle.std.proofs.lemmas.Bool.{le-leb}
use Rattle.std.proofs.lemmas.Int.{ints}
use Rattle.serde_json.specs.Data.{Data}
use Rattle.base_numbers.specs.Rational.{ℚ}
use Rattle.base_fractions.specs.Fits.{Fits, long_limit}
use Rattle.lang_tree.specs.Numbers.{is_number}
use Rattle.cert_written.specs.declared.entries.Entries.{Entries}
use Rattle.cert_written.specs.declared.entries.Entries.TheVariants.{Dense, Sparse}
use Rattle.cert_written.specs.Bare.{bare_entries}
use Rattle.cert_written.specs.Pairs.{is_nil, nonzero}
use Rattle.cert_written.specs.Shaped.{are_whole, is_whole, is_whole_pair}
use Rattle.cert_text.specs.Certificates.{if_row, row_in}
use Rattle.cert_text.specs.Numbers.{frac_of, if_whole}
use Rattle.cert_text.specs.Pairs.{entries_in}
use Rattle.cert_text.proofs.numbers.FracTexts.{frac_text_of}

num_small : (q : ℚ) → Fits long_limit q → is_number q.num ≡ true
num_small q f = let h = f.num_fits in le-leb (nat_abs q.num) 9223372036854775807 (omega (arith, ints, h))

if_num : (q : ℚ) (b : Bool) (z : ℤ) → (if b then Some q.num else None) ≡ Some z → q.num ≡ z
if_num q true z e = cc
if_num q false z e = absurd cc

-- a whole number that is read is within 2^63 - 1
pub whole_small : (text : List ℕ) (o : Option ℚ) (z : ℤ) → frac_of text ≡ o → option_and_then if_whole o ≡ Some z → is_number z ≡ true
whole_small text None z f e = absurd cc
whole_small text (Some q) z f e = subst (λ y. is_number y ≡ true) (if_num q (q.den == 1) z e) (num_small q (frac_text_of text q f).1)

row_from : (e r : Entries) → if_row e ≡ Some r → are_whole r ≡ true
row_from e r h = by (are_whole e) refl h
  where
    by : (b : Bool) → are_whole e ≡ b → (if b then Some e else None) ≡ Some r → are_whole r ≡ true
    by true w k = subst (λ (x : Entries). are_whole x ≡ true) (let i : e ≡ r = cc in i) w
    by false w k = absurd cc

row_of : (o : Option Entries) (r : Entries) → option_and_then if_row o ≡ Some r → are_whole r ≡ true
row_of None r h = absurd cc
row_of (Some e) r h = row_from e r h

-- a row that is read has whole numbers alone
pub row_read : (sparse : Bool) (d : Data) (r : Entries) → row_in sparse d ≡ Some r → are_whole r ≡ true
row_read sparse d r h = row_of (entries_in sparse d) r h

nonzero_whole : (place : ℕ) (qs : List ℚ) → list_all is_whole qs ≡ true → list_all is_whole_pair (nonzero place qs) ≡ true
nonzero_whole place [] h = refl
nonzero_whole place (q ∷ qs) h = by (is_whole q) (is_nil q) refl h (λ k. nonzero_whole (suc place) qs k)
  where
    by : (w n : Bool) → is_whole q ≡ w → (w && list_all is_whole qs) ≡ true
        → (list_all is_whole qs ≡ true → list_all is_whole_pair (nonzero (suc place) qs) ≡ true)
        → list_all is_whole_pair (if n then nonzero (suc place) qs else record { place = place; value = q } ∷ nonzero (suc place) qs) ≡ true
    by false n w e k = absurd cc
    by true true w e k = k e
    by true false w e k = ap₂ (λ a b. a && b) w (k e)

bare_whole : (e : Entries) → are_whole e ≡ true → are_whole (bare_entries e) ≡ true
bare_whole (Dense qs) h = nonzero_whole 0 qs h
bare_whole (Sparse ps) h = h

-- a row of whole numbers is one without zeros
pub row_bare : (e : Entries) (o : Option Entries) → are_whole e ≡ true → o ≡ Some (bare_entries e)
    → option_and_then if_row o ≡ Some (bare_entries e)
row_bare e o h f = ap (option_and_then if_row) f ∙ ap (λ b. if b then Some (bare_entries e) else None) (bare_whole e h)
