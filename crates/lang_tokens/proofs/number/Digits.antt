-- The value of digits, one more at a time.
use Rattle.std.proofs.Common.{◌≡◌, ◌≤◌, ◌<◌, ◌+◌, ◌-◌, ◌*◌, ℕ, true, List, length, take, get_or, arith}
use Rattle.std.specs.List.{list_all}
use Rattle.std.specs.Char.{digit_value}
use Rattle.std.specs.Str.Parse.{digits_value}
use Rattle.std.proofs.lemmas.Bool.{and_parts, leb-true}
use Rattle.std.proofs.lemmas.List.Sums.{AllPass-from_list_all}
use Rattle.std.proofs.lemmas.Int.Digits.{digits_value_more}
use Rattle.std.proofs.lemmas.Str.{digit_value_digit}
use Rattle.std.proofs.lemmas.Str.Parse.{digits_value-take-le}
use Rattle.lang_tokens.specs.Bytes.{is_digit}

-- what the digit at an index adds
pub record AddsDigit (digits : List ℕ) (i : ℕ) : Type 0 where
  -- the value of one digit more is ten times the value so far, and that digit
  pub value_is : digits_value 10 (take (i + 1) digits) ≡ digits_value 10 (take i digits) * 10 + (get_or digits i 0 - 48)
  -- the digit is at most `9`
  pub digit_low : get_or digits i 0 ≤ 57

-- each digit of a list of digits adds to the value so far
pub value_more : (digits : List ℕ) (i : ℕ) → list_all is_digit digits ≡ true → i < length digits → AddsDigit digits i
value_more digits i all below =
    let at = AllPass-from_list_all is_digit digits all i 0 below in
    let both = and_parts _ _ at in
    let low : 48 ≤ get_or digits i 0 = leb-true _ _ both.0 in
    let high : get_or digits i 0 ≤ 57 = leb-true _ _ both.1 in
    let is : digit_value (get_or digits i 0) + 48 ≡ get_or digits i 0 = digit_value_digit (get_or digits i 0) (low, high) in
    record { value_is = omega (arith, digits_value_more 10 digits i below, is); digit_low = high }

-- the value of a front of digits is at most the value of them all
pub value_front : (digits : List ℕ) (i : ℕ) → digits_value 10 (take i digits) ≤ digits_value 10 digits
value_front digits i = digits_value-take-le 10 digits i (omega arith)
