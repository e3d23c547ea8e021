-- Numbers of at most ten digits.
use Rattle.std.proofs.Common.{◌≡◌, ℕ, ◌<◌, ◌≤◌, ◌^◌, true, List, length, Option, Some, None, rules, arith}
use Rattle.std.specs.Char.{is_ascii_digit}
use Rattle.std.specs.List.{list_all}
use Rattle.std.specs.Str.Parse.{digits_value}
use Rattle.std.proofs.lemmas.Bool.Decides.{nat_tests}
use Rattle.std.proofs.lemmas.Str.Parse.{IsNumeralModel, numerals_by_value}
use Rattle.ask_words.specs.Values.{number_in}

-- decimal digits are numerals, and their value is that of the digits
pub digits : IsNumeralModel (λ ds. list_all is_ascii_digit ds ≡ true) (digits_value 10)
digits = numerals_by_value _ (search rules)

-- at most ten digits whose value lies in a range are a number of that range
pub in_range : (least most v : ℕ) (t : List ℕ) → length t ≤ 10 → list_all is_ascii_digit t ≡ true → 0 < length t → v ≡ digits_value 10 t
    → least ≤ v → v ≤ most → ◌≡◌ {A = Option ℕ} (Some v) (number_in least most t)
in_range least most v t short all some is low high = grind (arith, nat_tests)

-- a text that is empty or whose value is 2^32 or more is no number of a range below that
pub none_in_range : (least most : ℕ) (t : List ℕ) → most < 2 ^ 32 → ((0 < length t) × (digits_value 10 t < 2 ^ 32) → ⊥)
    → ◌≡◌ {A = Option ℕ} None (number_in least most t)
none_in_range least most t small absent = grind (arith, nat_tests)
