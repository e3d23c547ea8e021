-- Numbers up to 100 as decimal texts.
use Rattle.std.proofs.Common.{◌≡◌, ◌≤◌, ◌<◌, ℕ, zero, suc, Bool, true, false, not, ◌&&◌, eqb, leb, length, refl, arith}
use Rattle.std.proofs.lemmas.Bool.Decides.{nat_tests}
use Rattle.std.specs.Fmt.{decimal, digits}
use Rattle.std.specs.Str.Parse.{digits_value}
use Rattle.std.proofs.lemmas.Bool.{and_parts, not-true, eqb-true, leb-true}
use Rattle.lang_tokens.specs.Lexemes.{is_numeral, is_padded}
use Rattle.out_workload.proofs.bodies.Pieces.{IsNumeral}

-- the decimal text of the number is a numeral of it with at most three digits
abbrev is_fine : ℕ → Bool
is_fine n = is_numeral (decimal n) && (not (is_padded (decimal n)) && (eqb (digits_value 10 (decimal n)) n && leb (length (decimal n)) 3))

abbrev are_fine : ℕ → Bool
are_fine zero = true
are_fine (suc n) = is_fine n && are_fine n

all_fine : are_fine 101 ≡ true
unfolding digits
all_fine = refl

fine_one : (k n : ℕ) (t : Bool) → eqb n k ≡ t → is_fine k ≡ true → (n < k → is_fine n ≡ true) → n < suc k → is_fine n ≡ true
fine_one k n true e here below h = let same : n ≡ k = eqb-true n k e in rw same here
fine_one k n false e here below h = below (other n k e h)
  where
    other : (n k : ℕ) → eqb n k ≡ false → n < suc k → n < k
    other n k e h = grind (arith, nat_tests)

fine_below : (k n : ℕ) → are_fine k ≡ true → n < k → is_fine n ≡ true
fine_below zero n h l = absurd (omega arith)
fine_below (suc k) n h l = let both = and_parts (is_fine k) (are_fine k) h in
    fine_one k n (eqb n k) refl both.0 (λ less. fine_below k n both.1 less) l

-- the same as facts
pub record IsShortNumeral (n : ℕ) : Type 0 where
  -- the decimal text is a numeral of the number
  pub numeral : IsNumeral n (decimal n)
  -- it has at most three digits
  pub short : length (decimal n) ≤ 3

-- a number up to 100 has a decimal text of at most three digits, which is a numeral of it
pub short_numeral : (n : ℕ) → n ≤ 100 → IsShortNumeral n
short_numeral n h =
    let fine : is_fine n ≡ true = fine_below 101 n all_fine (omega arith) in
    let one = and_parts (is_numeral (decimal n)) (not (is_padded (decimal n))
    && (eqb (digits_value 10 (decimal n)) n && leb (length (decimal n)) 3)) fine in
    let two = and_parts (not (is_padded (decimal n))) (eqb (digits_value 10 (decimal n)) n && leb (length (decimal n)) 3) one.1 in
    let three = and_parts (eqb (digits_value 10 (decimal n)) n) (leb (length (decimal n)) 3) two.1 in
    record {
      numeral = record {
        digits = one.0;
        plain = not-true (is_padded (decimal n)) two.0;
        value =
            eqb-true (digits_value 10 (decimal n)) n three.0;
        small = omega arith;
      };
      short = leb-true (length (decimal n)) 3 three.1;
    }
