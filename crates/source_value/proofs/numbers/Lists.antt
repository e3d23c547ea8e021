-- Lists of sums that are made number by number.
use Rattle.std.proofs.Common.{◌≡◌, ◌∙◌, ◌++◌, ◌+◌, ◌≤◌, ◌<◌, ℕ, zero, suc, ℤ, pos, ◌+ℤ◌, ◌*ℤ◌, List, [], ◌∷◌, length, take, get_or, map}
use Rattle.std.proofs.Common.{true, false, refl, sym, ap, arith, max, replicate}
use Rattle.std.proofs.lemmas.Int.{ints}
use Rattle.std.proofs.lemmas.Bool.{and_from, and_left, and_right}
use Rattle.std.proofs.lemmas.List.{take_more}
use Rattle.std.proofs.lemmas.List.Folds.{list_all-append}
use Rattle.std.proofs.Math.IntN.{*ℤ-zero}
use Rattle.lang_tree.specs.Numbers.{is_number, are_numbers}
use Rattle.source_core.specs.Forms.{sums}
use Rattle.source_core.proofs.forms.Forms.{length-sums}

get_or-sums : (xs ys : List ℤ) (i : ℕ) → get_or (sums xs ys) i (pos 0) ≡ get_or xs i (pos 0) +ℤ get_or ys i (pos 0)
get_or-sums [] ys i = omega (arith, ints)
get_or-sums (x ∷ xs) [] i = omega (arith, ints)
get_or-sums (x ∷ xs) (y ∷ ys) zero = refl
get_or-sums (x ∷ xs) (y ∷ ys) (suc i) = get_or-sums xs ys i

get_or-multiples : (z : ℤ) (ys : List ℤ) (i : ℕ) → get_or (map (λ x. z *ℤ x) ys) i (pos 0) ≡ z *ℤ get_or ys i (pos 0)
get_or-multiples z [] i = sym (*ℤ-zero z)
get_or-multiples z (y ∷ ys) zero = refl
get_or-multiples z (y ∷ ys) (suc i) = get_or-multiples z ys i

length-multiples : (z : ℤ) (ys : List ℤ) → length (map (λ x. z *ℤ x) ys) ≡ length ys
length-multiples z [] = refl
length-multiples z (y ∷ ys) = ap suc (length-multiples z ys)

-- a number out of its range is one of the list
pub unfit_at : (zs : List ℤ) (i : ℕ) → i < length zs → is_number (get_or zs i (pos 0)) ≡ false → are_numbers zs ≡ false
unfit_at [] i h e = absurd (omega arith)
unfit_at (z ∷ zs) zero h e = and_left (is_number z) (are_numbers zs) e
unfit_at (z ∷ zs) (suc i) h e = and_right (is_number z) (are_numbers zs) (unfit_at zs i (omega arith) e)

take_all : (zs : List ℤ) (i : ℕ) → length zs ≤ i → take i zs ≡ zs
take_all [] zero h = refl
take_all [] (suc i) h = refl
take_all (z ∷ zs) zero h = absurd (omega arith)
take_all (z ∷ zs) (suc i) h = ap (λ r. z ∷ r) (take_all zs i (omega arith))

-- what has been made of a list whose numbers are in their range
pub record IsMade (zs made : List ℤ) (i : ℕ) : Type 0 where
  -- the first numbers
  pub list : made ≡ take i zs
  -- all in their range
  pub numbers : are_numbers made ≡ true

-- at first nothing is made
pub none_made : (zs made : List ℤ) → made ≡ [] → IsMade zs made 0
none_made zs made e = record { list = e; numbers = ap are_numbers e }

-- one number more
pub more_made : (zs made now : List ℤ) (i : ℕ) (n : ℤ) → IsMade zs made i → i < length zs → n ≡ get_or zs i (pos 0) → is_number n ≡ true
    → now ≡ made ++ n ∷ [] → IsMade zs now (i + 1)
more_made zs made now i n m h e f g = record {
  list = g ∙ ap (λ r. r ++ n ∷ []) m.list ∙ ap (λ x. take i zs ++ x ∷ []) e ∙ sym (take_more zs i (pos 0) h);
  numbers = ap are_numbers g ∙ list_all-append is_number made (n ∷ [])
      ∙ and_from (are_numbers made) (are_numbers (n ∷ [])) m.numbers (and_from (is_number n) true f refl);
}

-- behind the last number the whole list is made
pub all_made : (zs made : List ℤ) (i : ℕ) → IsMade zs made i → length zs ≤ i → made ≡ zs
all_made zs made i m h = m.list ∙ take_all zs i h

-- ---- the list that is made: at each place a number of one list, and a multiple of one of the other
module _ (xs : List ℤ) (z : ℤ) (ys : List ℤ) where
  abbrev pub whole : List ℤ
  whole = sums xs (map (λ x. z *ℤ x) ys)

  -- it is as long as the longer of both
  pub length-whole : length whole ≡ max (length xs) (length ys)
  length-whole = length-sums xs (map (λ x. z *ℤ x) ys) ∙ ap (λ n. max (length xs) n) (length-multiples z ys)

  -- and has these numbers
  pub get_or-whole : (i : ℕ) → get_or whole i (pos 0) ≡ get_or xs i (pos 0) +ℤ (z *ℤ get_or ys i (pos 0))
  get_or-whole i = get_or-sums xs (map (λ x. z *ℤ x) ys) i ∙ ap (λ n. get_or xs i (pos 0) +ℤ n) (get_or-multiples z ys i)

-- zeros, and then a number in its range
pub zeros_then : (n : ℕ) (z : ℤ) → is_number z ≡ true → are_numbers (replicate n (pos 0) ++ z ∷ []) ≡ true
zeros_then zero z h = and_from (is_number z) true h refl
zeros_then (suc n) z h = zeros_then n z h
