-- Lists of numbers in their range.
use Rattle.std.proofs.Common.{◌≡◌, ◌∙◌, ℕ, zero, suc, ℤ, pos, List, [], ◌∷◌, Bool, true, false, ◌&&◌, IsTrue, cond}
use Rattle.std.proofs.Common.{Result, Ok, Err, refl, sym, ap, replicate}
use Rattle.std.proofs.Math.ListN.{set}
use Rattle.lang_tree.specs.Numbers.{is_number, are_numbers}
use Rattle.lang_meaning.specs.declared.fault.ParseFault.{ParseFault}
use Rattle.lang_meaning.specs.declared.fault.ParseFault.TheVariants.{BigNumber}
use Rattle.lang_meaning.specs.Results.{◌>>=◌}
use Rattle.lang_meaning.specs.Walk.{ranged_number, ranged_numbers}

-- a conjunction is true where both parts are
pub both_true : (a b : Bool) → IsTrue a → IsTrue b → IsTrue (a && b)
both_true true b h i = i
both_true false b h i = cc

-- where a conjunction is true both parts are
pub and_split : (a b : Bool) → IsTrue (a && b) → IsTrue a × IsTrue b
and_split true b h = (refl, h)
and_split false b h = cc

-- a list of zeros is one of numbers in their range
pub zeros_fit : (n : ℕ) → IsTrue (are_numbers (replicate n (pos 0)))
zeros_fit zero = refl
zeros_fit (suc n) = zeros_fit n

-- a list of numbers in their range stays one when 1 takes one of its places
pub set_fits : (xs : List ℤ) (i : ℕ) → IsTrue (are_numbers xs) → IsTrue (are_numbers (set xs i (pos 1)))
set_fits [] i h = h
set_fits (x ∷ xs) zero h = (and_split (is_number x) (are_numbers xs) h).1
set_fits (x ∷ xs) (suc i) h = let p = and_split (is_number x) (are_numbers xs) h in
    both_true (is_number x) (are_numbers (set xs i (pos 1))) p.0 (set_fits xs i p.1)

-- ---- what is in its range is a number
abbrev OkNumber : Result ℤ ParseFault → Type 0
OkNumber (Ok z) = IsTrue (is_number z)
OkNumber (Err e) = Unit {0}

abbrev OkNumbers : Result (List ℤ) ParseFault → Type 0
OkNumbers (Ok zs) = IsTrue (are_numbers zs)
OkNumbers (Err e) = Unit {0}

one_ok : (a : ℕ) (z : ℤ) → OkNumber (ranged_number a z)
one_ok a z = by_test (is_number z) refl where
  by_test : (b : Bool) → is_number z ≡ b → OkNumber (cond b (Ok z) (Err (BigNumber a)))
  by_test true h = h
  by_test false h = tt

all_ok : (a : ℕ) (zs : List ℤ) → OkNumbers (ranged_numbers a zs)
all_ok a [] = refl
all_ok a (z ∷ zs) = joined (ranged_number a z) (ranged_numbers a zs) (one_ok a z) (all_ok a zs) where
  joined : (r : Result ℤ ParseFault) (s : Result (List ℤ) ParseFault) → OkNumber r → OkNumbers s
      → OkNumbers (r >>= λ y. s >>= λ ys. Ok (y ∷ ys))
  joined (Ok y) (Ok ys) h i = both_true (is_number y) (are_numbers ys) h i
  joined (Ok y) (Err e) h i = tt
  joined (Err e) s h i = tt

-- a list of numbers that is let through has each of them in its range
pub ranged_are_numbers : (a : ℕ) (zs ys : List ℤ) → ranged_numbers a zs ≡ Ok ys → IsTrue (are_numbers ys)
ranged_are_numbers a zs ys e = on_ok (ranged_numbers a zs) ys (all_ok a zs) e where
  on_ok : (r : Result (List ℤ) ParseFault) (ys : List ℤ) → OkNumbers r → r ≡ Ok ys → IsTrue (are_numbers ys)
  on_ok (Ok zs) ys h e = let k : zs ≡ ys = cc in ap are_numbers (sym k) ∙ h
  on_ok (Err x) ys h e = cc

-- a number that is let through is in its range
pub ranged_is_number : (a : ℕ) (z y : ℤ) → ranged_number a z ≡ Ok y → IsTrue (is_number y)
ranged_is_number a z y e = on_ok (ranged_number a z) y (one_ok a z) e where
  on_ok : (r : Result ℤ ParseFault) (y : ℤ) → OkNumber r → r ≡ Ok y → IsTrue (is_number y)
  on_ok (Ok z) y h e = let k : z ≡ y = cc in ap is_number (sym k) ∙ h
  on_ok (Err x) y h e = cc
