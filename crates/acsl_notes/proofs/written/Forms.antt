-- The forms that written terms are, and their sums.
use Rattle.std.proofs.Common.{◌≡◌, ◌+◌, ◌*ℤ◌, ℕ, zero, suc, ℤ, pos, Bool, true, false, IsTrue}
use Rattle.std.proofs.Common.{List, [], ◌∷◌, ◌++◌, length, replicate, Ok, refl, ap, ap₂, arith}
use Rattle.std.proofs.lemmas.Int.{ints}
use Rattle.std.specs.Prelude.{slice_set}
use Rattle.std.specs.List.{list_all}
use Rattle.std.specs.Ordering.{int_eq}
use Rattle.lang_tree.specs.declared.form.Form.{Form}
use Rattle.lang_tree.specs.Numbers.{is_number, are_numbers}
use Rattle.lang_meaning.specs.Walk.{ranged, ranged_number, ranged_numbers}
use Rattle.lang_meaning.specs.Forms.{pairwise, products, sum_or_difference}
use Rattle.lang_meaning.proofs.forms.Ranges.{and_split, both_true, zeros_fit}

-- a form by its parts
abbrev pub form_of : List ℤ → ℤ → Form
form_of cs c = record { coeffs = cs; constant = c }

-- a form without a constant
abbrev pub sum_of : List ℤ → Form
sum_of cs = form_of cs (pos 0)

-- so many zeros
abbrev pub zeros : ℕ → List ℤ
zeros n = replicate n (pos 0)

-- i zeros, a number, and k zeros
abbrev pub one_at : ℕ → ℤ → ℕ → List ℤ
one_at zero c k = c ∷ zeros k
one_at (suc i) c k = pos 0 ∷ one_at i c k

-- ---- numbers in their range stay
one_ranged : (a : ℕ) (z : ℤ) → IsTrue (is_number z) → ranged_number a z ≡ Ok z
one_ranged a z h = rw h refl

all_ranged : (a : ℕ) (zs : List ℤ) → IsTrue (are_numbers zs) → ranged_numbers a zs ≡ Ok zs
all_ranged a [] h = refl
all_ranged a (z ∷ zs) h = let both = and_split (is_number z) (are_numbers zs) h in
    rw (one_ranged a z both.0, all_ranged a zs both.1) refl

-- a form in its range stays
pub ranged_ok : (a : ℕ) (f : Form) → IsTrue (are_numbers f.coeffs) → IsTrue (is_number f.constant) → ranged a f ≡ Ok f
ranged_ok a f h k = rw (all_ranged a f.coeffs h, one_ranged a f.constant k) refl

-- ---- numbers
-- a multiple of 0 is 0
pub times_zero : (z : ℤ) → z *ℤ pos 0 ≡ pos 0
times_zero z = omega (arith, ints)

-- multiples of zeros are zeros
pub products_zeros : (z : ℤ) (n : ℕ) → products z (zeros n) ≡ zeros n
products_zeros z zero = refl
products_zeros z (suc n) = ap₂ (λ (x : ℤ) (xs : List ℤ). x ∷ xs) (times_zero z) (products_zeros z n)

-- a multiple of one number among zeros
pub products_one : (z c : ℤ) (i k : ℕ) → products z (one_at i c k) ≡ one_at i (z *ℤ c) k
products_one z c zero k = ap (λ (xs : List ℤ). (z *ℤ c) ∷ xs) (products_zeros z k)
products_one z c (suc i) k = ap₂ (λ (x : ℤ) (xs : List ℤ). x ∷ xs) (times_zero z) (products_one z c i k)

-- zeros are constant
pub zeros_constant : (n : ℕ) → list_all (λ x. int_eq x (pos 0)) (zeros n) ≡ true
zeros_constant zero = refl
zeros_constant (suc n) = zeros_constant n

-- the coefficients of a variable
pub set_zeros : (w i k : ℕ) → w ≡ i + suc k → slice_set (zeros w) i (pos 1) ≡ one_at i (pos 1) k
set_zeros zero i k e = absurd (omega (arith, e))
set_zeros (suc w) zero k e = let same : w ≡ k = omega (arith, e) in ap (λ (n : ℕ). pos 1 ∷ zeros n) same
set_zeros (suc w) (suc i) k e = ap (λ (xs : List ℤ). pos 0 ∷ xs) (set_zeros w i k (omega (arith, e)))

-- one number in its range
pub one_fits : (i : ℕ) (c : ℤ) (k : ℕ) → IsTrue (is_number c) → IsTrue (are_numbers (one_at i c k))
one_fits zero c k h = both_true (is_number c) (are_numbers (zeros k)) h (zeros_fit k)
one_fits (suc i) c k h = one_fits i c k h

-- numbers in their range, and others behind them
pub append_fits : (xs ys : List ℤ) → IsTrue (are_numbers xs) → IsTrue (are_numbers ys) → IsTrue (are_numbers (xs ++ ys))
append_fits [] ys h k = k
append_fits (x ∷ xs) ys h k = let both = and_split (is_number x) (are_numbers xs) h in
    both_true (is_number x) (are_numbers (xs ++ ys)) both.0 (append_fits xs ys both.1 k)

-- ---- sums
without : (b : Bool) (x : ℤ) → sum_or_difference b x (pos 0) ≡ x
without true x = omega (arith, ints)
without false x = omega (arith, ints)

-- zeros change nothing
pub pairwise_zeros : (b : Bool) (xs : List ℤ) → pairwise b xs (zeros (length xs)) ≡ xs
pairwise_zeros b [] = refl
pairwise_zeros b (x ∷ xs) = ap₂ (λ (y : ℤ) (ys : List ℤ). y ∷ ys) (without b x) (pairwise_zeros b xs)

same_zeros : (b : Bool) (k : ℕ) → pairwise b (zeros k) (zeros k) ≡ zeros k
same_zeros b zero = refl
same_zeros b (suc k) = ap₂ (λ (y : ℤ) (ys : List ℤ). y ∷ ys) (without b (pos 0)) (same_zeros b k)

-- a term behind those that are done
pub pairwise_one : (b : Bool) (done : List ℤ) (s : ℤ) (k : ℕ)
    → pairwise b (done ++ zeros (suc k)) (one_at (length done) s k) ≡ done ++ sum_or_difference b (pos 0) s ∷ zeros k
pairwise_one b [] s k = ap (λ (ys : List ℤ). sum_or_difference b (pos 0) s ∷ ys) (same_zeros b k)
pairwise_one b (x ∷ done) s k = ap₂ (λ (y : ℤ) (ys : List ℤ). y ∷ ys) (without b x) (pairwise_one b done s k)
