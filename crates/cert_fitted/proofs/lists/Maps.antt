-- What is made of a list, element by element.
use Rattle.std.proofs.Common.{◌≡◌, ◌+◌, ◌<◌, ◌++◌, ℕ, ℤ, true, List, [], ◌∷◌, length, map, take, get_or, nat_abs, sym, ap, ap₂}
use Rattle.std.proofs.Common.{◌∙◌, ◌&&◌, arith}
use Rattle.std.proofs.lemmas.Bool.{le-leb}
use Rattle.std.proofs.lemmas.Int.{ints}
use Rattle.std.proofs.lemmas.List.Folds.{list_all-append}
use Rattle.base_numbers.specs.Rational.{ℚ}
use Rattle.base_fractions.specs.Fits.{Fits, long_limit}
use Rattle.lang_tree.specs.Numbers.{are_numbers, is_number}
use Rattle.std.proofs.lemmas.List.{map-append, take_more}

-- one element more
pub map_push : {A B : Type 0} (f : A → B) (xs : List A) (i : ℕ) (x : A) (done now : List B) (y : B) → i < length xs → x ≡ get_or xs i x
    → done ≡ map f (take i xs) → now ≡ done ++ y ∷ [] → y ≡ f x → now ≡ map f (take (i + 1) xs)
map_push f xs i x done now y lt is e more made =
    more ∙ ap₂ (λ ys z. ys ++ z ∷ []) e made ∙ sym (map-append f (take i xs) (x ∷ [])) ∙ ap (λ z. map f (take i xs ++ z ∷ [])) is
    ∙ ap (map f) (sym (take_more xs i x lt))

-- the numerator of a fraction that fits is within 2^63 - 1
num_small : (q : ℚ) → Fits long_limit q → is_number q.num ≡ true
num_small q f = let h = f.num_fits in le-leb (nat_abs q.num) 9223372036854775807 (omega (arith, ints, h))

-- so is one that is the same
pub same_small : (q : ℚ) (z : ℤ) → Fits long_limit q → z ≡ q.num → is_number z ≡ true
same_small q z f is = ap is_number is ∙ num_small q f

-- one such number more
pub number_push : (q : ℚ) (done now : List ℤ) (z : ℤ) → Fits long_limit q → z ≡ q.num → now ≡ done ++ z ∷ [] → are_numbers done ≡ true
    → are_numbers now ≡ true
number_push q done now z f is more h =
    ap are_numbers more ∙ list_all-append is_number done (z ∷ [])
    ∙ ap₂ (λ a b. a && (b && true)) h (ap is_number is ∙ num_small q f)
