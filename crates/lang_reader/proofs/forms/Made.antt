-- Lists of numbers that are made number by number, each in its range.
use Rattle.std.proofs.Common.{◌≡◌, ◌∙◌, ◌++◌, ◌+◌, ◌*ℤ◌, ◌≤◌, ◌<◌, ℕ, zero, suc, ℤ, pos, List, [], ◌∷◌, length, drop, Bool, IsTrue, cond}
use Rattle.std.proofs.Common.{Result, Ok, Err, refl, sym, ap, arith, get_or, append_assoc, replicate, min, add-one}
use Rattle.std.proofs.lemmas.List.{append-nil}
use Rattle.std.proofs.Math.Seq.{drop-cons}
use Rattle.lang_tree.specs.declared.form.Form.{Form}
use Rattle.lang_tree.specs.Numbers.{is_number, are_numbers}
use Rattle.lang_meaning.specs.declared.fault.ParseFault.{ParseFault}
use Rattle.lang_meaning.specs.declared.fault.ParseFault.TheVariants.{BigNumber}
use Rattle.lang_meaning.specs.Results.{◌>>=◌}
use Rattle.lang_meaning.specs.Forms.{products, pairwise, sum_or_difference, constant_form}
use Rattle.lang_meaning.specs.Walk.{ranged_number, ranged_numbers, ranged}
use Rattle.lang_meaning.proofs.results.Binds.{bind_assoc, bind_same, then_ok}
use Rattle.lang_meaning.proofs.forms.Ranges.{and_split, zeros_fit}

numbers_ok : (a : ℕ) (zs : List ℤ) → IsTrue (are_numbers zs) → ranged_numbers a zs ≡ Ok zs
numbers_ok a [] h = refl
numbers_ok a (z ∷ zs) h = let p = and_split (is_number z) (are_numbers zs) h in then_ok {r = ranged_number a z} {x =
    z} (λ y. ranged_numbers a zs >>= λ ys. Ok (y ∷ ys)) (ap (λ (b : Bool). cond b (Ok z) (Err (BigNumber a))) p.0)
    (then_ok {r = ranged_numbers a zs} {x = zs} (λ ys. Ok (z ∷ ys)) (numbers_ok a zs p.1) refl)

-- a list of zeros is let through as it is
pub zeros_ranged : (a n : ℕ) → ranged_numbers a (replicate n (pos 0)) ≡ Ok (replicate n (pos 0))
zeros_ranged a n = numbers_ok a (replicate n (pos 0)) (zeros_fit n)

-- ---- a list that is made number by number: the numbers so far, and what is left
abbrev pub with_rest : ℕ → List ℤ → List ℤ → Result (List ℤ) ParseFault
with_rest a list rest = ranged_numbers a rest >>= λ ys. Ok (list ++ ys)

next_ok : (a : ℕ) (list : List ℤ) (z y : ℤ) (rest : List ℤ) → ranged_number a z ≡ Ok y
    → with_rest a list (z ∷ rest) ≡ with_rest a (list ++ y ∷ []) rest
next_ok a list z y rest e = ap (λ (r : Result ℤ ParseFault). (r >>= λ y. ranged_numbers a rest >>= λ ys. Ok (y ∷ ys))
    >>= λ ys. Ok (list ++ ys)) e
    ∙ bind_assoc (ranged_numbers a rest) (λ ys. Ok (y ∷ ys)) (λ ys. Ok (list ++ ys))
    ∙ bind_same (ranged_numbers a rest) _ _ (λ ys. ap Ok (sym (append_assoc list (y ∷ []) ys)))

next_err : (a : ℕ) (list : List ℤ) (z : ℤ) (e : ParseFault) (rest : List ℤ) → ranged_number a z ≡ Err e
    → with_rest a list (z ∷ rest) ≡ Err e
next_err a list z e rest h = ap (λ (r : Result ℤ ParseFault). (r >>= λ y. ranged_numbers a rest >>= λ ys. Ok (y ∷ ys))
    >>= λ ys. Ok (list ++ ys)) h

drop-past : (xs : List ℤ) (i : ℕ) → length xs ≤ i → drop i xs ≡ []
drop-past [] zero h = refl
drop-past [] (suc i) h = refl
drop-past (x ∷ xs) zero h = absurd (omega arith)
drop-past (x ∷ xs) (suc i) h = drop-past xs i (omega arith)

no_pairs : (b : Bool) (xs : List ℤ) → pairwise b xs [] ≡ []
no_pairs b [] = refl
no_pairs b (x ∷ xs) = refl

pairs_none : (b : Bool) (xs ys : List ℤ) (i : ℕ) → min (length xs) (length ys) ≤ i → pairwise b (drop i xs) (drop i ys) ≡ []
pairs_none b [] ys zero h = refl
pairs_none b [] ys (suc i) h = refl
pairs_none b (x ∷ xs) [] zero h = refl
pairs_none b (x ∷ xs) [] (suc i) h = no_pairs b (drop i xs)
pairs_none b (x ∷ xs) (y ∷ ys) zero h = absurd (omega arith)
pairs_none b (x ∷ xs) (y ∷ ys) (suc i) h = pairs_none b xs ys i (omega arith)

done : (a : ℕ) (list rest : List ℤ) → rest ≡ [] → with_rest a list rest ≡ Ok list
done a list rest e = ap (λ r. with_rest a list r) e ∙ ap Ok (append-nil list)

-- the code's factor y is z
module _ (a : ℕ) (z y : ℤ) (same : y ≡ z) (xs : List ℤ) where
  times_at : (i : ℕ) (x : ℤ) → i < length xs → x ≡ get_or xs i (pos 0) → products y (drop i xs) ≡ (y *ℤ x) ∷ products y (drop (suc i) xs)
  times_at i x h e = ap (products y) (drop-cons xs i (pos 0) h) ∙ ap (λ x. (y *ℤ x) ∷ products y (drop (suc i) xs)) (sym e)

  wanted : (r : Result (List ℤ) ParseFault) → ranged_numbers a (products y xs) ≡ r → ranged_numbers a (products z xs) ≡ r
  wanted r e = ap (λ q. ranged_numbers a (products q xs)) (sym same) ∙ e

  -- where the next product is in its range, it stands behind those so far, and the products of the numbers behind it are left
  pub products_next : (list now : List ℤ) (n x : ℤ) (i : ℕ) → i < length xs → x ≡ get_or xs i (pos 0) → now ≡ list ++ n ∷ []
      → ranged_number a (y *ℤ x) ≡ Ok n → ranged_numbers a (products y xs) ≡ with_rest a list (products y (drop i xs))
      → ranged_numbers a (products y xs) ≡ with_rest a now (products y (drop (i + 1) xs))
  products_next list now n x i h g e f k = rw (e, add-one) (k ∙ ap (with_rest a list) (times_at i x h g)
      ∙ next_ok a list (y *ℤ x) n (products y (drop (suc i) xs)) f)

  -- where the next product gives a fault, the whole list of products gives it
  pub products_stop : (list : List ℤ) (e : ParseFault) (x : ℤ) (i : ℕ) → i < length xs → x ≡ get_or xs i (pos 0)
      → ranged_number a (y *ℤ x) ≡ Err e
      → ranged_numbers a (products y xs) ≡ with_rest a list (products y (drop i xs)) → ranged_numbers a (products z xs) ≡ Err e
  products_stop list e x i h g f k = wanted (Err e) (k ∙ ap (with_rest a list) (times_at i x h g)
      ∙ next_err a list (y *ℤ x) e (products y (drop (suc i) xs)) f)

  -- behind the last number, the products so far are the whole list
  pub products_done : (list : List ℤ) (i : ℕ) → length xs ≤ i → ranged_numbers a (products y xs) ≡ with_rest a list (products y (drop i xs))
      → ranged_numbers a (products z xs) ≡ Ok list
  products_done list i h e = wanted (Ok list) (e ∙ done a list _ (ap (products y) (drop-past xs i h)))

module _ (a : ℕ) (b : Bool) (xs ys : List ℤ) (whole : Result (List ℤ) ParseFault) where
  pair_at : (i : ℕ) (x y : ℤ) → i < length xs → i < length ys → x ≡ get_or xs i (pos 0) → y ≡ get_or ys i (pos 0)
      → pairwise b (drop i xs) (drop i ys) ≡ sum_or_difference b x y ∷ pairwise b (drop (suc i) xs) (drop (suc i) ys)
  pair_at i x y h k e f = ap (λ z. pairwise b z (drop i ys)) (drop-cons xs i (pos 0) h)
      ∙ ap (λ z. pairwise b (get_or xs i (pos 0) ∷ drop (suc i) xs) z) (drop-cons ys i (pos 0) k)
      ∙ ap (λ z. sum_or_difference b z (get_or ys i (pos 0)) ∷ pairwise b (drop (suc i) xs) (drop (suc i) ys)) (sym e)
      ∙ ap (λ z. sum_or_difference b x z ∷ pairwise b (drop (suc i) xs) (drop (suc i) ys)) (sym f)

  -- where the next sum or difference is in its range, it stands behind those so far, and the pairs behind it are left
  pub pairs_next : (list now : List ℤ) (n x y : ℤ) (i : ℕ) → i < length xs → i < length ys → x ≡ get_or xs i (pos 0)
      → y ≡ get_or ys i (pos 0)
      → now ≡ list ++ n ∷ [] → ranged_number a (sum_or_difference b x y) ≡ Ok n
      → whole ≡ with_rest a list (pairwise b (drop i xs) (drop i ys))
      → whole ≡ with_rest a now (pairwise b (drop (i + 1) xs) (drop (i + 1) ys))
  pairs_next list now n x y i h k e f g m w =
      rw (g, add-one) (w ∙ ap (with_rest a list) (pair_at i x y h k e f)
      ∙ next_ok a list (sum_or_difference b x y) n (pairwise b (drop (suc i) xs) (drop (suc i) ys)) m)

  -- where the next sum or difference gives a fault, the whole list gives it
  pub pairs_stop : (list : List ℤ) (z : ParseFault) (x y : ℤ) (i : ℕ) → i < length xs → i < length ys → x ≡ get_or xs i (pos 0)
      → y ≡ get_or ys i (pos 0) → ranged_number a (sum_or_difference b x y) ≡ Err z
      → whole ≡ with_rest a list (pairwise b (drop i xs) (drop i ys))
      → whole ≡ Err z
  pairs_stop list z x y i h k e f m w = w ∙ ap (with_rest a list) (pair_at i x y h k e f)
      ∙ next_err a list (sum_or_difference b x y) z (pairwise b (drop (suc i) xs) (drop (suc i) ys)) m

  -- where one of the two lists has ended, the numbers so far are the whole list
  pub pairs_done : (list : List ℤ) (i : ℕ) → min (length xs) (length ys) ≤ i → whole ≡ with_rest a list (pairwise b (drop i xs) (drop i ys))
      → whole ≡ Ok list
  pairs_done list i h e = e ∙ done a list _ (pairs_none b xs ys i h)

-- a form of these coefficients
abbrev pub form_with : List ℤ → ℤ → Form
form_with cs z = record { coeffs = cs; constant = z }

-- a constant form is in its range where its constant is
pub constant_ranged : (a n : ℕ) (z : ℤ) → ranged a (constant_form n z) ≡ ranged_number a z >>= λ c. Ok (form_with (replicate n (pos 0)) c)
constant_ranged a n z = then_ok {r = ranged_numbers a (replicate n (pos 0))} {x = replicate n (pos 0)}
    (λ cs. ranged_number a z >>= λ c. Ok (form_with cs c)) (zeros_ranged a n) refl
