-- A list with a value put at a place.
use Rattle.std.proofs.Common.{◌≡◌, ◌≢◌, ℕ, zero, suc, ◌≤◌, ◌<◌, List, [], ◌∷◌, length, get_or, map, refl, ap, arith}
use Rattle.std.specs.Prelude.{slice_set}
use Rattle.lang_tree.specs.Meaning.{put}

-- within the list it is a write
pub put_within : {A : Type 0} (o : A) (xs : List A) (k : ℕ) (x : A) → k < length xs → put o xs k x ≡ slice_set xs k x
put_within o [] k x h = absurd (omega arith)
put_within o (y ∷ ys) zero x h = refl
put_within o (y ∷ ys) (suc k) x h = ap (λ r. y ∷ r) (put_within o ys k x (omega arith))

-- values are put as their images are
pub map-put : {A B : Type 0} (f : A → B) (o : A) (xs : List A) (k : ℕ) (x : A) → map f (put o xs k x) ≡ put (f o) (map f xs) k (f x)
map-put f o [] zero x = refl
map-put f o [] (suc k) x = ap (λ r. f o ∷ r) (map-put f o [] k x)
map-put f o (y ∷ ys) zero x = refl
map-put f o (y ∷ ys) (suc k) x = ap (λ r. f y ∷ r) (map-put f o ys k x)

-- the list is no shorter
pub put_keeps : {A : Type 0} (o : A) (xs : List A) (k : ℕ) (x : A) → length xs ≤ length (put o xs k x)
put_keeps o [] k x = omega arith
put_keeps o (y ∷ ys) zero x = omega arith
put_keeps o (y ∷ ys) (suc k) x = omega (arith, put_keeps o ys k x)

-- and the place is in it
pub put_reaches : {A : Type 0} (o : A) (xs : List A) (k : ℕ) (x : A) → k < length (put o xs k x)
put_reaches o [] zero x = omega arith
put_reaches o [] (suc k) x = omega (arith, put_reaches o [] k x)
put_reaches o (y ∷ ys) zero x = omega arith
put_reaches o (y ∷ ys) (suc k) x = omega (arith, put_reaches o ys k x)

-- it is no longer than both ask for
pub put_ends : {A : Type 0} (o : A) (xs : List A) (k : ℕ) (x : A) (m : ℕ) → length xs ≤ m → k < m → length (put o xs k x) ≤ m
put_ends o [] k x zero h l = absurd (omega arith)
put_ends o [] zero x (suc m) h l = omega arith
put_ends o [] (suc k) x (suc m) h l = omega (arith, put_ends o [] k x m (omega arith) (omega arith))
put_ends o (y ∷ ys) k x zero h l = absurd (omega arith)
put_ends o (y ∷ ys) zero x (suc m) h l = h
put_ends o (y ∷ ys) (suc k) x (suc m) h l = omega (arith, put_ends o ys k x m (omega arith) (omega arith))

-- a list that keeps its length
pub put_size : {A : Type 0} (o : A) (xs : List A) (k : ℕ) (x : A) → k < length xs → length (put o xs k x) ≡ length xs
put_size o xs k x h = let a = put_keeps o xs k x in let b = put_ends o xs k x (length xs) (omega arith) h in omega (arith, a, b)

-- what stands at the place
pub get_or-put_same : {A : Type 0} (o : A) (xs : List A) (k : ℕ) (x d : A) → get_or (put o xs k x) k d ≡ x
get_or-put_same o [] zero x d = refl
get_or-put_same o [] (suc k) x d = get_or-put_same o [] k x d
get_or-put_same o (y ∷ ys) zero x d = refl
get_or-put_same o (y ∷ ys) (suc k) x d = get_or-put_same o ys k x d

-- and at each other one
pub get_or-put_other : {A : Type 0} (o : A) (xs : List A) (k i : ℕ) (x : A) → i ≢ k → get_or (put o xs k x) i o ≡ get_or xs i o
get_or-put_other o [] zero zero x n = absurd (n refl)
get_or-put_other o [] zero (suc i) x n = refl
get_or-put_other o [] (suc k) zero x n = refl
get_or-put_other o [] (suc k) (suc i) x n = get_or-put_other o [] k i x (λ e. n (ap suc e))
get_or-put_other o (y ∷ ys) zero zero x n = absurd (n refl)
get_or-put_other o (y ∷ ys) zero (suc i) x n = refl
get_or-put_other o (y ∷ ys) (suc k) zero x n = refl
get_or-put_other o (y ∷ ys) (suc k) (suc i) x n = get_or-put_other o ys k i x (λ e. n (ap suc e))

-- what stands there already changes nothing
pub put_again : {A : Type 0} (o : A) (xs : List A) (k : ℕ) (d : A) → k < length xs → put o xs k (get_or xs k d) ≡ xs
put_again o [] k d h = absurd (omega arith)
put_again o (y ∷ ys) zero d h = refl
put_again o (y ∷ ys) (suc k) d h = ap (λ r. y ∷ r) (put_again o ys k d (omega arith))
