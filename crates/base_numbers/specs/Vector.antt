-- Lists of rational numbers as vectors, and lists of rows as matrices. A list stands for the vector with zeros after it.
use Rattle.std.specs.Prelude.{◌≡◌, List, [], ◌∷◌, ℕ, zero, suc}
use Rattle.base_numbers.specs.Rational.{ℚ, zero_ℚ, ◌+ℚ◌, ◌*ℚ◌, ◌≤ℚ◌}

-- the sum of the products of two vectors' entries
unfoldable pub dot : List ℚ → List ℚ → ℚ
dot [] v = zero_ℚ
dot (x ∷ u) [] = zero_ℚ
dot (x ∷ u) (y ∷ v) = x *ℚ y +ℚ dot u v

-- the sum of two vectors, entry by entry
unfoldable pub add_vec : List ℚ → List ℚ → List ℚ
add_vec [] v = v
add_vec (x ∷ u) [] = x ∷ u
add_vec (x ∷ u) (y ∷ v) = (x +ℚ y) ∷ add_vec u v

-- the multiple of a vector, entry by entry
unfoldable pub scale_vec : ℚ → List ℚ → List ℚ
scale_vec c [] = []
scale_vec c (x ∷ u) = (c *ℚ x) ∷ scale_vec c u

-- A x: each row's product with x
unfoldable pub mat_vec : List (List ℚ) → List ℚ → List ℚ
mat_vec [] x = []
mat_vec (r ∷ A) x = dot r x ∷ mat_vec A x

-- y A: the sum of the rows, each times y's entry
unfoldable pub vec_mat : List ℚ → List (List ℚ) → List ℚ
vec_mat [] A = []
vec_mat (y ∷ ys) [] = []
vec_mat (y ∷ ys) (r ∷ A) = add_vec (scale_vec y r) (vec_mat ys A)

-- each entry of u is at most v's, and they are as long
abbrev pub AllLe : List ℚ → List ℚ → Type 0
AllLe [] [] = Unit {0}
AllLe [] (y ∷ v) = ⊥
AllLe (x ∷ u) [] = ⊥
AllLe (x ∷ u) (y ∷ v) = (x ≤ℚ y) × AllLe u v

-- each entry is at least 0
abbrev pub AllNonneg : List ℚ → Type 0
AllNonneg [] = Unit {0}
AllNonneg (x ∷ u) = (zero_ℚ ≤ℚ x) × AllNonneg u

-- n entries 0
abbrev pub zeros : ℕ → List ℚ
zeros zero = []
zeros (suc n) = zero_ℚ ∷ zeros n

-- the sum of f k over k < n
unfoldable pub sum_to : ℕ → (ℕ → ℚ) → ℚ
sum_to zero f = zero_ℚ
sum_to (suc n) f = sum_to n f +ℚ f n

-- each entry is 0
abbrev pub AllZero : List ℚ → Type 0
AllZero [] = Unit {0}
AllZero (x ∷ u) = (x ≡ zero_ℚ) × AllZero u

-- each entry is at most 0
abbrev pub AllNonpos : List ℚ → Type 0
AllNonpos [] = Unit {0}
AllNonpos (x ∷ u) = (x ≤ℚ zero_ℚ) × AllNonpos u
