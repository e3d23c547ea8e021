-- Sums of products: linear in each vector, monotone under multipliers at least 0, and (y A) x = y (A x).
use Rattle.std.proofs.Common.{◌≡◌, ℕ, zero, suc, ◌+◌, ◌<◌, List, [], ◌∷◌, ◌++◌, length, get_or, refl, ap, sym, ◌∙◌, subst, subst₂, arith}
use Rattle.base_numbers.specs.Rational.{ℚ, zero_ℚ, ◌+ℚ◌, ◌*ℚ◌, ◌≤ℚ◌}
use Rattle.base_numbers.specs.Vector.{dot, add_vec, scale_vec, mat_vec, vec_mat, AllLe, AllNonneg, sum_to, zeros}
use Rattle.base_numbers.proofs.rational.Laws.{+ℚ_idl, +ℚ_idr, *ℚ-zero, ≤ℚ_refl, ≤ℚ_trans}
use Rattle.base_numbers.proofs.tactics.Ring.{ring, reads}
use Rattle.base_numbers.proofs.tactics.Linear.{gap, ◌⊗◌}
use Rattle.base_numbers.proofs.tactics.Linarith.{lin_le, le, ge0, reads_all}

dot-nil : (u : List ℚ) → dot u [] ≡ zero_ℚ
unfolding dot
dot-nil [] = refl
dot-nil (x ∷ u) = refl

dot_comm : (u v : List ℚ) → dot u v ≡ dot v u
unfolding dot
dot_comm [] v = sym (dot-nil v)
dot_comm (x ∷ u) [] = refl
dot_comm (x ∷ u) (y ∷ v) = ap (λ s. x *ℚ y +ℚ s) (dot_comm u v) ∙ ring (x ∷ y ∷ dot v u ∷ []) (search reads depth 40) refl

-- the product with a sum of vectors on the left is the sum of the products
pub dot-add : (u v w : List ℚ) → dot (add_vec u v) w ≡ dot u w +ℚ dot v w
unfolding dot add_vec
dot-add [] v w = sym (+ℚ_idl (dot v w))
dot-add (x ∷ u) [] w = sym (ap (λ s. dot (x ∷ u) w +ℚ s) refl ∙ +ℚ_idr (dot (x ∷ u) w))
dot-add (x ∷ u) (y ∷ v) [] = sym (+ℚ_idr zero_ℚ)
dot-add (x ∷ u) (y ∷ v) (z ∷ w) =
    ap (λ s. (x +ℚ y) *ℚ z +ℚ s) (dot-add u v w) ∙ ring (x ∷ y ∷ z ∷ dot u w ∷ dot v w ∷ []) (search reads depth 40) refl

-- the product with a multiple of a vector on the left is the multiple of the product
pub dot-scale : (c : ℚ) (u w : List ℚ) → dot (scale_vec c u) w ≡ c *ℚ dot u w
unfolding dot scale_vec
dot-scale c [] w = sym (*ℚ-zero c)
dot-scale c (x ∷ u) [] = sym (*ℚ-zero c)
dot-scale c (x ∷ u) (z ∷ w) = ap (λ s. (c *ℚ x) *ℚ z +ℚ s) (dot-scale c u w) ∙ ring (c ∷ x ∷ z ∷ dot u w ∷ []) (search reads depth 40) refl

-- the product with a sum of vectors on the right is the sum of the products
pub add-dot : (u v w : List ℚ) → dot w (add_vec u v) ≡ dot w u +ℚ dot w v
add-dot u v w = dot_comm w (add_vec u v) ∙ dot-add u v w ∙ ap (λ s. s +ℚ dot v w) (dot_comm u w) ∙ ap (λ s. dot w u +ℚ s) (dot_comm v w)

-- the product with a multiple of a vector on the right is the multiple of the product
pub scale-dot : (c : ℚ) (u w : List ℚ) → dot w (scale_vec c u) ≡ c *ℚ dot w u
scale-dot c u w = dot_comm w (scale_vec c u) ∙ dot-scale c u w ∙ ap (λ s. c *ℚ s) (dot_comm u w)

-- (y A) x = y (A x)
pub exchange : (y : List ℚ) (A : List (List ℚ)) (x : List ℚ) → dot (vec_mat y A) x ≡ dot y (mat_vec A x)
unfolding dot vec_mat mat_vec
exchange [] A x = refl
exchange (y ∷ ys) [] x = refl
exchange (y ∷ ys) (r ∷ A) x = dot-add (scale_vec y r) (vec_mat ys A) x ∙ ap (λ s. s +ℚ dot (vec_mat ys A) x) (dot-scale y r x)
    ∙ ap (λ s. y *ℚ dot r x +ℚ s) (exchange ys A x)

dot_mono : (y u v : List ℚ) → AllNonneg y → AllLe u v → dot y u ≤ℚ dot y v
unfolding dot
dot_mono [] u v p h = ≤ℚ_refl zero_ℚ
dot_mono (y ∷ ys) [] [] p h = ≤ℚ_refl zero_ℚ
dot_mono (y ∷ ys) [] (b ∷ v) p h = absurd h
dot_mono (y ∷ ys) (a ∷ u) [] p h = absurd h
dot_mono (y ∷ ys) (a ∷ u) (b ∷ v) p h =
    lin_le (y ∷ a ∷ b ∷ dot ys u ∷ dot ys v ∷ []) (ge0 (p.0 ⊗ gap h.0) ∷ le (dot_mono ys u v p.1 h.1) ∷ []) (search reads_all depth 40) tt

-- a combination of rows that hold, with multipliers at least 0, holds
combined : (y : List ℚ) (A : List (List ℚ)) (x b : List ℚ) → AllNonneg y → AllLe (mat_vec A x) b → dot (vec_mat y A) x ≤ℚ dot y b
combined y A x b p h = subst (λ s. s ≤ℚ dot y b) (sym (exchange y A x)) (dot_mono y (mat_vec A x) b p h)

-- the greatest c x under A x ≤ b and x ≥ 0 is at most the least y b under y A ≥ c and y ≥ 0
pub weak_duality : (c x y b : List ℚ) (A : List (List ℚ)) → AllNonneg x → AllNonneg y → AllLe (mat_vec A x) b → AllLe c (vec_mat y A)
    → dot c x ≤ℚ dot y b
weak_duality c x y b A p q h i =
    ≤ℚ_trans (subst₂ (λ s t. s ≤ℚ t) (dot_comm x c) (dot_comm x (vec_mat y A)) (dot_mono x c (vec_mat y A) p i)) (combined y A x b q h)

-- a value that both a point and a dual point reach is the greatest
optimal : (c x y b : List ℚ) (A : List (List ℚ)) → AllNonneg y → AllLe c (vec_mat y A) → dot c x ≡ dot y b → (z : List ℚ) → AllNonneg z
    → AllLe (mat_vec A z) b → dot c z ≤ℚ dot c x
optimal c x y b A q i e z p h = subst (λ s. dot c z ≤ℚ s) (sym e) (weak_duality c z y b A p q h i)

-- ---- sums over an index
-- sums of equal terms are equal
pub sum_to_same : (n : ℕ) (f g : ℕ → ℚ) → ((k : ℕ) → k < n → f k ≡ g k) → sum_to n f ≡ sum_to n g
unfolding sum_to
sum_to_same zero f g h = refl
sum_to_same (suc n) f g h = ap (λ s. s +ℚ f n) (sum_to_same n f g (λ k l. h k (omega arith)))
    ∙ ap (λ s. sum_to n g +ℚ s) (h n (omega arith))

-- a sum of sums of two terms is the sum of the two sums
pub sum_to-add : (n : ℕ) (f g : ℕ → ℚ) → sum_to n (λ k. f k +ℚ g k) ≡ sum_to n f +ℚ sum_to n g
unfolding sum_to
sum_to-add zero f g = sym (+ℚ_idr zero_ℚ)
sum_to-add (suc n) f g = ap (λ s. s +ℚ (f n +ℚ g n)) (sum_to-add n f g)
    ∙ ring (sum_to n f ∷ sum_to n g ∷ f n ∷ g n ∷ []) (search reads depth 40) refl

-- a sum of multiples is the multiple of the sum
pub sum_to-scale : (n : ℕ) (c : ℚ) (f : ℕ → ℚ) → sum_to n (λ k. c *ℚ f k) ≡ c *ℚ sum_to n f
unfolding sum_to
sum_to-scale zero c f = sym (*ℚ-zero c)
sum_to-scale (suc n) c f = ap (λ s. s +ℚ c *ℚ f n) (sum_to-scale n c f) ∙ ring (c ∷ sum_to n f ∷ f n ∷ []) (search reads depth 40) refl

-- a sum of zeros is 0
pub sum_to-zero : (n : ℕ) → sum_to n (λ k. zero_ℚ) ≡ zero_ℚ
unfolding sum_to
sum_to-zero zero = refl
sum_to-zero (suc n) = +ℚ_idr (sum_to n (λ k. zero_ℚ)) ∙ sum_to-zero n

-- a sum of terms that are at most others is at most the sum of those
pub sum_to_mono : (n : ℕ) (f g : ℕ → ℚ) → ((k : ℕ) → k < n → f k ≤ℚ g k) → sum_to n f ≤ℚ sum_to n g
unfolding sum_to
sum_to_mono zero f g h = ≤ℚ_refl zero_ℚ
sum_to_mono (suc n) f g h =
    let i = sum_to_mono n f g (λ k l. h k (omega arith)) in
    let j : f n ≤ℚ g n = h n (omega arith) in
    lin_le (sum_to n f ∷ sum_to n g ∷ f n ∷ g n ∷ []) (le i ∷ le j ∷ []) (search reads_all depth 40) tt

-- two sums, one within the other, may be taken in either order
pub sum_to_swap : (m n : ℕ) (f : ℕ → ℕ → ℚ) → sum_to m (λ i. sum_to n (f i)) ≡ sum_to n (λ j. sum_to m (λ i. f i j))
unfolding sum_to
sum_to_swap zero n f = sym (sum_to-zero n)
sum_to_swap (suc m) n f = ap (λ s. s +ℚ sum_to n (f m)) (sum_to_swap m n f) ∙ sym (sum_to-add n (λ j. sum_to m (λ i. f i j)) (f m))

-- an entry of a sum of vectors is the sum of their entries
pub get_or-add_vec : (u v : List ℚ) (k : ℕ) → get_or (add_vec u v) k zero_ℚ ≡ get_or u k zero_ℚ +ℚ get_or v k zero_ℚ
unfolding add_vec
get_or-add_vec [] v k = sym (+ℚ_idl (get_or v k zero_ℚ))
get_or-add_vec (x ∷ u) [] k = sym (+ℚ_idr (get_or (x ∷ u) k zero_ℚ))
get_or-add_vec (x ∷ u) (y ∷ v) zero = refl
get_or-add_vec (x ∷ u) (y ∷ v) (suc k) = get_or-add_vec u v k

-- an entry of a multiple of a vector is the multiple of its entry
pub get_or-scale_vec : (c : ℚ) (u : List ℚ) (k : ℕ) → get_or (scale_vec c u) k zero_ℚ ≡ c *ℚ get_or u k zero_ℚ
unfolding scale_vec
get_or-scale_vec c [] k = sym (*ℚ-zero c)
get_or-scale_vec c (x ∷ u) zero = refl
get_or-scale_vec c (x ∷ u) (suc k) = get_or-scale_vec c u k

-- a multiple of a vector is as long as the vector
pub length-scale_vec : (c : ℚ) (u : List ℚ) → length (scale_vec c u) ≡ length u
unfolding scale_vec
length-scale_vec c [] = refl
length-scale_vec c (x ∷ u) = ap suc (length-scale_vec c u)

-- the zero vector of n entries has the length n
pub length-zeros : (n : ℕ) → length (zeros n) ≡ n
length-zeros zero = refl
length-zeros (suc n) = ap suc (length-zeros n)

-- one zero more, at the end
zeros_more : (n : ℕ) → zeros (n + 1) ≡ zeros n ++ zero_ℚ ∷ []
zeros_more zero = refl
zeros_more (suc n) = let e : suc n + 1 ≡ suc (n + 1) = omega arith in ap zeros e ∙ ap (λ v. zero_ℚ ∷ v) (zeros_more n)
