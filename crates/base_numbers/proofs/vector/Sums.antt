-- Sums over an index: with one term, of terms that vanish, in two parts, and what a sign of the sum says of its terms.
use Rattle.std.proofs.Common.{◌≡◌, ◌≢◌, ℕ, zero, suc, ◌+◌, ◌<◌, ⊎_elim, [], ◌∷◌, refl, ap, sym, ◌∙◌, arith}
use Rattle.std.proofs.lemmas.Bool.{cases_eq}
use Rattle.base_numbers.specs.Rational.{ℚ, zero_ℚ, ◌+ℚ◌, ◌-ℚ◌, ◌<ℚ◌}
use Rattle.base_numbers.specs.Vector.{sum_to}
use Rattle.base_numbers.proofs.rational.Laws.{+ℚ_idl, +ℚ_idr, le_or_lt, <ℚ_irrefl}
use Rattle.base_numbers.proofs.tactics.Ring.{ring, reads}
use Rattle.base_numbers.proofs.tactics.Linarith.{lin_lt, le, lt, reads_all}
use Rattle.base_numbers.proofs.vector.Vectors.{sum_to_same, sum_to-zero}

-- a sum of terms that are 0 is 0
pub sum_nothing : (n : ℕ) (f : ℕ → ℚ) → ((k : ℕ) → k < n → f k ≡ zero_ℚ) → sum_to n f ≡ zero_ℚ
sum_nothing n f h = sum_to_same n f (λ k. zero_ℚ) h ∙ sum_to-zero n

-- a sum in which all terms but one are 0 is that term
pub sum_one : (n i : ℕ) (f : ℕ → ℚ) → i < n → ((k : ℕ) → k < n → k ≢ i → f k ≡ zero_ℚ) → sum_to n f ≡ f i
unfolding sum_to
sum_one zero i f h z = absurd (omega arith)
sum_one (suc n) i f h z =
    ⊎_elim
    (λ e. ap (λ s. s +ℚ f n) (sum_nothing n f (λ k l. z k (omega arith) (λ d. omega (arith, e)))) ∙ +ℚ_idl (f n) ∙ ap f (sym e))
    (λ d. ap (λ s. s +ℚ f n) (sum_one n i f (omega (arith, d)) (λ k l. z k (omega arith)))
    ∙ ap (λ s. f i +ℚ s) (z n (omega arith) (λ e. d (sym e))) ∙ +ℚ_idr (f i))
    (cases_eq i n)

-- a sum is its first term plus the sum of the rest
pub sum_first : (n : ℕ) (f : ℕ → ℚ) → sum_to (suc n) f ≡ f 0 +ℚ sum_to n (λ k. f (suc k))
unfolding sum_to
sum_first zero f = ring (f 0 ∷ []) (search reads depth 40) refl
sum_first (suc n) f = ap (λ s. s +ℚ f (suc n)) (sum_first n f) ∙ ring (f 0 ∷ f (suc n) ∷ sum_to n (λ k. f (suc k)) ∷ [])
    (search reads depth 40) refl

-- a sum is the sum of its first m terms plus the sum of the n terms after them
pub sum_parts : (m n : ℕ) (f : ℕ → ℚ) → sum_to (n + m) f ≡ sum_to m f +ℚ sum_to n (λ k. f (k + m))
unfolding sum_to
sum_parts m zero f = ap (λ k. sum_to k f) (omega arith) ∙ sym (+ℚ_idr (sum_to m f))
sum_parts m (suc n) f =
    let e : suc n + m ≡ suc (n + m) = omega arith in
    ap (λ k. sum_to k f) e ∙ ap (λ s. s +ℚ f (n + m)) (sum_parts m n f)
    ∙ ring (sum_to m f ∷ sum_to n (λ k. f (k + m)) ∷ f (n + m) ∷ []) (search reads depth 40) refl

-- a sum of differences is the difference of the sums
pub sum_sub : (n : ℕ) (f g : ℕ → ℚ) → sum_to n (λ k. f k -ℚ g k) ≡ sum_to n f -ℚ sum_to n g
unfolding sum_to
sum_sub zero f g = ring [] (search reads depth 40) refl
sum_sub (suc n) f g = ap (λ s. s +ℚ (f n -ℚ g n)) (sum_sub n f g) ∙ ring (sum_to n f ∷ sum_to n g ∷ f n ∷ g n ∷ []) (search reads depth 40)
    refl

-- a sum above 0 has a term above 0
pub positive_term : (n : ℕ) (f : ℕ → ℚ) → zero_ℚ <ℚ sum_to n f → (q : ℕ) × (q < n) × (zero_ℚ <ℚ f q)
unfolding sum_to
positive_term zero f h = absurd (<ℚ_irrefl h)
positive_term (suc n) f h =
    ⊎_elim
    (λ l. let r = positive_term n f (lin_lt (sum_to n f ∷ f n ∷ []) (lt h ∷ le l ∷ []) (search reads_all depth 40) tt) in
    (r.0, omega (arith, r.1), r.2))
    (λ l. (n, omega arith, l))
    (le_or_lt (f n) zero_ℚ)
