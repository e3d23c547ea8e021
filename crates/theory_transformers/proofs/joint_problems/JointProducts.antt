-- Products of the parts of a joint problem's rows.
use Rattle.std.proofs.Common.{◌≡◌, ◌∙◌, ℕ, zero, suc, ◌+◌, ◌≤◌, Bool, true, false, List, [], ◌∷◌, ◌++◌, length, refl, sym, ap, arith}
use Rattle.std.proofs.Common.{if◌then◌else◌}
use Rattle.base_numbers.proofs.vector.Vectors.{length-zeros}
use Rattle.base_numbers.proofs.vector.Sums.{sum_first}
use Rattle.base_numbers.specs.Rational.{ℚ, zero_ℚ, ◌+ℚ◌, ◌*ℚ◌, neg_ℚ, ◌-ℚ◌}
use Rattle.base_numbers.specs.Vector.{sum_to, dot, zeros}
use Rattle.base_numbers.proofs.rational.Laws.{zero-*ℚ, *ℚ-zero, +ℚ_idl, +ℚ_idr, *ℚ_idl}
use Rattle.base_numbers.proofs.tactics.Ring.{ring, reads}
use Rattle.lp_theory.specs.Free.{unsplit}
use Rattle.theory_transformers.specs.Limits.{product, shift, tabulate}
use Rattle.theory_transformers.specs.JointProblems.{Listed, is_at, ones, split_list, on_rise, rise_at}
use Rattle.theory_transformers.proofs.limits.Products.{product-append, product-tabulate}

-- the product of zeros with a point is 0
pub product-zeros : (n : ℕ) (x : ℕ → ℚ) → product (zeros n) x ≡ zero_ℚ
unfolding product
product-zeros zero x = refl
product-zeros (suc n) x = ap (λ s. s +ℚ product (zeros n) (λ k. x (suc k))) (zero-*ℚ (x 0)) ∙ +ℚ_idl (product (zeros n) (λ k. x (suc k)))
    ∙ product-zeros n (λ k. x (suc k))

product_behind : (n : ℕ) (v : List ℚ) (x : ℕ → ℚ) → product (zeros n ++ v) x ≡ product v (shift n x)
unfolding product
product_behind zero v x = refl
product_behind (suc n) v x =
    ap (λ s. s +ℚ product (zeros n ++ v) (λ k. x (suc k))) (zero-*ℚ (x 0)) ∙ +ℚ_idl (product (zeros n ++ v) (λ k. x (suc k)))
    ∙ product_behind n v (λ k. x (suc k))

unsplit-suc : (x : ℕ → ℚ) (j : ℕ) → unsplit (λ k. x (suc (suc k))) j ≡ unsplit x (suc j)
unsplit-suc x j = let e : suc (suc (j + j)) ≡ suc j + suc j = omega arith in ap (λ k. x k -ℚ x (suc k)) e

product_same : (u : List ℚ) (x y : ℕ → ℚ) → ((k : ℕ) → x k ≡ y k) → product u x ≡ product u y
unfolding product
product_same [] x y h = refl
product_same (a ∷ u) x y h = ap (λ s. a *ℚ s +ℚ product u (λ k. x (suc k))) (h 0)
    ∙ ap (λ s. a *ℚ y 0 +ℚ s) (product_same u (λ k. x (suc k)) (λ k. y (suc k)) (λ k. h (suc k)))

pair_up : (a p n s : ℚ) → a *ℚ p +ℚ (neg_ℚ a *ℚ n +ℚ s) ≡ a *ℚ (p -ℚ n) +ℚ s
pair_up a p n s = ring (a ∷ p ∷ n ∷ s ∷ []) (search reads depth 40) refl

-- a split form at a point is the form at the unsplit point
product-split : (u : List ℚ) (x : ℕ → ℚ) → product (split_list u) x ≡ product u (unsplit x)
unfolding product split_list
product-split [] x = refl
product-split (a ∷ u) x =
    pair_up a (x 0) (x 1) (product (split_list u) (λ k. x (suc (suc k))))
    ∙ ap (λ s. a *ℚ (x 0 -ℚ x 1) +ℚ s) (product-split u (λ k. x (suc (suc k)))
    ∙ product_same u (unsplit (λ k. x (suc (suc k)))) (λ k. unsplit x (suc k)) (unsplit-suc x))

-- the coefficients on the rises are as many as the listed unknowns
pub length-on_rise : (c : ℚ) (list : List Listed) (p r : ℕ) → length (on_rise c list p r) ≡ length list
unfolding on_rise
length-on_rise c [] p r = refl
length-on_rise c (u ∷ list) p r = by (is_at u p r) (length-on_rise c list p r)
  where
    by : (b : Bool) → length (on_rise c list p r) ≡ length list → length
        (if b then c ∷ zeros (length list) else zero_ℚ ∷ on_rise c list p r) ≡ suc (length list)
    by true h = ap suc (length-zeros (length list))
    by false h = ap suc h

-- the coefficient on the rise
pub product-on_rise : (c : ℚ) (list : List Listed) (p r : ℕ) (x : ℕ → ℚ) → product (on_rise c list p r) x ≡ c *ℚ rise_at list x p r
unfolding product on_rise rise_at
product-on_rise c [] p r x = sym (*ℚ-zero c)
product-on_rise c (u ∷ list) p r x = by (is_at u p r) (product-on_rise c list p r (λ k. x (suc k)))
  where
    by : (b : Bool) → product (on_rise c list p r) (λ k. x (suc k)) ≡ c *ℚ rise_at list (λ k. x (suc k)) p r →
        product (if b then c ∷ zeros (length list) else zero_ℚ ∷ on_rise c list p r) x
        ≡ c *ℚ (if b then x 0 else rise_at list (λ k. x (suc k)) p r)
    by true h = ap (λ s. c *ℚ x 0 +ℚ s) (product-zeros (length list) (λ k. x (suc k))) ∙ +ℚ_idr (c *ℚ x 0)
    by false h = ap (λ s. s +ℚ product (on_rise c list p r) (λ k. x (suc k))) (zero-*ℚ (x 0))
        ∙ +ℚ_idl (product (on_rise c list p r) (λ k. x (suc k))) ∙ h

-- a row in its three parts: on the rises, on nothing up to the offset, on a word's split columns
pub product_of_row : (a : List ℚ) (n offset : ℕ) (v : List ℚ) (x : ℕ → ℚ) (m : ℕ) → length a ≡ n → length v ≤ m →
    product (a ++ (zeros offset ++ split_list v)) x ≡ product a x +ℚ dot v (tabulate m (unsplit (shift offset (shift n x))))
product_of_row a n offset v x m e l =
    product-append a (zeros offset ++ split_list v) x
    ∙ ap (λ s. product a x +ℚ s)
    (ap (λ k. product (zeros offset ++ split_list v) (shift k x)) e ∙ product_behind offset (split_list v) (shift n x)
    ∙ product-split v (shift offset (shift n x))
    ∙ sym (product-tabulate v m (unsplit (shift offset (shift n x))) l))

-- a split list has twice as many entries
pub length-split : (u : List ℚ) → length (split_list u) ≡ length u + length u
unfolding split_list
length-split [] = refl
length-split (a ∷ u) = let h = length-split u in omega (arith, h)

-- the goal is the sum of the rises
pub product-ones : (n : ℕ) (x : ℕ → ℚ) → product (ones n) x ≡ sum_to n x
unfolding product ones sum_to
product-ones zero x = refl
product-ones (suc n) x = ap (λ s. s +ℚ product (ones n) (λ k. x (suc k))) (*ℚ_idl (x 0))
    ∙ ap (λ s. x 0 +ℚ s) (product-ones n (λ k. x (suc k))) ∙ sym (sum_first n x)

-- a list of n ones has n entries
pub length-ones : (n : ℕ) → length (ones n) ≡ n
unfolding ones
length-ones zero = refl
length-ones (suc n) = ap suc (length-ones n)

-- a shift by a sum
pub shift-add : (m n : ℕ) (x : ℕ → ℚ) → shift (m + n) x ≡ shift n (shift m x)
shift-add zero n x = let e : 0 + n ≡ n = omega arith in ap (λ k. shift k x) e
shift-add (suc m) n x = let e : suc m + n ≡ suc (m + n) = omega arith in ap (λ k. shift k x) e ∙ shift-add m n (λ k. x (suc k))
