-- Bounds after some of them are put, unknown by unknown.
use Rattle.std.proofs.Common.{◌≡◌, ◌∙◌, ◌⊎◌, inl, inr, ℕ, zero, suc, ◌+◌, ◌<◌, ◌≤◌, List, length, get_or, refl, sym, ap, subst, arith}
use Rattle.std.specs.Prelude.{slice_set}
use Rattle.std.proofs.lemmas.List.{get_or-set_same, get_or-set_other, length-set}
use Rattle.std.proofs.lemmas.Bool.{cases_lt}
use Rattle.base_numbers.specs.Extended.{Ext as Extended, neg_inf}
use Rattle.solve_rounds.specs.Putting.{puts}

-- there are as many
pub length-puts : (value : ℕ → Extended) (list : List ℕ) (bounds : List Extended) (n : ℕ)
    → length (puts value list bounds n) ≡ length bounds
unfolding puts
length-puts value list bounds zero = refl
length-puts value list bounds (suc n) = length-set (puts value list bounds n) (get_or list n 0) (value n) ∙ length-puts value list bounds n

-- before the first value is put the bounds are as they were
pub puts-none : (value : ℕ → Extended) (list : List ℕ) (bounds : List Extended) → puts value list bounds 0 ≡ bounds
unfolding puts
puts-none value list bounds = refl

-- one value more is put at the number at its place
pub puts-more : (value : ℕ → Extended) (list : List ℕ) (bounds : List Extended) (n : ℕ)
    → puts value list bounds (n + 1) ≡ slice_set (puts value list bounds n) (get_or list n 0) (value n)
unfolding puts
puts-more value list bounds n = let e : n + 1 ≡ suc n = omega arith in ap (puts value list bounds) e

-- an unknown that isn't among the first n keeps its bound
pub puts-other : (value : ℕ → Extended) (list : List ℕ) (bounds : List Extended) (n u : ℕ) → ((k : ℕ) → k < n → get_or list k 0 ≡ u → ⊥)
    → get_or (puts value list bounds n) u neg_inf ≡ get_or bounds u neg_inf
unfolding puts
puts-other value list bounds zero u h = refl
puts-other value list bounds (suc n) u h =
    get_or-set_other (puts value list bounds n) (get_or list n 0) u (value n) neg_inf (λ e. h n (omega arith) (sym e))
    ∙ puts-other value list bounds n u (λ k l e. h k (omega arith) e)

-- where no two of the first n are one unknown, each takes the value of its place
pub puts-at : (value : ℕ → Extended) (list : List ℕ) (bounds : List Extended) (n k : ℕ)
    → ((i j : ℕ) → i < j → j < n → get_or list i 0 ≡ get_or list j 0 → ⊥) → k < n → get_or list k 0 < length bounds →
    get_or (puts value list bounds n) (get_or list k 0) neg_inf ≡ value k
unfolding puts
puts-at value list bounds zero k apart l w = absurd (omega arith)
puts-at value list bounds (suc n) k apart l w = by (cases_lt k n) (λ h. puts-at value list bounds n k (λ i j a b. apart i j a (omega arith))
    h w)
  where
    size : length (puts value list bounds n) ≡ length bounds
    size = length-puts value list bounds n

    by : (k < n) ⊎ (n ≤ k) → (k < n → get_or (puts value list bounds n) (get_or list k 0) neg_inf ≡ value k)
        → get_or (slice_set (puts value list bounds n) (get_or list n 0) (value n)) (get_or list k 0) neg_inf ≡ value k
    by (inl h) earlier = get_or-set_other (puts value list bounds n) (get_or list n 0) (get_or list k 0) (value n) neg_inf
        (λ e. apart k n h (omega arith) e) ∙ earlier h
    by (inr h) earlier =
        let e : n ≡ k = omega arith in
        subst (λ j. get_or (slice_set (puts value list bounds n) (get_or list n 0) (value n)) (get_or list j 0) neg_inf ≡ value j) e
        (get_or-set_same (puts value list bounds n) (get_or list n 0) (value n) neg_inf
        (subst (λ m. get_or list n 0 < m) (sym size) (subst (λ j. get_or list j 0 < length bounds) (sym e) w)))
