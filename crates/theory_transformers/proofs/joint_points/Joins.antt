-- Points joined of parts, positive and negative parts, and the word of a split point.
use Rattle.std.proofs.Common.{◌≡◌, ◌∙◌, ◌⊎◌, inl, inr, ⊎_elim, ℕ, zero, suc, ◌+◌, ◌<◌, [], ◌∷◌, refl, sym, ap, subst, arith}
use Rattle.base_numbers.specs.Rational.{ℚ, zero_ℚ, neg_ℚ, ◌-ℚ◌, ◌≤ℚ◌, ◌<ℚ◌}
use Rattle.base_numbers.proofs.rational.Laws.{≤ℚ_refl, le_or_lt, le_of_lt_ℚ}
use Rattle.base_numbers.proofs.tactics.Linarith.{lin_eq, le, lt, reads_all}
use Rattle.lp_theory.specs.Free.{unsplit}
use Rattle.theory_transformers.specs.Limits.{shift, tabulate}
use Rattle.theory_transformers.specs.JointPoints.{join, positive, greater, pos_neg}
use Rattle.theory_transformers.proofs.limits.Products.{tabulate_same}

-- past the first part stands the second
pub shift-join : (n : ℕ) (f g : ℕ → ℚ) → shift n (join n f g) ≡ g
shift-join zero f g = refl
shift-join (suc n) f g = shift-join n (λ k. f (suc k)) g

-- the first n entries are those of the first part
pub join_below : (n : ℕ) (f g : ℕ → ℚ) (k : ℕ) → k < n → join n f g k ≡ f k
join_below zero f g k l = absurd (omega arith)
join_below (suc n) f g zero l = refl
join_below (suc n) f g (suc k) l = join_below n (λ j. f (suc j)) g k (omega arith)

-- where both parts are at least 0, the joined point is
pub join_nonneg : (n : ℕ) (f g : ℕ → ℚ) → ((k : ℕ) → k < n → zero_ℚ ≤ℚ f k) → ((k : ℕ) → zero_ℚ ≤ℚ g k) → (k : ℕ) → zero_ℚ ≤ℚ join n f g k
join_nonneg zero f g h i k = i k
join_nonneg (suc n) f g h i zero = h 0 (omega arith)
join_nonneg (suc n) f g h i (suc k) = join_nonneg n (λ j. f (suc j)) g (λ j l. h (suc j) (omega arith)) i k

positive_nonneg : (q : ℚ) → zero_ℚ ≤ℚ positive q
unfolding positive
positive_nonneg q = by (le_or_lt zero_ℚ q)
  where
    by : (d : (zero_ℚ ≤ℚ q) ⊎ (q <ℚ zero_ℚ)) → zero_ℚ ≤ℚ ⊎_elim (λ h. q) (λ h. zero_ℚ) d
    by (inl h) = h
    by (inr h) = ≤ℚ_refl zero_ℚ

parts_difference : (q : ℚ) → positive q -ℚ positive (neg_ℚ q) ≡ q
unfolding positive
parts_difference q = by (le_or_lt zero_ℚ q) (le_or_lt zero_ℚ (neg_ℚ q))
  where
    by : (d : (zero_ℚ ≤ℚ q) ⊎ (q <ℚ zero_ℚ)) (e : (zero_ℚ ≤ℚ neg_ℚ q) ⊎ (neg_ℚ q <ℚ zero_ℚ))
        → ⊎_elim (λ h. q) (λ h. zero_ℚ) d -ℚ ⊎_elim (λ h. neg_ℚ q) (λ h. zero_ℚ) e ≡ q
    by (inl h) (inl i) = lin_eq (q ∷ []) (le h ∷ le i ∷ []) (search reads_all depth 40) tt
    by (inl h) (inr i) = lin_eq (q ∷ []) (le h ∷ []) (search reads_all depth 40) tt
    by (inr h) (inl i) = lin_eq (q ∷ []) (le i ∷ []) (search reads_all depth 40) tt
    by (inr h) (inr i) = lin_eq (q ∷ []) (lt h ∷ lt i ∷ []) (search reads_all depth 40) tt

-- positive and negative parts are at least 0
pub pos_neg_nonneg : (f : ℕ → ℚ) (k : ℕ) → zero_ℚ ≤ℚ pos_neg f k
unfolding pos_neg
pos_neg_nonneg f zero = positive_nonneg (f 0)
pos_neg_nonneg f (suc zero) = positive_nonneg (neg_ℚ (f 0))
pos_neg_nonneg f (suc (suc k)) = pos_neg_nonneg (λ j. f (suc j)) k

pos_neg_even : (f : ℕ → ℚ) (j : ℕ) → pos_neg f (j + j) ≡ positive (f j)
unfolding pos_neg
pos_neg_even f zero = refl
pos_neg_even f (suc j) = let e : suc j + suc j ≡ suc (suc (j + j)) = omega arith in ap (pos_neg f) e ∙ pos_neg_even (λ j. f (suc j)) j

pos_neg_odd : (f : ℕ → ℚ) (j : ℕ) → pos_neg f (suc (j + j)) ≡ positive (neg_ℚ (f j))
unfolding pos_neg
pos_neg_odd f zero = refl
pos_neg_odd f (suc j) = let e : suc (suc j + suc j) ≡ suc (suc (suc (j + j))) = omega arith in
    ap (pos_neg f) e ∙ pos_neg_odd (λ j. f (suc j)) j

-- the parts' difference
unsplit-pos_neg : (f : ℕ → ℚ) (j : ℕ) → unsplit (pos_neg f) j ≡ f j
unsplit-pos_neg f j = ap (λ s. s -ℚ pos_neg f (suc (j + j))) (pos_neg_even f j) ∙ ap (λ s. positive (f j) -ℚ s) (pos_neg_odd f j)
    ∙ parts_difference (f j)

-- the word of a split word
pub word_back : (n : ℕ) (f g : ℕ → ℚ) → tabulate n (unsplit (join (n + n) (pos_neg f) g)) ≡ tabulate n f
word_back n f g = tabulate_same n (unsplit (join (n + n) (pos_neg f) g)) f
    (λ j l. ap (λ s. s -ℚ join (n + n) (pos_neg f) g (suc (j + j))) (join_below (n + n) (pos_neg f) g (j + j) (omega arith))
    ∙ ap (λ s. pos_neg f (j + j) -ℚ s) (join_below (n + n) (pos_neg f) g (suc (j + j)) (omega arith)) ∙ unsplit-pos_neg f j)

-- the greater of two
pub greater_is : (a b : ℚ) → ((greater a b ≡ b) × (a ≤ℚ b)) ⊎ ((greater a b ≡ a) × (b ≤ℚ a))
unfolding greater
greater_is a b = by (le_or_lt a b)
  where
    by : (d : (a ≤ℚ b) ⊎ (b <ℚ a)) → ((⊎_elim (λ h. b) (λ h. a) d ≡ b) × (a ≤ℚ b)) ⊎ ((⊎_elim (λ h. b) (λ h. a) d ≡ a) × (b ≤ℚ a))
    by (inl h) = inl (refl, h)
    by (inr h) = inr (refl, le_of_lt_ℚ h)

-- the greater of two numbers is at least the first
pub greater_first : (a b : ℚ) → a ≤ℚ greater a b
greater_first a b = ⊎_elim (λ h. subst (λ s. a ≤ℚ s) (sym h.0) h.1) (λ h. subst (λ s. a ≤ℚ s) (sym h.0) (≤ℚ_refl a)) (greater_is a b)

-- the greater of two numbers is at least the second
pub greater_second : (a b : ℚ) → b ≤ℚ greater a b
greater_second a b = ⊎_elim (λ h. subst (λ s. b ≤ℚ s) (sym h.0) (≤ℚ_refl b)) (λ h. subst (λ s. b ≤ℚ s) (sym h.0) h.1) (greater_is a b)
