-- Linear programs over columns of any sign: the evidence of the split problem gives evidence with equality on every column.
use Rattle.std.proofs.Common.{◌≡◌, ℕ, zero, suc, ◌+◌, ◌<◌, [], ◌∷◌, refl, ap, sym, ◌∙◌, subst, subst₂, arith}
use Rattle.base_numbers.proofs.vector.Sums.{sum_first}
use Rattle.base_numbers.specs.Rational.{ℚ, zero_ℚ, one_ℚ, ◌+ℚ◌, ◌*ℚ◌, neg_ℚ, ◌-ℚ◌, ◌≤ℚ◌, ◌<ℚ◌}
use Rattle.base_numbers.specs.Vector.{sum_to}
use Rattle.base_numbers.proofs.rational.Laws.{≤ℚ_antisymm}
use Rattle.base_numbers.proofs.tactics.Ring.{ring, reads}
use Rattle.base_numbers.proofs.tactics.Linear.{◌⊗◌}
use Rattle.base_numbers.proofs.tactics.Linarith.{lin_le, lin_false, le, lt, eq, ge0, reads_all}
use Rattle.base_numbers.proofs.vector.Vectors.{sum_to_same, sum_to_mono, sum_to-scale}
use Rattle.lp_theory.specs.Problem.{Problem, left, value_at, mixed, mixed_side, IsPoint, IsBest, IsUnbounded, IsEmpty, Outcome, best}
use Rattle.lp_theory.specs.Problem.{unbounded, empty, IsOutcome}
use Rattle.lp_theory.specs.Simplex.{lp}
use Rattle.lp_theory.specs.Free.{split, split_problem, unsplit, IsFreePoint, IsFreeBest, IsFreeUnbounded, IsFreeEmpty, IsFreeOutcome}
use Rattle.lp_theory.specs.Free.{unsplit_outcome, free_lp}
use Rattle.lp_theory.proofs.Evidence.{exchanged}
use Rattle.lp_theory.proofs.search.Programs.{lp_is}

-- the split form at a positive column
split_even : (f : ℕ → ℚ) (j : ℕ) → split f (j + j) ≡ f j
split_even f zero = refl
split_even f (suc j) = let e : suc j + suc j ≡ suc (suc (j + j)) = omega arith in ap (split f) e ∙ split_even (λ j. f (suc j)) j

-- the split form at a negative column
split_odd : (f : ℕ → ℚ) (j : ℕ) → split f (suc (j + j)) ≡ neg_ℚ (f j)
split_odd f zero = refl
split_odd f (suc j) = let e : suc (suc j + suc j) ≡ suc (suc (suc (j + j))) = omega arith in ap (split f) e ∙ split_odd (λ j. f (suc j)) j

unsplit-suc : (x : ℕ → ℚ) (j : ℕ) → unsplit (λ k. x (suc (suc k))) j ≡ unsplit x (suc j)
unsplit-suc x j = let e : suc (suc (j + j)) ≡ suc j + suc j = omega arith in ap (λ k. x k -ℚ x (suc k)) e

-- the split form at x is the form at the unsplit x
sum-split : (W : ℕ) (f x : ℕ → ℚ) → sum_to (W + W) (λ k. split f k *ℚ x k) ≡ sum_to W (λ j. f j *ℚ unsplit x j)
unfolding sum_to
sum-split zero f x = refl
sum-split (suc W) f x =
    let e : suc W + suc W ≡ suc (suc (W + W)) = omega arith in
    let ih = sum-split W (λ j. f (suc j)) (λ k. x (suc (suc k))) in
    ap (λ n. sum_to n (λ k. split f k *ℚ x k)) e
    ∙ sum_first (suc (W + W)) (λ k. split f k *ℚ x k)
    ∙ ap (λ s. split f 0 *ℚ x 0 +ℚ s) (sum_first (W + W) (λ k. split f (suc k) *ℚ x (suc k)))
    ∙ ap (λ s. split f 0 *ℚ x 0 +ℚ (split f 1 *ℚ x 1 +ℚ s)) (ih ∙ sum_to_same W (λ j. f (suc j) *ℚ unsplit (λ k. x (suc (suc k))) j)
    (λ j. f (suc j) *ℚ unsplit x (suc j)) (λ j l. ap (λ s. f (suc j) *ℚ s) (unsplit-suc x j)))
    ∙ ring (f 0 ∷ x 0 ∷ x 1 ∷ sum_to W (λ j. f (suc j) *ℚ unsplit x (suc j)) ∷ []) (search reads depth 40) refl
    ∙ sym (sum_first W (λ j. f j *ℚ unsplit x j))

mixed_even : (P : Problem) (y : ℕ → ℚ) (j : ℕ) → sum_to P.rows (λ r. y r *ℚ split (P.coef r) (j + j)) ≡ mixed P y j
mixed_even P y j = sum_to_same P.rows (λ r. y r *ℚ split (P.coef r) (j + j)) (λ r. y r *ℚ P.coef r j)
    (λ r l. ap (λ s. y r *ℚ s) (split_even (P.coef r) j))

mixed_odd : (P : Problem) (y : ℕ → ℚ) (j : ℕ) → sum_to P.rows (λ r. y r *ℚ split (P.coef r) (suc (j + j))) ≡ neg_ℚ (mixed P y j)
mixed_odd P y j =
    sum_to_same P.rows (λ r. y r *ℚ split (P.coef r) (suc (j + j))) (λ r. neg_ℚ one_ℚ *ℚ (y r *ℚ P.coef r j))
    (λ r l. ap (λ s. y r *ℚ s) (split_odd (P.coef r) j) ∙ ring (y r ∷ P.coef r j ∷ []) (search reads depth 40) refl)
    ∙ sum_to-scale P.rows (neg_ℚ one_ℚ) (λ r. y r *ℚ P.coef r j) ∙ ring (mixed P y j ∷ []) (search reads depth 40) refl

-- two columns that are covered say that one number is another
from_both : (g m : ℚ) → g ≤ℚ m → neg_ℚ g ≤ℚ neg_ℚ m → m ≡ g
from_both g m h i = ≤ℚ_antisymm (lin_le (g ∷ m ∷ []) (le i ∷ []) (search reads_all depth 40) tt) h

free_point : (P : Problem) (x : ℕ → ℚ) → IsPoint (split_problem P) x → IsFreePoint P (unsplit x)
unfolding split_problem
free_point P x p = record { meets = λ r l. subst (λ s. s ≤ℚ P.side r) (sum-split P.cols (P.coef r) x) (p.meets r l) }

free_best : (P : Problem) (x y : ℕ → ℚ) (v : ℚ) → IsBest (split_problem P) x v y → IsFreeBest P (unsplit x) v y
unfolding split_problem
free_best P x y v b = record {
  point = free_point P x b.point;
  value = sym (sum-split P.cols P.goal x) ∙ b.value;
  multiplier = b.multiplier;
  covers = λ j l. from_both (P.goal j) (mixed P y j)
      (subst₂ (λ s t. s ≤ℚ t) (split_even P.goal j) (mixed_even P y j) (b.covers (j + j) (omega (arith, l))))
      (subst₂ (λ s t. s ≤ℚ t) (split_odd P.goal j) (mixed_odd P y j) (b.covers (suc (j + j)) (omega (arith, l))));
  bound = b.bound;
}

free_unbounded : (P : Problem) (x d : ℕ → ℚ) → IsUnbounded (split_problem P) x d → IsFreeUnbounded P (unsplit x) (unsplit d)
unfolding split_problem
free_unbounded P x d u = record {
  point = free_point P x u.point;
  keeps = λ r l. subst (λ s. s ≤ℚ zero_ℚ) (sum-split P.cols (P.coef r) d) (u.keeps r l);
  gains = subst (λ s. zero_ℚ <ℚ s) (sum-split P.cols P.goal d) u.gains;
}

free_empty : (P : Problem) (y : ℕ → ℚ) → IsEmpty (split_problem P) y → IsFreeEmpty P y
unfolding split_problem
free_empty P y e = record {
  multiplier = e.multiplier;
  covers = λ j l.
      let a = subst (λ t. zero_ℚ ≤ℚ t) (mixed_even P y j) (e.covers (j + j) (omega (arith, l))) in
      let b = subst (λ t. zero_ℚ ≤ℚ t) (mixed_odd P y j) (e.covers (suc (j + j)) (omega (arith, l))) in
      ≤ℚ_antisymm (lin_le (mixed P y j ∷ []) (le b ∷ []) (search reads_all depth 40) tt) a;
  below = e.below;
}

free_outcome : (P : Problem) (o : Outcome) → IsOutcome (split_problem P) o → IsFreeOutcome P (unsplit_outcome o)
free_outcome P (best x v y) h = free_best P x y v h
free_outcome P (unbounded x d) h = free_unbounded P x d h
free_outcome P (empty y) h = free_empty P y h

-- the value of `free_lp` is right evidence of its outcome
pub free_lp_is : (P : Problem) → IsFreeOutcome P (free_lp P)
unfolding free_lp
free_lp_is P = free_outcome P (lp (split_problem P)) (lp_is (split_problem P))

-- a combination of the rows that is the form bounds it at each point
free_bound : (P : Problem) (w y : ℕ → ℚ) → IsFreePoint P w → ((r : ℕ) → r < P.rows → zero_ℚ ≤ℚ y r)
    → sum_to P.cols (λ j. mixed P y j *ℚ w j) ≤ℚ mixed_side P y
free_bound P w y p h = subst (λ s. s ≤ℚ mixed_side P y) (sym (exchanged P w y))
    (sum_to_mono P.rows (λ r. y r *ℚ left P r w) (λ r. y r *ℚ P.side r)
    (λ r l. let a = h r l in let b = p.meets r l in times (y r) (left P r w) (P.side r) a b))
  where
    times : (a b c : ℚ) → zero_ℚ ≤ℚ a → b ≤ℚ c → a *ℚ b ≤ℚ a *ℚ c
    times a b c h i = let k : zero_ℚ ≤ℚ c -ℚ b = lin_le (b ∷ c ∷ []) (le i ∷ []) (search reads_all depth 40) tt in
        lin_le (a ∷ b ∷ c ∷ []) (ge0 (h ⊗ k) ∷ []) (search reads_all depth 40) tt

-- evidence of best: no point has more
pub free_weak_best : (P : Problem) (w y : ℕ → ℚ) (v : ℚ) → IsFreeBest P w v y → (w' : ℕ → ℚ) → IsFreePoint P w' → value_at P w' ≤ℚ v
free_weak_best P w y v b w' p =
    subst₂ (λ s t. s ≤ℚ t) (sum_to_same P.cols (λ j. mixed P y j *ℚ w' j) (λ j. P.goal j *ℚ w' j)
    (λ j l. ap (λ s. s *ℚ w' j) (b.covers j l))) b.bound (free_bound P w' y p b.multiplier)

-- evidence of empty: there is no point
pub free_weak_empty : (P : Problem) (y : ℕ → ℚ) → IsFreeEmpty P y → (w : ℕ → ℚ) → IsFreePoint P w → ⊥
free_weak_empty P y e w p =
    let a = free_bound P w y p e.multiplier in
    let z : sum_to P.cols (λ j. mixed P y j *ℚ w j) ≡ zero_ℚ *ℚ sum_to P.cols w =
    sum_to_same P.cols (λ j. mixed P y j *ℚ w j) (λ j. zero_ℚ *ℚ w j) (λ j l. ap (λ s. s *ℚ w j) (e.covers j l))
    ∙ sum_to-scale P.cols zero_ℚ w in
    let b = e.below in
    lin_false (sum_to P.cols (λ j. mixed P y j *ℚ w j) ∷ sum_to P.cols w ∷ mixed_side P y ∷ []) (le a ∷ eq z ∷ lt b ∷ [])
    (search reads_all depth 40) tt
