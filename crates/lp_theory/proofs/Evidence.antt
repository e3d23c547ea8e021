-- What the three kinds of evidence exclude.
use Rattle.std.proofs.Common.{refl, ◌≡◌, ℕ, ◌<◌, ⊎_elim, [], ◌∷◌, ap, sym, ◌∙◌, subst}
use Rattle.base_numbers.specs.Rational.{ℚ, zero_ℚ, one_ℚ, ◌+ℚ◌, ◌*ℚ◌, ◌-ℚ◌, inv_ℚ, ◌≤ℚ◌, ◌<ℚ◌}
use Rattle.base_numbers.specs.Vector.{sum_to}
use Rattle.base_numbers.proofs.rational.Laws.{≤ℚ_trans, ≤ℚ_antisymm, le_or_lt, ne_of_lt_ℚ, not_le_of_lt, inv_pos, zero_lt_one, le_of_lt_ℚ}
use Rattle.base_numbers.proofs.rational.Laws.{*ℚ_invr}
use Rattle.base_numbers.proofs.tactics.Ring.{ring, reads}
use Rattle.base_numbers.proofs.tactics.Linear.{gap, ◌⊗◌}
use Rattle.base_numbers.proofs.tactics.Linarith.{lin_le, lin_lt, lin_false, le, lt, eq_times, ge0, reads_all}
use Rattle.base_numbers.proofs.vector.Vectors.{sum_to_same, sum_to-add, sum_to-scale, sum_to_mono, sum_to_swap}
use Rattle.lp_theory.specs.Problem.{Problem, IsPoint, IsBest, IsUnbounded, IsEmpty, Outcome, best, unbounded, empty, IsOutcome, left}
use Rattle.lp_theory.specs.Problem.{value_at, mixed, mixed_side, SameKind, moved}

-- the order of a double sum of products
pub exchanged : (P : Problem) (x y : ℕ → ℚ) → sum_to P.cols (λ j. mixed P y j *ℚ x j) ≡ sum_to P.rows (λ r. y r *ℚ left P r x)
exchanged P x y =
    sum_to_same P.cols (λ j. mixed P y j *ℚ x j) (λ j. sum_to P.rows (λ r. x j *ℚ (y r *ℚ P.coef r j)))
    (λ j l. ring (mixed P y j ∷ x j ∷ []) (search reads depth 40) refl ∙ sym (sum_to-scale P.rows (x j) (λ r. y r *ℚ P.coef r j)))
    ∙ sum_to_swap P.cols P.rows (λ j r. x j *ℚ (y r *ℚ P.coef r j))
    ∙ sum_to_same P.rows (λ r. sum_to P.cols (λ j. x j *ℚ (y r *ℚ P.coef r j))) (λ r. y r *ℚ left P r x)
    (λ r l. sum_to_same P.cols (λ j. x j *ℚ (y r *ℚ P.coef r j)) (λ j. y r *ℚ (P.coef r j *ℚ x j))
    (λ j m. ring (x j ∷ y r ∷ P.coef r j ∷ []) (search reads depth 40) refl) ∙ sum_to-scale P.cols (y r) (λ j. P.coef r j *ℚ x j))

-- a form that a combination of the rows covers is at most the combination of the sides
covered : (P : Problem) (x y c : ℕ → ℚ) → IsPoint P x → ((r : ℕ) → r < P.rows → zero_ℚ ≤ℚ y r) → ((j : ℕ) → j < P.cols → c j ≤ℚ mixed P y j)
    → sum_to P.cols (λ j. c j *ℚ x j) ≤ℚ mixed_side P y
covered P x y c p h i =
    ≤ℚ_trans
    (sum_to_mono P.cols (λ j. c j *ℚ x j) (λ j. mixed P y j *ℚ x j)
    (λ j l. lin_le (c j ∷ x j ∷ mixed P y j ∷ []) (ge0 (gap (i j l) ⊗ p.nonneg j l) ∷ []) (search reads_all depth 40) tt))
    (subst (λ s. s ≤ℚ mixed_side P y) (sym (exchanged P x y))
    (sum_to_mono P.rows (λ r. y r *ℚ left P r x) (λ r. y r *ℚ P.side r)
    (λ r l. lin_le (y r ∷ left P r x ∷ P.side r ∷ []) (ge0 (h r l ⊗ gap (p.meets r l)) ∷ []) (search reads_all depth 40) tt)))

-- evidence of best: no point has more
pub weak_best : (P : Problem) (x y : ℕ → ℚ) (v : ℚ) → IsBest P x v y → (x' : ℕ → ℚ) → IsPoint P x' → value_at P x' ≤ℚ v
weak_best P x y v b x' p = subst (λ s. value_at P x' ≤ℚ s) b.bound (covered P x' y P.goal p b.multiplier b.covers)

-- evidence of empty: there is no point
pub weak_empty : (P : Problem) (y : ℕ → ℚ) → IsEmpty P y → (x : ℕ → ℚ) → IsPoint P x → ⊥
weak_empty P y e x p =
    let z : sum_to P.cols (λ j. zero_ℚ *ℚ x j) ≡ zero_ℚ *ℚ sum_to P.cols x = sum_to-scale P.cols zero_ℚ x in
    let l = covered P x y (λ j. zero_ℚ) p e.multiplier e.covers in
    let l' = subst (λ s. s ≤ℚ mixed_side P y) z l in
    let s = e.below in
    lin_false (sum_to P.cols x ∷ mixed_side P y ∷ []) (le l' ∷ lt s ∷ []) (search reads_all depth 40) tt

-- a sum at the moved point
sum-moved : (n : ℕ) (c x d : ℕ → ℚ) (t : ℚ) → sum_to n (λ j. c j *ℚ moved x t d j)
    ≡ sum_to n (λ j. c j *ℚ x j) +ℚ t *ℚ sum_to n (λ j. c j *ℚ d j)
sum-moved n c x d t =
    sum_to_same n (λ j. c j *ℚ moved x t d j) (λ j. c j *ℚ x j +ℚ t *ℚ (c j *ℚ d j))
    (λ j l. ring (c j ∷ x j ∷ d j ∷ t ∷ []) (search reads depth 40) refl)
    ∙ sum_to-add n (λ j. c j *ℚ x j) (λ j. t *ℚ (c j *ℚ d j)) ∙ ap (λ s. sum_to n (λ j. c j *ℚ x j) +ℚ s)
    (sum_to-scale n t (λ j. c j *ℚ d j))

-- evidence of unbounded: along the ray all are points
pub ray_points : (P : Problem) (x d : ℕ → ℚ) → IsUnbounded P x d → (t : ℚ) → zero_ℚ ≤ℚ t → IsPoint P (moved x t d)
ray_points P x d u t h = record {
  nonneg = λ j l. let a = u.point.nonneg j l in lin_le (x j ∷ d j ∷ t ∷ []) (ge0 a ∷ ge0 (h ⊗ u.nonneg j l) ∷ [])
      (search reads_all depth 40) tt;
  meets = λ r l. subst (λ s. s ≤ℚ P.side r) (sym (sum-moved P.cols (P.coef r) x d t))
      (let a = u.point.meets r l in lin_le (left P r x ∷ left P r d ∷ t ∷ P.side r ∷ []) (le a ∷ ge0 (h ⊗ gap (u.keeps r l)) ∷ [])
      (search reads_all depth 40) tt);
}

-- evidence of unbounded: some point exceeds any number
pub ray_exceeds : (P : Problem) (x d : ℕ → ℚ) → IsUnbounded P x d → (b : ℚ)
    → (t : ℚ) × (zero_ℚ ≤ℚ t) × IsPoint P (moved x t d) × (b <ℚ value_at P (moved x t d))
ray_exceeds P x d u b =
    let v = value_at P x in
    let w = value_at P d in
    let q : zero_ℚ ≤ℚ inv_ℚ w = le_of_lt_ℚ (inv_pos u.gains) in
    let g = u.gains in
    let e : w *ℚ inv_ℚ w ≡ one_ℚ = *ℚ_invr w (λ z. ne_of_lt_ℚ g (sym z)) in
    ⊎_elim
    (λ h. (
      one_ℚ,
      le_of_lt_ℚ zero_lt_one,
      ray_points P x d u one_ℚ (le_of_lt_ℚ zero_lt_one),
      subst (λ s. b <ℚ s) (sym (sum-moved P.cols P.goal x d one_ℚ)) (lin_lt (b ∷ value_at P x ∷ value_at P d ∷ []) (le h ∷ lt g ∷ [])
          (search reads_all depth 40) tt),
    ))
    (λ h.
    let t = (b -ℚ v) *ℚ inv_ℚ w +ℚ one_ℚ in
    let n : zero_ℚ ≤ℚ t = let m : zero_ℚ ≤ℚ (b -ℚ v) *ℚ inv_ℚ w = gap (le_of_lt_ℚ h) ⊗ q in
    lin_le (((b -ℚ v) *ℚ inv_ℚ w) ∷ []) (ge0 m ∷ []) (search reads_all depth 40) tt in (
      t,
      n,
      ray_points P x d u t n,
      subst (λ s. b <ℚ s) (sym (sum-moved P.cols P.goal x d t)) (above (value_at P x) (value_at P d) (inv_ℚ w) g e),
    ))
    (le_or_lt b v)
  where
    above : (v w i : ℚ) → zero_ℚ <ℚ w → w *ℚ i ≡ one_ℚ → b <ℚ v +ℚ ((b -ℚ v) *ℚ i +ℚ one_ℚ) *ℚ w
    above v w i g e = lin_lt (b ∷ v ∷ w ∷ i ∷ []) (lt g ∷ eq_times (b -ℚ v) e ∷ []) (search reads_all depth 40 fits 9000) tt

-- no problem has evidence of two kinds
not_best_unbounded : (P : Problem) (x y x' d : ℕ → ℚ) (v : ℚ) → IsBest P x v y → IsUnbounded P x' d → ⊥
not_best_unbounded P x y x' d v b u = let e = ray_exceeds P x' d u v in not_le_of_lt e.3 (weak_best P x y v b (moved x' e.0 d) e.2)

-- no problem is empty and unbounded
not_empty_unbounded : (P : Problem) (x d y : ℕ → ℚ) → IsEmpty P y → IsUnbounded P x d → ⊥
not_empty_unbounded P x d y e u = weak_empty P y e x u.point

-- no problem is empty and has a best point
not_empty_best : (P : Problem) (x y z : ℕ → ℚ) (v : ℚ) → IsEmpty P z → IsBest P x v y → ⊥
not_empty_best P x y z v e b = weak_empty P z e x b.point

-- the best value is one
best_value_only : (P : Problem) (x y x' y' : ℕ → ℚ) (v v' : ℚ) → IsBest P x v y → IsBest P x' v' y' → v ≡ v'
best_value_only P x y x' y' v v' b b' =
    ≤ℚ_antisymm (subst (λ s. s ≤ℚ v') b.value (weak_best P x' y' v' b' x b.point))
    (subst (λ s. s ≤ℚ v) b'.value (weak_best P x y v b x' b'.point))

-- a problem has outcomes of one kind alone
pub one_kind : (P : Problem) (o p : Outcome) → IsOutcome P o → IsOutcome P p → SameKind o p
one_kind P (best x v y) (best x' v' y') h k = best_value_only P x y x' y' v v' h k
one_kind P (best x v y) (unbounded x' d') h k = not_best_unbounded P x y x' d' v h k
one_kind P (best x v y) (empty y') h k = not_empty_best P x y y' v k h
one_kind P (unbounded x d) (best x' v' y') h k = not_best_unbounded P x' y' x d v' k h
one_kind P (unbounded x d) (unbounded x' d') h k = tt
one_kind P (unbounded x d) (empty y') h k = not_empty_unbounded P x d y' k h
one_kind P (empty y) (best x' v' y') h k = not_empty_best P x' y' y v' h k
one_kind P (empty y) (unbounded x' d') h k = not_empty_unbounded P x' d' y h k
one_kind P (empty y) (empty y') h k = tt
