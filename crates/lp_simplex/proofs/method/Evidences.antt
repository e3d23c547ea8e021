-- The numbers of an outcome carry its evidence.
use Rattle.std.proofs.Common.{◌≡◌, ℕ, ◌<◌, map, ap, sym, ◌∙◌, subst}
use Rattle.base_numbers.specs.Rational.{ℚ, zero_ℚ, ◌*ℚ◌, ◌≤ℚ◌, ◌<ℚ◌}
use Rattle.lp_theory.specs.Problem as lp
use Rattle.lp_theory.specs.Listed.{at}
use Rattle.base_numbers.proofs.vector.Vectors.{sum_to_same}
use Rattle.lp_theory.proofs.Evidence.{weak_best, weak_empty, ray_exceeds}
use Rattle.lp_simplex.specs.declared.outcome.Outcome.{Outcome}
use Rattle.lp_simplex.specs.declared.outcome.Outcome.TheVariants.{Best, Unbounded, Empty}
use Rattle.lp_simplex.specs.Outcomes.{IsOutcomeOf, HasEvidence, SaysSupremum}

module _ (P : lp.Problem) where
  -- values that agree on the columns
  left_same : (r : ℕ) (x z : ℕ → ℚ) → ((j : ℕ) → j < P.cols → z j ≡ x j) → lp.left P r z ≡ lp.left P r x
  left_same r x z e = sum_to_same P.cols (λ j. P.coef r j *ℚ z j) (λ j. P.coef r j *ℚ x j) (λ j l. ap (λ t. P.coef r j *ℚ t) (e j l))

  value_same : (x z : ℕ → ℚ) → ((j : ℕ) → j < P.cols → z j ≡ x j) → lp.value_at P z ≡ lp.value_at P x
  value_same x z e = sum_to_same P.cols (λ j. P.goal j *ℚ z j) (λ j. P.goal j *ℚ x j) (λ j l. ap (λ t. P.goal j *ℚ t) (e j l))

  point_same : (x z : ℕ → ℚ) → ((j : ℕ) → j < P.cols → z j ≡ x j) → lp.IsPoint P x → lp.IsPoint P z
  point_same x z e p = record {
    nonneg = λ j l. subst (λ t. zero_ℚ ≤ℚ t) (sym (e j l)) (p.nonneg j l);
    meets = λ r l. subst (λ t. t ≤ℚ P.side r) (sym (left_same r x z e)) (p.meets r l);
  }

  mixed_same : (y z : ℕ → ℚ) → ((r : ℕ) → r < P.rows → z r ≡ y r) → (j : ℕ) → lp.mixed P z j ≡ lp.mixed P y j
  mixed_same y z e j = sum_to_same P.rows (λ r. z r *ℚ P.coef r j) (λ r. y r *ℚ P.coef r j) (λ r l. ap (λ t. t *ℚ P.coef r j) (e r l))

  side_same : (y z : ℕ → ℚ) → ((r : ℕ) → r < P.rows → z r ≡ y r) → lp.mixed_side P z ≡ lp.mixed_side P y
  side_same y z e = sum_to_same P.rows (λ r. z r *ℚ P.side r) (λ r. y r *ℚ P.side r) (λ r l. ap (λ t. t *ℚ P.side r) (e r l))

  -- evidence in other functions with the same values
  best_same : (x x' y y' : ℕ → ℚ) (v w : ℚ) → ((j : ℕ) → j < P.cols → x' j ≡ x j) → w ≡ v → ((r : ℕ) → r < P.rows → y' r ≡ y r)
      → lp.IsBest P x v y → lp.IsBest P x' w y'
  best_same x x' y y' v w e f g b = record {
    point = point_same x x' e b.point;
    value = value_same x x' e ∙ b.value ∙ sym f;
    multiplier = λ r l. subst (λ t. zero_ℚ ≤ℚ t) (sym (g r l)) (b.multiplier r l);
    covers = λ j l. subst (λ t. P.goal j ≤ℚ t) (sym (mixed_same y y' g j)) (b.covers j l);
    bound = side_same y y' g ∙ b.bound ∙ sym f;
  }

  unbounded_same : (x x' d d' : ℕ → ℚ) → ((j : ℕ) → j < P.cols → x' j ≡ x j) → ((j : ℕ) → j < P.cols → d' j ≡ d j) → lp.IsUnbounded P x d
      → lp.IsUnbounded P x' d'
  unbounded_same x x' d d' e f u = record {
    point = point_same x x' e u.point;
    nonneg = λ j l. subst (λ t. zero_ℚ ≤ℚ t) (sym (f j l)) (u.nonneg j l);
    keeps = λ r l. subst (λ t. t ≤ℚ zero_ℚ) (sym (left_same r d d' f)) (u.keeps r l);
    gains = subst (λ t. zero_ℚ <ℚ t) (sym (value_same d d' f)) u.gains;
  }

  empty_same : (y y' : ℕ → ℚ) → ((r : ℕ) → r < P.rows → y' r ≡ y r) → lp.IsEmpty P y → lp.IsEmpty P y'
  empty_same y y' g h = record {
    multiplier = λ r l. subst (λ t. zero_ℚ ≤ℚ t) (sym (g r l)) (h.multiplier r l);
    covers = λ j l. subst (λ t. zero_ℚ ≤ℚ t) (sym (mixed_same y y' g j)) (h.covers j l);
    below = subst (λ t. t <ℚ zero_ℚ) (sym (side_same y y' g)) h.below;
  }

  -- an outcome with the numbers of right evidence has right evidence
  pub evidence_of : {F : Type 0} (m : F → ℚ) (o : lp.Outcome) (q : Outcome F) → lp.IsOutcome P o → IsOutcomeOf m P o q → HasEvidence m P q
  evidence_of m (lp.best x v y) (Best point value multipliers) h e = best_same x (at (map m point.items)) y (at (map m multipliers.items)) v
      (m value) e.0.each e.1 e.2.each h
  evidence_of m (lp.best x v y) (Unbounded point rise) h e = absurd e
  evidence_of m (lp.best x v y) (Empty multipliers) h e = absurd e
  evidence_of m (lp.unbounded x d) (Best point value multipliers) h e = absurd e
  evidence_of m (lp.unbounded x d) (Unbounded point rise) h e = unbounded_same x (at (map m point.items)) d (at (map m rise.items)) e.0.each
      e.1.each h
  evidence_of m (lp.unbounded x d) (Empty multipliers) h e = absurd e
  evidence_of m (lp.empty y) (Best point value multipliers) h e = absurd e
  evidence_of m (lp.empty y) (Unbounded point rise) h e = absurd e
  evidence_of m (lp.empty y) (Empty multipliers) h e = empty_same y (at (map m multipliers.items)) e.each h

  -- and says what it has to of the supremum
  pub supremum_of : {F : Type 0} (m : F → ℚ) (q : Outcome F) → HasEvidence m P q → SaysSupremum m P q
  supremum_of m (Best point value multipliers) h = (
    h.point,
    h.value,
    λ x p. weak_best P (at (map m point.items))
        (at (map m multipliers.items)) (m value) h x p,
  )
  supremum_of m (Unbounded point rise) h = λ b. let w = ray_exceeds P (at (map m point.items)) (at (map m rise.items)) h b in
      (lp.moved (at (map m point.items)) w.0 (at (map m rise.items)), w.2, w.3)
  supremum_of m (Empty multipliers) h = λ x p. weak_empty P (at (map m multipliers.items)) h x p
