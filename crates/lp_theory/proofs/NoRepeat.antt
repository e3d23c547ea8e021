-- No basis set repeats in a chain of pivots by Bland's rule.
use Rattle.std.proofs.Common.{◌≡◌, ◌≢◌, ℕ, zero, suc, ◌<◌, ◌≤◌, ◌⊎◌, inl, inr, ⊎_elim, Bool, true, false, not, refl, ap, sym, ◌∙◌, subst}
use Rattle.std.proofs.Common.{arith, true≢false}
use Rattle.std.proofs.lemmas.Bool.{cases_lt, cases_eq, cases_Bool, not-false, not-true}
use Rattle.base_numbers.specs.Rational.{ℚ, zero_ℚ, ◌+ℚ◌, ◌*ℚ◌, ◌≤ℚ◌}
use Rattle.base_numbers.proofs.rational.Laws.{≤ℚ_trans, ≤ℚ_antisymm, le_of_eq_ℚ, *ℚ-zero, +ℚ_idr, ne_of_lt_ℚ}
use Rattle.lp_theory.specs.Dictionary.{Dict, Models, pivot, SameBasis}
use Rattle.lp_theory.specs.Bland.{ratio_of, Enters, Leaves, IsChain}
use Rattle.lp_theory.proofs.dictionary.Dictionaries.{same_const}
use Rattle.lp_theory.proofs.Pivots.{pivot_enters, pivot_leaves, pivot_stays, pivot_means, pivot_means_back}
use Rattle.lp_theory.proofs.search.Steps.{enters_free, leaves_basic, const_moves, step_goal, step_same}
use Rattle.lp_theory.proofs.dictionary.Clash.{clash}

-- what turns basic enters, and what turns free leaves
turned_basic : (D : Dict) (r c q : ℕ) → r ≢ c → D.basic q ≡ false → (pivot D r c).basic q ≡ true → q ≡ c
turned_basic D r c q h b e = ⊎_elim (λ i. i) (λ i. absurd (⊎_elim
    (λ j. true≢false (sym e ∙ ap (pivot D r c).basic j ∙ pivot_leaves D r c h))
    (λ j. true≢false (sym e ∙ pivot_stays D r c q i j ∙ b)) (cases_eq q r))) (cases_eq q c)

-- what turns free leaves
pub turned_free : (D : Dict) (r c q : ℕ) → D.basic q ≡ true → (pivot D r c).basic q ≡ false → q ≡ r
turned_free D r c q b e = ⊎_elim (λ i. i) (λ i. absurd (⊎_elim
    (λ j. true≢false (sym (ap (pivot D r c).basic j ∙ pivot_enters D r c) ∙ e))
    (λ j. true≢false (sym b ∙ sym (pivot_stays D r c q j i) ∙ e)) (cases_eq q c))) (cases_eq q r)

-- a sequence that is false first and true later turns true in between
rises : (s : ℕ → Bool) (i m : ℕ) → i ≤ m → s i ≡ false → s m ≡ true → (l : ℕ) × (l < m) × (s l ≡ false) × (s (suc l) ≡ true)
rises s i zero h f t = absurd (true≢false (sym t ∙ ap s (omega (arith, h)) ∙ f))
rises s i (suc m) h f t = ⊎_elim
    (λ b. ⊎_elim
    (λ k. let r = rises s i m k f b in (r.0, omega (arith, r.1), r.2, r.3))
    (λ k. absurd (true≢false (sym t ∙ ap s (omega (arith, h, k)) ∙ f)))
    (at_most i m))
    (λ b. (m, omega arith, b, t))
    (cases_Bool (s m))
  where
    at_most : (i m : ℕ) → (i ≤ m) ⊎ (m < i)
    at_most i m = ⊎_elim inr inl (cases_lt m i)

-- a sequence that ends as it began turns true somewhere, where it is both
turns_true : (s : ℕ → Bool) (k i j : ℕ) → i ≤ k → j ≤ k → s 0 ≡ s k → s i ≡ false → s j ≡ true
    → (l : ℕ) × (l < k) × (s l ≡ false) × (s (suc l) ≡ true)
turns_true s k i j a b e f t = ⊎_elim
    (λ h. ⊎_elim
    (λ u. rises s i k a f u)
    (λ u. let r = rises s 0 j (omega arith) (e ∙ u) t in (r.0, omega (arith, r.1), r.2, r.3))
    (cases_Bool (s k)))
    (λ h. let r = rises s i j h f t in (r.0, omega (arith, r.1), r.2, r.3))
    (cases_lt j i)

-- a sequence that ends as it began turns false somewhere, where it is both
turns_false : (s : ℕ → Bool) (k i j : ℕ) → i ≤ k → j ≤ k → s 0 ≡ s k → s i ≡ false → s j ≡ true
    → (l : ℕ) × (l < k) × (s l ≡ true) × (s (suc l) ≡ false)
turns_false s k i j a b e f t =
    let r = turns_true (λ l. not (s l)) k j i b a (ap not e) (ap not t) (ap not f) in
    (r.0, r.1, not-false (s r.0) r.2, not-true (s (suc r.0)) r.3)

-- numbers that never fall and end no higher are all the same
flat : (a : ℕ → ℚ) (k : ℕ) → ((j : ℕ) → j < k → a j ≤ℚ a (suc j)) → a k ≤ℚ a 0 → (j : ℕ) → j ≤ k → a j ≡ a 0
flat a zero h e j l = ap a (omega (arith, l))
flat a (suc k) h e j l =
    let up = h k (omega arith) in
    let ih = flat a k (λ j m. h j (omega (arith, m))) (≤ℚ_trans up e) in
    ⊎_elim
    (λ q. ap a q ∙ ≤ℚ_antisymm e (≤ℚ_trans (le_of_eq_ℚ (sym (ih k (omega arith)))) up))
    (λ q. ih j (omega (arith, l, q)))
    (cases_eq j (suc k))

-- the index of the largest value
largest : (f : ℕ → ℕ) (k : ℕ) → (i : ℕ) × (i < suc k) × ((l : ℕ) → l < suc k → f l ≤ f i)
largest f zero = (0, omega arith, λ l h. let e : l ≡ 0 = omega (arith, h) in subst (λ x. f x ≤ f 0) (sym e) (omega arith))
largest f (suc k) =
    let r = largest f k in
    ⊎_elim
    (λ h. (
      suc k,
      omega arith,
      λ l m. ⊎_elim (λ e. subst (λ x. f x ≤ f (suc k)) (sym e) (omega arith))
          (λ e. omega (arith, h, r.2 l (omega (arith, m, e)))) (cases_eq l (suc k)),
    ))
    (λ h. (
      r.0,
      omega (arith, r.1),
      λ l m. ⊎_elim (λ e. subst (λ x. f x ≤ f r.0) (sym e) h) (λ e. r.2 l (omega (arith, m, e)))
          (cases_eq l (suc k)),
    ))
    (cases_lt (f r.0) (f (suc k)))

module _ (g n : ℕ) (D : ℕ → Dict) (c r : ℕ → ℕ) (k : ℕ) (h : IsChain g n D c r k) where
  -- the meaning is one along the chain
  chain_means : (V : ℕ → ℚ) (j : ℕ) → j ≤ k → Models n (D 0) V → Models n (D j) V
  chain_means V zero l m = m
  chain_means V (suc j) l m =
      subst (λ E. Models n E V) (sym (h.next j (omega (arith, l)))) (pivot_means n (D j) (r j) (c j) (h.leaves j (omega (arith, l))).name V
      (chain_means V j (omega (arith, l)) m))

  -- the last dictionary means no more than the first
  chain_means_back : (V : ℕ → ℚ) (j : ℕ) → j ≤ k → Models n (D j) V → Models n (D 0) V
  chain_means_back V zero l m = m
  chain_means_back V (suc j) l m =
      let b : j < k = omega (arith, l) in
      let d = h.form j (omega (arith, l)) in
      let lv = h.leaves j b in
      chain_means_back V j (omega (arith, l))
      (pivot_means_back n (D j) d (r j) (c j) lv.name (enters_free g n (D j) d (c j) (h.enters j b).gains) (λ z. ne_of_lt_ℚ lv.falls z) V
      (subst (λ E. Models n E V) (h.next j b) m))

  -- the leaving name is not the entering one
  apart : (j : ℕ) → j < k → r j ≢ c j
  apart j l e =
      let d = h.form j (omega (arith, l)) in
      true≢false (sym (leaves_basic n (D j) d (c j) (r j) (h.leaves j l).falls) ∙ ap (D j).basic e
      ∙ enters_free g n (D j) d (c j) (h.enters j l).gains)

  module _ (same : SameBasis n (D 0) (D k)) where
    goal_flat : (j : ℕ) → j ≤ k → (D j).const g ≡ (D 0).const g
    goal_flat = flat (λ j. (D j).const g) k
        (λ j l. subst (λ E. (D j).const g ≤ℚ E.const g) (sym (h.next j l))
        (step_goal g n (D j) (h.feasible j (omega (arith, l))) (c j) (r j) (h.enters j l) (h.leaves j l)))
        (le_of_eq_ℚ (sym (same_const n (D 0) (D k) (h.form 0 (omega arith)) (h.form k (omega arith)) same
        (λ V m. chain_means V k (omega arith) m) g)))

    -- nothing moves
    no_rise : (j : ℕ) → j < k → ratio_of (D j) (c j) (r j) ≡ zero_ℚ
    no_rise j l = step_same g n (D j) (h.feasible j (omega (arith, l))) (c j) (r j) (h.enters j l) (h.leaves j l)
        (ap (λ E. E.const g) (sym (h.next j l)) ∙ goal_flat (suc j) (omega (arith, l)) ∙ sym (goal_flat j (omega (arith, l))))

    const_flat : (j : ℕ) → j ≤ k → (i : ℕ) → (D j).const i ≡ (D 0).const i
    const_flat zero l i = refl
    const_flat (suc j) l i =
        let b : j < k = omega (arith, l) in
        ap (λ E. E.const i) (h.next j b) ∙ const_moves (D j) (c j) (r j) i (h.leaves j b).falls
        ∙ ap (λ x. (D j).const i +ℚ (D j).coef i (c j) *ℚ x) (no_rise j b) ∙ ap (λ x. (D j).const i +ℚ x) (*ℚ-zero ((D j).coef i (c j)))
        ∙ +ℚ_idr ((D j).const i)
        ∙ const_flat j (omega (arith, l)) i

    -- what is free somewhere and basic somewhere enters, and leaves
    some_enter : (q i j : ℕ) → q < n → i ≤ k → j ≤ k → (D i).basic q ≡ false → (D j).basic q ≡ true → (l : ℕ) × (l < k) × (q ≡ c l)
    some_enter q i j m a b f t =
        let w = turns_true (λ l. (D l).basic q) k i j a b (same q m) f t in
        (w.0, w.1, turned_basic (D w.0) (r w.0) (c w.0) q (apart w.0 w.1) w.2 (ap (λ E. E.basic q) (sym (h.next w.0 w.1)) ∙ w.3))

    some_leave : (q i j : ℕ) → q < n → i ≤ k → j ≤ k → (D i).basic q ≡ false → (D j).basic q ≡ true → (l : ℕ) × (l < k) × (q ≡ r l)
    some_leave q i j m a b f t =
        let w = turns_false (λ l. (D l).basic q) k i j a b (same q m) f t in
        (w.0, w.1, turned_free (D w.0) (r w.0) (c w.0) q w.2 (ap (λ E. E.basic q) (sym (h.next w.0 w.1)) ∙ w.3))

    -- t enters the dictionary i and leaves the dictionary j, and no name that enters is larger
    out : (i j t : ℕ) → i < k → j < k → t ≡ c i → t ≡ r j → ((l : ℕ) → l < k → c l ≤ t) → ⊥
    out i j t a b e f up =
        let s = c j in
        let en : Enters g n (D i) t = subst (Enters g n (D i)) (sym e) (h.enters i a) in
        let lv : Leaves n (D j) (c j) t = subst (Leaves n (D j) (c j)) (sym f) (h.leaves j b) in
        let ne : t ≢ c j = λ q. apart j b (sym f ∙ q) in
        let di = h.form i (omega (arith, a)) in
        let dj = h.form j (omega (arith, b)) in
        clash g n (D i) (D j) (c j) t di dj (h.feasible j (omega (arith, b)))
        (λ x. const_flat i (omega (arith, a)) x ∙ sym (const_flat j (omega (arith, b)) x))
        en (h.enters j b) lv (omega (arith, up j b, ne))
        (λ V m. chain_means V i (omega (arith, a)) (chain_means_back V j (omega (arith, b)) m))
        (λ q l x y. let w = some_enter q i j l (omega (arith, a)) (omega (arith, b)) x y in omega (arith, up w.0 w.1, w.2))

  -- the basis sets of the first and the last dictionary differ
  pub no_repeat : 0 < k → SameBasis n (D 0) (D k) → ⊥
  no_repeat p same = by k refl
    where
      by : (m : ℕ) → m ≡ k → ⊥
      by zero e = omega (arith, e, p)
      by (suc m) e =
          let w = largest c m in
          let i = w.0 in
          let a : w.0 < k = omega (arith, w.1, e) in
          let d = h.form w.0 (omega (arith, a)) in
          let free = enters_free g n (D w.0) d (c w.0) (h.enters w.0 a).gains in
          let basic : (D (suc w.0)).basic (c w.0) ≡ true = ap (λ E. E.basic (c w.0)) (h.next w.0 a)
          ∙ pivot_enters (D w.0) (r w.0) (c w.0) in
          let v = some_leave same (c w.0) w.0 (suc w.0) (h.enters w.0 a).name (omega (arith, a)) (omega (arith, a)) free basic in
          out same w.0 v.0 (c w.0) a v.1 refl v.2 (λ l b. w.2 l (omega (arith, b, e)))
