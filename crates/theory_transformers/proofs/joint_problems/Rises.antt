-- Rises of listed unknowns: of a vector over a base, of the greater of two, and in order.
use Rattle.std.proofs.Common.{◌≡◌, ◌∙◌, ◌⊎◌, inl, inr, ⊎_elim, ℕ, zero, suc, ◌<◌, ◌&&◌, eqb, Bool, true, false, List, [], ◌∷◌, length, refl}
use Rattle.std.proofs.Common.{sym, ap, subst, arith, if◌then◌else◌}
use Rattle.std.proofs.lemmas.Bool.{and_parts, eqb-true, eq-eqb, cases_Bool}
use Rattle.base_facts.specs.Elements.{In}
use Rattle.base_numbers.specs.Rational.{ℚ, zero_ℚ, ◌-ℚ◌, ◌≤ℚ◌}
use Rattle.base_numbers.specs.Extended.{Ext, neg_inf, fin, pos_inf, ◌≤ᴱ◌}
use Rattle.base_numbers.specs.Vector.{sum_to}
use Rattle.base_numbers.proofs.rational.Laws.{≤ℚ_refl, +ℚ_idr}
use Rattle.base_numbers.proofs.vector.Vectors.{sum_to_mono}
use Rattle.base_numbers.proofs.tactics.Linarith.{lin_le, lin_eq, le, reads_all}
use Rattle.flow_systems.specs.Equations.{Vector}
use Rattle.theory_validity.specs.Certificates.{num}
use Rattle.theory_transformers.specs.JointProblems.{Listed, is_at, rise_at, raise_by, raised}
use Rattle.theory_transformers.specs.JointPoints.{greater, Unlisted}
use Rattle.theory_transformers.specs.Candidates.{rises_of}

-- ---- naming

-- an unknown that is at a point and a row has that point and that row
pub is_at_means : (u : Listed) (p r : ℕ) → is_at u p r ≡ true → (u.point ≡ p) × (u.row ≡ r)
unfolding is_at
is_at_means u p r e = let h = and_parts (eqb u.point p) (eqb u.row r) e in (eqb-true u.point p h.0, eqb-true u.row r h.1)

-- an unknown is at its own point and row
pub is_at_itself : (u : Listed) → is_at u u.point u.row ≡ true
unfolding is_at
is_at_itself u = ap (λ b. b && eqb u.row u.row) (eq-eqb u.point u.point refl) ∙ eq-eqb u.row u.row refl

-- an unknown is listed or not
pub listed_or_not : (list : List Listed) (p r : ℕ) → ((u : Listed) × In list u × (u.point ≡ p) × (u.row ≡ r)) ⊎ Unlisted list p r
listed_or_not [] p r = inr tt
listed_or_not (u ∷ list) p r = ⊎_elim
    (λ e. let h = is_at_means u p r e in inl (u, inl refl, h.0, h.1))
    (λ e. ⊎_elim (λ h. inl (h.0, inr h.1, h.2, h.3)) (λ n. inr (e, n)) (listed_or_not list p r))
    (cases_Bool (is_at u p r))

-- ---- rises
-- the rise of an unknown that isn't listed is 0
pub rise_unlisted : (list : List Listed) (x : ℕ → ℚ) (p r : ℕ) → Unlisted list p r → rise_at list x p r ≡ zero_ℚ
unfolding rise_at
rise_unlisted [] x p r n = refl
rise_unlisted (u ∷ list) x p r n = ap (λ b. if b then x 0 else rise_at list (λ k. x (suc k)) p r) n.0
    ∙ rise_unlisted list (λ k. x (suc k)) p r n.1

-- the rise of a vector over the base
pub rise-rises_of : (list : List Listed) (b q : Vector) (p r : ℕ) → Unlisted list p r
    ⊎ (rise_at list (rises_of list b q) p r ≡ num (q p r) -ℚ num (b p r))
unfolding rise_at rises_of
rise-rises_of [] b q p r = inl tt
rise-rises_of (u ∷ list) b q p r = by (is_at u p r) refl (rise-rises_of list b q p r)
  where
    by : (t : Bool) → is_at u p r ≡ t → Unlisted list p r ⊎ (rise_at list (rises_of list b q) p r ≡ num (q p r) -ℚ num (b p r)) →
        ((t ≡ false) × Unlisted list p r) ⊎ ((if t then num (q u.point u.row) -ℚ num (b u.point u.row) else rise_at list (rises_of list b q)
        p r) ≡ num (q p r) -ℚ num (b p r))
    by true e h =
        let n = is_at_means u p r e in
        inr (ap (λ s. num (q s u.row) -ℚ num (b s u.row)) n.0 ∙ ap (λ s. num (q p s) -ℚ num (b p s)) n.1)
    by false e h = ⊎_elim (λ n. inl (refl, n)) (λ k. inr k) h

-- the rise of the greater
pub rise-greater : (list : List Listed) (x y : ℕ → ℚ) (p r : ℕ) → Unlisted list p r
    ⊎ (rise_at list (λ k. greater (x k) (y k)) p r ≡ greater (rise_at list x p r) (rise_at list y p r))
unfolding rise_at
rise-greater [] x y p r = inl tt
rise-greater (u ∷ list) x y p r = by (is_at u p r) refl (rise-greater list (λ k. x (suc k)) (λ k. y (suc k)) p r)
  where
    by : (t : Bool) → is_at u p r ≡ t → Unlisted list p r ⊎ (rise_at list (λ k. greater (x (suc k)) (y (suc k))) p r
        ≡ greater (rise_at list (λ k. x (suc k)) p r) (rise_at list (λ k. y (suc k)) p r)) →
        ((t ≡ false) × Unlisted list p r) ⊎ ((if t then greater (x 0) (y 0) else rise_at list (λ k. greater (x (suc k)) (y (suc k))) p r)
        ≡ greater (if t then x 0 else rise_at list (λ k. x (suc k)) p r) (if t then y 0 else rise_at list (λ k. y (suc k)) p r))
    by true e h = inr refl
    by false e h = ⊎_elim (λ n. inl (refl, n)) (λ k. inr k) h

-- rises in order
pub rise_mono : (list : List Listed) (x y : ℕ → ℚ) (p r : ℕ) → ((k : ℕ) → k < length list → x k ≤ℚ y k)
    → rise_at list x p r ≤ℚ rise_at list y p r
unfolding rise_at
rise_mono [] x y p r h = ≤ℚ_refl zero_ℚ
rise_mono (u ∷ list) x y p r h = by (is_at u p r) (rise_mono list (λ k. x (suc k)) (λ k. y (suc k)) p r (λ k l. h (suc k) (omega arith)))
  where
    by : (t : Bool) → rise_at list (λ k. x (suc k)) p r ≤ℚ rise_at list (λ k. y (suc k)) p r →
        (if t then x 0 else rise_at list (λ k. x (suc k)) p r) ≤ℚ (if t then y 0 else rise_at list (λ k. y (suc k)) p r)
    by true i = h 0 (omega arith)
    by false i = i

-- a bound that is raised by more is at least as great
pub raise_mono : (v : Ext) (x y : ℚ) → x ≤ℚ y → raise_by v x ≤ᴱ raise_by v y
unfolding raise_by
raise_mono neg_inf x y h = tt
raise_mono (fin c) x y h = lin_le (c ∷ x ∷ y ∷ []) (le h ∷ []) (search reads_all depth 40) tt
raise_mono pos_inf x y h = tt

-- a bound that is raised by 0 stays
pub raise_nothing : (v : Ext) → raise_by v zero_ℚ ≡ v
unfolding raise_by
raise_nothing neg_inf = refl
raise_nothing (fin c) = ap fin (+ℚ_idr c)
raise_nothing pos_inf = refl

-- a bound that is raised by its difference to another becomes that one
pub raise_to : (v w : Ext) (a c : ℚ) → v ≡ fin a → w ≡ fin c → raise_by v (num w -ℚ num v) ≡ w
unfolding raise_by num
raise_to v w a c e f = subst (λ s. raise_by s (num w -ℚ num s) ≡ w) (sym e)
    (subst (λ s. raise_by (fin a) (num s -ℚ num (fin a)) ≡ s) (sym f) (ap fin (lin_eq (a ∷ c ∷ []) [] (search reads_all depth 40) tt)))

-- at least the base
pub raised_above : (list : List Listed) (x : ℕ → ℚ) (b : Vector) (p r : ℕ) → ((k : ℕ) → k < length list → zero_ℚ ≤ℚ x k)
    → b p r ≤ᴱ raised list x b p r
unfolding raised rise_at
raised_above list x b p r h =
    subst (λ s. s ≤ᴱ raise_by (b p r) (rise_at list x p r)) (raise_nothing (b p r))
    (raise_mono (b p r) zero_ℚ (rise_at list x p r) (from list x h))
  where
    from : (list : List Listed) (x : ℕ → ℚ) → ((k : ℕ) → k < length list → zero_ℚ ≤ℚ x k) → zero_ℚ ≤ℚ rise_at list x p r
    from [] x h = ≤ℚ_refl zero_ℚ
    from (u ∷ list) x h = by (is_at u p r) (from list (λ k. x (suc k)) (λ k l. h (suc k) (omega arith))) (h 0 (omega arith))
      where
        by : (t : Bool) → zero_ℚ ≤ℚ rise_at list (λ k. x (suc k)) p r → zero_ℚ ≤ℚ x 0
            → zero_ℚ ≤ℚ (if t then x 0 else rise_at list (λ k. x (suc k)) p r)
        by true i j = j
        by false i j = i

-- and the base outside the list
pub raised_unlisted : (list : List Listed) (x : ℕ → ℚ) (b : Vector) (p r : ℕ) → Unlisted list p r → raised list x b p r ≡ b p r
unfolding raised
raised_unlisted list x b p r n = ap (λ s. raise_by (b p r) s) (rise_unlisted list x p r n) ∙ raise_nothing (b p r)

-- numbers whose sum isn't less are not less
pub sums_same : (n : ℕ) (x y : ℕ → ℚ) → ((k : ℕ) → k < n → x k ≤ℚ y k) → sum_to n y ≤ℚ sum_to n x → (k : ℕ) → k < n → y k ≤ℚ x k
unfolding sum_to
sums_same zero x y h i k l = absurd (omega arith)
sums_same (suc n) x y h i k l =
    let a = h n (omega arith) in
    let s = sum_to_mono n x y (λ j m. h j (omega arith)) in
    by (Rattle.std.proofs.lemmas.Bool.cases_eq k n)
    (lin_le (sum_to n x ∷ sum_to n y ∷ x n ∷ y n ∷ []) (le i ∷ le s ∷ []) (search reads_all depth 40) tt)
    (λ m. sums_same n x y (λ j o. h j (omega arith)) (lin_le (sum_to n x ∷ sum_to n y ∷ x n ∷ y n ∷ []) (le i ∷ le a ∷ [])
    (search reads_all depth 40) tt) k m)
  where
    by : (k ≡ n) ⊎ ((k ≡ n) → ⊥) → y n ≤ℚ x n → (k < n → y k ≤ℚ x k) → y k ≤ℚ x k
    by (inl e) p q = subst (λ j. y j ≤ℚ x j) (sym e) p
    by (inr d) p q = q (omega (arith, d))
