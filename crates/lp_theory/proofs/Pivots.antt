-- A pivot keeps the meaning and the form of a dictionary.
use Rattle.std.proofs.Common.{◌≡◌, ◌≢◌, ℕ, ◌<◌, ◌≤◌, ⊎_elim, true, false, cond, eqb, [], ◌∷◌, refl, ap, sym, ◌∙◌, subst, arith, true≢false}
use Rattle.std.proofs.Common.{ne_eqb, eq-eqb}
use Rattle.std.proofs.lemmas.Bool.{cases_eq}
use Rattle.base_numbers.proofs.vector.Sums.{sum_sub}
use Rattle.base_numbers.specs.Rational.{ℚ, zero_ℚ, one_ℚ, ◌+ℚ◌, ◌*ℚ◌, ◌-ℚ◌, inv_ℚ, ◌/ℚ◌}
use Rattle.base_numbers.specs.Vector.{sum_to}
use Rattle.base_numbers.proofs.rational.Laws.{zero-*ℚ, *ℚ_invr, div_ℚ_is}
use Rattle.base_numbers.proofs.rational.Quotients.{quotient_times}
use Rattle.base_numbers.proofs.tactics.Ring.{ring, reads}
use Rattle.base_numbers.proofs.tactics.Linarith.{eq, eq_times, lin_eq, reads_all}
use Rattle.base_numbers.proofs.vector.Vectors.{sum_to_same, sum_to-add, sum_to-scale}
use Rattle.lp_theory.specs.Dictionary.{delta, Dict, row, Models, IsDict, share, pivot}
use Rattle.lp_theory.proofs.Sums.{delta_same, delta_other, sum-delta}
use Rattle.lp_theory.proofs.dictionary.Dictionaries.{row_free}

-- a constant after a pivot
pub pivot-const : (D : Dict) (r c i : ℕ) → (pivot D r c).const i ≡ D.const i -ℚ share D r c i *ℚ D.const r
unfolding pivot
pivot-const D r c i = refl

-- a coefficient after a pivot
pub pivot-coef : (D : Dict) (r c i k : ℕ) → (pivot D r c).coef i k ≡ D.coef i k +ℚ share D r c i *ℚ (delta r k -ℚ D.coef r k)
unfolding pivot
pivot-coef D r c i k = refl

-- the entering name is basic
pub pivot_enters : (D : Dict) (r c : ℕ) → (pivot D r c).basic c ≡ true
unfolding pivot
pivot_enters D r c = ap (λ b. cond b true (cond (eqb c r) false (D.basic c))) (eq-eqb c c refl)

-- the leaving name is free
pub pivot_leaves : (D : Dict) (r c : ℕ) → r ≢ c → (pivot D r c).basic r ≡ false
unfolding pivot
pivot_leaves D r c h = ap (λ b. cond b true (cond (eqb r r) false (D.basic r))) (ne_eqb r c h)
    ∙ ap (λ b. cond b false (D.basic r)) (eq-eqb r r refl)

-- any other name stays what it was
pub pivot_stays : (D : Dict) (r c k : ℕ) → k ≢ c → k ≢ r → (pivot D r c).basic k ≡ D.basic k
unfolding pivot
pivot_stays D r c k h g = ap (λ b. cond b true (cond (eqb k r) false (D.basic k))) (ne_eqb k c h)
    ∙ ap (λ b. cond b false (D.basic k)) (ne_eqb k r g)

-- the share times the pivot is the row's entry
pub share_times : (D : Dict) (r c i : ℕ) → D.coef r c ≢ zero_ℚ → share D r c i *ℚ D.coef r c ≡ D.coef i c
unfolding share
share_times D r c i h = quotient_times (D.coef i c) (D.coef r c) h

-- the leaving row loses itself
share_one : (D : Dict) (r c : ℕ) → D.coef r c ≢ zero_ℚ → share D r c r ≡ one_ℚ
unfolding share
share_one D r c h = div_ℚ_is (D.coef r c) (D.coef r c) ∙ *ℚ_invr (D.coef r c) h

-- a row with no entry in the column has no share
pub share_zero : (D : Dict) (r c i : ℕ) → D.coef i c ≡ zero_ℚ → share D r c i ≡ zero_ℚ
unfolding share
share_zero D r c i h = ap (λ s. s /ℚ D.coef r c) h ∙ div_ℚ_is zero_ℚ (D.coef r c) ∙ zero-*ℚ (inv_ℚ (D.coef r c))

-- each row of the new dictionary differs from the old by a multiple of what the leaving row says
pivot_row : (n : ℕ) (D : Dict) (r c : ℕ) → r < n → (V : ℕ → ℚ) (i : ℕ)
    → row n (pivot D r c) V i ≡ row n D V i +ℚ share D r c i *ℚ (V r -ℚ row n D V r)
unfolding row
pivot_row n D r c l V i =
    let s = share D r c i in
    let p : sum_to n (λ k. (pivot D r c).coef i k *ℚ V k) ≡ sum_to n (λ k. D.coef i k *ℚ V k +ℚ share D r c i *ℚ
    (delta r k *ℚ V k -ℚ D.coef r k *ℚ V k)) =
    sum_to_same n (λ k. (pivot D r c).coef i k *ℚ V k) (λ k. D.coef i k *ℚ V k +ℚ share D r c i *ℚ (delta r k *ℚ V k -ℚ D.coef r k *ℚ V k))
    (λ k m. ap (λ x. x *ℚ V k) (pivot-coef D r c i k) ∙ ring (D.coef i k ∷ share D r c i ∷ delta r k ∷ D.coef r k ∷ V k ∷ [])
    (search reads depth 40) refl) in
    let q : sum_to n (λ k. D.coef i k *ℚ V k +ℚ share D r c i *ℚ (delta r k *ℚ V k -ℚ D.coef r k *ℚ V k))
    ≡ sum_to n (λ k. D.coef i k *ℚ V k) +ℚ share D r c i *ℚ (V r -ℚ sum_to n (λ k. D.coef r k *ℚ V k)) =
    sum_to-add n (λ k. D.coef i k *ℚ V k) (λ k. share D r c i *ℚ (delta r k *ℚ V k -ℚ D.coef r k *ℚ V k))
    ∙ ap (λ x. sum_to n (λ k. D.coef i k *ℚ V k) +ℚ x) (sum_to-scale n (share D r c i) (λ k. delta r k *ℚ V k -ℚ D.coef r k *ℚ V k)
    ∙ ap (λ x. share D r c i *ℚ x) (sum_sub n (λ k. delta r k *ℚ V k) (λ k. D.coef r k *ℚ V k)
    ∙ ap (λ x. x -ℚ sum_to n (λ k. D.coef r k *ℚ V k)) (sum-delta n r V l))) in
    ap (λ x. (pivot D r c).const i +ℚ x) (p ∙ q) ∙ ap (λ x. x +ℚ (sum_to n (λ k. D.coef i k *ℚ V k) +ℚ share D r c i *ℚ
    (V r -ℚ sum_to n (λ k. D.coef r k *ℚ V k)))) (pivot-const D r c i)
    ∙ ring (D.const i ∷ D.const r ∷ share D r c i ∷ V r ∷ sum_to n (λ k. D.coef i k *ℚ V k) ∷ sum_to n (λ k. D.coef r k *ℚ V k) ∷ [])
    (search reads depth 40) refl

-- a pivot keeps the meaning
pub pivot_means : (n : ℕ) (D : Dict) (r c : ℕ) → r < n → (V : ℕ → ℚ) → Models n D V → Models n (pivot D r c) V
pivot_means n D r c l V m = record {
  says = λ i.
      let h = m.says r in
      let e = pivot_row n D r c l V i in
      let g = m.says i in
      lin_eq (V i ∷ V r ∷ row n D V i ∷ row n D V r ∷ share D r c i ∷ row n (pivot D r c) V i ∷ [])
      (eq g ∷ eq e ∷ eq_times (share D r c i) h ∷ []) (search reads_all depth 40) tt;
}

-- a pivot adds nothing to the meaning
pub pivot_means_back : (n : ℕ) (D : Dict) → IsDict n D → (r c : ℕ) → r < n → D.basic c ≡ false → D.coef r c ≢ zero_ℚ → (V : ℕ → ℚ)
    → Models n (pivot D r c) V → Models n D V
pivot_means_back n D d r c l f p V m = record {
  says = λ i.
      let e = pivot_row n D r c l V i in
      let g = m.says i in
      lin_eq (V i ∷ V r ∷ row n D V i ∷ row n D V r ∷ share D r c i ∷ row n (pivot D r c) V i ∷ [])
      (eq g ∷ eq e ∷ eq_times (share D r c i) holds ∷ []) (search reads_all depth 40) tt;
}
  where
    from : (v a b x y s p : ℚ) → v ≡ b → b ≡ a +ℚ s *ℚ (x -ℚ y) → a ≡ v → s *ℚ p ≡ one_ℚ → x ≡ y
    from v a b x y s p g e h o = lin_eq (v ∷ a ∷ b ∷ x ∷ y ∷ s ∷ p ∷ [])
        (eq_times p g ∷ eq_times p e ∷ eq_times p h ∷ eq_times (x -ℚ y) o ∷ []) (search reads_all depth 40 fits 9000) tt

    -- the row of the entering name gives the leaving row back
    holds : V r ≡ row n D V r
    holds =
        let e = pivot_row n D r c l V c in
        let g = m.says c in
        let h = row_free n D d V c f in
        let one : share D r c c *ℚ D.coef r c ≡ one_ℚ = share_times D r c c p ∙ d.unit c c f ∙ delta_same c in
        from (V c) (row n D V c) (row n (pivot D r c) V c) (V r) (row n D V r) (share D r c c) (D.coef r c) g e h one

-- a pivot keeps the form
pub pivot_form : (n : ℕ) (D : Dict) → IsDict n D → (r c : ℕ) → r < n → c < n → D.basic r ≡ true → D.basic c ≡ false → D.coef r c ≢ zero_ℚ
    → IsDict n (pivot D r c)
pivot_form n D d r c l m b f p = record { column = column; unit = unit; still = still; goals = goals }
  where
    apart : r ≢ c
    apart e = true≢false (sym b ∙ ap D.basic e ∙ f)

    old : (k : ℕ) → k ≢ r → (pivot D r c).basic k ≡ false → D.basic k ≡ false
    old k g e = ⊎_elim (λ q. absurd (true≢false (sym (ap (λ s. (pivot D r c).basic s) q ∙ pivot_enters D r c) ∙ e)))
        (λ q. sym (pivot_stays D r c k q g) ∙ e) (cases_eq k c)

    apart_c : (k : ℕ) → (pivot D r c).basic k ≡ false → k ≢ c
    apart_c k e q = true≢false (sym (ap (λ s. (pivot D r c).basic s) q ∙ pivot_enters D r c) ∙ e)

    idle : (i : ℕ) → i ≢ r → (pivot D r c).basic i ≡ false → share D r c i ≡ zero_ℚ
    idle i g e = share_zero D r c i (d.unit i c (old i g e) ∙ delta_other i c (apart_c i e))

    column : (i k : ℕ) → (pivot D r c).basic k ≡ true → (pivot D r c).coef i k ≡ zero_ℚ
    column i k e = pivot-coef D r c i k ∙ ⊎_elim
        (λ q.
        let z : delta r k ≡ zero_ℚ = delta_other r k (λ x. apart (x ∙ q)) in
        let t : share D r c i *ℚ D.coef r k ≡ D.coef i k = subst (λ x. share D r c i *ℚ D.coef r x ≡ D.coef i x) (sym q)
        (share_times D r c i p) in
        lin_eq (D.coef i k ∷ share D r c i ∷ delta r k ∷ D.coef r k ∷ []) (eq t ∷ eq_times (share D r c i) z ∷ [])
        (search reads_all depth 40) tt)
        (λ q.
        let g : k ≢ r = λ x. true≢false (sym e ∙ ap (λ s. (pivot D r c).basic s) x ∙ pivot_leaves D r c apart) in
        let o : D.basic k ≡ true = sym (pivot_stays D r c k q g) ∙ e in
        let z : delta r k ≡ zero_ℚ = delta_other r k (λ x. g (sym x)) in
        let t = d.column i k o in
        let u = d.column r k o in
        lin_eq (D.coef i k ∷ share D r c i ∷ delta r k ∷ D.coef r k ∷ [])
        (eq t ∷ eq_times (share D r c i) u ∷ eq_times (share D r c i) z ∷ []) (search reads_all depth 40) tt)
        (cases_eq k c)

    unit : (i k : ℕ) → (pivot D r c).basic i ≡ false → (pivot D r c).coef i k ≡ delta i k
    unit i k e = pivot-coef D r c i k ∙ ⊎_elim
        (λ q.
        let s : share D r c i ≡ one_ℚ = ap (share D r c) q ∙ share_one D r c p in
        subst (λ x. D.coef i k +ℚ share D r c i *ℚ (delta x k -ℚ D.coef x k) ≡ delta i k) q
        (lin_eq (D.coef i k ∷ share D r c i ∷ delta i k ∷ []) (eq_times (delta i k -ℚ D.coef i k) s ∷ []) (search reads_all depth 40) tt))
        (λ q.
        let s = idle i q e in
        let u = d.unit i k (old i q e) in
        lin_eq (D.coef i k ∷ share D r c i ∷ delta i k ∷ delta r k ∷ D.coef r k ∷ []) (eq_times (delta r k -ℚ D.coef r k) s ∷ eq u ∷ [])
        (search reads_all depth 40) tt)
        (cases_eq i r)

    still : (i : ℕ) → (pivot D r c).basic i ≡ false → (pivot D r c).const i ≡ zero_ℚ
    still i e = pivot-const D r c i ∙ ⊎_elim
        (λ q.
        let s : share D r c i ≡ one_ℚ = ap (share D r c) q ∙ share_one D r c p in
        subst (λ x. D.const i -ℚ share D r c i *ℚ D.const x ≡ zero_ℚ) q
        (lin_eq (D.const i ∷ share D r c i ∷ []) (eq_times (D.const i) s ∷ []) (search reads_all depth 40) tt))
        (λ q.
        let s = idle i q e in
        let u = d.still i (old i q e) in
        lin_eq (D.const i ∷ share D r c i ∷ D.const r ∷ []) (eq_times (D.const r) s ∷ eq u ∷ []) (search reads_all depth 40) tt)
        (cases_eq i r)

    goals : (i : ℕ) → n ≤ i → (pivot D r c).basic i ≡ true
    goals i h = pivot_stays D r c i (λ e. omega (arith, e)) (λ e. omega (arith, e)) ∙ d.goals i h
