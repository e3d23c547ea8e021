-- The heart of Bland's theorem: a largest name cannot both enter one dictionary and leave another with the same basic solution and meaning.
use Rattle.std.proofs.Common.{◌≡◌, ℕ, ◌<◌, ◌≤◌, ⊎_elim, true, false, [], ◌∷◌, ap, sym, ◌∙◌, subst, arith}
use Rattle.std.proofs.lemmas.Bool.{cases_lt, cases_eq, cases_Bool}
use Rattle.base_numbers.proofs.vector.Sums.{positive_term}
use Rattle.base_numbers.specs.Rational.{ℚ, zero_ℚ, one_ℚ, ◌+ℚ◌, ◌*ℚ◌, ◌-ℚ◌, ◌≤ℚ◌, ◌<ℚ◌}
use Rattle.base_numbers.specs.Vector.{sum_to}
use Rattle.base_numbers.proofs.rational.Laws.{le_or_lt, <ℚ_irrefl, not_le_of_lt, *ℚ_pos, *ℚ_idr, *ℚ-zero, zero-*ℚ, +ℚ_idl, lt_of_le_of_lt_ℚ}
use Rattle.base_numbers.proofs.tactics.Linear.{gap, gap_lt, ◌⊗◌}
use Rattle.base_numbers.proofs.tactics.Linarith.{lin_lt, lin_false, lt, eq, ge0, gt0, reads_all}
use Rattle.lp_theory.specs.Dictionary.{delta, Dict, row, Models, IsDict, IsFeasible}
use Rattle.lp_theory.specs.Bland.{ratio_of, Enters, Leaves}
use Rattle.lp_theory.proofs.Sums.{delta_same, delta_other}
use Rattle.lp_theory.proofs.dictionary.Dictionaries.{along, along_models}
use Rattle.lp_theory.proofs.search.Steps.{ratio_times, ratio_nonneg}

product_zero_left : (a b : ℚ) → a ≡ zero_ℚ → zero_ℚ <ℚ a *ℚ b → ⊥
product_zero_left a b e h = <ℚ_irrefl (subst (λ x. zero_ℚ <ℚ x) (ap (λ x. x *ℚ b) e ∙ zero-*ℚ b) h)

product_zero_right : (a b : ℚ) → b ≡ zero_ℚ → zero_ℚ <ℚ a *ℚ b → ⊥
product_zero_right a b e h = <ℚ_irrefl (subst (λ x. zero_ℚ <ℚ x) (ap (λ x. a *ℚ x) e ∙ *ℚ-zero a) h)

-- where a product is above 0 and one factor is at most 0, the other is below 0
product_signs : (a b : ℚ) → zero_ℚ <ℚ a *ℚ b → a ≤ℚ zero_ℚ → b <ℚ zero_ℚ
product_signs a b h l = ⊎_elim (λ p. absurd (lin_false (a ∷ b ∷ []) (lt h ∷ ge0 (gap l ⊗ p) ∷ []) (search reads_all depth 40) tt)) (λ n. n)
    (le_or_lt zero_ℚ b)

product_mixed : (a b : ℚ) → zero_ℚ <ℚ a *ℚ b → zero_ℚ <ℚ a → b <ℚ zero_ℚ → ⊥
product_mixed a b h p n = lin_false (a ∷ b ∷ []) (lt h ∷ gt0 (*ℚ_pos p (gap_lt n)) ∷ []) (search reads_all depth 40) tt

-- in A the name t enters; in E the name s enters and t leaves, with s < t
module _ (g n : ℕ) (A E : Dict) (s t : ℕ)
    (a : IsDict n A) (e : IsDict n E) (f : IsFeasible n E) (same : (i : ℕ) → A.const i ≡ E.const i)
    (enters : Enters g n A t) (other : Enters g n E s) (leaves : Leaves n E s t) (smaller : s < t)
    (means : (V : ℕ → ℚ) → Models n E V → Models n A V)
    (largest : (q : ℕ) → q < n → A.basic q ≡ false → E.basic q ≡ true → q ≤ t) where
  -- the term of q in the sum is what E's coefficient makes of it
  free_value : (q : ℕ) → A.basic q ≡ false → along E s q ≡ E.coef q s
  free_value q b = ap (λ x. x +ℚ E.coef q s) (sym (same q) ∙ a.still q b) ∙ +ℚ_idl (E.coef q s)

  -- a name with a term above 0 is none of E's free names
  not_free : (q : ℕ) → q < n → zero_ℚ <ℚ A.coef g q *ℚ E.coef q s → E.basic q ≡ false → ⊥
  not_free q l h b = ⊎_elim
      (λ d.
      let u : E.coef q s ≡ one_ℚ = e.unit q s b ∙ ap (λ x. delta q x) (sym d) ∙ delta_same q in
      let p : zero_ℚ <ℚ A.coef g q = subst (λ x. zero_ℚ <ℚ x) (ap (λ x. A.coef g q *ℚ x) u ∙ *ℚ_idr (A.coef g q)) h in
      let m = enters.smallest q l p in
      omega (arith, m, d, smaller))
      (λ d. product_zero_right (A.coef g q) (E.coef q s) (e.unit q s b ∙ delta_other q s d) h)
      (cases_eq q s)

  -- a row that could leave at the same ratio has no smaller name
  not_before : (q : ℕ) → E.coef q s <ℚ zero_ℚ → E.const q ≡ zero_ℚ → q < t → ⊥
  not_before q c z l =
      let θ = ratio_nonneg n E f s t leaves.name leaves.falls in
      let b = leaves.before q l c in
      let m = ratio_times E s q c in
      let p : zero_ℚ <ℚ ratio_of E s q *ℚ (zero_ℚ -ℚ E.coef q s) = *ℚ_pos (lt_of_le_of_lt_ℚ θ b) (gap_lt c) in
      lin_false (ratio_of E s q ∷ E.coef q s ∷ E.const q ∷ []) (gt0 p ∷ eq m ∷ eq z ∷ []) (search reads_all depth 40) tt

  not_basic : (q : ℕ) → q < n → zero_ℚ <ℚ A.coef g q *ℚ E.coef q s → A.basic q ≡ false → E.basic q ≡ true → ⊥
  not_basic q l h b d = ⊎_elim
      (λ m.
      let c = product_signs (A.coef g q) (E.coef q s) h m in
      ⊎_elim
      (λ k. not_before q c (sym (same q) ∙ a.still q b) k)
      (λ k. let i : q ≡ t = omega (arith, k, largest q l b d) in not_le_of_lt enters.gains (subst (λ x. A.coef g x ≤ℚ zero_ℚ) i m))
      (cases_lt q t))
      (λ p.
      let i : q ≡ t = omega (arith, enters.smallest q l p, largest q l b d) in
      product_mixed (A.coef g q) (E.coef q s) h p (subst (λ x. E.coef x s <ℚ zero_ℚ) (sym i) leaves.falls))
      (le_or_lt (A.coef g q) zero_ℚ)

  term_out : (q : ℕ) → q < n → zero_ℚ <ℚ A.coef g q *ℚ along E s q → ⊥
  term_out q l h = ⊎_elim
      (λ b. product_zero_left (A.coef g q) (along E s q) (a.column g q b) h)
      (λ b.
      let k : zero_ℚ <ℚ A.coef g q *ℚ E.coef q s = subst (λ x. zero_ℚ <ℚ A.coef g q *ℚ x) (free_value q b) h in
      ⊎_elim (λ d. not_basic q l k b d) (λ d. not_free q l k d) (cases_Bool (E.basic q)))
      (cases_Bool (A.basic q))

  -- so there are no such two dictionaries
  pub clash : ⊥
  unfolding row
  clash =
      let v : along E s g ≡ A.const g +ℚ sum_to n (λ k. A.coef g k *ℚ along E s k) =
      (means (along E s) (along_models n E e s other.name)).says g in
      let w = same g in
      let o = other.gains in
      let p : zero_ℚ <ℚ sum_to n (λ k. A.coef g k *ℚ along E s k) =
      lin_lt (E.const g ∷ E.coef g s ∷ A.const g ∷ sum_to n (λ k. A.coef g k *ℚ along E s k) ∷ []) (lt o ∷ eq v ∷ eq w ∷ [])
      (search reads_all depth 40) tt in
      let q = positive_term n (λ k. A.coef g k *ℚ along E s k) p in
      term_out q.0 q.1 q.2
