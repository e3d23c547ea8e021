-- One more column, or one more row, in the scans of a table.
use Rattle.std.proofs.Common.{◌≡◌, ◌≢◌, ℕ, ◌+◌, ◌<◌, ◌≤◌, inl, inr, ⊎_elim, Bool, true, false, cond, ltb, Less, Equal}
use Rattle.std.proofs.Common.{Greater, ℤ, [], ◌∷◌, Option, Some, None, Result, MatchResult, refl, ap, sym, ◌∙◌, subst, subst₂}
use Rattle.std.proofs.Common.{arith}
use Rattle.std.specs.Prelude.{MatchBool}
use Rattle.std.proofs.lemmas.Bool.{cases_lt, ltb-true, ltb-false}
use Rattle.base_numbers.specs.Compare.{cmp_ℚ}
use Rattle.base_numbers.proofs.compare.Compared.{cmp-less, cmp-equal, cmp-greater}
use Rattle.base_numbers.specs.Rational.{ℚ, zero_ℚ, neg_ℚ, ◌/ℚ◌, lt_ℚ, ◌≤ℚ◌, ◌<ℚ◌}
use Rattle.base_numbers.proofs.rational.Laws.{≤ℚ_refl, ≤ℚ_trans, ≤ℚ_antisymm, le_or_lt, le_of_lt_ℚ, le_of_eq_ℚ, not_le_of_lt, <ℚ_irrefl}
use Rattle.base_numbers.proofs.rational.Laws.{lt_of_lt_of_le_ℚ, ne_of_lt_ℚ, neg_ℚ-neg_ℚ, neg_ℚ-zero}
use Rattle.base_fractions.specs.Fits.{Fits}
use Rattle.base_fractions.specs.declared.wide.Op.TheVariants.{Div}
use Rattle.base_fractions.specs.declared.wide.Wide.{Wide}
use Rattle.lp_theory.specs.Table.{Table}
use Rattle.lp_theory.proofs.search.Searches.{lt_yes, lt_does}
use Rattle.base_fractions.specs.Operation.{Operation, first_wide, Answers}
use Rattle.lp_dictionary.specs.Listed.{joined}
use Rattle.lp_dictionary.proofs.Widths.{one_answer}
use Rattle.lp_dictionary.proofs.listed.Joins.{joined_wide_at}
use Rattle.lp_simplex.specs.declared.scan.Candidate.{Candidate}
use Rattle.lp_simplex.specs.Operations.{ratio_operation, ratio_operations}
use Rattle.lp_simplex.specs.Choices.{EntersAt, ratio_at, LeavesAt, CandidateOf, IsBefore}

module _ (T : Table) (g n : ℕ) where
  -- the next column has no positive entry
  pub enters_past : (o : Option ℕ) → EntersAt T g n o → T.entry g n ≤ℚ zero_ℚ → EntersAt T g (n + 1) o
  enters_past None h l = λ k b. ⊎_elim (λ a. h k a) (λ a. let e : k ≡ n = omega (arith, a, b) in
      subst (λ x. T.entry g x ≤ℚ zero_ℚ) (sym e) l) (cases_lt k n)
  enters_past (Some c) h l = (
    omega (arith, h.0),
    h.1,
    λ k b p. ⊎_elim (λ a. h.2 k a p) (λ a. let e : k ≡ n = omega (arith, a, b) in
        absurd (not_le_of_lt (subst (λ x. zero_ℚ <ℚ T.entry g x) e p) l)) (cases_lt k n),
  )

  -- the one so far has the smaller name
  pub enters_kept : (c : ℕ) → EntersAt T g n (Some c) → T.col_name c < T.col_name n → EntersAt T g (n + 1) (Some c)
  enters_kept c h l = (
    omega (arith, h.0),
    h.1,
    λ k b p. ⊎_elim (λ a. h.2 k a p) (λ a. let e : k ≡ n = omega (arith, a, b) in
        subst (λ x. T.col_name c ≤ T.col_name x) (sym e) (omega (arith, l))) (cases_lt k n),
  )

  -- the next column has the smaller name
  pub enters_smaller : (c : ℕ) → EntersAt T g n (Some c) → zero_ℚ <ℚ T.entry g n → T.col_name n ≤ T.col_name c
      → EntersAt T g (n + 1) (Some n)
  enters_smaller c h p l = (
    omega arith,
    p,
    λ k b q. ⊎_elim (λ a. let m = h.2 k a q in omega (arith, l, m)) (λ a. let e : k ≡ n = omega (arith, a, b) in
        subst (λ x. T.col_name n ≤ T.col_name x) (sym e) (omega arith)) (cases_lt k n),
  )

  -- the next column is the first with a positive entry
  pub enters_first : EntersAt T g n None → zero_ℚ <ℚ T.entry g n → EntersAt T g (n + 1) (Some n)
  enters_first h p = (
    omega arith,
    p,
    λ k b q. ⊎_elim (λ a. absurd (not_le_of_lt q (h k a))) (λ a. let e : k ≡ n = omega (arith, a, b) in
        subst (λ x. T.col_name n ≤ T.col_name x) (sym e) (omega arith)) (cases_lt k n),
  )

module _ (T : Table) (c n : ℕ) where
  -- the next row has no negative entry
  candidate_past_at : (r : ℕ) → LeavesAt T c n r → zero_ℚ ≤ℚ T.entry n c → LeavesAt T c (n + 1) r
  candidate_past_at r h l = record {
    row = omega (arith, h.row);
    falls = h.falls;
    least = λ i b f. ⊎_elim (λ a. h.least i a f) (λ a. let e : i ≡ n = omega (arith, a, b) in
        absurd (not_le_of_lt f (subst (λ x. zero_ℚ ≤ℚ T.entry x c) (sym e) l))) (cases_lt i n);
    before = λ i b f k. ⊎_elim (λ a. h.before i a f k) (λ a. let e : i ≡ n = omega (arith, a, b) in
        absurd (not_le_of_lt f (subst (λ x. zero_ℚ ≤ℚ T.entry x c) (sym e) l))) (cases_lt i n);
  }

  -- a row with an entry of at least 0 in the column leaves the candidate as it is
  pub candidate_past : {F : Type 0} (m : F → ℚ) (o : Option (Candidate F)) → CandidateOf m T c n o → zero_ℚ ≤ℚ T.entry n c
      → CandidateOf m T c (n + 1) o
  candidate_past m None h l = λ i b. ⊎_elim (λ a. h i a) (λ a. let e : i ≡ n = omega (arith, a, b) in
      subst (λ x. zero_ℚ ≤ℚ T.entry x c) (sym e) l) (cases_lt i n)
  candidate_past m (Some d) h l = (candidate_past_at d.row h.0 l, h.1)

  -- the one so far comes first
  pub candidate_kept : (r : ℕ) → LeavesAt T c n r → T.entry n c <ℚ zero_ℚ
      → ¬ (IsBefore (ratio_at T c n) (T.row_name n) (ratio_at T c r) (T.row_name r)) → LeavesAt T c (n + 1) r
  candidate_kept r h f b = record {
    row = omega (arith, h.row);
    falls = h.falls;
    least = λ i l g. ⊎_elim (λ a. h.least i a g) (λ a. let e : i ≡ n = omega (arith, a, l) in
        subst (λ x. ratio_at T c r ≤ℚ ratio_at T c x) (sym e) (⊎_elim (λ q. q) (λ q. absurd (b (inl q)))
        (le_or_lt (ratio_at T c r) (ratio_at T c n)))) (cases_lt i n);
    before = λ i l g k. ⊎_elim (λ a. h.before i a g k)
        (λ a. let e : i ≡ n = omega (arith, a, l) in
        let k2 : T.row_name n < T.row_name r = subst (λ x. T.row_name x < T.row_name r) e k in
        subst (λ x. ratio_at T c r <ℚ ratio_at T c x) (sym e)
        (⊎_elim (λ q. absurd (⊎_elim (λ p. b (inr (≤ℚ_antisymm q p, k2))) (λ p. b (inl p)) (le_or_lt (ratio_at T c r) (ratio_at T c n))))
        (λ q. q) (le_or_lt (ratio_at T c n) (ratio_at T c r))))
        (cases_lt i n);
  }

  before_le : (r : ℕ) → IsBefore (ratio_at T c n) (T.row_name n) (ratio_at T c r) (T.row_name r) → ratio_at T c n ≤ℚ ratio_at T c r
  before_le r b = ⊎_elim (λ l. le_of_lt_ℚ l) (λ e. le_of_eq_ℚ e.0) b

  -- the next row comes first
  pub candidate_found : (r : ℕ) → LeavesAt T c n r → T.entry n c <ℚ zero_ℚ
      → IsBefore (ratio_at T c n) (T.row_name n) (ratio_at T c r) (T.row_name r) → LeavesAt T c (n + 1) n
  candidate_found r h f b = record {
    row = omega arith;
    falls = f;
    least = λ i l g. ⊎_elim (λ a. ≤ℚ_trans (before_le r b) (h.least i a g))
        (λ a. let e : i ≡ n = omega (arith, a, l) in subst (λ x. ratio_at T c n ≤ℚ ratio_at T c x) (sym e) (≤ℚ_refl (ratio_at T c n)))
        (cases_lt i n);
    before = λ i l g k. ⊎_elim
        (λ a. ⊎_elim (λ q. lt_of_lt_of_le_ℚ q (h.least i a g)) (λ q. subst (λ x. x <ℚ ratio_at T c i) (sym q.0)
        (h.before i a g (omega (arith, k, q.1)))) b)
        (λ a. let e : i ≡ n = omega (arith, a, l) in absurd (let k2 : T.row_name n < T.row_name n =
        subst (λ x. T.row_name x < T.row_name n) e k in omega (arith, k2)))
        (cases_lt i n);
  }

  -- the next row is the first with a negative entry
  pub candidate_first : ((i : ℕ) → i < n → zero_ℚ ≤ℚ T.entry i c) → T.entry n c <ℚ zero_ℚ → LeavesAt T c (n + 1) n
  candidate_first h f = record {
    row = omega arith;
    falls = f;
    least = λ i l g. ⊎_elim (λ a. absurd (not_le_of_lt g (h i a))) (λ a. let e : i ≡ n = omega (arith, a, l) in
        subst (λ x. ratio_at T c n ≤ℚ ratio_at T c x) (sym e) (≤ℚ_refl (ratio_at T c n))) (cases_lt i n);
    before = λ i l g k. ⊎_elim (λ a. absurd (not_le_of_lt g (h i a))) (λ a. let e : i ≡ n = omega (arith, a, l) in
        absurd (let k2 : T.row_name n < T.row_name n = subst (λ x. T.row_name x < T.row_name n) e k in omega (arith, k2))) (cases_lt i n);
  }

-- the ratio of a row with an entry of 0 or more
pub ratio_none : (L : ℤ) (T : Table) (c i : ℕ) → zero_ℚ ≤ℚ T.entry i c → first_wide L (ratio_operation T c i) ≡ None
ratio_none L T c i h = by (lt_ℚ (T.entry i c) zero_ℚ) refl
  where
    by : (b : Bool) → lt_ℚ (T.entry i c) zero_ℚ ≡ b → first_wide L (cond b
        (record { op = Div; left = T.entry i T.width; right = neg_ℚ (T.entry i c) } ∷ []) []) ≡ None
    by true e = absurd (not_le_of_lt (lt_yes (T.entry i c) zero_ℚ e) h)
    by false e = refl

-- the ratio of a row with a negative entry
pub ratio_some : {F : Type 0} (m : F → ℚ) (L : ℤ) (T : Table) (c i : ℕ) (constant negated : F) (res : Result F (Wide F))
    → T.entry i c <ℚ zero_ℚ → m constant ≡ T.entry i T.width → m negated ≡ neg_ℚ (T.entry i c) →
    MatchResult res (λ r. (m r ≡ m constant /ℚ m negated) × Fits L (m r))
    (λ e. (¬ (Fits L (m constant /ℚ m negated))) × (e ≡ record { op = Div; left = constant; right = negated })) →
    Answers m L (ratio_at T c i) (ratio_operation T c i) res
ratio_some m L T c i constant negated res f e h k =
    subst (λ b. Answers m L (ratio_at T c i) (cond b (record { op = Div; left = T.entry i T.width; right = neg_ℚ (T.entry i c) } ∷ []) [])
    res) (sym (lt_does f))
    (subst₂ (λ x y. Answers m L (x /ℚ y) (record { op = Div; left = x; right = y } ∷ []) res) e h
    (one_answer m L Div constant negated res k))

-- a negated negative number is not 0
pub negated_not_zero : (q p : ℚ) → q <ℚ zero_ℚ → p ≡ neg_ℚ q → p ≢ zero_ℚ
negated_not_zero q p h e z = ne_of_lt_ℚ h (sym (neg_ℚ-neg_ℚ q) ∙ ap neg_ℚ (sym e ∙ z) ∙ neg_ℚ-zero)

-- what a comparison of two ratios, and then of the names, says
pub before_less : (x y : ℚ) (a b : ℕ) → cmp_ℚ x y ≡ Less → IsBefore x a y b
before_less x y a b e = inl (cmp-less x y e)

-- where two ratios are equal, the comparison of the names says which comes first
pub before_equal : (x y : ℚ) (a b c d : ℕ) → cmp_ℚ x y ≡ Equal → c ≡ a → d ≡ b
    → MatchBool (ltb c d) (IsBefore x a y b) (¬ (IsBefore x a y b))
before_equal x y a b c d e f g = subst₂ (λ c d. MatchBool (ltb c d) (IsBefore x a y b) (¬ (IsBefore x a y b))) (sym f) (sym g)
    (by (ltb a b) refl)
  where
    by : (t : Bool) → ltb a b ≡ t → MatchBool t (IsBefore x a y b) (¬ (IsBefore x a y b))
    by true l = inr (cmp-equal x y e, ltb-true a b l)
    by false l = λ h. ⊎_elim (λ q. <ℚ_irrefl (subst (λ z. z <ℚ y) (cmp-equal x y e) q))
        (λ q. let m = ltb-false a b l in omega (arith, m, q.1)) h

-- a greater ratio doesn't come first
pub before_greater : (x y : ℚ) (a b : ℕ) → cmp_ℚ x y ≡ Greater → ¬ (IsBefore x a y b)
before_greater x y a b e h = ⊎_elim (λ q. not_le_of_lt q (le_of_lt_ℚ (cmp-greater x y e)))
    (λ q. <ℚ_irrefl (subst (λ z. y <ℚ z) q.0 (cmp-greater x y e))) h

-- no candidate so far
pub candidate_none : {F : Type 0} (m : F → ℚ) (T : Table) (c n : ℕ) (o : Option (Candidate F)) → CandidateOf m T c n o
    → ((x : Candidate F) → o ≡ Some x → ⊥) → (i : ℕ) → i < n → zero_ℚ ≤ℚ T.entry i c
candidate_none m T c n None h k = h
candidate_none m T c n (Some d) h k = absurd (k d refl)

-- the ratios of all rows
pub ratios_refused : (L : ℤ) (T : Table) (c rows i : ℕ) (o : Operation) → rows ≡ T.rows → i < rows
    → first_wide L (joined i (ratio_operation T c)) ≡ None → first_wide L (ratio_operation T c i) ≡ Some o
    → first_wide L (ratio_operations T c) ≡ Some o
unfolding ratio_operations
ratios_refused L T c rows i o e l h k = joined_wide_at L i T.rows (ratio_operation T c) o (omega (arith, l, e)) h k

-- where none of the ratios of all rows is wide, none of the operations of the ratio test is
pub ratios_fit : (L : ℤ) (T : Table) (c rows : ℕ) → rows ≡ T.rows → first_wide L (joined rows (ratio_operation T c)) ≡ None
    → first_wide L (ratio_operations T c) ≡ None
unfolding ratio_operations
ratios_fit L T c rows e h = ap (λ n. first_wide L (joined n (ratio_operation T c))) (sym e) ∙ h

-- no column so far
pub enters_none : (T : Table) (g n : ℕ) (o : Option ℕ) → EntersAt T g n o → ((x : ℕ) → o ≡ Some x → ⊥) → EntersAt T g n None
enters_none T g n None h k = h
enters_none T g n (Some c) h k = absurd (k c refl)
