-- The traces of the edge into the loop: each name gets any value that is at most its start.
use Rattle.std.proofs.Common.{◌≡◌, ◌∙◌, ℕ, zero, suc, ◌+◌, ◌<◌, ◌≤◌, pos, neg_ℤ, List, [], ◌∷◌, length, get_or, refl, ap, sym, subst, arith}
use Rattle.std.specs.Prelude.{slice_get, Some, flat_map}
use Rattle.std.specs.List.{enumerate_from}
use Rattle.lang_tree.specs.Meaning.{put}
use Rattle.lang_tree.proofs.Put.{get_or-put_other, put_again}
use Rattle.std.proofs.lemmas.Int.{ints}
use Rattle.base_numbers.specs.Rational.{ℚ, whole, zero_ℚ, neg_ℚ, ◌+ℚ◌, ◌*ℚ◌, ◌≤ℚ◌, ◌<ℚ◌}
use Rattle.base_numbers.proofs.rational.Reps.{rep, rep_eq, rep_mul, rep_whole, den_pos}
use Rattle.base_numbers.proofs.rational.Laws.{whole-zero, whole-neg, whole_lt, *ℚ_comm}
use Rattle.base_numbers.proofs.tactics.Linarith.{lin_le, le, eq, reads_all}
use Rattle.flow_edges.specs.declared.edge.Action.{Action}
use Rattle.flow_edges.specs.declared.edge.Action.TheVariants.{Guard}
use Rattle.flow_systems.specs.States.{RationalState, valueℚ, Traces}
use Rattle.flow_rationals.specs.declared.equation.Equation.{Equation}
use Rattle.flow_rationals.specs.System.{start_form, start_actions}
use Rattle.flow_rationals.proofs.values.Folded.{le_by_times}
use Rattle.flow_rationals.proofs.traces.Rows.{dot_multiple}

-- ---- the guard of a start
times_den : (q : ℚ) → q *ℚ whole (pos q.den) ≡ whole q.num
times_den q = rep_eq (rep_mul (rep q) (rep_whole (pos q.den))) (rep_whole q.num) (omega arith)

den_positive : (q : ℚ) → zero_ℚ <ℚ whole (pos q.den)
den_positive q = let l = den_pos q in subst (λ z. z <ℚ whole (pos q.den)) whole-zero (whole_lt (pos 0) (pos q.den) (omega (arith, ints)))

start_value : (n k : ℕ) (start : ℚ) (x : RationalState) → k < n →
    valueℚ (start_form n k start) x ≡ (get_or x k zero_ℚ *ℚ whole (pos start.den)) +ℚ neg_ℚ (start *ℚ whole (pos start.den))
start_value n k start x h =
    let d = whole (pos start.den) in
    ap (λ y. y +ℚ whole (neg_ℤ start.num)) (dot_multiple (n + 1) (pos start.den) k x (omega arith) ∙ *ℚ_comm d (get_or x k zero_ℚ))
    ∙ ap (λ y. (get_or x k zero_ℚ *ℚ d) +ℚ y) (whole-neg start.num ∙ ap neg_ℚ (sym (times_den start)))

start_passes : (n k : ℕ) (start : ℚ) (x : RationalState) → k < n → get_or x k zero_ℚ ≡ start → valueℚ (start_form n k start) x ≤ℚ zero_ℚ
start_passes n k start x h e = subst (λ y. y ≤ℚ zero_ℚ) (sym (start_value n k start x h))
    (by (get_or x k zero_ℚ *ℚ whole (pos start.den)) (start *ℚ whole (pos start.den)) (ap (λ y. y *ℚ whole (pos start.den)) e))
  where
    by : (a b : ℚ) → a ≡ b → a +ℚ neg_ℚ b ≤ℚ zero_ℚ
    by a b f = lin_le (a ∷ b ∷ []) (eq f ∷ []) (search reads_all depth 40) tt

passes_start : (n k : ℕ) (start : ℚ) (x : RationalState) → k < n → valueℚ (start_form n k start) x ≤ℚ zero_ℚ → get_or x k zero_ℚ ≤ℚ start
passes_start n k start x h i =
    le_by_times (den_positive start) (by (get_or x k zero_ℚ *ℚ whole (pos start.den)) (start *ℚ whole (pos start.den))
    (subst (λ y. y ≤ℚ zero_ℚ) (start_value n k start x h) i))
  where
    by : (a b : ℚ) → a +ℚ neg_ℚ b ≤ℚ zero_ℚ → a ≤ℚ b
    by a b f = lin_le (a ∷ b ∷ []) (le f ∷ []) (search reads_all depth 40) tt

-- ---- the actions of some equations, of which the first has the number k
module _ (n : ℕ) where
  abbrev actions : ℕ → List Equation → List Action
  actions k equations = flat_map (start_actions n) (enumerate_from k equations)

  -- the values of the names before keep
  kept : (equations : List Equation) (k : ℕ) (x y : RationalState) → Traces (actions k equations) x y → (i : ℕ) → i < k
      → get_or y i zero_ℚ ≡ get_or x i zero_ℚ
  kept [] k x y t i l = ap (λ z. get_or z i zero_ℚ) t
  kept (e ∷ equations) k x y t i l = kept equations (k + 1) (put zero_ℚ x k t.0) y t.1.1 i (omega arith)
      ∙ get_or-put_other zero_ℚ x k i t.0 (λ f. omega arith)

  -- each of these names gets at most its start
  pub at_most_start : (equations : List Equation) (k : ℕ) (x y : RationalState) → Traces (actions k equations) x y →
      (i j : ℕ) (e : Equation) → slice_get equations i ≡ Some e → k + i ≡ j → j < n → get_or y j zero_ℚ ≤ℚ e.start
  at_most_start [] k x y t i j e s p l = absurd cc
  at_most_start (f ∷ equations) k x y t zero j e s p l =
      let z = put zero_ℚ x k t.0 in
      let same : f ≡ e = cc in
      let place : k ≡ j = omega arith in
      subst (λ g. get_or y j zero_ℚ ≤ℚ g.start) same (subst (λ m. get_or y m zero_ℚ ≤ℚ f.start) place
      (subst (λ q. q ≤ℚ f.start) (sym (kept equations (k + 1) z y t.1.1 k (omega arith))) (passes_start n k f.start z (omega arith) t.1.0)))
  at_most_start (f ∷ equations) k x y t (suc i) j e s p l = at_most_start equations (k + 1) (put zero_ℚ x k t.0) y t.1.1 i j e s
      (omega arith) l

  -- the starts themselves pass
  pub starts_pass : (equations : List Equation) (k : ℕ) (x : RationalState) → k + length equations ≤ n → n ≤ length x →
      ((i j : ℕ) (e : Equation) → slice_get equations i ≡ Some e → k + i ≡ j → get_or x j zero_ℚ ≡ e.start)
      → Traces (actions k equations) x x
  starts_pass [] k x l m h = refl
  starts_pass (e ∷ equations) k x l m h =
      let at = h 0 k e refl (omega arith) in
      let same = put_again zero_ℚ x k zero_ℚ (omega arith) in (
        get_or x k zero_ℚ,
        subst (λ z. Traces (Guard (start_form n k e.start) ∷ actions (k + 1) equations) z x) (sym same) (
          start_passes n k e.start x (omega arith) at,
          starts_pass equations (k + 1) x (omega arith) m
              (λ i j f s p. h (suc i) j f s (omega arith)),
        ),
      )
