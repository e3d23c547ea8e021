-- The traces of an alternative's edge: the name gets any value that is at most each sum.
use Rattle.std.proofs.Common.{◌≡◌, ◌∙◌, inl, inr, ⊎_elim, ℕ, ◌+◌, ◌<◌, ℤ, neg_ℤ, List, [], ◌∷◌, ◌++◌, length, get_or, map, refl, ap, ap₂}
use Rattle.std.proofs.Common.{sym, subst, arith}
use Rattle.lang_tree.specs.Meaning.{put}
use Rattle.lang_tree.proofs.Put.{get_or-put_same, put_again}
use Rattle.base_facts.specs.Elements.{In}
use Rattle.base_numbers.specs.Rational.{ℚ, whole, zero_ℚ, neg_ℚ, ◌+ℚ◌, ◌-ℚ◌, ◌*ℚ◌, ◌≤ℚ◌}
use Rattle.base_numbers.specs.Extended.{fin}
use Rattle.base_numbers.proofs.rational.Laws.{whole-zero, whole-neg, +ℚ_idr}
use Rattle.base_numbers.proofs.tactics.Ring.{ring, reads}
use Rattle.base_numbers.proofs.tactics.Linarith.{lin_le, le, reads_all}
use Rattle.flow_edges.specs.declared.edge.Action.{Action}
use Rattle.flow_edges.specs.declared.edge.Action.TheVariants.{Guard, Assign}
use Rattle.flow_systems.specs.States.{RationalState, dotℚ, valueℚ, Traces}
use Rattle.flow_rationals.specs.declared.equation.Sum.{Sum}
use Rattle.flow_rationals.specs.Values.{Values, parts_sum}
use Rattle.flow_rationals.specs.System.{sum_form, last_form, alternative_actions}
use Rattle.flow_rationals.proofs.values.Sound.{IsSound}
use Rattle.flow_rationals.proofs.traces.Rows.{one_times}

-- the values of a state
abbrev pub values_of : RationalState → Values
values_of x k = fin (get_or x k zero_ℚ)

-- ---- the guard of a sum
one_less : (c y w p : ℚ) → (neg_ℚ c *ℚ y) +ℚ (w -ℚ p) ≡ w -ℚ ((c *ℚ y) +ℚ p)
one_less c y w p = ring (c ∷ y ∷ w ∷ p ∷ []) (search reads depth 40) refl

only : (c y : ℚ) → (c *ℚ y) +ℚ zero_ℚ ≡ c *ℚ y -ℚ zero_ℚ
only c y = ring (c ∷ y ∷ []) (search reads depth 40) refl

guard_dot : (cs : List ℤ) (d : ℤ) (x : RationalState) → length x ≡ length cs + 1 →
    dotℚ (map neg_ℤ cs ++ d ∷ []) x ≡ whole d *ℚ get_or x (length cs) zero_ℚ -ℚ parts_sum cs (values_of x)
guard_dot [] d [] e = absurd (omega arith)
guard_dot [] d (y ∷ x) e = only (whole d) y
guard_dot (c ∷ cs) d [] e = absurd (omega arith)
guard_dot (c ∷ cs) d (y ∷ x) e =
    let w = whole d *ℚ get_or x (length cs) zero_ℚ in
    let p = parts_sum cs (values_of x) in
    ap₂ (λ a b. (a *ℚ y) +ℚ b) (whole-neg c) (guard_dot cs d x (omega arith)) ∙ one_less (whole c) y w p

sum_form_value : (n : ℕ) (s : Sum) (x : RationalState) → IsSound n s → length x ≡ n + 1 →
    valueℚ (sum_form s) x ≡ (whole s.den *ℚ get_or x n zero_ℚ -ℚ parts_sum s.coeffs (values_of x)) +ℚ neg_ℚ (whole s.constant)
sum_form_value n s x sound e =
    let d = guard_dot s.coeffs s.den x (let f = sound.size in omega arith) in
    ap₂ (λ a b. a +ℚ b) (d ∙ ap (λ k. whole s.den *ℚ get_or x k zero_ℚ -ℚ parts_sum s.coeffs (values_of x)) sound.size)
    (whole-neg s.constant)

module _ (n : ℕ) (s : Sum) (x : RationalState) (sound : IsSound n s) (size : length x ≡ n + 1) where
  -- the guard passes exactly where the last variable times the denominator is at most the sum
  pub guard_passes : get_or x n zero_ℚ *ℚ whole s.den ≤ℚ parts_sum s.coeffs (values_of x) +ℚ whole s.constant
      → valueℚ (sum_form s) x ≤ℚ zero_ℚ
  guard_passes h = subst (λ y. y ≤ℚ zero_ℚ) (sym (sum_form_value n s x sound size))
      (by (get_or x n zero_ℚ) (whole s.den) (parts_sum s.coeffs (values_of x)) (whole s.constant) h)
    where
      by : (q d p k : ℚ) → q *ℚ d ≤ℚ p +ℚ k → (d *ℚ q -ℚ p) +ℚ neg_ℚ k ≤ℚ zero_ℚ
      by q d p k i = lin_le (q ∷ d ∷ p ∷ k ∷ []) (le i ∷ []) (search reads_all depth 40) tt

  -- a state that passes a sum's guard has the last variable, times the denominator, at most the sum
  pub passes_guard : valueℚ (sum_form s) x ≤ℚ zero_ℚ → get_or x n zero_ℚ *ℚ whole s.den ≤ℚ parts_sum s.coeffs (values_of x) +ℚ whole
      s.constant
  passes_guard h = by (get_or x n zero_ℚ) (whole s.den) (parts_sum s.coeffs (values_of x)) (whole s.constant)
      (subst (λ y. y ≤ℚ zero_ℚ) (sum_form_value n s x sound size) h)
    where
      by : (q d p k : ℚ) → (d *ℚ q -ℚ p) +ℚ neg_ℚ k ≤ℚ zero_ℚ → q *ℚ d ≤ℚ p +ℚ k
      by q d p k i = lin_le (q ∷ d ∷ p ∷ k ∷ []) (le i ∷ []) (search reads_all depth 40) tt

-- ---- guards in a row
guards_pass : (sums : List Sum) (rest : List Action) (x y : RationalState) → ((s : Sum) → In sums s → valueℚ (sum_form s) x ≤ℚ zero_ℚ)
    → Traces rest x y →
    Traces (map (λ s. Guard (sum_form s)) sums ++ rest) x y
guards_pass [] rest x y h t = t
guards_pass (s ∷ sums) rest x y h t = (h s (inl refl), guards_pass sums rest x y (λ u m. h u (inr m)) t)

passes_guards : (sums : List Sum) (rest : List Action) (x y : RationalState) → Traces (map (λ s. Guard (sum_form s)) sums ++ rest) x y →
    ((s : Sum) → In sums s → valueℚ (sum_form s) x ≤ℚ zero_ℚ) × Traces rest x y
passes_guards [] rest x y t = (λ s m. absurd m, t)
passes_guards (s ∷ sums) rest x y t =
    let more = passes_guards sums rest x y t.1 in
    (λ u m. ⊎_elim (λ e. subst (λ w. valueℚ (sum_form w) x ≤ℚ zero_ℚ) e t.0) (λ k. more.0 u k) m, more.1)

-- ---- the whole edge
last_value : (n : ℕ) (x : RationalState) → valueℚ (last_form n) x ≡ get_or x n zero_ℚ
last_value n x = ap₂ (λ a b. a +ℚ b) (one_times (n + 1) n x (omega arith)) whole-zero ∙ +ℚ_idr (get_or x n zero_ℚ)

-- from a state whose last value passes, the name gets this value
pub alternative_passes : (n k : ℕ) (sums : List Sum) (x : RationalState) → n < length x
    → ((s : Sum) → In sums s → valueℚ (sum_form s) x ≤ℚ zero_ℚ) →
    Traces (alternative_actions n k sums) x (put zero_ℚ x k (get_or x n zero_ℚ))
alternative_passes n k sums x l h =
    let q = get_or x n zero_ℚ in (
      q,
      subst (λ z. Traces (map (λ s. Guard (sum_form s)) sums ++ Assign k (last_form n) ∷ []) z (put zero_ℚ x k q))
          (sym (put_again zero_ℚ x n zero_ℚ l))
          (guards_pass sums (Assign k (last_form n) ∷ []) x (put zero_ℚ x k q) h (ap (λ w. put zero_ℚ x k w) (sym (last_value n x)))),
    )

-- the state before the assignment, whose last value passes
pub passes_alternative : (n k : ℕ) (sums : List Sum) (x y : RationalState) → Traces (alternative_actions n k sums) x y →
    (q : ℚ) × ((s : Sum) → In sums s → valueℚ (sum_form s) (put zero_ℚ x n q) ≤ℚ zero_ℚ)
    × (y ≡ put zero_ℚ (put zero_ℚ x n q) k q)
passes_alternative n k sums x y t =
    let z = put zero_ℚ x n t.0 in
    let r = passes_guards sums (Assign k (last_form n) ∷ []) z y t.1 in
    (t.0, r.0, r.1 ∙ ap (λ w. put zero_ℚ z k w) (last_value n z ∙ get_or-put_same zero_ℚ x n t.0 zero_ℚ))
