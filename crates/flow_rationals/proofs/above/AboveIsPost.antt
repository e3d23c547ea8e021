-- Where the values at the loop are above the equations, the vector is a post-solution.
use Rattle.std.proofs.Common.{◌≡◌, ◌∙◌, ⊎_elim, ℕ, ◌+◌, ◌<◌, List, length, get_or, ap, sym, subst, arith}
use Rattle.std.specs.Prelude.{slice_get, Some, flat_map}
use Rattle.std.specs.List.{enumerate_from}
use Rattle.std.proofs.lemmas.Bool.{cases_eq}
use Rattle.lang_tree.specs.Meaning.{put}
use Rattle.lang_tree.proofs.Put.{get_or-put_same, get_or-put_other, put_size}
use Rattle.std.proofs.lemmas.Option.{slice_get_within}
use Rattle.base_facts.specs.Elements.{In}
use Rattle.base_facts.proofs.elements.Membership.{of_map, of_flat_map}
use Rattle.base_numbers.specs.Rational.{ℚ, zero_ℚ, ◌≤ℚ◌}
use Rattle.base_numbers.specs.Extended.{fin, pos_inf, ◌≤ᴱ◌}
use Rattle.base_numbers.proofs.extended.ExtendedLaws.{≤ᴱ_trans}
use Rattle.flow_edges.specs.declared.edge.Edge.{Edge}
use Rattle.flow_edges.proofs.steps.ElementLemmas.{contains_in}
use Rattle.flow_systems.specs.States.{RationalState, valueℚ, Traces}
use Rattle.flow_systems.specs.Equations.{Vector, Fits, Transition, PostSolution}
use Rattle.flow_rationals.specs.declared.equation.Sum.{Sum}
use Rattle.flow_rationals.specs.declared.equation.Equation.{Equation}
use Rattle.flow_rationals.specs.Values.{parts_sum, sum_value, least_value, right_side}
use Rattle.flow_rationals.specs.Solutions.{IsAbove}
use Rattle.flow_rationals.specs.System.{sum_form, start_edge, alternative_actions, alternative_edge, alternative_edges, system_of}
use Rattle.flow_rationals.proofs.values.Extremes.{le_least, start_le, alternative_le}
use Rattle.flow_rationals.proofs.values.Folded.{sum_value_is, folded_fin, scaled, below_scaled, sum_mono}
use Rattle.flow_rationals.proofs.values.Sound.{IsSound, AreSound, in_slice}
use Rattle.flow_rationals.proofs.traces.Rows.{length-rows, fits_out, fits_from}
use Rattle.flow_rationals.proofs.traces.Starts.{at_most_start}
use Rattle.flow_rationals.proofs.traces.Alternatives.{values_of, passes_guard, passes_alternative}
use Rattle.flow_rationals.proofs.above.Places.{of_enumerated, at_place}

module _ (equations : List Equation) (v : Vector) (sound : AreSound equations) (entry : (r : ℕ) → r < length equations → v 0 r ≡ pos_inf)
    (above : IsAbove equations (v 1)) where
  abbrev n : ℕ
  n = length equations

  -- ---- the edge into the loop
  start_fits : (x y : RationalState) → Traces (start_edge equations).actions x y → Fits (system_of equations) v 1 y
  start_fits x y t = fits_from equations v 1 y (λ r h.
      let e = at_place equations r h in
      ≤ᴱ_trans (fin (get_or y r zero_ℚ)) (fin e.0.start) (v 1 r) (at_most_start n equations 0 x y t r r e.0 e.1 (omega arith) h)
      (≤ᴱ_trans (fin e.0.start) (right_side e.0 (v 1)) (v 1 r) (start_le (fin e.0.start) e.0.alternatives (v 1)) (above r e.0 e.1)))

  -- ---- the edge of an alternative
  -- a value that passes the guard of a sum is at most the sum
  below_sum : (s : Sum) (z : RationalState) → IsSound n s → length z ≡ n + 1 → ((i : ℕ) → i < n → fin (get_or z i zero_ℚ) ≤ᴱ v 1 i)
      → valueℚ (sum_form s) z ≤ℚ zero_ℚ →
      fin (get_or z n zero_ℚ) ≤ᴱ sum_value s (v 1)
  below_sum s z good size fits guard =
      let q = get_or z n zero_ℚ in
      let at_z = below_scaled s q (parts_sum s.coeffs (values_of z)) good.positive (passes_guard n s z good size guard) in
      let value : sum_value s (values_of z) ≡ scaled s (fin (parts_sum s.coeffs (values_of z))) =
      sum_value_is s (values_of z) ∙ ap (scaled s) (folded_fin s.coeffs (λ i. get_or z i zero_ℚ)) in
      ≤ᴱ_trans (fin q) (sum_value s (values_of z)) (sum_value s (v 1)) (subst (λ y. fin q ≤ᴱ y) (sym value) at_z)
      (sum_mono s (values_of z) (v 1) good.coeffs good.positive (λ i l. fits i (subst (λ m. i < m) good.size l)))

  module _ (k : ℕ) (e : Equation) (sums : List Sum) (x y : RationalState) (s : slice_get equations k ≡ Some e) (m : In e.alternatives sums)
      (size : length x ≡ n + 1)
      (fits : Fits (system_of equations) v 1 x) (t : Traces (alternative_actions n k sums) x y) where
    before : (i : ℕ) → i < n → fin (get_or x i zero_ℚ) ≤ᴱ v 1 i
    before = fits_out equations v 1 x fits

    within : k < n
    within = slice_get_within equations k e s

    abbrev passed : (q : ℚ) × ((u : Sum) → In sums u → valueℚ (sum_form u) (put zero_ℚ x n q) ≤ℚ zero_ℚ)
        × (y ≡ put zero_ℚ (put zero_ℚ x n q) k q)
    passed = passes_alternative n k sums x y t

    -- the value of the last variable, and the state before it is assigned to the name
    abbrev q : ℚ
    q = passed.0

    abbrev z : RationalState
    z = put zero_ℚ x n q

    z_size : length z ≡ n + 1
    z_size = put_size zero_ℚ x n q (omega (arith, size)) ∙ size

    last : get_or z n zero_ℚ ≡ q
    last = get_or-put_same zero_ℚ x n q zero_ℚ

    kept : (i : ℕ) → i < n → get_or z i zero_ℚ ≡ get_or x i zero_ℚ
    kept i l = get_or-put_other zero_ℚ x n i q (λ f. omega arith)

    good : (u : Sum) → In sums u → IsSound n u
    good = ((sound.each e (in_slice equations k e s)).alternatives sums m).each

    each : (u : Sum) → In sums u → fin q ≤ᴱ sum_value u (v 1)
    each u j =
        subst (λ w. fin w ≤ᴱ sum_value u (v 1)) last
        (below_sum u z (good u j) z_size (λ i l. subst (λ w. fin w ≤ᴱ v 1 i) (sym (kept i l)) (before i l)) (passed.1 u j))

    below : fin q ≤ᴱ v 1 k
    below =
        ≤ᴱ_trans (fin q) (least_value sums (v 1)) (v 1 k) (le_least (fin q) sums (v 1) each)
        (≤ᴱ_trans (least_value sums (v 1)) (right_side e (v 1)) (v 1 k) (alternative_le (fin e.start) e.alternatives (v 1) sums m)
        (above k e s))

    at_k : (r : ℕ) → r ≡ k → fin (get_or y r zero_ℚ) ≤ᴱ v 1 r
    at_k r d =
        let value : get_or y k zero_ℚ ≡ q = ap (λ w. get_or w k zero_ℚ) passed.2 ∙ get_or-put_same zero_ℚ z k q zero_ℚ in
        subst (λ i. fin (get_or y i zero_ℚ) ≤ᴱ v 1 i) (sym d) (subst (λ w. fin w ≤ᴱ v 1 k) (sym value) below)

    other : (r : ℕ) → r < n → (r ≡ k → ⊥) → fin (get_or y r zero_ℚ) ≤ᴱ v 1 r
    other r h d =
        let value : get_or y r zero_ℚ ≡ get_or x r zero_ℚ = ap (λ w. get_or w r zero_ℚ) passed.2 ∙ get_or-put_other zero_ℚ z k r q d
        ∙ kept r h in
        subst (λ w. fin w ≤ᴱ v 1 r) (sym value) (before r h)

    alternative_fits : Fits (system_of equations) v 1 y
    alternative_fits = fits_from equations v 1 y (λ r h. ⊎_elim (at_k r) (other r h) (cases_eq r k))

  -- ---- all edges
  closed : (edge : Edge) (x y : RationalState) → Transition (system_of equations) v edge x y → Fits (system_of equations) v edge.to y
  closed edge x y t = ⊎_elim from_entry from_loop (contains_in (system_of equations).edges edge t.listed)
    where
      from_entry : start_edge equations ≡ edge → Fits (system_of equations) v edge.to y
      from_entry e =
          subst (λ (g : Edge). Fits (system_of equations) v g.to y) e (start_fits x y
          (subst (λ (g : Edge). Traces g.actions x y) (sym e) t.trace))

      from_loop : In (flat_map (alternative_edges (length equations)) (enumerate_from 0 equations)) edge
          → Fits (system_of equations) v edge.to y
      from_loop m =
          let a = of_flat_map (alternative_edges (length equations)) (enumerate_from 0 equations) edge m in
          let place = of_enumerated equations 0 a.0 a.1 in
          let b = of_map (alternative_edge (length equations) a.0.0) a.0.1.alternatives edge a.2 in
          let same : place.0 ≡ a.0.0 = (let f = place.2 in omega arith) in
          subst (λ (g : Edge). Fits (system_of equations) v g.to y) b.2
          (alternative_fits a.0.0 a.0.1 b.0 x y (subst (λ (i : ℕ). slice_get equations i ≡ Some a.0.1) same place.1) b.1 t.starts
          (subst (λ (g : Edge). Fits (system_of equations) v g.from x) (sym b.2) t.fits)
          (subst (λ (g : Edge). Traces g.actions x y) (sym b.2) t.trace))

  -- where the entry has +inf and the values at the loop are above the equations, the vector is a post-solution
  pub above_is_post : PostSolution (system_of equations) v
  above_is_post = record { entry = λ r h. entry r (subst (λ k. r < k) (length-rows (length equations)) h); closed = closed }
