-- Where a vector is a post-solution, its values at the loop are above the equations.
use Rattle.std.proofs.Common.{◌≡◌, ◌∙◌, inl, inr, ℕ, ◌+◌, ◌<◌, List, [], ◌∷◌, ◌++◌, length, get_or, map, refl, ap, sym, subst, subst₂}
use Rattle.std.proofs.Common.{arith, zero-add}
use Rattle.std.specs.Prelude.{slice_get, Some}
use Rattle.std.specs.List.{enumerate_from, range_with_len}
use Rattle.std.proofs.lemmas.List.{get_or_append_left, get_or_push, get_or-map, length_push, length-map}
use Rattle.std.proofs.lemmas.List.FromFn.{length-map-range_with_len, get_or-map-range_with_len}
use Rattle.std.proofs.lemmas.Option.{slice_get_within, get_or_from_slice_get}
use Rattle.base_facts.specs.Elements.{In}
use Rattle.base_facts.proofs.elements.Membership.{in_map, in_flat_map, contains_from_in}
use Rattle.base_numbers.specs.Rational.{ℚ, zero_ℚ, one_ℚ, whole, ◌+ℚ◌, ◌*ℚ◌, ◌≤ℚ◌}
use Rattle.base_numbers.specs.Extended.{Ext, neg_inf, fin, pos_inf, ◌≤ᴱ◌}
use Rattle.base_numbers.proofs.rational.Laws.{≤ℚ_refl, zero_lt_one, not_le_of_lt}
use Rattle.base_numbers.proofs.extended.ExtendedLaws.{≤ᴱ_trans}
use Rattle.base_numbers.proofs.tactics.Linarith.{lin_le, le, reads_all}
use Rattle.lang_tree.specs.Meaning.{put}
use Rattle.lang_tree.proofs.Put.{get_or-put_same}
use Rattle.flow_systems.specs.States.{RationalState, valueℚ}
use Rattle.flow_systems.specs.Equations.{Vector, Transition, PostSolution}
use Rattle.flow_rationals.specs.declared.equation.Sum.{Sum}
use Rattle.flow_rationals.specs.declared.equation.Equation.{Equation}
use Rattle.flow_rationals.specs.Values.{sum_value, least_value}
use Rattle.flow_rationals.specs.Solutions.{IsAbove}
use Rattle.flow_rationals.specs.System.{sum_form, start_edge, alternative_edge, alternative_edges, edges_of, system_of}
use Rattle.flow_rationals.proofs.values.Extremes.{least_le, greatest_le}
use Rattle.flow_rationals.proofs.values.Folded.{parts_sum_same}
use Rattle.flow_rationals.proofs.values.Reached.{picked, at_top, IsAsked, reach_sums}
use Rattle.flow_rationals.proofs.values.Sound.{IsSound, AreSound, in_slice}
use Rattle.flow_rationals.proofs.traces.Rows.{fits_out, fits_from}
use Rattle.flow_rationals.proofs.traces.Starts.{starts_pass}
use Rattle.flow_rationals.proofs.traces.Alternatives.{values_of, guard_passes, alternative_passes}
use Rattle.flow_rationals.proofs.above.Places.{in_enumerated, at_place}

-- what each fraction that is at most one value is at most, that value is at most
one_more : (a : ℚ) → ¬ (a +ℚ one_ℚ ≤ℚ a)
one_more a h = not_le_of_lt zero_lt_one (by one_ℚ h)
  where
    by : (u : ℚ) → a +ℚ u ≤ℚ a → u ≤ℚ zero_ℚ
    by u i = lin_le (a ∷ u ∷ []) (le i ∷ []) (search reads_all depth 40) tt

le_by_fractions : (x y : Ext) → ((q : ℚ) → fin q ≤ᴱ x → fin q ≤ᴱ y) → x ≤ᴱ y
le_by_fractions neg_inf y h = tt
le_by_fractions (fin a) y h = h a (≤ℚ_refl a)
le_by_fractions pos_inf neg_inf h = h zero_ℚ tt
le_by_fractions pos_inf (fin b) h = one_more b (h (b +ℚ one_ℚ) tt)
le_by_fractions pos_inf pos_inf h = tt

picked_fits : (top : ℚ) (x : Ext) → ¬ (x ≡ neg_inf) → fin (picked top x) ≤ᴱ x
picked_fits top neg_inf n = absurd (n refl)
picked_fits top (fin q) n = ≤ℚ_refl q
picked_fits top pos_inf n = tt

module _ (equations : List Equation) (v : Vector) (sound : AreSound equations) (entry : (r : ℕ) → r < length equations → v 0 r ≡ pos_inf)
    (post : PostSolution (system_of equations) v) where
  -- ---- the starts
  module _ where
    -- the names at their starts
    starts : List ℚ
    starts = map (λ (e : Equation). e.start) equations

    state : RationalState
    state = starts ++ zero_ℚ ∷ []

    size : length state ≡ length equations + 1
    unfolding state starts
    size = length_push (map (λ (e : Equation). e.start) equations) zero_ℚ
        ∙ ap (λ m. m + 1) (length-map equations (λ (e : Equation). e.start))

    read : (i : ℕ) (e : Equation) → slice_get equations i ≡ Some e → get_or state i zero_ℚ ≡ e.start
    unfolding state starts
    read i e s =
        let l = slice_get_within equations i e s in
        let all = map (λ (f : Equation). f.start) equations in
        get_or_append_left all (zero_ℚ ∷ []) zero_ℚ i (subst (λ m. i < m) (sym (length-map equations (λ (f : Equation). f.start))) l)
        ∙ get_or-map (λ (f : Equation). f.start) equations i e zero_ℚ l
        ∙ ap (λ (f : Equation). f.start) (get_or_from_slice_get equations i e e s)

    transition : Transition (system_of equations) v (start_edge equations) state state
    transition = record {
      listed = contains_from_in (edges_of equations) (start_edge equations) (inl refl);
      starts = size;
      fits = fits_from equations v 0 state (λ r h. subst (λ b. fin (get_or state r zero_ℚ) ≤ᴱ b) (sym (entry r h)) tt);
      trace = starts_pass (length equations) equations 0 state (omega arith) (omega (arith, size))
          (λ i j e s p. subst (λ m. get_or state m zero_ℚ ≡ e.start) (sym (zero-add i) ∙ p) (read i e s));
    }

    start_below : (k : ℕ) (e : Equation) → slice_get equations k ≡ Some e → fin e.start ≤ᴱ v 1 k
    start_below k e s =
        subst (λ q. fin q ≤ᴱ v 1 k) (read k e s)
        (fits_out equations v 1 state (post.closed (start_edge equations) state state transition) k (slice_get_within equations k e s))

  not_neg_inf : (x : Ext) (q : ℚ) → fin q ≤ᴱ x → ¬ (x ≡ neg_inf)
  not_neg_inf x q h e = subst (λ y. fin q ≤ᴱ y) e h

  finite : (k : ℕ) → k < length equations → ¬ (v 1 k ≡ neg_inf)
  finite k h = let e = at_place equations k h in not_neg_inf (v 1 k) e.0.start (start_below k e.0 e.1)

  -- ---- an alternative
  module _ (k : ℕ) (e : Equation) (s : slice_get equations k ≡ Some e) (sums : List Sum) (m : In e.alternatives sums) where
    good : (u : Sum) → In sums u → IsSound (length equations) u
    good = ((sound.each e (in_slice equations k e s)).alternatives sums m).each

    module _ (q : ℚ) (top : ℚ) (asked : (u : Sum) → In sums u → IsAsked q (v 1) top u) where
      -- the names at their values, with `top` in place of +inf, and then q
      names : List ℚ
      names = map (λ i. picked top (v 1 i)) (range_with_len 0 (length equations))

      all : RationalState
      all = names ++ q ∷ []

      names_size : length names ≡ length equations
      unfolding names
      names_size = length-map-range_with_len (λ i. picked top (v 1 i)) 0 (length equations)

      all_size : length all ≡ length equations + 1
      unfolding all
      all_size = length_push names q ∙ ap (λ j. j + 1) names_size

      name_read : (i : ℕ) → i < length equations → get_or all i zero_ℚ ≡ picked top (v 1 i)
      unfolding all names
      name_read i h =
          get_or_append_left names (q ∷ []) zero_ℚ i (subst (λ j. i < j) (sym names_size) h)
          ∙ get_or-map-range_with_len (λ j. picked top (v 1 j)) 0 (length equations) i i zero_ℚ h (zero-add i)

      last_read : get_or all (length equations) zero_ℚ ≡ q
      unfolding all
      last_read = get_or_push names q zero_ℚ (length equations) names_size

      guard : (u : Sum) → In sums u → valueℚ (sum_form u) all ≤ℚ zero_ℚ
      guard u j =
          let n = length equations in
          let same = parts_sum_same u.coeffs (at_top top (v 1)) (values_of all)
          (λ i l. ap fin (sym (name_read i (subst (λ b. i < b) (good u j).size l)))) in
          guard_passes n u all (good u j) all_size (subst₂ (λ a b. a *ℚ whole u.den ≤ℚ b +ℚ whole u.constant) (sym last_read) same
          (asked u j))

      end : RationalState
      end = put zero_ℚ all k (get_or all (length equations) zero_ℚ)

      step : Transition (system_of equations) v (alternative_edge (length equations) k sums) all end
      unfolding end
      step = record {
        listed = contains_from_in (edges_of equations) (alternative_edge (length equations) k sums)
            (inr (in_flat_map (alternative_edges (length equations)) (enumerate_from 0 equations) (k, e)
            (alternative_edge (length equations) k sums)
            (in_enumerated equations 0 k k e s (zero-add k)) (in_map (alternative_edge (length equations) k) e.alternatives sums m)));
        starts = all_size;
        fits = fits_from equations v 1 all (λ r h. subst (λ w. fin w ≤ᴱ v 1 r) (sym (name_read r h))
            (picked_fits top (v 1 r) (finite r h)));
        trace = alternative_passes (length equations) k sums all (omega (arith, all_size)) guard;
      }

      q_below : fin q ≤ᴱ v 1 k
      unfolding end
      q_below =
          let l = slice_get_within equations k e s in
          let value = get_or-put_same zero_ℚ all k (get_or all (length equations) zero_ℚ) zero_ℚ
          ∙ last_read in
          subst (λ w. fin w ≤ᴱ v 1 k) value (fits_out equations v 1 end
          (post.closed (alternative_edge (length equations) k sums) all end step) k l)

    alternative_below : least_value sums (v 1) ≤ᴱ v 1 k
    alternative_below = le_by_fractions (least_value sums (v 1)) (v 1 k) (λ q h.
        let r = reach_sums (length equations) sums (v 1) q good finite
        (λ u j. ≤ᴱ_trans (fin q) (least_value sums (v 1)) (sum_value u (v 1)) h (least_le sums (v 1) u j)) in
        q_below q r.0 (r.2 r.0 (≤ℚ_refl r.0)))

  -- where the entry has +inf, the values at the loop of a post-solution are above the equations
  pub post_is_above : IsAbove equations (v 1)
  post_is_above k e s = greatest_le (v 1 k) (fin e.start) e.alternatives (v 1) (start_below k e s) (alternative_below k e s)
