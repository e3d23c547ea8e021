-- The least vector is the least above the equations, and the least values above the equations equal their right sides.
use Rattle.std.proofs.Common.{◌≡◌, ◌∙◌, ⊎_elim, ℕ, zero, suc, ◌<◌, eqb, List, length, refl, ap, sym, subst, arith}
use Rattle.std.specs.Prelude.{slice_get, Some, if◌then◌else◌}
use Rattle.std.proofs.lemmas.Bool.{cases_eq, eq-eqb, ne_eqb}
use Rattle.std.proofs.lemmas.Option.{slice_get_within}
use Rattle.base_facts.specs.Elements.{In}
use Rattle.base_numbers.specs.Extended.{fin, pos_inf, ◌≤ᴱ◌, ◌<ᴱ◌}
use Rattle.base_numbers.proofs.extended.ExtendedLaws.{≤ᴱ_refl, ≤ᴱ_trans, ≤ᴱ_antisymm, ext_le_or_lt, ext_le_of_lt, ext_not_le_of_lt}
use Rattle.flow_systems.specs.Equations.{Vector}
use Rattle.flow_rationals.specs.declared.equation.Sum.{Sum}
use Rattle.flow_rationals.specs.declared.equation.Equation.{Equation}
use Rattle.flow_rationals.specs.Values.{Values, sum_value, least_value, right_side}
use Rattle.flow_rationals.specs.Solutions.{IsAbove, IsLeastAbove}
use Rattle.flow_rationals.specs.System.{rows_of}
use Rattle.flow_rationals.specs.Laws.{AtMostOneLeastAbove, PostSolutionsAreAbove, LeastVectorsAreLeastAbove, LeastAboveEqualRightSides}
use Rattle.flow_rationals.proofs.values.Extremes.{least_le, le_least, start_le, alternative_le, greatest_le}
use Rattle.flow_rationals.proofs.values.Folded.{sum_mono}
use Rattle.flow_rationals.proofs.values.Sound.{IsSound, IsSoundEquation, AreSound, sound_equations, in_slice}
use Rattle.flow_rationals.proofs.traces.Rows.{length-rows}
use Rattle.flow_rationals.proofs.above.AboveIsPost.{above_is_post}
use Rattle.flow_rationals.proofs.above.PostIsAbove.{post_is_above}

-- a vector that is +inf at the entry is a post-solution exactly where its values at the loop are above the equations
pub post_above : PostSolutionsAreAbove
post_above equations v h entry = let sound = sound_equations equations h in
    (post_is_above equations v sound entry, above_is_post equations v sound entry)

-- ---- the least vector
-- +inf at the entry, and these values at the loop
abbrev at_loop : Values → Vector
at_loop values zero r = pos_inf
at_loop values (suc p) r = values r

-- the values at the loop of the least vector are the least above the equations
pub least_above : LeastVectorsAreLeastAbove
least_above equations v h least =
    let sound = sound_equations equations h in
    let within : (r : ℕ) → r < length equations → r < length (rows_of (length equations)) =
    λ r l. subst (λ k. r < k) (sym (length-rows (length equations))) l in
    record {
      above = post_is_above equations v sound (λ r l. least.solves.post.entry r (within r l)) least.solves.post;
      least = λ others above k l. least.below (at_loop others) (above_is_post equations (at_loop others) sound (λ r j. refl) above) 1 k
          (omega arith) (within k l);
    }

-- ---- right sides are monotone
module _ (n : ℕ) (values others : Values) (below : (k : ℕ) → k < n → values k ≤ᴱ others k) where
  least_mono : (sums : List Sum) → ((s : Sum) → In sums s → IsSound n s) → least_value sums values ≤ᴱ least_value sums others
  least_mono sums sound = le_least (least_value sums values) sums others (λ s m.
      ≤ᴱ_trans (least_value sums values) (sum_value s values) (sum_value s others) (least_le sums values s m)
      (sum_mono s values others (sound s m).coeffs (sound s m).positive (λ k l. below k (subst (λ j. k < j) (sound s m).size l))))

  right_mono : (e : Equation) → IsSoundEquation n e → right_side e values ≤ᴱ right_side e others
  right_mono e sound = greatest_le (right_side e others) (fin e.start) e.alternatives values (start_le (fin e.start) e.alternatives others)
      (λ sums m.
      ≤ᴱ_trans (least_value sums values) (least_value sums others) (right_side e others) (least_mono sums (sound.alternatives sums m).each)
      (alternative_le (fin e.start) e.alternatives others sums m))

-- ---- no value above its right side is least
module _ (equations : List Equation) (values : Values) (sound : AreSound equations) (least : IsLeastAbove equations values) (k : ℕ)
    (e : Equation) (s : slice_get equations k ≡ Some e)
    (smaller : right_side e values <ᴱ values k) where
  -- the right side in place of the value
  lowered : Values
  lowered i = if eqb i k then right_side e values else values i

  lowered_here : lowered k ≡ right_side e values
  unfolding lowered
  lowered_here = rw (eq-eqb k k refl) refl

  lowered_there : (i : ℕ) → (i ≡ k → ⊥) → lowered i ≡ values i
  unfolding lowered
  lowered_there i n = rw (ne_eqb i k n) refl

  lowered_below : (i : ℕ) → lowered i ≤ᴱ values i
  lowered_below i =
      ⊎_elim (λ d. subst (λ j. lowered j ≤ᴱ values j) (sym d) (subst (λ x. x ≤ᴱ values k) (sym lowered_here)
      (ext_le_of_lt (right_side e values) (values k) smaller)))
      (λ d. subst (λ x. x ≤ᴱ values i) (sym (lowered_there i d)) (≤ᴱ_refl (values i))) (cases_eq i k)

  right_lowered : (i : ℕ) (f : Equation) → slice_get equations i ≡ Some f → right_side f lowered ≤ᴱ right_side f values
  right_lowered i f t = right_mono (length equations) lowered values (λ j l. lowered_below j) f (sound.each f (in_slice equations i f t))

  same_equation : (i : ℕ) (f : Equation) → slice_get equations i ≡ Some f → i ≡ k → f ≡ e
  same_equation i f t d = let u = subst (λ j. slice_get equations j ≡ Some f) d t in cc

  lowered_above : IsAbove equations lowered
  lowered_above i f t =
      ⊎_elim
      (λ d. subst (λ x. right_side f lowered ≤ᴱ x) (sym (ap lowered d ∙ lowered_here
      ∙ ap (λ g. right_side g values) (sym (same_equation i f t d)))) (right_lowered i f t))
      (λ d. subst (λ x. right_side f lowered ≤ᴱ x) (sym (lowered_there i d))
      (≤ᴱ_trans (right_side f lowered) (right_side f values) (values i) (right_lowered i f t) (least.above i f t)))
      (cases_eq i k)

  not_least : ⊥
  not_least =
      let under = least.least lowered lowered_above k (slice_get_within equations k e s) in
      ext_not_le_of_lt (right_side e values) (values k) smaller (subst (λ x. values k ≤ᴱ x) lowered_here under)

-- the least values above the equations equal their right sides
pub equal_right_sides : LeastAboveEqualRightSides
equal_right_sides equations values h least k e s =
    ⊎_elim (λ l. ≤ᴱ_antisymm (values k) (right_side e values) l (least.above k e s))
    (λ l. absurd (not_least equations values (sound_equations equations h) least k e s l))
    (ext_le_or_lt (values k) (right_side e values))

-- two least values above the equations are the same at each name
pub at_most_one : AtMostOneLeastAbove
at_most_one equations values others h i k l = ≤ᴱ_antisymm (values k) (others k) (h.least others i.above k l) (i.least values h.above k l)
