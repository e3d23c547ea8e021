-- Equations by hand: `a = max(0, 1:2*a + 1);` has the least solution 2, and what infinities count in sums.
use Rattle.std.proofs.Common.{◌≡◌, inl, ⊎_elim, zero, suc, pos, List, [], ◌∷◌, refl, sym, subst, arith}
use Rattle.std.proofs.lemmas.Int.{ints}
use Rattle.base_numbers.specs.Rational.{ℚ, whole, zero_ℚ, ◌+ℚ◌, ◌*ℚ◌, ◌≤ℚ◌, ◌<ℚ◌}
use Rattle.base_numbers.specs.Extended.{Ext, neg_inf, fin, pos_inf, ◌≤ᴱ◌}
use Rattle.base_numbers.proofs.rational.Laws.{≤ℚ_refl, whole-zero, whole_lt, le_of_lt_ℚ}
use Rattle.base_numbers.proofs.extended.ExtendedLaws.{≤ᴱ_refl, ≤ᴱ_trans}
use Rattle.base_numbers.proofs.tactics.Linarith.{lin_le, le, reads_all}
use Rattle.flow_rationals.specs.declared.equation.Sum.{Sum}
use Rattle.flow_rationals.specs.declared.equation.Equation.{Equation}
use Rattle.flow_rationals.specs.Values.{Values, sum_value, least_value, right_side}
use Rattle.flow_rationals.specs.Solutions.{IsAbove, IsLeastAbove}
use Rattle.flow_rationals.proofs.values.Extremes.{least_le, le_least, start_le, alternative_le, greatest_le}
use Rattle.flow_rationals.proofs.values.Folded.{quotient_le, dividend_le}

-- ---- infinities
-- one name at -inf, and all others at +inf
abbrev mixed : Values
mixed zero = neg_inf
mixed (suc k) = pos_inf

-- +inf counts before -inf
top_first : sum_value (record { coeffs = pos 1 ∷ pos 1 ∷ []; constant = pos 0; den = pos 1 }) mixed ≡ pos_inf
top_first = refl

-- what has the coefficient 0 doesn't count
bottom_alone : sum_value (record { coeffs = pos 1 ∷ pos 0 ∷ []; constant = pos 0; den = pos 1 }) mixed ≡ neg_inf
bottom_alone = refl

-- ---- `a = max(0, 1:2*a + 1);`
abbrev half : Sum
half = record { coeffs = pos 1 ∷ []; constant = pos 2; den = pos 2 }

abbrev halved : Equation
halved = record { name = 97 ∷ []; start = zero_ℚ; alternatives = (half ∷ []) ∷ [] }

two_positive : zero_ℚ <ℚ whole (pos 2)
two_positive = subst (λ z. z <ℚ whole (pos 2)) whole-zero (whole_lt (pos 0) (pos 2) (omega (arith, ints)))

-- the sum is at most the name exactly from 2 on
half_below : (q : ℚ) → whole (pos 2) ≤ℚ q → sum_value half (λ k. fin q) ≤ᴱ fin q
half_below q h = quotient_le (whole (pos 2)) two_positive (((whole (pos 1) *ℚ q) +ℚ zero_ℚ) +ℚ whole (pos 2)) q
    (lin_le (q ∷ []) (le h ∷ []) (search reads_all depth 40) tt)

two_below : (x : Ext) → fin zero_ℚ ≤ᴱ x → sum_value half (λ k. x) ≤ᴱ x → fin (whole (pos 2)) ≤ᴱ x
two_below neg_inf h i = h
two_below (fin q) h i =
    let j = dividend_le (whole (pos 2)) two_positive (((whole (pos 1) *ℚ q) +ℚ zero_ℚ) +ℚ whole (pos 2)) q i in
    lin_le (q ∷ []) (le j ∷ []) (search reads_all depth 40) tt
two_below pos_inf h i = tt

two_above : IsAbove (halved ∷ []) (λ k. fin (whole (pos 2)))
two_above zero e s =
    let same : halved ≡ e = cc in
    subst (λ (f : Equation). right_side f (λ k. fin (whole (pos 2))) ≤ᴱ fin (whole (pos 2))) same
    (greatest_le (fin (whole (pos 2))) (fin zero_ℚ) halved.alternatives (λ k. fin (whole (pos 2))) (le_of_lt_ℚ two_positive) (λ sums m.
    ⊎_elim (λ d. subst (λ (us : List Sum). least_value us (λ k. fin (whole (pos 2))) ≤ᴱ fin (whole (pos 2))) d
    (≤ᴱ_trans (least_value (half ∷ []) (λ k. fin (whole (pos 2)))) (sum_value half (λ k. fin (whole (pos 2)))) (fin (whole (pos 2)))
    (least_le (half ∷ []) (λ k. fin (whole (pos 2))) half (inl refl)) (half_below (whole (pos 2)) (≤ℚ_refl (whole (pos 2))))))
    (λ none. absurd none) m))
two_above (suc k) e s = absurd cc

two_least : IsLeastAbove (halved ∷ []) (λ k. fin (whole (pos 2)))
two_least = record {
  above = two_above;
  least = λ others above k h.
      let here : k ≡ 0 = omega arith in
      let right = right_side halved others in
      subst (λ j. fin (whole (pos 2)) ≤ᴱ others j) (sym here) (two_below (others 0)
      (≤ᴱ_trans (fin zero_ℚ) right (others 0) (start_le (fin zero_ℚ) halved.alternatives others) (above 0 halved refl))
      (≤ᴱ_trans (sum_value half others) (least_value (half ∷ []) others) (others 0)
      (le_least (sum_value half others) (half ∷ []) others (λ u m.
      ⊎_elim (λ d. subst (λ w. sum_value half others ≤ᴱ sum_value w others) d (≤ᴱ_refl (sum_value half others))) (λ none. absurd none) m))
      (≤ᴱ_trans (least_value (half ∷ []) others) right (others 0) (alternative_le (fin zero_ℚ) halved.alternatives others (half ∷ [])
      (inl refl)) (above 0 halved refl))));
}
