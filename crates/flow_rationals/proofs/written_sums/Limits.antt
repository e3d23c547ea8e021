-- Written equations without a fault are equations within the limits.
use Rattle.std.proofs.Common.{◌≡◌, ◌≢◌, ◌∙◌, ◌≤◌, ◌<◌, ◌+◌, ◌*◌, ◌+ℤ◌, ◌*ℤ◌, ◌≤ℤ◌, Bool, true, false, cond, eqb, nat_le, List, [], ◌∷◌}
use Rattle.std.proofs.Common.{length, map, ℕ, zero, suc, ℤ, pos, negsuc, Option, Some, None, refl, sym, ap, subst, arith}
use Rattle.std.specs.List.{list_all, flat_map, enumerate_from, range_with_len, fold}
use Rattle.std.proofs.lemmas.Bool.{leb-true, le-leb, eqb-true, eq-eqb, and_from}
use Rattle.std.proofs.lemmas.Int.{ints}
use Rattle.std.proofs.lemmas.List.{length-map}
use Rattle.std.proofs.lemmas.List.FromFn.{length-map-range_with_len}
use Rattle.std.proofs.lemmas.List.Sums.{sum_by_from}
use Rattle.base_numbers.proofs.rational.Parts.{num-whole}
use Rattle.lang_tree.specs.Numbers.{is_number}
use Rattle.flow_rationals.specs.declared.fault.EquFault.{EquFault}
use Rattle.flow_rationals.specs.declared.fault.EquFault.TheVariants.{ZeroBelow, Terms, Count, Alternatives}
use Rattle.flow_rationals.specs.declared.equation.Equation.{Equation}
use Rattle.flow_rationals.specs.declared.reading.written.Below.{Below}
use Rattle.flow_rationals.specs.declared.reading.written.Ratio.{Ratio}
use Rattle.flow_rationals.specs.declared.reading.written.Part.{Part}
use Rattle.flow_rationals.specs.declared.reading.written.Part.TheVariants.{Multiple, Constant}
use Rattle.flow_rationals.specs.declared.reading.written.Addends.{Addends}
use Rattle.flow_rationals.specs.declared.reading.written.Choice.{Choice}
use Rattle.flow_rationals.specs.declared.reading.written.Choice.TheVariants.{Alone, Least}
use Rattle.flow_rationals.specs.declared.reading.written.Written.{Written}
use Rattle.flow_rationals.specs.Equations.{is_from, is_sum, is_alternative, is_equation, alternative_count, are_equations}
use Rattle.flow_rationals.specs.WrittenSums.{den_of, factor_below, factor_value, part_below, part_value, Amount, amount, amounts_of}
use Rattle.flow_rationals.specs.WrittenSums.{scaled_value, share, total, parts_of, common_den, key, sum_of}
use Rattle.flow_rationals.specs.EquFaults.{below_faults, sum_faults, nth_sum_faults, sums_of, choice_faults, part_at, twice_faults}
use Rattle.flow_rationals.specs.EquFaults.{count_faults, equation_faults, choice_count, faults_of}
use Rattle.flow_rationals.specs.EquationTexts.{alternative_of, equation_of, equations_of}
use Rattle.flow_rationals.specs.Totals.{NoZeros}
use Rattle.flow_rationals.proofs.equ_faults.First.{front_none, back_none}
use Rattle.flow_rationals.proofs.written_sums.Fractions.{num_fraction, den_pos, fold_above}
use Rattle.flow_rationals.proofs.written_sums.Made.{sound_zeros, sound_small, small_den, small_total}

not_yet : (b : Bool) (f : EquFault) (fs : List EquFault) → cond b (f ∷ []) [] ≡ [] → b ≡ false
not_yet true f fs h = cc
not_yet false f fs h = refl

den_above : (b : Option Below) → below_faults b ≡ [] → 0 < den_of b
den_above None h = omega arith
den_above (Some b) h = positive b.den (not_yet (eqb b.den 0) (ZeroBelow b.at) [] h)
  where
    positive : (n : ℕ) → eqb n 0 ≡ false → 0 < n
    positive zero h = cc
    positive (suc n) h = omega arith

-- the coefficient of a name isn't below 0
factor_num : (f : Option Ratio) → below_faults (factor_below f) ≡ [] → (y : ℕ) × ((factor_value f).num ≡ pos y)
factor_num None h = (1, num-whole (pos 1))
factor_num (Some r) h = (_, num_fraction r.num (den_of r.below) (den_above r.below h))

product_from : (z : ℤ) (x y : ℕ) → z ≡ pos y → pos 0 ≤ℤ (z *ℤ pos x)
product_from z x y e =
    let P : ℤ → Type 0 = λ t. pos 0 ≤ℤ (t *ℤ pos x) in
    let h : pos 0 ≤ℤ pos (y * x) = omega (arith, ints) in
    subst P (sym e) h

either_from : (b : Bool) (z : ℤ) → pos 0 ≤ℤ z → pos 0 ≤ℤ cond b z (pos 0)
either_from true z h = h
either_from false z h = omega (arith, ints)

apart : (b : Bool) (n k : ℕ) (z : ℤ) → eqb n k ≡ b → k ≢ n → pos 0 ≤ℤ cond b z (pos 0)
apart true n k z e h = absurd (h (sym (eqb-true n k e)))
apart false n k z e h = omega (arith, ints)

share_from : (es : List Written) (den k : ℕ) (p : Part) → below_faults (part_below p) ≡ [] → k ≢ length es
    → pos 0 ≤ℤ share k (amount es den p)
share_from es den k (Multiple f name at) h ne =
    let y = factor_num f h in
    either_from (eqb (key es (Multiple f name at)) k) (scaled_value den (Multiple f name at)) (product_from (factor_value f).num _ y.0 y.1)
share_from es den k (Constant minus r) h ne = apart (eqb (length es) k) (length es) k (scaled_value den (Constant minus r)) refl ne

fold_from : (es : List Written) (den k : ℕ) (ps : List Part) (z : ℤ) → NoZeros ps → k ≢ length es → pos 0 ≤ℤ z
    → pos 0 ≤ℤ fold (λ (sum : ℤ) (a : Amount). sum +ℤ share k a) z (map (amount es den) ps)
fold_from es den k [] z n ne h = h
fold_from es den k (p ∷ ps) z n ne h =
    let s = share_from es den k p n.0 ne in
    fold_from es den k ps (z +ℤ share k (amount es den p)) n.1 ne (omega (arith, ints, h, s))

total_from : (es : List Written) (s : Addends) (k : ℕ) → NoZeros (parts_of s) → k ≢ length es → pos 0 ≤ℤ total k (amounts_of es s)
total_from es s k n ne = fold_from es (common_den (parts_of s)) k (parts_of s) (pos 0) n ne (omega (arith, ints))

from_zero : (z : ℤ) → is_number z ≡ true → pos 0 ≤ℤ z → is_from 0 z ≡ true
from_zero (pos m) h l = and_from _ _ (le-leb 0 m (omega arith)) h
from_zero (negsuc m) h l = absurd (omega (arith, ints))

all_from : (f : ℕ → ℤ) (a n top : ℕ) → a + n ≤ top → ((k : ℕ) → k < top → is_from 0 (f k) ≡ true)
    → list_all (is_from 0) (map f (range_with_len a n)) ≡ true
all_from f a zero top h g = refl
all_from f a (suc n) top h g = and_from _ _ (g a (omega arith)) (all_from f (a + 1) n top (omega arith) g)

den_from : (ps : List Part) (p : Part) → 1 ≤ common_den (p ∷ ps)
den_from ps p = omega (arith, den_pos (part_value p), fold_above (part_value p).den ps)

-- a sum without a fault
sum_is : (es : List Written) (s : Addends) → sum_faults es s ≡ [] → is_sum (length es) (sum_of es s) ≡ true
sum_is es s h =
    let small = sound_small es s h in
    let f : ℕ → ℤ = λ k. total k (amounts_of es s) in
    and_from _ _ (eq-eqb (length (map f (range_with_len 0 (length es)))) (length es) (length-map-range_with_len f 0 (length es)))
    (and_from _ _
    (all_from f 0 (length es) (length es) (omega arith)
    (λ k below. from_zero (f k) (small_total es s small k) (total_from es s k (sound_zeros es s h)
    (λ e. let g : k ≡ length es = e in omega arith))))
    (and_from _ _ (small_total es s small (length es))
    (and_from _ _ (le-leb 1 (common_den (parts_of s)) (den_from s.more s.first))
    (le-leb (common_den (parts_of s)) 9223372036854775807 (small_den es s small)))))

-- no more than sixteen sums
few_sums : (es : List Written) (k : ℕ) (ss : List Addends) → k ≤ 16 → flat_map (nth_sum_faults es) (enumerate_from k ss) ≡ []
    → k + length ss ≤ 16
few_sums es k [] h f = omega arith
few_sums es k (s ∷ ss) h f =
    let one = front_none (nth_sum_faults es (k, s)) (flat_map (nth_sum_faults es) (enumerate_from (k + 1) ss)) f in
    let early = not_yet (eqb k 16) (Terms (part_at s.first)) [] (front_none (cond (eqb k 16) (Terms (part_at s.first) ∷ []) [])
    (sum_faults es s) one) in
    let more : k + 1 ≤ 16 = below k h early in
    omega (arith, few_sums es (k + 1) ss more (back_none (nth_sum_faults es (k, s)) _ f))
  where
    below : (k : ℕ) → k ≤ 16 → eqb k 16 ≡ false → k + 1 ≤ 16
    below k h e = let ne : k ≢ 16 = λ s. no_true (eqb k 16) e (eq-eqb k 16 s) in omega arith
      where
        no_true : (b : Bool) → b ≡ false → b ≡ true → ⊥
        no_true b f t = cc

sums_are : (es : List Written) (k : ℕ) (ss : List Addends) → flat_map (nth_sum_faults es) (enumerate_from k ss) ≡ []
    → list_all (is_sum (length es)) (map (sum_of es) ss) ≡ true
sums_are es k [] f = refl
sums_are es k (s ∷ ss) f =
    let one = front_none (nth_sum_faults es (k, s)) (flat_map (nth_sum_faults es) (enumerate_from (k + 1) ss)) f in
    and_from _ _ (sum_is es s (back_none (cond (eqb k 16) (Terms (part_at s.first) ∷ []) []) (sum_faults es s) one))
    (sums_are es (k + 1) ss (back_none (nth_sum_faults es (k, s)) _ f))

some_sums : (c : Choice) → 1 ≤ length (sums_of c)
some_sums (Alone s) = omega arith
some_sums (Least first more) = omega arith

alternative_is : (es : List Written) (c : Choice) → choice_faults es c ≡ [] → is_alternative (length es) (alternative_of es c) ≡ true
alternative_is es c f =
    let n : length (alternative_of es c) ≡ length (sums_of c) = length-map (sums_of c) (sum_of es) in
    and_from _ _ (le-leb 1 (length (alternative_of es c)) (omega (arith, n, some_sums c)))
    (and_from _ _ (le-leb (length (alternative_of es c)) 16 (omega (arith, n, few_sums es 0 (sums_of c) (omega arith) f)))
    (sums_are es 0 (sums_of c) f))

-- alternatives without a fault are within the limits
pub alternatives_are : (es : List Written) (cs : List Choice) → flat_map (choice_faults es) cs ≡ []
    → list_all (is_alternative (length es)) (map (alternative_of es) cs) ≡ true
alternatives_are es [] f = refl
alternatives_are es (c ∷ cs) f =
    and_from _ _ (alternative_is es c (front_none (choice_faults es c) _ f)) (alternatives_are es cs (back_none (choice_faults es c) _ f))

same_count : (es fs : List Written) → alternative_count (map (equation_of es) fs) ≡ choice_count fs
same_count es [] = refl
same_count es (f ∷ fs) =
    let n : length (map (alternative_of es) f.choices) ≡ length f.choices = length-map f.choices (alternative_of es) in
    let a = sum_by_from (λ (x : Equation). length x.alternatives) (0 + length (map (alternative_of es) f.choices))
    (map (equation_of es) fs) in
    let b = sum_by_from (λ (x : Written). length x.choices) (0 + length f.choices) fs in
    omega (arith, n, a, b, same_count es fs)

at_most : (n most : ℕ) (f : EquFault) → cond (nat_le n most) [] (f ∷ []) ≡ [] → n ≤ most
at_most n most f h = leb-true n most (small (nat_le n most) h)
  where
    small : (b : Bool) → cond b [] (f ∷ []) ≡ [] → b ≡ true
    small true h = refl
    small false h = cc

-- the parts of having no fault
pub count_few : (es : List Written) → faults_of es ≡ [] → length es ≤ 11
count_few es h =
    at_most (length es) 11 (Count (length es))
    (front_none (count_faults (length es)) _ (back_none (flat_map (twice_faults es) (enumerate_from 0 es)) _ h))

-- where equations have no fault, no right side has one
pub sides_sound : (es : List Written) → faults_of es ≡ [] → flat_map (equation_faults es) es ≡ []
sides_sound es h =
    front_none (flat_map (equation_faults es) es) _ (back_none (count_faults (length es)) _
    (back_none (flat_map (twice_faults es) (enumerate_from 0 es)) _ h))

alternatives_few : (es : List Written) → faults_of es ≡ [] → choice_count es ≤ 255
alternatives_few es h =
    at_most (choice_count es) 255 (Alternatives (choice_count es))
    (back_none (flat_map (equation_faults es) es) _ (back_none (count_faults (length es)) _
    (back_none (flat_map (twice_faults es) (enumerate_from 0 es)) _ h)))

-- equations without a fault, each within the limits, are equations within the limits
pub equations_are : (es : List Written) (made : List Equation) → faults_of es ≡ [] → 1 ≤ length es → made ≡ equations_of es
    → list_all (is_equation (length es)) made ≡ true → are_equations made ≡ true
equations_are es made h some e fit =
    let n : length made ≡ length es = ap length e ∙ length-map es (equation_of es) in
    let c : alternative_count made ≡ choice_count es = ap alternative_count e ∙ same_count es es in
    and_from _ _ (and_from _ _ (le-leb 1 (length made) (omega (arith, n, some)))
    (le-leb (length made) 11 (omega (arith, n, count_few es h))))
    (and_from _ _ (le-leb (alternative_count made) 255 (omega (arith, c, alternatives_few es h)))
    (ap (λ k. list_all (is_equation k) made) n ∙ fit))
