-- Fractions of literals, and least common multiples.
use Rattle.std.proofs.Common.{◌≡◌, ◌≢◌, ◌∙◌, ◌⊎◌, ⊎_elim, ◌≤◌, ◌<◌, ◌+◌, ◌*◌, ◌/◌, ◌++◌, List, [], ◌∷◌, length, take, drop, get_or, ℕ, zero}
use Rattle.std.proofs.Common.{suc, ℤ, pos, nat_abs, Option, Some, None, IsSome, MatchOption, refl, sym, ap, subst, arith}
use Rattle.std.proofs.lemmas.Int.{ints}
use native.Mathlib.Nat.{div-le_self, div-mul_cancel}
use Rattle.std.proofs.Math.Nat.{mul-le-mul_left}
use Rattle.std.proofs.lemmas.List.{take-append-drop}
use Rattle.std.proofs.lemmas.List.Sums.{fold-append}
use Rattle.base_numbers.proofs.rational.Lowest.{reduced_den}
use Rattle.flow_rationals.specs.declared.reading.written.Part.{Part}
use Rattle.flow_rationals.specs.EquFaults.{below_faults}
use Rattle.flow_rationals.specs.Totals.{NoZeros}
use Rattle.flow_rationals.specs.WrittenSums.{lcm, part_below, part_value, common_multiple_of}
use Rattle.flow_rationals.proofs.equ_faults.First.{dropped}
use Rattle.base_numbers.specs.Gcd.{gcd, gcd_is}
use Rattle.base_numbers.specs.Rational.{ℚ, ratio, whole, ◌/ℚ◌, quotient_pos}
use Rattle.base_numbers.proofs.rational.Quotients.{ratio_is_fraction}
use Rattle.base_fractions.specs.Fits.{Fits, long_limit}

num_ratio : (n d : ℕ) → 0 < d → (ratio (pos n) d).num ≡ pos (n / gcd n d)
unfolding ratio
num_ratio n zero h = absurd (omega arith)
num_ratio n (suc k) h = refl

den_ratio : (n d : ℕ) → 0 < d → (ratio (pos n) d).den ≡ d / gcd n d
unfolding ratio
den_ratio n zero h = absurd (omega arith)
den_ratio n (suc k) h = refl

not_zero : (d : ℕ) → 0 < d → pos d ≢ pos 0
not_zero d h e = omega (arith, ap nat_abs e)

fraction : (n d : ℕ) → 0 < d → ratio (pos n) d ≡ whole (pos n) /ℚ whole (pos d)
fraction n d h = ratio_is_fraction (pos n) (pos d) (not_zero d h)

-- the numerator of a fraction of two literals is the first divided by their greatest common divisor
pub num_fraction : (n d : ℕ) → 0 < d → (whole (pos n) /ℚ whole (pos d)).num ≡ pos (n / gcd n d)
num_fraction n d h = ap (λ (q : ℚ). q.num) (sym (fraction n d h)) ∙ num_ratio n d h

den_fraction : (n d : ℕ) → 0 < d → (whole (pos n) /ℚ whole (pos d)).den ≡ d / gcd n d
den_fraction n d h = ap (λ (q : ℚ). q.den) (sym (fraction n d h)) ∙ den_ratio n d h

-- the fraction of two literals fits
fraction_fits : (n d : ℕ) → n ≤ 9223372036854775807 → d ≤ 9223372036854775807 → 0 < d → Fits long_limit (whole (pos n) /ℚ whole (pos d))
fraction_fits n d a b h = record {
  num_fits = let e = ap nat_abs (num_fraction n d h) in omega (arith, ints, e, div-le_self n (gcd n d));
  den_fits = let e = den_fraction n d h in omega (arith, ints, e, div-le_self d (gcd n d));
}

-- `make` makes a fraction of two literals whose second isn't 0
pub made_some : (n d : ℕ) (x y : ℤ) (P : ℚ → Type 0) (o : Option ℚ) → x ≡ pos n → y ≡ pos d → n ≤ 9223372036854775807 → 1 ≤ d
    → d ≤ 9223372036854775807 → MatchOption o ((y ≡ pos 0) ⊎ (¬ (Fits long_limit (whole x /ℚ whole y)))) P → IsSome o
made_some n d x y P (Some q) e f a b g m = refl
made_some n d x y P None e f a b g m =
    absurd (⊎_elim
    (λ z. let k = ap nat_abs (sym f ∙ z) in omega (arith, k))
    (λ no_fit. no_fit (subst (λ z. Fits long_limit (whole z /ℚ whole y)) (sym e)
    (subst (λ z. Fits long_limit (whole (pos n) /ℚ whole z)) (sym f)
    (fraction_fits n d a g (omega arith))))) m)

-- what is left of one number times the other is their least common multiple
pub multiple_is : (l r : ℕ) (q : ℚ) (z : ℤ) → 1 ≤ r → q ≡ whole (pos l) /ℚ whole (pos r) → z ≡ q.num → nat_abs z * r ≡ lcm l r
multiple_is l r q z h e f =
    ap (λ t. nat_abs t * r) (f ∙ (ap (λ (t : ℚ). t.num) e ∙ num_fraction l r (omega arith)))

-- a denominator is above 0
pub den_pos : (q : ℚ) → 0 < q.den
den_pos q = reduced_den q.num q.den q.reduced

-- no second number is 0 at a place
pub no_zero_at : (ps : List Part) (i : ℕ) (p : Part) → i < length ps → p ≡ get_or ps i p → NoZeros ps → below_faults (part_below p) ≡ []
no_zero_at [] i p h e n = absurd (omega arith)
no_zero_at (q ∷ qs) zero p h e n = ap (λ x. below_faults (part_below x)) e ∙ n.0
no_zero_at (q ∷ qs) (suc i) p h e n = no_zero_at qs i p (omega arith) e n.1

regroup : (x g y m d : ℕ) → x * g ≡ m → y * g ≡ d → x * d ≡ m * y
regroup x g y m d a b =
    let c : x * (y * g) ≡ x * g * y = omega arith in
    ap (λ t. x * t) (sym b) ∙ (c ∙ ap (λ t. t * y) a)

-- a multiple is no less
lcm_above : (m d : ℕ) → 0 < d → m ≤ lcm m d
lcm_above m d h =
    let g = gcd m d in
    let is = gcd_is m d in
    let a : m / g * g ≡ m = div-mul_cancel g is.0 in
    let b : d / g * g ≡ d = div-mul_cancel g is.1 in
    let one : 1 ≤ d / g = quotient_pos d g h b in
    let c : m / g * d ≡ m * (d / g) = regroup (m / g) g (d / g) m d a b in
    let e : m * 1 ≤ m * (d / g) = mul-le-mul_left m one in
    omega (arith, c, e)

-- a least common multiple with the denominators of parts is at least the number that it starts with
pub fold_above : (m : ℕ) (ps : List Part) → m ≤ common_multiple_of m ps
fold_above m [] = omega arith
fold_above m (p ∷ ps) = omega (arith, lcm_above m (part_value p).den (den_pos (part_value p)), fold_above (lcm m (part_value p).den) ps)

-- where a multiple on the way is too great, so is the last one
pub multiple_out : (m g : ℕ) (ps : List Part) (i : ℕ) (p : Part) (d : ℕ) → i < length ps → p ≡ get_or ps i p → d ≡ (part_value p).den
    → g < lcm (common_multiple_of m (take i ps)) d → g < common_multiple_of m ps
multiple_out m g ps i p d h e f out =
    let n = common_multiple_of m (take i ps) in
    let split : ps ≡ take i ps ++ p ∷ drop (i + 1) ps =
    sym (take-append-drop i ps) ∙ ap (λ t. take i ps ++ t) (dropped ps i p h e) in
    let whole : common_multiple_of m ps ≡ common_multiple_of (lcm n (part_value p).den) (drop (i + 1) ps) =
    ap (common_multiple_of m) split ∙ fold-append (λ n p. lcm n (part_value p).den) m (take i ps) (p ∷ drop (i + 1) ps) in
    let same : lcm n d ≡ lcm n (part_value p).den = ap (lcm n) f in
    omega (arith, out, whole, same, fold_above (lcm n (part_value p).den) (drop (i + 1) ps))
