-- Written sums without a fault are sums within the limits.
use Rattle.std.proofs.Common.{◌≡◌, ◌∙◌, ◌≤◌, ◌<◌, ◌+◌, ◌+ℤ◌, ◌++◌, Bool, true, false, cond, eqb, List, [], ◌∷◌, length, take, map, get_or}
use Rattle.std.proofs.Common.{ℕ, zero, suc, ℤ, pos, Option, Some, None, IsSome, MatchOption, IsTrue, IsFalse, refl, sym, ap, subst, arith}
use Rattle.std.proofs.Common.{append_assoc}
use Rattle.std.specs.List.{flat_map, enumerate_from, range_with_len}
use Rattle.std.proofs.lemmas.Bool.{leb-true, eqb-true, and_from, and_parts}
use Rattle.std.proofs.lemmas.List.{append-nil}
use Rattle.std.proofs.lemmas.List.FromFn.{fill_by_all, take-map-range_with_len}
use Rattle.std.proofs.Math.IntN.{+ℤ_idr}
use Rattle.lang_tree.specs.Numbers.{is_number, are_numbers}
use Rattle.flow_rationals.specs.declared.fault.EquFault.{EquFault}
use Rattle.flow_rationals.specs.declared.fault.EquFault.TheVariants.{Big, Terms}
use Rattle.flow_rationals.specs.declared.reading.written.Part.{Part}
use Rattle.flow_rationals.specs.declared.reading.written.Addends.{Addends}
use Rattle.flow_rationals.specs.declared.reading.written.Choice.{Choice}
use Rattle.flow_rationals.specs.declared.reading.written.Choice.TheVariants.{Least}
use Rattle.flow_rationals.specs.declared.reading.written.Written.{Written}
use Rattle.flow_rationals.specs.WrittenSums.{Amount, amount, amounts_of, total, fits_after, stay_within, parts_of, common_den, is_small}
use Rattle.flow_rationals.specs.WrittenSums.{sum_of}
use Rattle.flow_rationals.specs.EquFaults.{part_faults, big_faults, sum_faults, part_at, nth_sum_faults, choice_faults}
use Rattle.flow_rationals.specs.Totals.{NoZeros, AreTotals}
use Rattle.flow_rationals.proofs.equ_faults.First.{front_none, back_none}
use Rattle.flow_rationals.proofs.equ_faults.Sound.{sound_parts}
use Rattle.flow_rationals.proofs.written_sums.Adding.{total_more}

small_by : (b : Bool) (f : EquFault) → cond b [] (f ∷ []) ≡ [] → b ≡ true
small_by true f h = refl
small_by false f h = cc

-- a sum without a fault has no second number that is 0, and small numbers
pub sound_zeros : (es : List Written) (s : Addends) → sum_faults es s ≡ [] → NoZeros (parts_of s)
sound_zeros es s h = sound_parts es (parts_of s) (front_none (flat_map (part_faults es) (parts_of s)) (big_faults es s) h)

-- the numbers of a sum without a fault are small
pub sound_small : (es : List Written) (s : Addends) → sum_faults es s ≡ [] → is_small es s ≡ true
sound_small es s h = small_by (is_small es s) (Big (part_at s.first)) (back_none (flat_map (part_faults es) (parts_of s)) (big_faults es s)
    h)

-- the common denominator of a sum of small numbers is at most 2^63 - 1
pub small_den : (es : List Written) (s : Addends) → is_small es s ≡ true → common_den (parts_of s) ≤ 9223372036854775807
small_den es s h = leb-true _ _ (and_parts _ _ h).0

small_stays : (es : List Written) (s : Addends) → is_small es s ≡ true → stay_within [] (amounts_of es s) ≡ true
small_stays es s h = (and_parts _ _ h).1

-- the common denominator is found where it is small; told are the parts as the code passes them
pub den_some : (o : Option ℕ) (first : Part) (more told : List Part) → told ≡ more → common_den (first ∷ more) ≤ 9223372036854775807
    → MatchOption o (9223372036854775807 < common_den (first ∷ told)) (λ n. (n ≡ common_den (first ∷ told)) × (n ≤ 9223372036854775807))
    → IsSome o
den_some (Some n) first more told e l h = refl
den_some None first more told e l h = let m = ap (λ x. common_den (first ∷ x)) e in absurd (omega (arith, h, l, m))

-- the common denominator that was found is that of the sum
pub den_value : (o : Option ℕ) (n : ℕ) (first : Part) (more told : List Part) → o ≡ Some n → told ≡ more
    → MatchOption o (9223372036854775807 < common_den (first ∷ told)) (λ n. (n ≡ common_den (first ∷ told)) × (n ≤ 9223372036854775807))
    → n ≡ common_den (first ∷ more)
den_value None n first more told e t h = cc
den_value (Some m) n first more told e t h = let same : m ≡ n = cc in sym same ∙ (h.0 ∙ ap (λ x. common_den (first ∷ x)) t)

-- The totals are found where the numbers are small.
abbrev pub TotalsFound : List Written → ℕ → List Part → Option (List ℤ) → Type 0
TotalsFound es den ps o = MatchOption o (IsFalse (stay_within [] (map (amount es den) ps)))
    (λ new. IsTrue (stay_within [] (map (amount es den) ps)) × AreTotals new (map (amount es den) ps))

found_some : (es : List Written) (den : ℕ) (ps : List Part) (o : Option (List ℤ)) → stay_within [] (map (amount es den) ps) ≡ true
    → TotalsFound es den ps o → IsSome o
found_some es den ps (Some t) h m = refl
found_some es den ps None h m = cc

found_value : (es : List Written) (den : ℕ) (ps : List Part) (o : Option (List ℤ)) (t : List ℤ) → o ≡ Some t
    → stay_within [] (map (amount es den) ps) ≡ true → TotalsFound es den ps o → AreTotals t (map (amount es den) ps)
found_value es den ps None t e h m = cc
found_value es den ps (Some u) t e h m =
    let same : u ≡ t = cc in subst (λ (x : List ℤ). AreTotals x (map (amount es den) ps)) same m.1

as_told : (es : List Written) (s : Addends) (den : ℕ) (told : List Part) (o : Option (List ℤ)) → den ≡ common_den (parts_of s)
    → told ≡ s.more → TotalsFound es den (s.first ∷ told) o → TotalsFound es (common_den (parts_of s)) (parts_of s) o
as_told es s den told o d t m =
    let P : ℕ → Type 0 = λ n. TotalsFound es n (parts_of s) o in
    let Q : List Part → Type 0 = λ x. TotalsFound es den (s.first ∷ x) o in
    subst P d (subst Q t m)

-- where the numbers of a sum are small, its totals are found
pub totals_some : (es : List Written) (s : Addends) (den : ℕ) (told : List Part) (o : Option (List ℤ)) → is_small es s ≡ true
    → den ≡ common_den (parts_of s) → told ≡ s.more → TotalsFound es den (s.first ∷ told) o → IsSome o
totals_some es s den told o h d t m = found_some es (common_den (parts_of s)) (parts_of s) o (small_stays es s h)
    (as_told es s den told o d t m)

-- the totals that were found are those of the sum's amounts
pub totals_value : (es : List Written) (s : Addends) (den : ℕ) (told : List Part) (o : Option (List ℤ)) (totals : List ℤ) → o ≡ Some totals
    → is_small es s ≡ true → den ≡ common_den (parts_of s) → told ≡ s.more → TotalsFound es den (s.first ∷ told) o
    → AreTotals totals (amounts_of es s)
totals_value es s den told o totals e h d t m = found_value es (common_den (parts_of s)) (parts_of s) o totals e (small_stays es s h)
    (as_told es s den told o d t m)

-- the totals of the names are the coefficients
coefficients : (t : List ℤ) (amounts : List Amount) (n : ℕ) → n ≤ 12 → AreTotals t amounts
    → take n t ≡ map (λ k. total k amounts) (range_with_len 0 n)
coefficients t amounts n h a =
    let f : ℕ → ℤ = λ k. total k amounts in
    ap (take n) (fill_by_all f t 12 (pos 0) a.places a.each) ∙ take-map-range_with_len f 0 12 n h

number_either : (b : Bool) (old own value : ℤ) → is_number old ≡ true → (b ≡ true → is_number (old +ℤ value) ≡ true)
    → is_number (old +ℤ cond b value (pos 0)) ≡ true
number_either true old own value h k = k refl
number_either false old own value h k = ap is_number (+ℤ_idr old) ∙ h

-- what stays within is within in the end
totals_within : (before rest : List Amount) → ((k : ℕ) → is_number (total k before) ≡ true) → stay_within before rest ≡ true → (k : ℕ)
    → is_number (total k (before ++ rest)) ≡ true
totals_within before [] h s k = ap (λ x. is_number (total k x)) (append-nil before) ∙ h k
totals_within before (a ∷ more_amounts) h s k =
    let both = and_parts (fits_after before a) (stay_within (before ++ a ∷ []) more_amounts) s in
    let fits = and_parts (is_number a.1) (is_number (total a.0 before +ℤ a.1)) both.0 in
    let more : (j : ℕ) → is_number (total j (before ++ a ∷ [])) ≡ true = λ j.
    ap is_number (total_more j before a)
    ∙ number_either (eqb a.0 j) (total j before) (total a.0 before) a.1 (h j)
    (λ e. ap (λ i. is_number (total i before +ℤ a.1)) (sym (eqb-true a.0 j e)) ∙ fits.1) in
    ap (λ x. is_number (total k x)) (sym (append_assoc before (a ∷ []) more_amounts))
    ∙ totals_within (before ++ a ∷ []) more_amounts more both.1 k

-- each total of a sum of small numbers is a number of a program
pub small_total : (es : List Written) (s : Addends) → is_small es s ≡ true → (k : ℕ) → is_number (total k (amounts_of es s)) ≡ true
small_total es s h k = totals_within [] (amounts_of es s) (λ j. refl) (small_stays es s h) k

numbers_all : (f : ℕ → ℤ) (ks : List ℕ) → ((k : ℕ) → is_number (f k) ≡ true) → are_numbers (map f ks) ≡ true
numbers_all f [] h = refl
numbers_all f (k ∷ ks) h = and_from _ _ (h k) (numbers_all f ks h)

-- the coefficients of a sum are numbers
pub coefficients_numbers : (es : List Written) (s : Addends) (t list : List ℤ) → length es ≤ 11 → sum_faults es s ≡ []
    → AreTotals t (amounts_of es s) → list ≡ take (length es) t → are_numbers list ≡ true
coefficients_numbers es s t list few h a e =
    ap are_numbers (e ∙ coefficients t (amounts_of es s) (length es) (omega arith) a)
    ∙ numbers_all (λ k. total k (amounts_of es s)) (range_with_len 0 (length es)) (small_total es s (sound_small es s h))

-- the sum that was made
pub sum_made : (es : List Written) (s : Addends) (t coeffs : List ℤ) (constant den : ℤ) → length es ≤ 11 → AreTotals t (amounts_of es s)
    → coeffs ≡ take (length es) t → constant ≡ get_or t (length es) (pos 0) → den ≡ pos (common_den (parts_of s))
    → record { coeffs = coeffs; constant = constant; den = den } ≡ sum_of es s
sum_made es s t coeffs constant den few a c k d =
    let one : coeffs ≡ (sum_of es s).coeffs = c ∙ coefficients t (amounts_of es s) (length es) (omega arith) a in
    let two : constant ≡ (sum_of es s).constant = k ∙ a.each (length es) (omega arith) in
    ap (λ x. record { coeffs = x; constant = constant; den = den }) one
    ∙ (ap (λ x. record { coeffs = (sum_of es s).coeffs; constant = x; den = den }) two
    ∙ ap (λ x. record { coeffs = (sum_of es s).coeffs; constant = (sum_of es s).constant; den = x }) d)

-- the sums of a minimum without a fault have none
nth_sound : (es : List Written) (k : ℕ) (ss : List Addends) → flat_map (nth_sum_faults es) (enumerate_from k ss) ≡ []
    → flat_map (sum_faults es) ss ≡ []
nth_sound es k [] h = refl
nth_sound es k (s ∷ ss) h =
    let one : sum_faults es s ≡ [] = back_none (cond (eqb k 16) (Terms (part_at s.first) ∷ []) []) (sum_faults es s)
    (front_none (nth_sum_faults es (k, s)) _ h) in
    ap (λ x. x ++ flat_map (sum_faults es) ss) one ∙ nth_sound es (k + 1) ss (back_none (nth_sum_faults es (k, s)) _ h)

-- the first sum of a minimum without a fault has none
pub least_first : (es : List Written) (c : Choice) (first : Addends) (more : List Addends) → c ≡ Least first more → choice_faults es c ≡ []
    → sum_faults es first ≡ []
least_first es c first more e h =
    back_none (cond (eqb 0 16) (Terms (part_at first.first) ∷ []) []) (sum_faults es first)
    (front_none (nth_sum_faults es (0, first)) (flat_map (nth_sum_faults es) (enumerate_from 1 more)) (ap (choice_faults es) (sym e) ∙ h))

-- the further sums of a minimum without a fault have none
pub least_more : (es : List Written) (c : Choice) (first : Addends) (more told : List Addends) → c ≡ Least first more → told ≡ more
    → choice_faults es c ≡ [] → flat_map (sum_faults es) told ≡ []
least_more es c first more told e t h =
    ap (flat_map (sum_faults es)) t
    ∙ nth_sound es 1 more (back_none (nth_sum_faults es (0, first)) (flat_map (nth_sum_faults es) (enumerate_from 1 more))
    (ap (choice_faults es) (sym e) ∙ h))

-- an element of a list without faults has none
pub flat_at : {X : Type 0} (f : X → List EquFault) (xs : List X) (i : ℕ) (x : X) → i < length xs → x ≡ get_or xs i x → flat_map f xs ≡ []
    → f x ≡ []
flat_at f [] i x h e n = absurd (omega arith)
flat_at f (y ∷ ys) zero x h e n = ap f e ∙ front_none (f y) (flat_map f ys) n
flat_at f (y ∷ ys) (suc i) x h e n = flat_at f ys i x (omega arith) e (back_none (f y) (flat_map f ys) n)
