-- The lesser and the greater of two values, the least of sums and the greatest of alternatives.
use Rattle.std.proofs.Common.{◌≡◌, ◌∙◌, inl, inr, ⊎_elim, Ordering, Less, Equal, Greater, List, [], ◌∷◌, refl, ap, subst}
use Rattle.std.specs.Ordering.{min_by_ordering, max_by_ordering, ordering_reverse}
use Rattle.base_facts.specs.Elements.{In}
use Rattle.base_numbers.specs.Extended.{Ext, neg_inf, fin, pos_inf, ◌≤ᴱ◌}
use Rattle.base_numbers.specs.Compare.{cmp_ᴱ}
use Rattle.base_numbers.proofs.extended.ExtendedLaws.{≤ᴱ_refl, ≤ᴱ_trans, ext_le_of_lt, ext_le_of_eq, cmpᴱ-less, cmpᴱ-equal, cmp_ᴱ_total}
use Rattle.flow_rationals.specs.declared.equation.Sum.{Sum}
use Rattle.flow_rationals.specs.Values.{Values, sum_value, lesser, greater, least_value, greatest_value}

-- each extended number is at most +inf
pub le_top : (x : Ext) → x ≤ᴱ pos_inf
le_top neg_inf = tt
le_top (fin q) = tt
le_top pos_inf = tt

turned : (x y : Ext) → cmp_ᴱ x y ≡ Greater → y ≤ᴱ x
turned x y e = ext_le_of_lt y x (cmpᴱ-less y x (cmp_ᴱ_total.antisymm y x ∙ ap ordering_reverse e))

-- ---- two values
lesser_by : (x y : Ext) (o : Ordering) → cmp_ᴱ x y ≡ o → (min_by_ordering o x y ≤ᴱ x) × (min_by_ordering o x y ≤ᴱ y)
lesser_by x y Less e = (≤ᴱ_refl x, ext_le_of_lt x y (cmpᴱ-less x y e))
lesser_by x y Equal e = (≤ᴱ_refl x, ext_le_of_eq x y (cmpᴱ-equal x y e))
lesser_by x y Greater e = (turned x y e, ≤ᴱ_refl y)

le_lesser_by : (z x y : Ext) (o : Ordering) → z ≤ᴱ x → z ≤ᴱ y → z ≤ᴱ min_by_ordering o x y
le_lesser_by z x y Less h i = h
le_lesser_by z x y Equal h i = h
le_lesser_by z x y Greater h i = i

le_lesser : (z x y : Ext) → z ≤ᴱ x → z ≤ᴱ y → z ≤ᴱ lesser x y
le_lesser z x y h i = le_lesser_by z x y (cmp_ᴱ x y) h i

greater_by : (x y : Ext) (o : Ordering) → cmp_ᴱ x y ≡ o → (x ≤ᴱ max_by_ordering o x y) × (y ≤ᴱ max_by_ordering o x y)
greater_by x y Less e = (ext_le_of_lt x y (cmpᴱ-less x y e), ≤ᴱ_refl y)
greater_by x y Equal e = (ext_le_of_eq x y (cmpᴱ-equal x y e), ≤ᴱ_refl y)
greater_by x y Greater e = (≤ᴱ_refl x, turned x y e)

greater_le_by : (z x y : Ext) (o : Ordering) → x ≤ᴱ z → y ≤ᴱ z → max_by_ordering o x y ≤ᴱ z
greater_le_by z x y Less h i = i
greater_le_by z x y Equal h i = i
greater_le_by z x y Greater h i = h

greater_le : (z x y : Ext) → x ≤ᴱ z → y ≤ᴱ z → greater x y ≤ᴱ z
greater_le z x y h i = greater_le_by z x y (cmp_ᴱ x y) h i

-- ---- the least of sums
pub least_le : (sums : List Sum) (values : Values) (s : Sum) → In sums s → least_value sums values ≤ᴱ sum_value s values
least_le [] values s m = absurd m
least_le (t ∷ sums) values s m =
    let x = sum_value t values in
    let y = least_value sums values in
    let both = lesser_by x y (cmp_ᴱ x y) refl in
    ⊎_elim (λ e. subst (λ u. lesser x y ≤ᴱ sum_value u values) e both.0)
    (λ k. ≤ᴱ_trans (lesser x y) y (sum_value s values) both.1 (least_le sums values s k)) m

-- what is at most each sum is at most the least of them
pub le_least : (z : Ext) (sums : List Sum) (values : Values) → ((s : Sum) → In sums s → z ≤ᴱ sum_value s values)
    → z ≤ᴱ least_value sums values
le_least z [] values h = le_top z
le_least z (s ∷ sums) values h = le_lesser z (sum_value s values) (least_value sums values) (h s (inl refl))
    (le_least z sums values (λ t m. h t (inr m)))

-- ---- the greatest of a start and alternatives
pub start_le : (x : Ext) (alternatives : List (List Sum)) (values : Values) → x ≤ᴱ greatest_value x alternatives values
start_le x [] values = ≤ᴱ_refl x
start_le x (sums ∷ more) values =
    let y = least_value sums values in
    let z = greatest_value x more values in
    ≤ᴱ_trans x z (greater y z) (start_le x more values) (greater_by y z (cmp_ᴱ y z) refl).1

-- an alternative is at most the greatest of them
pub alternative_le : (x : Ext) (alternatives : List (List Sum)) (values : Values) (sums : List Sum) → In alternatives sums
    → least_value sums values ≤ᴱ greatest_value x alternatives values
alternative_le x [] values sums m = absurd m
alternative_le x (other ∷ more) values sums m =
    let y = least_value other values in
    let z = greatest_value x more values in
    let both = greater_by y z (cmp_ᴱ y z) refl in
    ⊎_elim (λ e. subst (λ u. least_value u values ≤ᴱ greater y z) e both.0)
    (λ k. ≤ᴱ_trans (least_value sums values) z (greater y z) (alternative_le x more values sums k) both.1) m

-- where the start and each alternative are at most z, the greatest of them is
pub greatest_le : (z x : Ext) (alternatives : List (List Sum)) (values : Values) → x ≤ᴱ z
    → ((sums : List Sum) → In alternatives sums → least_value sums values ≤ᴱ z) →
    greatest_value x alternatives values ≤ᴱ z
greatest_le z x [] values h i = h
greatest_le z x (sums ∷ more) values h i =
    greater_le z (least_value sums values) (greatest_value x more values) (i sums (inl refl))
    (greatest_le z x more values h (λ other m. i other (inr m)))
