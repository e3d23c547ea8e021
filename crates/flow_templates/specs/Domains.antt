-- The templates of intervals, zones and octagons over n variables.
use Rattle.std.specs.Prelude.{ℕ, ℤ, pos, negsuc, ◌+ℤ◌, ◌==◌, nat_lt, nat_le, if◌then◌else◌, List, [], ◌∷◌, ◌++◌, length, map}
use Rattle.std.specs.Prelude.{Result, Ok, Err}
use Rattle.std.specs.List.{range_with_len, flat_map}
use Rattle.flow_templates.specs.declared.fault.RowFault.{RowFault}
use Rattle.flow_templates.specs.declared.fault.RowFault.TheVariants.{Large}
use Rattle.flow_templates.specs.declared.limits.TheConstants.{MOST_ROWS}

-- the coefficient of variable k in c times variable i
abbrev pub term : ℤ → ℕ → ℕ → ℤ
term c i k = if k == i then c else pos 0

-- the row of c times variable i
abbrev pub multiple : ℕ → ℤ → ℕ → List ℤ
multiple n c i = map (term c i) (range_with_len 0 n)

-- the row of c times variable i plus d times variable j
abbrev pub combination : ℕ → ℤ → ℕ → ℤ → ℕ → List ℤ
combination n c i d j = map (λ k. term c i k +ℤ term d j k) (range_with_len 0 n)

-- `x` and `-x`
abbrev pub both_signs : ℕ → ℕ → List (List ℤ)
both_signs n i = multiple n (pos 1) i ∷ multiple n (negsuc 0) i ∷ []

-- both for each variable
abbrev pub intervals_of : ℕ → List (List ℤ)
intervals_of n = flat_map (both_signs n) (range_with_len 0 n)

-- `x - y`, for two different variables
abbrev pub difference : ℕ → ℕ → ℕ → List (List ℤ)
difference n i j = if i == j then [] else combination n (pos 1) i (negsuc 0) j ∷ []

-- intervals, and then the difference of each ordered pair
abbrev pub zones_of : ℕ → List (List ℤ)
zones_of n = intervals_of n ++ flat_map (λ i. flat_map (difference n i) (range_with_len 0 n)) (range_with_len 0 n)

-- `x + y`, `x - y`, `-x + y` and `-x - y`, where x comes before y
abbrev pub signed_sums : ℕ → ℕ → ℕ → List (List ℤ)
signed_sums n i j =
    if nat_lt i j
    then combination n (pos 1) i (pos 1) j ∷ combination n (pos 1) i (negsuc 0) j
    ∷ combination n (negsuc 0) i (pos 1) j ∷ combination n (negsuc 0) i (negsuc 0) j ∷ []
    else []

-- intervals, and then the signed sums of each pair
abbrev pub octagons_of : ℕ → List (List ℤ)
octagons_of n = intervals_of n ++ flat_map (λ i. flat_map (signed_sums n i) (range_with_len 0 n)) (range_with_len 0 n)

-- what a ready-made template of these rows is: the template, or that its rows are too many
abbrev pub ready : List (List ℤ) → Result (List (List ℤ)) RowFault
ready rows = if nat_le (length rows) MOST_ROWS then Ok rows else Err (Large (length rows))
