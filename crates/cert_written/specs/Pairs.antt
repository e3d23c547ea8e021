-- Lists of fractions without their zeros, and the lists of a length for which they stand.
use Rattle.std.specs.Prelude.{◌&&◌, ◌==◌, ℕ, suc, Bool, true, List, [], ◌∷◌, Option, Some, None, map, nat_abs, nat_le, nat_lt, not}
use Rattle.std.specs.Prelude.{if◌then◌else◌}
use Rattle.std.specs.List.{list_all, range_with_len}
use Rattle.base_numbers.specs.Rational.{ℚ, zero_ℚ}
use Rattle.cert_written.specs.declared.pairs.Pair.{Pair}

-- a fraction is 0
abbrev pub is_nil : ℚ → Bool
is_nil q = nat_abs q.num == 0

-- from this least place on the places ascend, and no value is 0
abbrev pub ascends : ℕ → List Pair → Bool
ascends least [] = true
ascends least (p ∷ ps) = nat_le least p.place && not (is_nil p.value) && ascends (suc p.place) ps

-- the places ascend, and no value is 0
abbrev pub is_sparse : List Pair → Bool
is_sparse ps = ascends 0 ps

-- pairs like these, if they are
abbrev pub if_sparse : List Pair → Option (List Pair)
if_sparse ps = if is_sparse ps then Some ps else None

-- an entry at a place before others
abbrev pub before : ℕ → ℚ → List Pair → List Pair
before place q ps = if is_nil q then ps else record { place = place; value = q } ∷ ps

-- the entries of a list that aren't 0, whose first one stands at this place
abbrev pub nonzero : ℕ → List ℚ → List Pair
nonzero place [] = []
nonzero place (q ∷ qs) = before place q (nonzero (suc place) qs)

-- ---- lists of a length

-- the value at a place, which is 0 where there is none
abbrev pub value_at : List Pair → ℕ → ℚ
value_at [] k = zero_ℚ
value_at (p ∷ ps) k = if p.place == k then p.value else value_at ps k

-- the list of this length with these values at their places, and 0 elsewhere
abbrev pub filled : ℕ → List Pair → List ℚ
filled n ps = map (value_at ps) (range_with_len 0 n)

-- a place is below this length
abbrev pub is_below : ℕ → Pair → Bool
is_below n p = nat_lt p.place n

-- a length other than this one
abbrev pub other_length : ℕ → ℕ
other_length n = if n == 0 then 1 else 0

-- the length for which a list stands where this one is asked for: another one where a place is past it
abbrev pub length_for : ℕ → List Pair → ℕ
length_for n ps = if list_all (is_below n) ps then n else other_length n
