-- The template of packs over n variables: octagons between variables that stand together.
use Rattle.std.specs.Prelude.{ℕ, ℤ, if◌then◌else◌, List, [], ◌++◌}
use Rattle.std.specs.List.{range_with_len, flat_map}
use Rattle.flow_templates.specs.Domains.{intervals_of, signed_sums}
use Rattle.lang_groups.specs.Groups.{are_together}

-- `x + y`, `x - y`, `-x + y` and `-x - y`, where x comes before y and both are together in some group
abbrev pub sums_together : ℕ → List (List ℕ) → ℕ → ℕ → List (List ℤ)
sums_together n groups i j = if are_together groups i j then signed_sums n i j else []

-- intervals, and then the signed sums of each pair that is together
abbrev pub packs_of : ℕ → List (List ℕ) → List (List ℤ)
packs_of n groups = intervals_of n ++ flat_map (λ i. flat_map (sums_together n groups i) (range_with_len 0 n)) (range_with_len 0 n)
