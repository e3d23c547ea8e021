-- The groups of an expression, in the order in which they are found.
use Rattle.std.specs.Prelude.{◌++◌, ℕ, Bool, true, false, List, []}
use Rattle.lang_groups.specs.Kept.{kept_group}
use Rattle.lang_groups.specs.Shapes.{Shape, nothing, one, enclosed, tied, compared, apart, occurring}

-- it is two sides that are compared
abbrev pub is_compared : Shape → Bool
is_compared nothing = false
is_compared (one x) = false
is_compared (enclosed s) = false
is_compared (tied s t) = false
is_compared (compared s t) = true
is_compared (apart s t) = false

abbrev mutual
  -- those of its brackets
  pub inner : Shape → List (List ℕ)
  inner nothing = []
  inner (one x) = []
  inner (enclosed s) = found s
  inner (tied s t) = inner s ++ inner t
  inner (compared s t) = inner s ++ inner t
  inner (apart s t) = found s ++ found t

  -- all of them
  pub found : Shape → List (List ℕ)
  found nothing = []
  found (one x) = []
  found (enclosed s) = found s
  found (tied s t) = inner s ++ inner t
  found (compared s t) = (inner s ++ inner t) ++ kept_group (occurring s ++ occurring t)
  found (apart s t) = found s ++ found t
