-- How many picks a system has: for each unknown none or an edge into its point.
use Rattle.std.specs.Prelude.{ℕ, suc, ◌*◌, List, [], ◌∷◌, length, map, flat_map}
use Rattle.std.specs.List.{range_with_len}
use Rattle.flow_systems.specs.Equations.{Equations}
use Rattle.theory_validity.specs.Certificates.{edges_into}

-- the product of numbers
unfoldable pub product : List ℕ → ℕ
product [] = 1
product (x ∷ xs) = x * product xs

-- the unknowns in order of number
pub record Unknown : Type 0 where
  pub point : ℕ
  pub row : ℕ

-- points and then rows in order
unfoldable pub unknowns : Equations → List Unknown
unknowns system = flat_map (λ p. map (λ r. record { point = p; row = r }) (range_with_len 0 (length system.template)))
    (range_with_len 0 system.points)

-- the product over all unknowns of 1 + the number of edges into its point
unfoldable pub pick_count : Equations → ℕ
pick_count system = product (map (λ u. suc (length (edges_into u.point system.edges))) (unknowns system))
