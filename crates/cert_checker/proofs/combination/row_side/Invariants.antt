use Rattle.std.specs.Prelude.{length, map}
use Rattle.std.specs.List.{range_with_len}
use Rattle.base_numbers.specs.Rational.{zero_ℚ}
use Rattle.flow_systems.specs.Equations.{Vector}
use Rattle.flow_systems.specs.View.{equations_of}
use Rattle.theory_validity.specs.Certificates.{num}
use Rattle.cert_checker.specs.Stands.{Stands}
use Rattle.cert_checker.proofs.combination.Multiples.{IsAdded}
use Rattle.cert_checker.proofs.combination.row_side.Given as goal

abbrev pub invariant-loop-r : goal.invariant-loop-r
invariant-loop-r l = (z : Vector) → Stands (equations_of l.system) l.bounds z
    → IsAdded zero_ℚ l.rows (map (λ r. num (z l.point r)) (range_with_len 0 (length l.system.template))) l.r l.sum
