use Rattle.std.proofs.Common.{◌≡◌, ℕ, ◌<◌, get_or}
use Rattle.base_numbers.specs.Rational.{zero_ℚ}
use Rattle.flow_systems.specs.Equations.{Vector}
use Rattle.flow_systems.specs.View.{equations_of}
use Rattle.theory_validity.specs.Certificates.{NotFinite}
use Rattle.cert_checker.specs.Stands.{Stands}
use Rattle.cert_checker.proofs.multipliers.are_allowed.Given as goal

abbrev pub invariant-loop-r : goal.invariant-loop-r
invariant-loop-r l = (z : Vector) → Stands (equations_of l.system) l.bounds z → (r : ℕ) → r < l.r → NotFinite (z l.point r)
    → get_or l.rows r zero_ℚ ≡ zero_ℚ
