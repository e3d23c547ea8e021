use Rattle.base_numbers.specs.Rational.{zero_ℚ}
use Rattle.flow_systems.specs.View.{equations_of}
use Rattle.cert_checker.specs.EvidenceEvents.{row_column}
use Rattle.cert_checker.proofs.combination.Multiples.{IsAdded}
use Rattle.cert_checker.proofs.combination.row_sum.Given as goal

abbrev pub invariant-loop-r : goal.invariant-loop-r
invariant-loop-r l = IsAdded zero_ℚ l.rows (row_column (equations_of l.system) l.column) l.r l.sum
