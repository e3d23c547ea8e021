use Rattle.std.proofs.Common.{◌≡◌, map}
use Rattle.std.specs.List.{range_with_len}
use Rattle.solve_joint.specs.Tables.{row_by, leads}
use Rattle.solve_joint.proofs.closure.reaching.Given as goal

abbrev pub invariant-loop-point : goal.invariant-loop-point
invariant-loop-point l = l.rows.items ≡ map (λ p. row_by l.points (leads l.nodes p)) (range_with_len 0 l.point)
