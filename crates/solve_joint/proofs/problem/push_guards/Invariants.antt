use Rattle.std.proofs.Common.{List, ◌++◌, map, length, take}
use Rattle.base_numbers.specs.Rational.{zero_ℚ}
use Rattle.theory_validity.specs.Words.{guard_forms}
use Rattle.theory_transformers.specs.Limits.{Limit}
use Rattle.theory_transformers.specs.EdgeProblems.{guard_limits}
use Rattle.solve_joint.specs.Rows.{AllStand, embedded}
use Rattle.solve_joint.specs.Blocks.{edge_at}
use Rattle.solve_joint.proofs.problem.push_guards.Given as goal

abbrev pub invariant-loop-g : goal.invariant-loop-g
invariant-loop-g l =
    (ls : List Limit) → AllStand l.span.cols (map (λ r. r.coeffs) l.initial.rows.items) (map (λ r. r.side) l.initial.rows.items) ls
    → AllStand l.span.cols (map (λ r. r.coeffs) l.rows.items) (map (λ r. r.side) l.rows.items)
    (ls ++ guard_limits (embedded zero_ℚ 0 l.span.list.now l.span.offset) (take l.g (guard_forms (length l.at.system.now.flow.names)
    (edge_at l.at.system.now l.edge).actions)))
