use Rattle.std.proofs.Common.{◌+◌, ◌*◌, map, length}
use Rattle.base_numbers.specs.Rational.{one_ℚ, neg_ℚ}
use Rattle.flow_systems.specs.View.{vector_of}
use Rattle.solve_joint.specs.Rows.{embedded}
use Rattle.solve_joint.proofs.problem.Sources.{AreSources}
use Rattle.solve_joint.proofs.problem.push_sources.Given as goal

abbrev pub invariant-loop-i : goal.invariant-loop-i
invariant-loop-i l =
    AreSources l.span.cols (λ r. embedded (neg_ℚ one_ℚ) (l.point * length l.at.system.now.template + r) l.span.list.now l.span.offset)
    (length l.at.system.now.flow.names)
    (vector_of (length l.at.system.now.template) l.at.base.now l.point) l.at.system.now.template
    (map (λ r. r.coeffs) l.initial.rows.items) (map (λ r. r.side) l.initial.rows.items) (map (λ r. r.coeffs) l.rows.items)
    (map (λ r. r.side) l.rows.items) l.i
