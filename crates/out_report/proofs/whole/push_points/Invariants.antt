use Rattle.std.proofs.Common.{◌≡◌, ◌++◌, drop, length, map}
use Rattle.base_fractions.specs.Extended.{extended}
use Rattle.flow_systems.specs.Report.{points_lines}
use Rattle.flow_systems.specs.View.{vector_of}
use Rattle.out_report.proofs.whole.push_points.Given as goal

abbrev pub invariant-loop-number : goal.invariant-loop-number
invariant-loop-number l =
    l.text.items ++ points_lines l.system.flow.names l.system.template (vector_of (length l.system.template) (map extended l.bounds))
    l.number (drop l.number l.system.flow.points)
    ≡ l.initial.text.items ++ points_lines l.system.flow.names l.system.template
    (vector_of (length l.system.template) (map extended l.bounds)) 0 l.system.flow.points
