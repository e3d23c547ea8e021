use Rattle.std.proofs.Common.{◌≡◌, ◌++◌, drop, false, length, map, nat_lt}
use Rattle.serde_json.specs.Written.{items_text}
use Rattle.base_fractions.specs.Extended.{extended}
use Rattle.flow_systems.specs.View.{vector_of}
use Rattle.out_json.specs.Reports.{point_values}
use Rattle.out_json.proofs.points.push_points.Given as goal

abbrev pub invariant-loop-number : goal.invariant-loop-number
invariant-loop-number l =
    l.out.items ++ items_text (nat_lt 0 l.number) (point_values l.system.template
    (vector_of (length l.system.template) (map extended l.bounds)) l.number (drop l.number l.system.flow.points))
    ≡ l.initial.out.items ++ items_text false (point_values l.system.template
    (vector_of (length l.system.template) (map extended l.bounds)) 0 l.system.flow.points)
