use Rattle.std.proofs.Common.{◌≡◌, ◌++◌, drop}
use Rattle.flow_edges.specs.Trails.{by_cases}
use Rattle.flow_edges.proofs.deed_walk.add_cases.Given as goal

abbrev pub invariant-loop-case : goal.invariant-loop-case
invariant-loop-case l = l.list.items ++ by_cases (drop l.case-index l.case-items) l.trail ≡ l.initial.list.items ++ by_cases l.cases l.trail
