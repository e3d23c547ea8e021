use Rattle.std.proofs.Common.{◌≡◌, ◌++◌, drop}
use Rattle.flow_edges.specs.Trails.{split, walked}
use Rattle.flow_edges.proofs.onward.go_on_by_case.Given as goal

abbrev pub invariant-loop-case : goal.invariant-loop-case
invariant-loop-case l =
    l.edges.items ++ split l.trail (drop l.case-index l.case-items) (walked l.next)
    ≡ l.initial.edges.items ++ split l.trail l.cases (walked l.next)
