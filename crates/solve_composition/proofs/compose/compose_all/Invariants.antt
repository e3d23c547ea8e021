use Rattle.std.proofs.Common.{◌≡◌, drop, map, take}
use Rattle.flow_edges.specs.declared.edge.Edge.{Edge}
use Rattle.solve_composition.specs.Composed.{edge_forms}
use Rattle.solve_composition.specs.Operations.{wide_from}
use Rattle.solve_composition.proofs.compose.compose_all.Given as goal

abbrev pub invariant-loop-number : goal.invariant-loop-number
invariant-loop-number l = record {
  list : l.list.items ≡ map (λ (edge : Edge). edge_forms l.variables l.template edge.actions) (take l.number l.edges);
  first : wide_from l.variables l.template 0 l.edges ≡ wide_from l.variables l.template l.number (drop l.number l.edges);
}
