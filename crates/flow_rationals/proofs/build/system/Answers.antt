use Rattle.flow_rationals.proofs.made.FewCells.{few_cells_in}
use Rattle.flow_rationals.proofs.made.Within.{system_within}
use Rattle.flow_rationals.proofs.build.system.Goals as goal

pub invariant_of-result : goal.invariant_of-result
invariant_of-result c = record {
  within_limits = system_within c.as_slice-list.result.now _ _ _ (rw c.as_slice-list.ensures.list c.as_slice-list.ensures.equations)
      c.in_ok-flow.ensures.names c.in_ok-flow.ensures.points
      c.in_ok-template.ensures;
}

pub returns-clause-cells : goal.returns-clause-cells
returns-clause-cells c =
    let own = c.as_slice-list.ensures in
    few_cells_in c.as_slice-list.result.now c.in_ok-flow.flow.names c.in_ok-flow.flow.points c.in_ok-flow.flow.edges
    c.in_ok-template.template (rw own.list own.equations)
    c.in_ok-flow.ensures.names c.in_ok-flow.ensures.points c.in_ok-flow.ensures.edges c.in_ok-template.ensures
