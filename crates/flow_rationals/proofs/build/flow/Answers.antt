use Rattle.flow_rationals.proofs.made.Within.{flow_within}
use Rattle.flow_rationals.proofs.build.flow.Goals as goal

pub invariant_of-result : goal.invariant_of-result
invariant_of-result c = record {
  within_limits = flow_within c.args.equations.now _ _ _ c.requires c.in_ok-names.ensures c.in_ok-points.ensures c.in_ok-edges.ensures;
}
