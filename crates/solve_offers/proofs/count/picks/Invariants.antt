use Rattle.std.proofs.Common.{◌≡◌, ◌≤◌}
use Rattle.base_limits.specs.declared.limits.TheConstants.{MOST_IMPROVEMENTS}
use Rattle.flow_systems.specs.View.{equations_of}
use Rattle.solve_offers.proofs.count.Products.{product_to}
use Rattle.solve_offers.proofs.count.picks.Given as goal

abbrev pub invariant-loop-point : goal.invariant-loop-point
invariant-loop-point l = record {
  product : l.product ≡ product_to (equations_of l.system) l.point;
  small : l.product ≤ MOST_IMPROVEMENTS;
}
