use Rattle.std.proofs.Common.{◌≡◌, ◌≤◌, ◌*◌, ◌^◌}
use Rattle.base_limits.specs.declared.limits.TheConstants.{MOST_IMPROVEMENTS}
use Rattle.solve_offers.proofs.count.times.Given as goal

abbrev pub invariant-times : goal.invariant-times
invariant-times l = record {
  power : l.total ≡ l.product * l.factor ^ l._k;
  small : l.total ≤ MOST_IMPROVEMENTS;
}
