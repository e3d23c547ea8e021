use Rattle.std.proofs.Common.{◌≡◌, ◌+◌, ◌%◌}
use Rattle.base_numbers.specs.Gcd.{gcd as gcd_of}
use Rattle.base_fractions.proofs.divisor.odd_gcd.Given as goal

abbrev pub invariant-loop-x : goal.invariant-loop-x
invariant-loop-x l = record { same : gcd_of l.x l.y ≡ gcd_of l.a l.b; x_odd : l.x % 2 ≡ 1; y_odd : l.y % 2 ≡ 1 }

abbrev pub decreases-loop-x : goal.decreases-loop-x
decreases-loop-x l = l.x + l.y
