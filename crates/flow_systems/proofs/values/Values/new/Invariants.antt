use Rattle.std.proofs.Common.{◌≡◌, take}
use Rattle.flow_systems.proofs.values.Values.new.Given as goal

abbrev pub invariant-loop-i : goal.invariant-loop-i
invariant-loop-i l = l.values ≡ take l.i l.start
