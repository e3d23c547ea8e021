use Rattle.std.proofs.Common.{◌≡◌, take, Some}
use Rattle.flow_rationals.specs.declared.reading.place.Place.TheVariants as place
use Rattle.flow_rationals.specs.Places.{run}
use Rattle.flow_rationals.proofs.reading.place.refused.Given as goal

abbrev pub invariant-loop-i : goal.invariant-loop-i
invariant-loop-i l = run place.First (take l.i l.symbols) ≡ Some l.place
