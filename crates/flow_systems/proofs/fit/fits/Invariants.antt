use Rattle.std.proofs.Common.{length}
use Rattle.flow_systems.specs.View.{vector_of}
use Rattle.flow_systems.proofs.fit_tests.Tested.{IsTested}
use Rattle.flow_systems.proofs.fit.fits.Given as goal

abbrev pub invariant-loop-i : goal.invariant-loop-i
invariant-loop-i l = IsTested l.system.template (vector_of (length l.system.template) l.bounds l.point) l.state l.i
