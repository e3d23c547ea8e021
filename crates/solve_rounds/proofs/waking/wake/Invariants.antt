use Rattle.std.proofs.Common.{[], get_or}
use Rattle.solve_rounds.proofs.waking.Woken.{WokenPlaces}
use Rattle.solve_rounds.proofs.waking.wake.Given as goal

abbrev pub invariant-loop-place : goal.invariant-loop-place
invariant-loop-place l = WokenPlaces l.system l.pick (get_or l.known.outgoing l.point []) l.place l.initial.growing l.growing
