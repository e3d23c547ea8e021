use Rattle.solve_rounds.proofs.evaluation.Partings.{ArePartings}
use Rattle.solve_rounds.proofs.evaluation.turns.Given as goal

abbrev pub invariant-loop-number : goal.invariant-loop-number
invariant-loop-number g l = ArePartings l.at.system.now l.at.pick.now l.at.raises.now l.at.places.now l.list l.initial.turning l.number
    l.turning
