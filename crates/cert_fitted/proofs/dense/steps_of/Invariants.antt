use Rattle.std.proofs.Common.{◌≡◌, map, take}
use Rattle.cert_fitted.specs.Dense.{dense_step}
use Rattle.cert_fitted.proofs.dense.steps_of.Given as goal

abbrev pub invariant-loop-step : goal.invariant-loop-step
invariant-loop-step l = l.list.items ≡ map dense_step (take l.step-index l.steps)
