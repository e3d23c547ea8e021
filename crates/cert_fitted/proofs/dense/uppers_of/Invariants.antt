use Rattle.std.proofs.Common.{◌≡◌, map, take}
use Rattle.cert_fitted.specs.Dense.{dense_upper}
use Rattle.cert_fitted.proofs.dense.uppers_of.Given as goal

abbrev pub invariant-loop-upper : goal.invariant-loop-upper
invariant-loop-upper l = l.list.items ≡ map dense_upper (take l.upper-index l.uppers)
