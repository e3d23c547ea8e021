use Rattle.std.proofs.Common.{◌≡◌}
use Rattle.cert_written.specs.Pairs.{value_at}
use Rattle.cert_fitted.proofs.lists.Values.{left}
use Rattle.cert_fitted.proofs.lists.value_at.Given as goal

abbrev pub invariant-loop-pair : goal.invariant-loop-pair
invariant-loop-pair l = value_at l.pairs l.place ≡ left l.pairs l.place l.pair-index
