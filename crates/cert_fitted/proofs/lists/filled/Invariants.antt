use Rattle.std.proofs.Common.{◌≡◌}
use Rattle.cert_written.specs.Pairs.{filled}
use Rattle.cert_fitted.proofs.lists.filled.Given as goal

abbrev pub invariant-loop-place : goal.invariant-loop-place
invariant-loop-place l = l.list.items ≡ filled l.place l.pairs
