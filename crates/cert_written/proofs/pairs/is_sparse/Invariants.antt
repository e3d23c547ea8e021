use Rattle.std.proofs.Common.{◌≡◌}
use Rattle.cert_written.specs.Pairs.{is_sparse}
use Rattle.cert_written.proofs.pairs.Sparse.{left}
use Rattle.cert_written.proofs.pairs.is_sparse.Given as goal

abbrev pub invariant-loop-pair : goal.invariant-loop-pair
invariant-loop-pair l = is_sparse l.list ≡ left l.least l.list l.pair-index
