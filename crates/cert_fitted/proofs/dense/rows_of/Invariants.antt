use Rattle.std.proofs.Common.{◌≡◌, map, take}
use Rattle.cert_fitted.specs.Dense.{dense_row}
use Rattle.cert_fitted.proofs.dense.rows_of.Given as goal

abbrev pub invariant-loop-row : goal.invariant-loop-row
invariant-loop-row l = l.list.items ≡ map dense_row (take l.row-index l.rows)
