use Rattle.std.proofs.Common.{◌≡◌, map, take}
use Rattle.cert_fitted.specs.Fitted.{row_for}
use Rattle.cert_fitted.proofs.fitting.fitted_rows.Given as goal

abbrev pub invariant-loop-row : goal.invariant-loop-row
invariant-loop-row l = l.list.items ≡ map (row_for l.vars) (take l.row-index l.rows)
