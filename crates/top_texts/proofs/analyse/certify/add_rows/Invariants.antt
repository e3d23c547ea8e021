use Rattle.std.proofs.Common.{◌≡◌, ◌++◌, take}
use Rattle.top_texts.proofs.analyse.certify.add_rows.Given as goal

abbrev pub invariant-loop-row : goal.invariant-loop-row
invariant-loop-row l = l.list.items ≡ l.initial.list.items ++ take l.row-index l.rows
