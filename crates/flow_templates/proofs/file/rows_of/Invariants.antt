use Rattle.std.proofs.Common.{◌≤◌, length, map, take}
use Rattle.flow_templates.specs.RowFiles.{LinesRead}
use Rattle.flow_templates.proofs.file.rows_of.Given as goal

abbrev pub invariant-loop-i : goal.invariant-loop-i
invariant-loop-i l = record {
  read : LinesRead l.names (map (λ line. line.now) (take l.i l.lines)) l.rows.items;
  few : length l.rows.items ≤ l.i;
}
