use Rattle.std.proofs.Common.{take}
use Rattle.std.specs.Prelude.{IsTrue}
use Rattle.std.specs.List.{list_all}
use Rattle.lang_tree.specs.Numbers.{are_numbers}
use Rattle.solve_rounds.proofs.solving.look_at_rows.Given as goal

abbrev pub invariant-loop-row : goal.invariant-loop-row
invariant-loop-row l = IsTrue (list_all are_numbers (take l.row-index l.row-items))
