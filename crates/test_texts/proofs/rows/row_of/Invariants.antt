use Rattle.std.proofs.Common.{IsTrue}
use Rattle.lang_tree.specs.Numbers.{are_numbers}
use Rattle.test_texts.proofs.rows.row_of.Given as goal

abbrev pub invariant-loop-c : goal.invariant-loop-c
invariant-loop-c l = IsTrue (are_numbers l.list.items)
