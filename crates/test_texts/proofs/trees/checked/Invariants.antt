use Rattle.std.proofs.Common.{◌≡◌, ◌+◌, ◌*◌, false, IsTrue}
use Rattle.lang_tree.specs.Tree.{nodes_in}
use Rattle.lang_tree.specs.Limits.{are_statements}
use Rattle.lang_tree.specs.View.{statements_of}
use Rattle.lang_tree.specs.declared.limits.TheConstants.{MOST_HIDDEN}
use Rattle.test_texts.proofs.trees.checked.Given as goal

abbrev pub invariant-loop-k : goal.invariant-loop-k
invariant-loop-k l = record {
  fits : IsTrue (are_statements (1 + MOST_HIDDEN) false (statements_of l.list.items));
  count : nodes_in (statements_of l.list.items) ≡ 129 * l.k;
}
