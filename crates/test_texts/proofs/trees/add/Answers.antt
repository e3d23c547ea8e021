use Rattle.std.proofs.Common.{◌∙◌, ◌+◌, false, ap}
use Rattle.lang_tree.specs.Tree.{nodes_in}
use Rattle.lang_tree.specs.View.{statements_of}
use Rattle.lang_tree.specs.declared.limits.TheConstants.{MOST_HIDDEN}
use Rattle.test_texts.proofs.TreeLemmas.{added_fits, added_count}
use Rattle.test_texts.proofs.trees.add.Goals as goal

pub returns-clause-fits : goal.returns-clause-fits
returns-clause-fits c =
    rw c.in_ok-push.ensures.items (added_fits (1 + MOST_HIDDEN) false c.args.list.now.items c.args.stmt c.requires.others c.requires.last)

pub returns-clause-count : goal.returns-clause-count
returns-clause-count c =
    ap (λ s. nodes_in (statements_of s)) c.in_ok-push.ensures.items ∙ added_count c.args.list.now.items c.args.stmt
