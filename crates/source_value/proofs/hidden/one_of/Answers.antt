use Rattle.std.proofs.Common.{◌∙◌, arith}
use Rattle.lang_tree.specs.Tree.{both, negation}
use Rattle.lang_tree.specs.DeedView.{condition_of}
use Rattle.source_value.proofs.hidden.one_of.Goals as goal

pub returns : goal.returns
returns c = λ h x l e.
    let first = condition_of c.args.first in
    let second = condition_of c.args.second in
    c.in_ok-either.ensures c.args.next (both x first) (both (negation x) second) (omega arith)
    (c.in_ok-yes.ensures h x first l e c.of-first.ensures)
    (c.in_ok-no.ensures h (negation x) second l (c.in_ok-other.ensures c.args.site.variables h x (c.in_ok-again.ensures ∙ e))
    c.of-second.ensures)
