use Rattle.std.proofs.Common.{◌∙◌, ◌∷◌, [], ap, ap₂, sym}
use Rattle.lang_tree.specs.Tree as tree
use Rattle.lang_tree.specs.View.{deeds_of, statements_of, condition_of}
use Rattle.lang_tree.specs.declared.stmt.Stmt.TheVariants.{If}
use Rattle.source_core.specs.Core.{behind, followed_by, one}
use Rattle.source_core.specs.Core as core
use Rattle.source_change.proofs.lists.Deeds.{statements_append, followed_assoc, followed_nil, behind_followed}
use Rattle.source_statement.proofs.branch.push_branch.Goals as goal

pub returns : goal.returns
returns c = λ integers n e yes no t p q.
    let old : tree.Statements = statements_of c.args.out.now.items in
    let l = c.args.line in
    let x : tree.Statements = one (tree.branch (condition_of c.args.test.cond) c.args.first c.args.second l) in
    let u = core.condition_of integers n l e in
    ap statements_of c.in_ok-push.ensures.items
    ∙ statements_append c.push_deeds.new.out.items (If c.args.test.cond c.args.first c.args.second l ∷ [])
    ∙ ap (λ s. followed_by s x) c.in_ok-push_deeds.ensures
    ∙ followed_assoc old (behind (deeds_of c.args.test.prelude.items) tree.nil) x
    ∙ ap (followed_by old) (sym (behind_followed (deeds_of c.args.test.prelude.items) x)
    ∙ ap₂ (λ ds d. behind ds (one (tree.branch d c.args.first c.args.second l))) t.prelude t.condition
    ∙ ap₂ (λ a b. behind u.prelude (one (tree.branch u.condition a b l))) p q
    ∙ sym (followed_nil (behind u.prelude (one (tree.branch u.condition (core.core_in integers n yes) (core.core_in integers n no) l)))))
