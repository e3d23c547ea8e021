use Rattle.std.proofs.Common.{◌∙◌, ◌∷◌, [], ap, sym}
use Rattle.lang_tree.specs.Tree.{nil, cons, statement_by}
use Rattle.lang_tree.specs.View.{deed_of, deeds_of, statements_of}
use Rattle.source_core.specs.Core.{followed_by, behind}
use Rattle.source_change.proofs.lists.Deeds.{deeds_append, statements_append, followed_assoc, followed_nil, behind_append, behind_followed}
use Rattle.source_change.proofs.pushed.push_deeds.Goals as goal

pub loop-deed-init : goal.loop-deed-init
loop-deed-init c = sym (followed_nil (statements_of c.args.out.now.items))

pub loop-deed-preserved : goal.loop-deed-preserved
loop-deed-preserved c =
    let d = c.in-Some.deed in
    let first = statements_of c.args.out.now.items in
    let ds = deeds_of c.loop-deed.yielded in
    let one = cons (statement_by (deed_of d)) nil in
    ap statements_of c.in_ok-push.ensures.items ∙ statements_append c.loop-deed.out.items (c.statement_by.result ∷ [])
    ∙ ap (λ s. followed_by (statements_of c.loop-deed.out.items) (cons s nil)) c.statement_by.ensures
    ∙ ap (λ s. followed_by s one) c.loop-deed.invariant ∙ followed_assoc first (behind ds nil) one
    ∙ ap (followed_by first) (sym (behind_followed ds one) ∙ sym (behind_append ds (deed_of d ∷ []) nil)
    ∙ ap (λ es. behind es nil) (sym (deeds_append c.loop-deed.yielded (d ∷ []))))
