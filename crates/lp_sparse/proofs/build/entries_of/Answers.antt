use Rattle.std.proofs.Common.{◌++◌, ◌∷◌, [], ◌∙◌, ap, sym, subst, subst₂, take}
use Rattle.std.proofs.lemmas.List.{take_more, take_all}
use Rattle.lp_dictionary.specs.declared.entry.Entry.{Entry}
use Rattle.lp_sparse.specs.Build.{AreSigned}
use Rattle.lp_sparse.proofs.build.Signed.{signed_push, lists_signed}
use Rattle.lp_sparse.proofs.build.entries_of.Goals as goal

pub loop-entry-preserved : goal.loop-entry-preserved
loop-entry-preserved g c =
    let m = g.F.OrderedField.meaning in
    let b = c.args.negated in
    let kept = c.entries-kept.result.now in
    let i = c.loop-entry.entry-index in
    let x = c.entry-item.result in
    let y : Entry _ = record { col = x.col; value = c.signed.result } in
    subst₂ (AreSigned m b) (ap (λ e. take i kept ++ e ∷ []) c.entry-item.is ∙ sym (take_more kept i x c.loop-entry-test.true))
    (sym c.in_ok-push.ensures.items)
    (signed_push m b (take i kept) c.loop-entry.entries.items x y c.loop-entry.invariant (λ _. x.col) c.signed.ensures)

pub returns : goal.returns
returns g c =
    let m = g.F.OrderedField.meaning in
    let kept = c.entries-kept.result.now in
    lists_signed m c.args.negated c.args.coefficients.now kept c.loop-entry.entries.items c.entries-kept.ensures
    (subst (λ xs. AreSigned m c.args.negated xs c.loop-entry.entries.items) (take_all c.loop-entry.entry-index kept c.loop-entry-test.false)
    c.loop-entry.invariant)
