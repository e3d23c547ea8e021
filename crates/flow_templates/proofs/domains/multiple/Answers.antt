use Rattle.std.proofs.Common.{◌≡◌, to_z, of_z, w64, ◌∙◌, sym}
use Rattle.std.proofs.lemmas.Int.{to_z-of_z}
use Rattle.flow_templates.proofs.counted.Rows.{term_own, term_other, numbers-terms, terms_more}
use Rattle.flow_templates.proofs.domains.multiple.Goals.{then-k-var, else-k-var}
use Rattle.flow_templates.proofs.domains.multiple.Goals as goal

pub loop-k-preserved : goal.loop-k-preserved
loop-k-preserved c =
    terms_more _ _ _ _ c.loop-k.k c.loop-k.invariant c.in_ok-push.ensures.items
    (elim c.if-k-var.branch [
      | then-k-var w ↦ w.push-is ∙ sym (term_own _ c.args.var _ w.if-k-var.true)
      | else-k-var w ↦ w.push-is ∙ sym (term_other _ c.args.var _ w.if-k-var.false)
    ])

pub new-requires : goal.new-requires
new-requires c =
    let same : to_z w64 (of_z w64 c.args.c) ≡ c.args.c = to_z-of_z w64 c.args.c c.ranges.c in
    rw c.loop-k.invariant (numbers-terms (to_z w64 (of_z w64 c.args.c)) c.args.var _ (rw same c.requires))
