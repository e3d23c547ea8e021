use Rattle.std.proofs.Common.{append-nil, [], ap, ◌∙◌, sym, refl}
use Rattle.flow_templates.proofs.counted.Rows.{parts_more, signed_sums_none}
use Rattle.flow_templates.specs.Domains.{signed_sums}
use Rattle.flow_templates.proofs.domains.add_all_signed_sums.Goals.{then-first-second+in_ok-add_signed_sums, else-first-second}
use Rattle.flow_templates.proofs.domains.add_all_signed_sums.Goals as goal

pub loop-second-preserved : goal.loop-second-preserved
loop-second-preserved c =
    elim c.if-first-second.branch [
      | then-first-second+in_ok-add_signed_sums w ↦
          parts_more (signed_sums c.args.vars c.args.first) _ _ _ _ _ c.loop-second.invariant
          (ap (λ v. v.items) w.rows-is ∙ w.in_ok-add_signed_sums.ensures)
          refl
      | else-first-second w ↦
          parts_more (signed_sums c.args.vars c.args.first) _ _ _ [] _ c.loop-second.invariant
          (ap (λ v. v.items) w.rows-is ∙ sym (append-nil _))
          (signed_sums_none _ _ _ w.if-first-second.false)
    ]
