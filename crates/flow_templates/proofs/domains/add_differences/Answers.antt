use Rattle.std.proofs.Common.{append-nil, [], ◌∷◌, ap, ◌∙◌, sym}
use Rattle.flow_templates.proofs.counted.Rows.{parts_more, difference_none, difference_one}
use Rattle.flow_templates.specs.Domains.{difference}
use Rattle.flow_templates.proofs.domains.add_differences.Goals.{then-first-second+in_ok-combination+in_ok-push, else-first-second}
use Rattle.flow_templates.proofs.domains.add_differences.Goals as goal

pub loop-second-preserved : goal.loop-second-preserved
loop-second-preserved c =
    elim c.if-first-second.branch [
      | then-first-second+in_ok-combination+in_ok-push w ↦
          parts_more (difference c.args.vars c.args.first) _ _ _ _ _ c.loop-second.invariant
          (ap (λ v. v.items) w.rows-is ∙ w.in_ok-push.ensures.items)
          (ap (λ r. r ∷ []) w.in_ok-combination.ensures ∙ difference_one _ _ _ w.if-first-second.true)
      | else-first-second w ↦
          parts_more (difference c.args.vars c.args.first) _ _ _ [] _ c.loop-second.invariant
          (ap (λ v. v.items) w.rows-is ∙ sym (append-nil _))
          (difference_none _ _ _ w.if-first-second.false)
    ]
