use Rattle.std.proofs.Common.{rules, []}
use Rattle.flow_templates.proofs.counted.Rows.{parts_more, two_pushes}
use Rattle.flow_templates.specs.Domains.{both_signs}
use Rattle.flow_templates.proofs.domains.interval_rows.Goals as goal

pub loop-var-preserved : goal.loop-var-preserved
loop-var-preserved c =
    parts_more (both_signs c.args.vars) [] _ _ _ _ c.loop-var.invariant
    (two_pushes _ _ _ _ _ c.in_ok-push.ensures.items c.in_ok-push-2.ensures.items)
    (search (rules, c.in_ok-multiple.ensures, c.in_ok-multiple-2.ensures))
