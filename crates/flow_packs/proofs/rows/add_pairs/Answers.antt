use Rattle.std.proofs.Common.{refl}
use Rattle.flow_templates.proofs.counted.Rows.{parts_more}
use Rattle.flow_packs.specs.Packs.{sums_together}
use Rattle.flow_packs.proofs.rows.add_pairs.Goals as goal

pub loop-second-preserved : goal.loop-second-preserved
loop-second-preserved c =
    parts_more (sums_together c.args.vars c.args.groups.now c.args.first) _ _ _ _ _ c.loop-second.invariant c.in_ok-add_pair.ensures refl
