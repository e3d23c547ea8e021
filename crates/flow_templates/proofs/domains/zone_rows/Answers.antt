use Rattle.std.proofs.Common.{refl}
use Rattle.std.specs.List.{range_with_len, flat_map}
use Rattle.flow_templates.specs.Domains.{difference}
use Rattle.flow_templates.proofs.counted.Rows.{parts_more}
use Rattle.flow_templates.proofs.domains.zone_rows.Goals as goal

pub loop-first-preserved : goal.loop-first-preserved
loop-first-preserved c =
    parts_more (λ i. flat_map (difference c.args.vars i) (range_with_len 0 c.args.vars)) _ _ _ _ _ c.loop-first.invariant
    c.in_ok-add_differences.ensures refl
