use Rattle.std.proofs.Common.{length, ap, ◌∙◌, arith}
use Rattle.flow_templates.specs.Rows.{width_of}
use Rattle.flow_templates.proofs.counted.Counts.{intervals_counted}
use Rattle.flow_templates.proofs.domains.intervals.Goals as goal

pub new-requires : goal.new-requires
new-requires c = rw c.in_ok-interval_rows.ensures ((intervals_counted c.args.vars c.requires.some (omega (arith, c.requires.few))).0)

pub returns-clause-count : goal.returns-clause-count
returns-clause-count c =
    ap length (c.new.ensures ∙ c.in_ok-interval_rows.ensures)
    ∙ (intervals_counted c.args.vars c.requires.some (omega (arith, c.requires.few))).2

pub returns-clause-width : goal.returns-clause-width
returns-clause-width c =
    ap width_of (c.new.ensures ∙ c.in_ok-interval_rows.ensures)
    ∙ (intervals_counted c.args.vars c.requires.some (omega (arith, c.requires.few))).1
