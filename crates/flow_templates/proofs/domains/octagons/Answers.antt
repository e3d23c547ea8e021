use Rattle.std.proofs.Common.{length, ap, ◌∙◌}
use Rattle.flow_templates.specs.Rows.{width_of}
use Rattle.flow_templates.proofs.counted.Counts.{octagons_counted, length-octagons, ready_few, ready_many}
use Rattle.flow_templates.specs.Domains.{octagons_of}
use Rattle.flow_templates.proofs.domains.octagons.Goals as goal

pub returns-then-count-gt-MOST_ROWS-clause-refused : goal.returns-then-count-gt-MOST_ROWS-clause-refused
returns-then-count-gt-MOST_ROWS-clause-refused c = λ other. ready_many (octagons_of c.args.vars) _
    (length-octagons c.args.vars) c.if-count-gt-MOST_ROWS.true

pub new-requires : goal.new-requires
new-requires c = rw c.in_ok-octagon_rows.ensures ((octagons_counted c.args.vars c.requires.some c.if-count-gt-MOST_ROWS.false).0)

pub returns-clause-template : goal.returns-clause-template
returns-clause-template c =
    rw (c.new.ensures ∙ c.in_ok-octagon_rows.ensures)
    (ready_few (octagons_of c.args.vars) _ (length-octagons c.args.vars) c.if-count-gt-MOST_ROWS.false)

pub returns-clause-count : goal.returns-clause-count
returns-clause-count c =
    ap length (c.new.ensures ∙ c.in_ok-octagon_rows.ensures) ∙
    (octagons_counted c.args.vars c.requires.some c.if-count-gt-MOST_ROWS.false).2

pub returns-clause-width : goal.returns-clause-width
returns-clause-width c =
    ap width_of (c.new.ensures ∙ c.in_ok-octagon_rows.ensures) ∙
    (octagons_counted c.args.vars c.requires.some c.if-count-gt-MOST_ROWS.false).1
