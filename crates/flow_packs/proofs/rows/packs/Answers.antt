use Rattle.std.proofs.Common.{◌≡◌, ◌≤◌, ◌∙◌, length, ap, arith}
use Rattle.flow_templates.specs.Rows.{width_of}
use Rattle.flow_templates.specs.declared.limits.TheConstants.{MOST_ROWS}
use Rattle.flow_packs.specs.Packs.{packs_of}
use Rattle.flow_packs.proofs.pairs.Counts.{packs_counted, packs_few}
use Rattle.flow_packs.proofs.rows.packs.Goals as goal

pub overflow_cast-count : goal.overflow_cast-count
overflow_cast-count c =
    let few : length (packs_of c.args.vars c.args.groups.now) ≤ 8192 = packs_few c.args.vars c.args.groups.now c.requires.few in
    let count : length c.in_ok-rows.rows.items ≡ length (packs_of c.args.vars c.args.groups.now) = ap length c.in_ok-rows.ensures in
    omega (arith, few, count, c.len-count.ensures)

pub new-requires : goal.new-requires
new-requires c =
    let count : length c.in_ok-rows.rows.items ≡ length (packs_of c.args.vars c.args.groups.now) = ap length c.in_ok-rows.ensures in
    rw c.in_ok-rows.ensures
    ((packs_counted c.args.vars c.args.groups.now c.requires.some
    (omega (arith, count, c.len-count.ensures, c.if-count-gt-MOST_ROWS.false))).0)

pub returns-clause-width : goal.returns-clause-width
returns-clause-width c =
    let count : length c.in_ok-rows.rows.items ≡ length (packs_of c.args.vars c.args.groups.now) = ap length c.in_ok-rows.ensures in
    ap width_of (c.new.ensures ∙ c.in_ok-rows.ensures)
    ∙ (packs_counted c.args.vars c.args.groups.now c.requires.some
    (omega (arith, count, c.len-count.ensures, c.if-count-gt-MOST_ROWS.false))).1
