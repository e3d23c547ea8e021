use Rattle.base_numbers.specs.Rational.{zero_ℚ}
use Rattle.solve_joint.specs.Rows.{embedded}
use Rattle.solve_joint.proofs.block.Standing.{on_ok_both, stand_more, guard_stands, guard_one}
use Rattle.solve_joint.proofs.block.push_guard.Goals as goal

pub returns : goal.returns
returns c = on_ok_both c.push_row.result c.push_row.ensures.coeffs c.push_row.ensures.sides
    (λ e f form ls h s. rw (guard_one (embedded zero_ℚ 0 c.args.span.now.list.now c.args.span.now.offset) form)
    (stand_more c.args.span.now.cols _ _ _ _ ls c.in_ok-entries.entries c.negate.result _ e f
    (guard_stands c.args.span.now.cols c.args.span.now.list.now c.args.span.now.offset c.args.coeffs.now c.in_ok-entries.entries
    c.zero.result c.args.constant
    c.negate.result form c.requires h c.zero.ensures.value c.negate.ensures.value c.in_ok-entries.ensures) s))
