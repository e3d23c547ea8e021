use Rattle.std.proofs.Common.{◌∙◌, ◌+◌, ◌<◌, ◌≤◌, length, sym, subst, arith}
use Rattle.std.proofs.lemmas.Result.{err_from_is_err_and}
use Rattle.base_numbers.specs.Rational.{ℚ}
use Rattle.base_fractions.specs.Operation.{operation_of}
use Rattle.solve_raise.proofs.low.Entries.{IsMoved, moved_more, moved_wide, moved_all}
use Rattle.solve_raise.proofs.low.moved_entries.Goals as goal

pub loop-i-preserved : goal.loop-i-preserved
loop-i-preserved c =
    let i = c.loop-i.i in
    let l : i < length c.args.entries.now = c.loop-i-test.true in
    let k : i < length c.args.slopes.now = omega (arith, c.requires, l) in
    subst (IsMoved c.args.times c.args.entries.now c.args.slopes.now (i + 1)) (sym c.in_ok-push.ensures.items)
    (moved_more c.args.times c.args.entries.now c.args.slopes.now i c.loop-i.list.items c.loop-i.invariant l k c.index-entries-i.result
    c.index-slopes-i.result c.index-entries-i.is c.index-slopes-i.is c.in_ok-value.value c.in_ok-value.ensures.0
    c.in_ok-value.ensures.1)

pub returns-in_err-value : goal.returns-in_err-value
returns-in_err-value c =
    let p = err_from_is_err_and c.from_residual.result c.from_residual.ensures.1 in
    let i = c.loop-i.i in
    let l : i < length c.args.entries.now = c.loop-i-test.true in
    let k : i < length c.args.slopes.now = omega (arith, c.requires, l) in
    rw (p.1, p.2)
    (moved_wide c.args.times c.args.entries.now c.args.slopes.now i c.loop-i.list.items c.loop-i.invariant l k c.index-entries-i.result
    c.index-slopes-i.result c.index-entries-i.is c.index-slopes-i.is
    (operation_of (λ (q : ℚ). q) c.in_err-value.field-0.0) c.in_err-value.ensures)

pub returns : goal.returns
returns c =
    let l : length c.args.entries.now ≤ c.loop-i.i = omega (arith, c.loop-i-test.false) in
    let m = moved_all c.args.times c.args.entries.now c.args.slopes.now c.loop-i.i c.loop-i.list.items l (omega (arith, c.requires, l))
    c.loop-i.invariant in
    (c.new.ensures ∙ m.0, m.1)
