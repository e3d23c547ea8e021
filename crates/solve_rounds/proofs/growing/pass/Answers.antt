use Rattle.std.proofs.Common.{◌≡◌, ◌∙◌, ◌+◌, ◌*◌, ◌≤◌, false, true≢false, length, sym, ap, subst, arith}
use Rattle.std.proofs.Math.Nat.{mul-le-mul_right}
use Rattle.std.proofs.lemmas.Result.{err_from_is_err_and}
use Rattle.solve_rounds.specs.Growing.{ArePassed}
use Rattle.solve_rounds.proofs.growing.PassedTo.{PassedTo, passed_start, passed_more, stop_next}
use Rattle.solve_rounds.proofs.growing.pass.Goals as goal
use Rattle.solve_rounds.proofs.growing.pass.Goals.{then-branch, else-branch}

pub loop-point-init : goal.loop-point-init
loop-point-init c =
    let system = c.args.system.now in
    subst (λ n. PassedTo system c.args.pick.now 0 n c.args.growing.now c.args.growing.now false)
    (let e : 0 ≡ 0 * length system.template = omega arith in e)
    (passed_start system c.args.pick.now 0 c.args.growing.now c.requires.kept c.requires.quiet)

pub loop-point-preserved : goal.loop-point-preserved
loop-point-preserved c =
    let system = c.args.system.now in
    let rows = length system.template in
    let first = c.loop-point.point * rows in
    let starts : first ≡ 0 + first = omega arith in
    let total : (c.loop-point.point + 1) * rows ≡ first + rows = omega arith in
    let made = c.in_ok-pass_point.ensures in
    elim c.if-branch.branch [
      | then-branch w ↦
          passed_more system c.args.pick.now 0 first c.args.growing.now c.loop-point.growing c.pass_point.new.growing
          c.loop-point.told c.in_ok-pass_point.field-0 c.if-branch.told c.loop-point.invariant first rows starts
          made.others made.passed (λ e. w.told-is) (λ e. absurd (true≢false (sym w.if-branch.true ∙ e)))
          ((c.loop-point.point + 1) * rows) total made.kept made.quiet made.stays
      | else-branch w ↦
          passed_more system c.args.pick.now 0 first c.args.growing.now c.loop-point.growing c.pass_point.new.growing
          c.loop-point.told c.in_ok-pass_point.field-0 c.if-branch.told c.loop-point.invariant first rows starts
          made.others made.passed (λ e. absurd (true≢false (sym e ∙ w.if-branch.false))) (λ e. w.told-is)
          ((c.loop-point.point + 1) * rows) total made.kept made.quiet made.stays
    ]

pub returns-in_err-pass_point-clause-stop : goal.returns-in_err-pass_point-clause-stop
returns-in_err-pass_point-clause-stop c =
    let system = c.args.system.now in
    let rows = length system.template in
    let first = c.loop-point.point * rows in
    let points : length c.as_slice.result.now ≡ length system.flow.points = ap (λ ps. length ps) c.as_slice.ensures in
    let test = c.loop-point-test.true in
    let more : (c.loop-point.point + 1) * rows ≤ length system.flow.points * rows =
    mul-le-mul_right rows (let h : c.loop-point.point + 1 ≤ length system.flow.points = omega (arith, points, test) in h) in
    let q = err_from_is_err_and c.from_residual.result c.from_residual.ensures.1 in
    rw (q.1, q.2)
    (stop_next system c.args.pick.now 0 first c.args.growing.now c.loop-point.growing c.pass_point.new.growing
    c.loop-point.told c.loop-point.told c.loop-point.told c.loop-point.invariant first rows (let e : first ≡ 0 + first = omega arith in e)
    (length system.flow.points * rows) c.args.round c.in_err-pass_point.field-0.0 (omega (arith, more)) c.in_err-pass_point.ensures.stop)

pub returns-clause-passed : goal.returns-clause-passed
returns-clause-passed c =
    let system = c.args.system.now in
    let points : length c.as_slice.result.now ≡ length system.flow.points = ap (λ ps. length ps) c.as_slice.ensures in
    let test = c.loop-point-test.false in
    let all : c.loop-point.point ≡ length system.flow.points =
    let end = c.loop-point.auto.point-end in omega (arith, points, test, end) in
    subst (λ n. ArePassed system c.args.pick.now 0 (n * length system.template) c.args.growing.now c.loop-point.growing c.loop-point.told)
    all c.loop-point.invariant.passed
