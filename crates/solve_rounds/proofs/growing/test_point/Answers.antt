use Rattle.std.proofs.Common.{◌≡◌, ◌∙◌, ◌+◌, ◌*◌, ◌<◌, true≢false, length, refl, sym, ap, subst, arith}
use Rattle.std.proofs.lemmas.Nat.{mul-add-lt}
use Rattle.std.proofs.lemmas.Result.{err_from_is_err_and}
use Rattle.solve_rounds.specs.Growing.{AreOver, ArePassed, OthersKeep}
use Rattle.solve_rounds.proofs.growing.Over.{over_none, over_more}
use Rattle.solve_rounds.proofs.growing.PassedTo.{passed_start, passed_more, stop_next}
use Rattle.solve_rounds.proofs.growing.test_point.Goals as goal
use Rattle.solve_rounds.proofs.growing.test_point.Goals.{then-branch, else-branch}

pub loop-row-init : goal.loop-row-init
loop-row-init c = record {
  passed = passed_start c.args.system.now c.args.pick.now (c.args.point * length c.args.system.now.template) c.args.growing.now
      c.requires.kept c.requires.quiet;
  over = λ e. over_none c.args.system.now c.args.pick.now (c.args.point * length c.args.system.now.template) c.args.growing.now;
}

pub test-requires-clause-unknown : goal.test-requires-clause-unknown
test-requires-clause-unknown c =
    let system = c.args.system.now in
    let rows : length c.as_slice.result.now ≡ length system.template = ap (λ t. length t) c.as_slice.ensures.rows in
    let test = c.loop-row-test.true in
    let within = mul-add-lt c.args.point (length system.template) c.loop-row.row (length system.flow.points) c.requires.point
    (omega (arith, test, rows)) in
    subst (λ n. c.args.point * n + c.loop-row.row < length system.flow.points * length system.template) (sym rows) (omega (arith, within))

pub loop-row-preserved : goal.loop-row-preserved
loop-row-preserved c =
    let system = c.args.system.now in
    let pick = c.args.pick.now in
    let old = c.args.growing.now in
    let mid = c.loop-row.growing in
    let new = c.test.new.growing in
    let first = c.args.point * length system.template in
    let row = c.loop-row.row in
    let at = c.args.point * length c.as_slice.result.now + row in
    let starts : at ≡ first + row = ap (λ n. c.args.point * n + row) (ap (λ t. length t) c.as_slice.ensures.rows) in
    let made = c.in_ok-test.ensures in
    elim c.if-branch.branch [
      | then-branch w ↦ record {
        passed = passed_more system pick first row old mid new c.loop-row.told c.in_ok-test.field-0 c.if-branch.told
            c.loop-row.invariant.passed at 1 starts made.others made.passed (λ e. w.told-is)
            (λ e. absurd (true≢false (sym w.if-branch.true ∙ e))) (row + 1) refl made.kept made.quiet made.stays;
        over = λ e. absurd (true≢false (sym w.told-is ∙ e));
      }
      | else-branch w ↦ record {
        passed = passed_more system pick first row old mid new c.loop-row.told c.in_ok-test.field-0 c.if-branch.told
            c.loop-row.invariant.passed at 1 starts made.others made.passed (λ e. absurd (true≢false (sym e ∙ w.if-branch.false)))
            (λ e. w.told-is) (row + 1) refl made.kept made.quiet made.stays;
        over = λ e. over_more system pick first row at 1 old mid new starts (c.loop-row.invariant.over (sym w.told-is ∙ e))
            (made.over w.if-branch.false);
      }
    ]

pub returns-in_err-test-clause-stop : goal.returns-in_err-test-clause-stop
returns-in_err-test-clause-stop c =
    let system = c.args.system.now in
    let rows : length c.as_slice.result.now ≡ length system.template = ap (λ t. length t) c.as_slice.ensures.rows in
    let test = c.loop-row-test.true in
    let q = err_from_is_err_and c.from_residual.result c.from_residual.ensures.1 in
    rw (q.1, q.2)
    (stop_next system c.args.pick.now (c.args.point * length system.template) c.loop-row.row c.args.growing.now c.loop-row.growing
    c.test.new.growing c.loop-row.told c.loop-row.told c.loop-row.told c.loop-row.invariant.passed
    (c.args.point * length c.as_slice.result.now + c.loop-row.row) 1 (ap (λ n. c.args.point * n + c.loop-row.row) rows)
    (length system.template) c.args.round c.in_err-test.field-0.0 (omega (arith, test, rows)) c.in_err-test.ensures.stop)

pub returns-clause-others : goal.returns-clause-others
returns-clause-others c =
    let system = c.args.system.now in
    let rows : length c.as_slice.result.now ≡ length system.template = ap (λ t. length t) c.as_slice.ensures.rows in
    let test = c.loop-row-test.false in
    let all : c.loop-row.row ≡ length system.template = let end = c.loop-row.auto.row-end in omega (arith, test, rows, end) in
    subst (λ n. OthersKeep (c.args.point * length system.template) n c.args.growing.now c.loop-row.growing) all
    c.loop-row.invariant.passed.others

pub returns-clause-passed : goal.returns-clause-passed
returns-clause-passed c =
    let system = c.args.system.now in
    let rows : length c.as_slice.result.now ≡ length system.template = ap (λ t. length t) c.as_slice.ensures.rows in
    let test = c.loop-row-test.false in
    let all : c.loop-row.row ≡ length system.template = let end = c.loop-row.auto.row-end in omega (arith, test, rows, end) in
    subst (λ n. ArePassed system c.args.pick.now (c.args.point * length system.template) n c.args.growing.now c.loop-row.growing
    c.loop-row.told) all c.loop-row.invariant.passed.passed

pub returns-clause-over : goal.returns-clause-over
returns-clause-over c e =
    let system = c.args.system.now in
    let rows : length c.as_slice.result.now ≡ length system.template = ap (λ t. length t) c.as_slice.ensures.rows in
    let test = c.loop-row-test.false in
    let all : c.loop-row.row ≡ length system.template = let end = c.loop-row.auto.row-end in omega (arith, test, rows, end) in
    subst (λ n. AreOver system c.args.pick.now (c.args.point * length system.template) n c.args.growing.now c.loop-row.growing) all
    (c.loop-row.invariant.over e)
