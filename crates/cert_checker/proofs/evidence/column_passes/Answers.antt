use Rattle.std.proofs.Common.{◌∙◌, get_or, sym, true≢false}
use Rattle.std.proofs.lemmas.Result.{err_from_is_err_and}
use Rattle.base_numbers.specs.Rational.{zero_ℚ}
use Rattle.base_numbers.proofs.rational.Laws.{ℚ_discrete}
use Rattle.base_fractions.specs.Operation.{operation_of}
use Rattle.flow_systems.specs.View.{equations_of}
use Rattle.theory_validity.specs.Certificates.{combination}
use Rattle.cert_checker.specs.EvidenceEvents.{column_operations}
use Rattle.cert_checker.proofs.evidence.Sums.{test_same, Tested, tested_wide, tested_yes, tested_no, told_if}
use Rattle.cert_checker.proofs.evidence.column_passes.Goals as goal

pub returns-in_err-sum : goal.returns-in_err-sum
returns-in_err-sum c = λ e f site fault.
    let p = err_from_is_err_and c.from_residual.result c.from_residual.ensures.1 in
    let S = equations_of c.args.system.now in
    let x = get_or (combination S e c.args.rows.now c.args.guards.now) c.args.column zero_ℚ in
    let y = get_or c.args.goal.now c.args.column zero_ℚ in
    rw (p.1, p.2) (tested_wide (ℚ_discrete x y) site fault (column_operations S e c.args.rows.now c.args.guards.now c.args.column)
    (operation_of (λ q. q) c.in_err-sum.field-0.0) (c.in_err-sum.ensures e f))

pub returns : goal.returns
returns c = λ e f site fault.
    let S = equations_of c.args.system.now in
    let x = get_or (combination S e c.args.rows.now c.args.guards.now) c.args.column zero_ℚ in
    let y = get_or c.args.goal.now c.args.column zero_ℚ in
    let os = column_operations S e c.args.rows.now c.args.guards.now c.args.column in
    let a = c.in_ok-sum.ensures e f in
    let t = test_same c.in_ok-sum.sum c.coefficient.result c.eq.result c.eq.ensures in
    told_if (Tested (ℚ_discrete x y) site fault os) fault c.eq.result
    (λ l. tested_yes (ℚ_discrete x y) site fault os a.1 (sym a.0 ∙ t.0 l ∙ c.coefficient.ensures))
    (λ l. tested_no (ℚ_discrete x y) site fault os a.1 (λ q. true≢false (sym (t.1 (a.0 ∙ q ∙ sym c.coefficient.ensures)) ∙ l)))
    c.then_some.result c.then_some.ensures
