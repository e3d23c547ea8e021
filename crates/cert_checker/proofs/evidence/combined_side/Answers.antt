use Rattle.std.proofs.Common.{◌∙◌, true≢false, sym}
use Rattle.std.proofs.lemmas.Result.{err_from_is_err_and}
use Rattle.base_fractions.specs.Operation.{operation_of}
use Rattle.flow_systems.specs.View.{equations_of}
use Rattle.cert_checker.specs.Events.{fault_answer, wide_answer}
use Rattle.cert_checker.specs.EvidenceEvents.{columns_events, columns_of}
use Rattle.cert_checker.proofs.evidence.Sums.{told_no, told_yes}
use Rattle.cert_checker.proofs.evidence.Events.{combined_first, combined_columns, combined_wide, combined_none}
use Rattle.cert_checker.proofs.evidence.combined_side.Goals as goal

pub returns-then-not-are_multipliers : goal.returns-then-not-are_multipliers
returns-then-not-are_multipliers c = λ z e h f site fault.
    combined_first site fault (equations_of c.args.system.now) z e c.args.rows.now c.args.guards.now c.args.goal.now
    (λ m. true≢false (sym ((c.are_multipliers.ensures.exactly z e h f).1 m) ∙ c.if-not-are_multipliers.true))

pub returns-in_err-columns_pass : goal.returns-in_err-columns_pass
returns-in_err-columns_pass c = λ z e h f site fault.
    let p = err_from_is_err_and c.from_residual.result c.from_residual.ensures.1 in
    let m = (c.are_multipliers.ensures.exactly z e h f).0 c.if-not-are_multipliers.false in
    let a = wide_answer site (operation_of (λ q. q) c.in_err-columns_pass.field-0.0) in
    rw (p.1, p.2) (combined_columns site fault (equations_of c.args.system.now) z e c.args.rows.now c.args.guards.now c.args.goal.now m a
    (c.in_err-columns_pass.ensures e f site fault))

pub returns-then-is_none : goal.returns-then-is_none
returns-then-is_none c = λ z e h f site fault.
    let S = equations_of c.args.system.now in
    let m = (c.are_multipliers.ensures.exactly z e h f).0 c.if-not-are_multipliers.false in
    let es = columns_events site fault S e c.args.rows.now c.args.guards.now c.args.goal.now (columns_of S e) in
    let no = told_no es fault c.in_ok-columns_pass.field-0 c.is_none.result c.is_none.ensures c.if-is_none.true
    (c.in_ok-columns_pass.ensures e f site fault) in
    combined_columns site fault S z e c.args.rows.now c.args.guards.now c.args.goal.now m (fault_answer fault) no

pub returns-in_err-value : goal.returns-in_err-value
returns-in_err-value c = λ z e h f site fault.
    let p = err_from_is_err_and c.from_residual-in_err-value.result c.from_residual-in_err-value.ensures.1 in
    let S = equations_of c.args.system.now in
    let m = (c.are_multipliers.ensures.exactly z e h f).0 c.if-not-are_multipliers.false in
    let es = columns_events site fault S e c.args.rows.now c.args.guards.now c.args.goal.now (columns_of S e) in
    let passed = told_yes es fault c.in_ok-columns_pass.field-0 c.is_none.result c.is_none.ensures c.if-is_none.false
    (c.in_ok-columns_pass.ensures e f site fault) in
    rw (p.1, p.2) (combined_wide site fault S z e c.args.rows.now c.args.guards.now c.args.goal.now m passed
    (operation_of (λ q. q) c.in_err-value.field-0.0) (c.in_err-value.ensures z e h f))

pub returns : goal.returns
returns c = λ z e h f site fault.
    let S = equations_of c.args.system.now in
    let m = (c.are_multipliers.ensures.exactly z e h f).0 c.if-not-are_multipliers.false in
    let es = columns_events site fault S e c.args.rows.now c.args.guards.now c.args.goal.now (columns_of S e) in
    let passed = told_yes es fault c.in_ok-columns_pass.field-0 c.is_none.result c.is_none.ensures c.if-is_none.false
    (c.in_ok-columns_pass.ensures e f site fault) in
    let a = c.in_ok-value.ensures z e h f in
    (a.0, combined_none site fault S z e c.args.rows.now c.args.guards.now c.args.goal.now m passed a.1)
