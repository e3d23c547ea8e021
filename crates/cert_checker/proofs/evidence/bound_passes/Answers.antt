use Rattle.std.proofs.Common.{◌≡◌, ◌∙◌, ◌/◌, ◌%◌, ◌*◌, ◌<◌, [], length, get_or, true≢false, refl, sym, ap, subst, arith}
use Rattle.std.specs.Prelude.{Ok, Err}
use Rattle.std.proofs.lemmas.Result.{err_from_is_err_and}
use Rattle.base_numbers.specs.Rational.{ℚ}
use Rattle.base_numbers.specs.Extended.{fin}
use Rattle.base_fractions.specs.declared.ext.Ext.{Ext}
use Rattle.base_fractions.specs.declared.ext.Ext.TheVariants.{NegInf, Fin, PosInf}
use Rattle.base_fractions.specs.Extended.{extended}
use Rattle.base_fractions.specs.Operation.{operation_of}
use Rattle.flow_systems.specs.View.{equations_of}
use Rattle.flow_systems.proofs.fit_tests.Tested.{test_le}
use Rattle.theory_validity.specs.Certificates.{side, Bound}
use Rattle.cert_checker.specs.Events.{fault_answer, wide_answer}
use Rattle.cert_checker.specs.EvidenceEvents.{combination_events, evidence_events}
use Rattle.cert_checker.proofs.combination.Forms.{no_edge, edge_there, row_count}
use Rattle.cert_checker.proofs.events.Numbers.{bound_of}
use Rattle.cert_checker.proofs.evidence.Events.{row_some, is_read, bound_infinite, bound_stops, bound_wide, bound_yes, bound_no}
use Rattle.cert_checker.proofs.evidence.Events.{constant_added}
use Rattle.cert_checker.proofs.evidence.Sums.{found_none, found_some, told_if}
use Rattle.cert_checker.proofs.evidence.bound_passes.Goals as goal

-- a value that is no fraction
unbound : (b : Ext) → ((q : ℚ) → b ≡ Fin q → ⊥) → ¬ ((q : ℚ) × (extended b ≡ fin q))
unbound NegInf n h = let e = h.1 in cc
unbound (Fin q) n h = n q refl
unbound PosInf n h = let e = h.1 in cc

pub returns-in_default : goal.returns-in_default
returns-in_default c = λ z e h f site fault.
    let S = equations_of c.args.system.now in
    let T = c.args.system.now.template in
    let r = c.args.unknown % length T in
    let b : extended c.at.result ≡ z (c.args.unknown / length T) r = c.at.ensures
    ∙ bound_of S c.args.bounds.now z h c.args.unknown c.requires.unknown in
    bound_infinite site fault S z e c.args.rows.now c.args.guards.now (get_or T r []) (z (c.args.unknown / length T) r)
    (λ k. unbound c.at.result c.in_default.not-Fin (k.0, b ∙ k.1))

pub row-end-requires-clause-row : goal.row-end-requires-clause-row
row-end-requires-clause-row c = λ forms at.
    let S = equations_of c.args.system.now in
    let e = get_or c.args.system.now.flow.edges c.args.edge no_edge in
    let f = edge_there c.args.system.now.flow.edges c.args.edge c.requires.edge in
    let n : length c.as_slice.result.now ≡ length c.args.system.now.template = ap (λ rs. length rs) c.as_slice.ensures.rows in
    let k = row_count S c.args.paths.now c.requires.paths c.args.edge e f forms at in
    let u : c.args.unknown < length c.args.system.now.flow.points * length c.args.system.now.template =
    subst (λ m. c.args.unknown < m) c.requires.bounds c.requires.unknown in
    let s = row_some c.args.unknown (length c.args.system.now.flow.points) (length c.args.system.now.template) u in
    omega (arith, n, k, s)

pub returns-in_err-value : goal.returns-in_err-value
returns-in_err-value c = λ z e h f site fault.
    let p = err_from_is_err_and c.from_residual.result c.from_residual.ensures.1 in
    let S = equations_of c.args.system.now in
    let row = get_or c.args.system.now.template (c.args.unknown % length c.args.system.now.template) [] in
    let number = z (c.args.unknown / length c.args.system.now.template) (c.args.unknown % length c.args.system.now.template) in
    let i = is_read site fault S c.args.paths.now c.requires.paths c.args.bounds.now z h c.args.edge e f c.args.rows.now c.args.guards.now
    c.args.unknown c.requires.unknown (extended c.at.result) c.at.ensures c.in-Fin.limit (ap extended c.in-Fin.is)
    (length c.as_slice.result.now) (ap (λ rs. length rs) c.as_slice.ensures.rows) c.row-end.result.now c.row-end.ensures
    c.as_slice-coeffs.result.now c.as_slice-coeffs.ensures in
    let a = wide_answer site (operation_of (λ q. q) c.in_err-value.field-0.0) in
    rw (p.1, p.2) (bound_stops site fault S z e c.args.rows.now c.args.guards.now row number c.in-Fin.limit i.finite
    c.as_slice-coeffs.result.now i.columns a (c.in_err-value.ensures z e h f site fault))

pub returns-in_default-2 : goal.returns-in_default-2
returns-in_default-2 c = λ z e h f site fault.
    let S = equations_of c.args.system.now in
    let row = get_or c.args.system.now.template (c.args.unknown % length c.args.system.now.template) [] in
    let number = z (c.args.unknown / length c.args.system.now.template) (c.args.unknown % length c.args.system.now.template) in
    let i = is_read site fault S c.args.paths.now c.requires.paths c.args.bounds.now z h c.args.edge e f c.args.rows.now c.args.guards.now
    c.args.unknown c.requires.unknown (extended c.at.result) c.at.ensures c.in-Fin.limit (ap extended c.in-Fin.is)
    (length c.as_slice.result.now) (ap (λ rs. length rs) c.as_slice.ensures.rows) c.row-end.result.now c.row-end.ensures
    c.as_slice-coeffs.result.now c.as_slice-coeffs.ensures in
    let es = combination_events site fault S z e c.args.rows.now c.args.guards.now c.as_slice-coeffs.result.now in
    let missed = found_none es fault (side S z e c.args.rows.now c.args.guards.now) c.in_ok-value.field-0 c.in_default-2.not-Some
    (c.in_ok-value.ensures z e h f site fault) in
    bound_stops site fault S z e c.args.rows.now c.args.guards.now row number c.in-Fin.limit i.finite c.as_slice-coeffs.result.now i.columns
    (fault_answer fault) missed

pub returns-in_err-most : goal.returns-in_err-most
returns-in_err-most c = λ z e h f site fault.
    let p = err_from_is_err_and c.from_residual-in_err-most.result c.from_residual-in_err-most.ensures.1 in
    let S = equations_of c.args.system.now in
    let row = get_or c.args.system.now.template (c.args.unknown % length c.args.system.now.template) [] in
    let number = z (c.args.unknown / length c.args.system.now.template) (c.args.unknown % length c.args.system.now.template) in
    let i = is_read site fault S c.args.paths.now c.requires.paths c.args.bounds.now z h c.args.edge e f c.args.rows.now c.args.guards.now
    c.args.unknown c.requires.unknown (extended c.at.result) c.at.ensures c.in-Fin.limit (ap extended c.in-Fin.is)
    (length c.as_slice.result.now) (ap (λ rs. length rs) c.as_slice.ensures.rows) c.row-end.result.now c.row-end.ensures
    c.as_slice-coeffs.result.now c.as_slice-coeffs.ensures in
    let es = combination_events site fault S z e c.args.rows.now c.args.guards.now c.as_slice-coeffs.result.now in
    let found = found_some es fault (side S z e c.args.rows.now c.args.guards.now) c.in_ok-value.field-0 c.in-Some.value c.in-Some.is
    (c.in_ok-value.ensures z e h f site fault) in
    let w = constant_added site fault S z e c.args.rows.now c.args.guards.now row number c.in-Some.value c.row-end.result.now.constant
    (Err c.in_err-most.field-0.0) found.0 i.constant c.in_err-most.ensures in
    rw (p.1, p.2) (bound_wide site fault S z e c.args.rows.now c.args.guards.now row number c.in-Fin.limit i.finite
    c.as_slice-coeffs.result.now i.columns found.1 (operation_of (λ q. q) c.in_err-most.field-0.0) w)

pub returns : goal.returns
returns c = λ z e h f site fault.
    let S = equations_of c.args.system.now in
    let row = get_or c.args.system.now.template (c.args.unknown % length c.args.system.now.template) [] in
    let number = z (c.args.unknown / length c.args.system.now.template) (c.args.unknown % length c.args.system.now.template) in
    let i = is_read site fault S c.args.paths.now c.requires.paths c.args.bounds.now z h c.args.edge e f c.args.rows.now c.args.guards.now
    c.args.unknown c.requires.unknown (extended c.at.result) c.at.ensures c.in-Fin.limit (ap extended c.in-Fin.is)
    (length c.as_slice.result.now) (ap (λ rs. length rs) c.as_slice.ensures.rows) c.row-end.result.now c.row-end.ensures
    c.as_slice-coeffs.result.now c.as_slice-coeffs.ensures in
    let found = found_some (combination_events site fault S z e c.args.rows.now c.args.guards.now c.as_slice-coeffs.result.now) fault
    (side S z e c.args.rows.now c.args.guards.now) c.in_ok-value.field-0 c.in-Some.value c.in-Some.is
    (c.in_ok-value.ensures z e h f site fault) in
    let w = constant_added site fault S z e c.args.rows.now c.args.guards.now row number c.in-Some.value c.row-end.result.now.constant
    (Ok c.in_ok-most.most) found.0 i.constant c.in_ok-most.ensures in
    let t = test_le c.in_ok-most.most c.in-Fin.limit c.le.result c.le.ensures in
    told_if (evidence_events site fault S z e row number (Bound c.args.rows.now c.args.guards.now)) fault c.le.result
    (λ l. bound_yes site fault S z e c.args.rows.now c.args.guards.now row number c.in-Fin.limit i.finite c.as_slice-coeffs.result.now
    i.columns found.1 w.1 c.in_ok-most.most w.0 (t.0 l))
    (λ l. bound_no site fault S z e c.args.rows.now c.args.guards.now row number c.in-Fin.limit i.finite c.as_slice-coeffs.result.now
    i.columns found.1 w.1 c.in_ok-most.most w.0 (λ j. true≢false (sym (t.1 j) ∙ l)))
    c.then_some.result c.then_some.ensures
