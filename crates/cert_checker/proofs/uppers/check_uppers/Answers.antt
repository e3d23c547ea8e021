use Rattle.std.proofs.Common.{◌≡◌, ◌∙◌, ℕ, ◌+◌, ◌<◌, List, [], length, map, get_or, sym, ap, subst, arith}
use Rattle.std.specs.Prelude.{Result, Ok, Err}
use Rattle.std.proofs.lemmas.Result.{err_from_is_err_and}
use Rattle.std.proofs.lemmas.List.{length-map, get_or-map}
use Rattle.flow_systems.specs.View.{equations_of}
use Rattle.cert_types.specs.declared.upper.Upper.{Upper}
use Rattle.cert_types.specs.Certificates.{evidence_of}
use Rattle.theory_validity.specs.Certificates.{needs}
use Rattle.cert_checker.specs.declared.fault.CheckFault.{CheckFault}
use Rattle.cert_checker.specs.CheckEvents.{uppers_events}
use Rattle.cert_checker.specs.Events.{Event, IsRun, first_stop}
use Rattle.cert_checker.specs.Needs.{needs_left}
use Rattle.cert_checker.proofs.events.Supply.{UppersLeft, uppers_enough, uppers_more, uppers_out, uppers_stop}
use Rattle.cert_checker.proofs.uppers.check_uppers.Goals as goal

-- a piece of evidence of the code, as the one that it stands for
there : (uppers : List Upper) (i : ℕ) (upper : Upper) → i < length uppers → upper ≡ get_or uppers i upper →
    (i < length (map evidence_of uppers)) × (evidence_of upper ≡ get_or (map evidence_of uppers) i (evidence_of upper))
there uppers i upper l is = (
  (let m = length-map uppers evidence_of in omega (arith, m, l)),
  ap evidence_of is ∙ sym (get_or-map evidence_of uppers i upper (evidence_of upper) l),
)

-- an answer about the same first stop
run_same : (events others : List Event) → first_stop events ≡ first_stop others → (result : Result (Unit {0}) CheckFault)
    → IsRun (λ u. Unit {0}) others result → IsRun (λ u. Unit {0}) events result
run_same events others e (Ok u) h = (tt, e ∙ h.1)
run_same events others e (Err f) h = e ∙ h

pub loop-upper-init : goal.loop-upper-init
loop-upper-init c = λ z h.
    let S = equations_of c.args.system.now in
    ap (λ ns. first_stop (uppers_events S z ns (map evidence_of c.args.uppers.now))) (sym (c.first-from.ensures z))

pub returns-in-None : goal.returns-in-None
returns-in-None c = λ z h.
    let S = equations_of c.args.system.now in (
      tt,
      uppers_enough S z (map evidence_of c.args.uppers.now) c.loop-upper.from c.loop-upper.upper-index (c.loop-upper.invariant z h)
          (c.in-None.ensures.next z h),
    )

pub returns-in_err-check_upper-in-Some : goal.returns-in_err-check_upper-in-Some
returns-in_err-check_upper-in-Some c = λ z h.
    let S = equations_of c.args.system.now in
    let i = c.loop-upper.upper-index in
    let at = there c.args.uppers.now i c.upper-item.result c.loop-upper-test.true c.upper-item.is in
    let next = c.in-Some.ensures.next z h in
    let q = err_from_is_err_and c.from_residual.result c.from_residual.ensures.1 in
    rw (q.1, q.2)
    (uppers_stop S z (map evidence_of c.args.uppers.now) c.loop-upper.from i (c.loop-upper.invariant z h) c.in-Some.needed next
    (evidence_of c.upper-item.result) at.0 at.1 c.in_err-check_upper-in-Some.field-0.0
    (c.in_err-check_upper-in-Some.ensures z h next.ends))

pub loop-upper-preserved : goal.loop-upper-preserved
loop-upper-preserved c = λ z h.
    let S = equations_of c.args.system.now in
    let i = c.loop-upper.upper-index in
    let es = map evidence_of c.args.uppers.now in
    let at = there c.args.uppers.now i c.upper-item.result c.loop-upper-test.true c.upper-item.is in
    let next = c.in-Some.ensures.next z h in
    subst (λ from. UppersLeft S z es from (i + 1)) (sym c.after-from.ensures) (uppers_more S z es c.loop-upper.from i
    (c.loop-upper.invariant z h) c.in-Some.needed next (evidence_of c.upper-item.result) at.0 at.1
    (c.in_ok-check_upper-in-Some.ensures z h next.ends).1)

pub returns : goal.returns
returns c = λ z h.
    let S = equations_of c.args.system.now in
    let es = map evidence_of c.args.uppers.now in
    let m = length-map c.args.uppers.now evidence_of in
    let t = c.loop-upper-test.false in
    run_same (uppers_events S z (needs S z) es) (uppers_events S z (needs_left S z c.loop-upper.from) [])
    (uppers_out S z es c.loop-upper.from c.loop-upper.upper-index (c.loop-upper.invariant z h) (omega (arith, m, t))) c.check_end.result
    (c.check_end.ensures z h)
