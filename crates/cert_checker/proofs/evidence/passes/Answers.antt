use Rattle.std.proofs.Common.{◌≡◌, ◌∙◌, ◌/◌, ◌%◌, [], length, get_or, true≢false, sym, ap, ap₂, subst}
use Rattle.cert_types.specs.Certificates.{evidence_of}
use Rattle.flow_systems.specs.View.{equations_of}
use Rattle.theory_validity.specs.Certificates.{Evidence, Bound, Empty, Unreached}
use Rattle.cert_checker.specs.Events.{Answers}
use Rattle.cert_checker.specs.EvidenceEvents.{evidence_events}
use Rattle.cert_checker.proofs.evidence.Events.{unreached_yes, unreached_no}
use Rattle.cert_checker.proofs.evidence.Sums.{Told, told_if}
use Rattle.cert_checker.proofs.evidence.passes.Goals as goal

pub returns-in-Bound : goal.returns-in-Bound
returns-in-Bound c = λ z e h f.
    let S = equations_of c.args.system.now in
    let T = c.args.system.now.template in
    let r = c.args.unknown % length T in
    let q : Bound c.as_slice.result.now c.as_slice-in-Bound.result.now ≡ evidence_of c.args.upper.now =
    ap₂ Bound c.as_slice.ensures c.as_slice-in-Bound.ensures ∙ ap evidence_of (sym c.in-Bound.is) in
    subst (λ (v : Evidence). Answers (λ u. Unit {0}) (λ site fault. evidence_events site fault S z e (get_or T r [])
    (z (c.args.unknown / length T) r) v) c.bound_passes.result) q (c.bound_passes.ensures z e h f)

pub returns-in-Empty : goal.returns-in-Empty
returns-in-Empty c = λ z e h f.
    let S = equations_of c.args.system.now in
    let T = c.args.system.now.template in
    let r = c.args.unknown % length T in
    let number = z (c.args.unknown / length T) r in
    let q : Empty c.as_slice-in-Empty.result.now c.as_slice-in-Empty-2.result.now ≡ evidence_of c.args.upper.now =
    ap₂ Empty c.as_slice-in-Empty.ensures c.as_slice-in-Empty-2.ensures ∙ ap evidence_of (sym c.in-Empty.is) in
    subst (λ (v : Evidence). Answers (λ u. Unit {0}) (λ site fault. evidence_events site fault S z e (get_or T r []) number v)
    c.empty_passes.result) q (c.empty_passes.ensures z e (get_or T r []) number h f)

pub returns-in-Unreached : goal.returns-in-Unreached
returns-in-Unreached c = λ z e h f site fault.
    let S = equations_of c.args.system.now in
    let T = c.args.system.now.template in
    let r = c.args.unknown % length T in
    let number = z (c.args.unknown / length T) r in
    let q : Unreached c.in-Unreached.row ≡ evidence_of c.args.upper.now = ap evidence_of (sym c.in-Unreached.is) in
    let told = c.is_unreached.ensures z e h f in
    subst (λ (v : Evidence). Told (evidence_events site fault S z e (get_or T r []) number v) fault c.then_some.result) q
    (told_if (evidence_events site fault S z e (get_or T r []) number (Unreached c.in-Unreached.row)) fault c.is_unreached.result
    (λ t. unreached_yes site fault S z e (get_or T r []) number c.in-Unreached.row (told.0 t))
    (λ t. unreached_no site fault S z e (get_or T r []) number c.in-Unreached.row (λ k. true≢false (sym (told.1 k) ∙ t)))
    c.then_some.result c.then_some.ensures)
