use Rattle.std.proofs.Common.{◌∙◌, ◌+◌, ◌∷◌, length, ap, sym, arith}
use Rattle.std.proofs.lemmas.List.{length-map}
use Rattle.base_fractions.specs.Extended.{extended}
use Rattle.flow_systems.specs.View.{equations_of}
use Rattle.cert_checker.specs.Needs.{need_of}
use Rattle.cert_checker.proofs.needs.Left.{left_end, left_found, left_passed}
use Rattle.cert_checker.proofs.needs.Needed.next.Goals as goal

pub returns-in-Some-clause-next : goal.returns-in-Some-clause-next
returns-in-Some-clause-next c = λ z h.
    let S = equations_of c.args.system.now in
    let u = c.loop-unknown.unknown in
    let k = c.in-Some.found in
    let need = need_of S (record { unknown = u; edge = k }) in
    let found = c.in-Some.ensures.found z h in
    let m = length-map c.as_slice.result.now extended in
    let b = ap (λ bs. length bs) c.as_slice.ensures in
    let r = c.requires in
    let t = c.loop-unknown-test.true in
    record {
      ends = found.0.ends;
      left = c.loop-unknown.invariant z h
          ∙ left_found S z u c.loop-unknown.edge (k + 1) need (omega (arith, m, b, r, t))
          (found.1 c.loop-unknown.edge ∙ found.0.left ∙ ap (λ ns. need ∷ ns) (sym (found.1 (k + 1))));
    }

pub loop-unknown-preserved : goal.loop-unknown-preserved
loop-unknown-preserved c = λ z h.
    let m = length-map c.as_slice.result.now extended in
    let b = ap (λ bs. length bs) c.as_slice.ensures in
    let r = c.requires in
    let t = c.loop-unknown-test.true in
    c.loop-unknown.invariant z h
    ∙ left_passed (equations_of c.args.system.now) z c.loop-unknown.unknown c.loop-unknown.edge (omega (arith, m, b, r, t))
    (c.in_default.ensures.found z h)

pub returns-clause-next : goal.returns-clause-next
returns-clause-next c = λ z h.
    let m = length-map c.as_slice.result.now extended in
    let b = ap (λ bs. length bs) c.as_slice.ensures in
    let r = c.requires in
    let t = c.loop-unknown-test.false in
    c.loop-unknown.invariant z h
    ∙ left_end (equations_of c.args.system.now) z c.loop-unknown.unknown c.loop-unknown.edge (omega (arith, m, b, r, t))
