use Rattle.std.proofs.Common.{◌≡◌, ◌∙◌, ◌/◌, ◌%◌, ◌<◌, length, sym, ap, subst, arith}
use Rattle.std.proofs.lemmas.List.{length-map}
use Rattle.base_fractions.specs.Extended.{extended}
use Rattle.flow_systems.specs.View.{equations_of}
use Rattle.theory_validity.specs.Certificates.{needs_at}
use Rattle.cert_checker.proofs.size.Counts.{CountLeft, count_first, count_more, count_all}
use Rattle.cert_checker.proofs.events.Numbers.{bound_of}
use Rattle.cert_checker.proofs.size.count_needed.Goals as goal

pub loop-unknown-init : goal.loop-unknown-init
loop-unknown-init c = record {
  few = omega arith;
  left = λ z h. subst (λ n. CountLeft (equations_of c.args.system.now) z n 0) (ap (λ t. length t) (sym c.as_slice.ensures.rows))
      (count_first (equations_of c.args.system.now) z);
}

pub loop-unknown-preserved : goal.loop-unknown-preserved
loop-unknown-preserved c = record {
  few = (let a = c.loop-unknown.invariant.few in let b = c.count_at-count.ensures.few in omega (arith, a, b));
  left = λ z h.
      let S = equations_of c.args.system.now in
      let u = c.loop-unknown.unknown in
      let w = length c.args.system.now.template in
      let m = length-map c.as_slice-2.result.now extended in
      let b = ap (λ bs. length bs) c.as_slice-2.ensures in
      let t = c.loop-unknown-test.true in
      let l : u < length c.args.bounds.now = omega (arith, m, b, t) in
      let at : extended c.at.result ≡ z (u / w) (u % w) = c.at.ensures ∙ bound_of S c.args.bounds.now z h u l in
      count_more S z u c.loop-unknown.count c.count_at-count.result (let r = c.requires in omega (arith, l, r))
      (c.count_at-count.ensures.count ∙ ap (λ v. length (needs_at S (u / w) (u % w) v)) at) (c.loop-unknown.invariant.left z h);
}

pub returns : goal.returns
returns c = λ z h.
    let m = length-map c.as_slice-2.result.now extended in
    let b = ap (λ bs. length bs) c.as_slice-2.ensures in
    let r = c.requires in
    let t = c.loop-unknown-test.false in
    count_all (equations_of c.args.system.now) z c.loop-unknown.unknown c.loop-unknown.count (omega (arith, m, b, r, t))
    (c.loop-unknown.invariant.left z h)
