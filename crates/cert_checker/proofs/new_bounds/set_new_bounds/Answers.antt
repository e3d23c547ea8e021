use Rattle.std.proofs.Common.{◌≡◌, ◌∙◌, ◌-◌, length, drop, refl, sym, ap, subst, arith}
use Rattle.std.proofs.lemmas.List.{length-set}
use Rattle.base_fractions.specs.Extended.{extended}
use Rattle.cert_types.specs.Certificates.{step_of}
use Rattle.theory_validity.specs.Steps.{new_value, put}
use Rattle.cert_checker.specs.Stands.{Stands}
use Rattle.cert_checker.proofs.names.Items.{items_count, settled_none, settled_more}
use Rattle.cert_checker.proofs.new_bounds.set_new_bounds.Goals as goal

pub loop-k-init : goal.loop-k-init
loop-k-init c = record {
  within = omega (arith, c.count-k.ensures);
  size = refl;
  settled = λ system z h.
      let theirs = step_of (length system.template) c.args.step.now in
      settled_none system c.args.bounds.now z (new_value theirs.kind) theirs.items c.count-k.result
      (let e = items_count (length system.template) c.args.step.now in omega (arith, e, c.count-k.ensures)) h;
}

pub loop-k-preserved : goal.loop-k-preserved
loop-k-preserved c = record {
  within = omega (arith, c.loop-k.invariant.within);
  size = ap (λ b. length b) c.place.ensures ∙ length-set c.loop-k.bounds c.unknown_at.result (extended c.new_bound.result)
      ∙ c.loop-k.invariant.size;
  settled = λ system z h.
      let theirs = step_of (length system.template) c.args.step.now in
      let value = new_value theirs.kind in
      subst (λ b. Stands system b (put value (drop (c.loop-k.k - 1) theirs.items) z)) (sym c.place.ensures)
      (settled_more system c.loop-k.bounds z value theirs.items c.loop-k.k c.unknown_at.result (extended c.new_bound.result)
      c.loop-k-test.true
      (let e = items_count (length system.template) c.args.step.now in omega (arith, e, c.loop-k.invariant.within))
      (c.unknown_at.ensures.point (length system.template)) (c.unknown_at.ensures.row (length system.template))
      (c.new_bound.ensures (length system.template)) (c.loop-k.invariant.settled system z h));
}

pub returns-clause-settled : goal.returns-clause-settled
returns-clause-settled c = λ system z h.
    let theirs = step_of (length system.template) c.args.step.now in
    let e : c.loop-k.k ≡ 0 = let l = c.loop-k-test.false in omega (arith, l) in
    subst (λ n. Stands system c.loop-k.bounds (put (new_value theirs.kind) (drop n theirs.items) z)) e
    (c.loop-k.invariant.settled system z h)
