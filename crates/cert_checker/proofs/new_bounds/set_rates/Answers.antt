use Rattle.std.proofs.Common.{◌≡◌, ◌∙◌, ◌-◌, length, drop, refl, sym, ap, subst, arith}
use Rattle.std.proofs.lemmas.List.{length-set}
use Rattle.base_numbers.specs.Extended.{fin}
use Rattle.cert_types.specs.Certificates.{step_of}
use Rattle.theory_validity.specs.Steps.{put}
use Rattle.cert_checker.specs.StepEvents.{allowance}
use Rattle.cert_checker.specs.Stands.{Stands}
use Rattle.cert_checker.proofs.names.Items.{items_count, settled_none, settled_more, rates_start}
use Rattle.cert_checker.proofs.new_bounds.set_rates.Goals as goal

pub loop-k-init : goal.loop-k-init
loop-k-init c = record {
  within = omega (arith, c.count-k.ensures);
  size = refl;
  settled = λ system z h.
      let items = (step_of (length system.template) c.args.step.now).items in
      settled_none system c.free_rates.new.rates (λ p r. allowance (z p r)) (λ i. fin i.number) items c.count-k.result
      (let e = items_count (length system.template) c.args.step.now in omega (arith, e, c.count-k.ensures))
      (rates_start system c.args.base.now c.free_rates.new.rates z h (c.free_rates.ensures.size ∙ c.requires.size)
      c.free_rates.ensures.rates);
}

pub loop-k-preserved : goal.loop-k-preserved
loop-k-preserved c = record {
  within = omega (arith, c.loop-k.invariant.within);
  size = ap (λ b. length b) c.place.ensures ∙ length-set c.loop-k.rates c.unknown_at.result (fin c.number_at.result)
      ∙ c.loop-k.invariant.size;
  settled = λ system z h.
      let items = (step_of (length system.template) c.args.step.now).items in
      subst (λ b. Stands system b (put (λ i. fin i.number) (drop (c.loop-k.k - 1) items) (λ p r. allowance (z p r)))) (sym c.place.ensures)
      (settled_more system c.loop-k.rates (λ p r. allowance (z p r)) (λ i. fin i.number) items c.loop-k.k c.unknown_at.result
      (fin c.number_at.result) c.loop-k-test.true
      (let e = items_count (length system.template) c.args.step.now in omega (arith, e, c.loop-k.invariant.within))
      (c.unknown_at.ensures.point (length system.template)) (c.unknown_at.ensures.row (length system.template))
      (ap fin (sym (c.number_at.ensures (length system.template)))) (c.loop-k.invariant.settled system z h));
}

pub returns-clause-rates : goal.returns-clause-rates
returns-clause-rates c = λ system z h.
    let items = (step_of (length system.template) c.args.step.now).items in
    let e : c.loop-k.k ≡ 0 = let l = c.loop-k-test.false in omega (arith, l) in
    subst (λ n. Stands system c.loop-k.rates (put (λ i. fin i.number) (drop n items) (λ p r. allowance (z p r)))) e
    (c.loop-k.invariant.settled system z h)
