use Rattle.std.proofs.Common.{◌≡◌, ◌∙◌, true≢false, sym, subst, below_more, arith, length, map, get_or}
use Rattle.std.proofs.lemmas.List.{length-map}
use Rattle.base_numbers.specs.Extended.{neg_inf, ◌≤ᴱ◌, ◌<ᴱ◌}
use Rattle.base_fractions.specs.Extended.{extended}
use Rattle.solve_offers.proofs.offers.Offered.{not_below, value_read, none_exceeds}
use Rattle.solve_offers.proofs.offer.Offer.some_exceeds.Goals as goal

pub loop-value-preserved : goal.loop-value-preserved
loop-value-preserved c =
    let here = value_read c.as_slice-value-items.result.now c.loop-value.value-index c.value-item.result c.loop-value-test.true
    c.value-item.is in
    below_more _ _ c.loop-value.invariant
    (subst (λ v. v ≤ᴱ extended c.args.self.now.bound) (sym here)
    (not_below (extended c.args.self.now.bound) (extended c.value-item.result)
    (λ h. true≢false (sym (c.exceeds.ensures.1 h) ∙ c.if-exceeds.false))))

pub returns : goal.returns
returns c =
    let xs = c.as_slice-value-items.result.now in
    let bound = extended c.args.self.now.bound in (
      λ h. absurd (true≢false (sym h)),
      λ h. absurd (none_exceeds (map extended xs) bound (λ j l. c.loop-value.invariant j
          (let n : length (map extended xs) ≡ length xs = length-map xs extended in let t = c.loop-value-test.false in omega arith))
          h.0 (subst (λ v. bound <ᴱ get_or v h.0 neg_inf) (sym c.as_slice-value-items.ensures) h.1)),
    )
