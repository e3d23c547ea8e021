use Rattle.std.proofs.Common.{◌≡◌, ◌∙◌, true≢false, sym, subst, below_more, arith, length, map, get_or}
use Rattle.std.proofs.lemmas.List.{length-map}
use Rattle.base_numbers.specs.Extended.{neg_inf, ◌≤ᴱ◌, ◌<ᴱ◌}
use Rattle.base_fractions.specs.Extended.{extended}
use Rattle.solve_offers.proofs.offers.Offered.{not_below, value_read, none_exceeds}
use Rattle.solve_offers.proofs.policy.first.Goals as goal

pub loop-k-preserved : goal.loop-k-preserved
loop-k-preserved c =
    let here = value_read c.as_slice-values.result.now c.loop-k.k c.index-values-k.result c.loop-k-test.true c.index-values-k.is in
    below_more _ _ c.loop-k.invariant
    (subst (λ v. v ≤ᴱ extended c.args.offer.now.bound) (sym here)
    (not_below (extended c.args.offer.now.bound) (extended c.index-values-k.result)
    (λ h. true≢false (sym (c.exceeds.ensures.1 h) ∙ c.if-exceeds.false))))

pub unreachable-requires : goal.unreachable-requires
unreachable-requires c =
    let xs = c.as_slice-values.result.now in
    none_exceeds (map extended xs) (extended c.args.offer.now.bound) (λ j l. c.loop-k.invariant j
    (let n : length (map extended xs) ≡ length xs = length-map xs extended in let t = c.loop-k-test.false in omega arith))
    c.requires.0 (subst (λ v. extended c.args.offer.now.bound <ᴱ get_or v c.requires.0 neg_inf) (sym c.as_slice-values.ensures)
    c.requires.1)

pub returns-then-exceeds : goal.returns-then-exceeds
returns-then-exceeds c =
    let xs = c.as_slice-values.result.now in
    let bound = extended c.args.offer.now.bound in
    let here = value_read xs c.loop-k.k c.index-values-k.result c.loop-k-test.true c.index-values-k.is in
    record {
      exceeds = subst (λ v. bound <ᴱ get_or v c.loop-k.k neg_inf) c.as_slice-values.ensures
          (subst (λ v. bound <ᴱ v) (sym here) (c.exceeds.ensures.0 c.if-exceeds.true));
      first = λ j l. subst (λ v. get_or v j neg_inf ≤ᴱ bound) c.as_slice-values.ensures (c.loop-k.invariant j l);
    }
