use Rattle.std.proofs.Common.{◌∙◌, ap, sym}
use Rattle.base_numbers.specs.Gcd.{gcd}
use Rattle.base_numbers.proofs.gcd.Coprimes.{halved_gcd, gcd_self}
use Rattle.base_fractions.proofs.divisor.odd_gcd.Goals as goal

pub loop-x-preserved : goal.loop-x-preserved
loop-x-preserved c =
    let i = c.loop-x.invariant in
    let h = halved_gcd 64 c.loop-x.x c.loop-x.y c.min-x.result c.abs_diff-gap.result i.x_odd i.y_odd c.loop-x-test.true
    c.abs_diff-gap.type_inv c.min-x.ensures c.abs_diff-gap.ensures in
    record { same = h.0 ∙ i.same; x_odd = h.1; y_odd = h.2 }

pub returns : goal.returns
returns c = sym (gcd_self c.loop-x.x) ∙ ap (gcd c.loop-x.x) c.loop-x-test.false ∙ c.loop-x.invariant.same
