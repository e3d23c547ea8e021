use Rattle.std.proofs.Common.{⊎_elim, ap, sym, ◌∙◌, arith}
use Rattle.base_numbers.specs.Gcd.{gcd as gcd_of}
use Rattle.base_numbers.proofs.gcd.Gcds.{gcd-zero}
use Rattle.base_numbers.proofs.gcd.Coprimes.{coprime-one, gcd_one_left, gcd_zero_left, odd_part, gcd_shifted}
use Rattle.base_fractions.proofs.divisor.gcd.Goals as goal

pub returns-then-a-eq1 : goal.returns-then-a-eq1
returns-then-a-eq1 c =
    ⊎_elim
    (λ e. sym (ap (λ x. gcd_of x c.args.b) e ∙ gcd_one_left c.args.b))
    (λ e. sym (ap (gcd_of c.args.a) e.1 ∙ (coprime-one c.args.a).one))
    c.then-a-eq1.either

pub returns-then-a-eq0 : goal.returns-then-a-eq0
returns-then-a-eq0 c = sym (ap (λ x. gcd_of x c.args.b) c.if-a-eq0.true ∙ gcd_zero_left c.args.b)

pub returns-then-b-eq0 : goal.returns-then-b-eq0
returns-then-b-eq0 c = sym (gcd-zero c.args.a c.args.b c.if-b-eq0.true)

pub odd_gcd-odd-requires-clause-a_odd : goal.odd_gcd-odd-requires-clause-a_odd
odd_gcd-odd-requires-clause-a_odd c = (odd_part 64 c.args.a (omega (arith, c.if-a-eq0.false)) c.ranges.a.fits).1

pub odd_gcd-odd-requires-clause-b_odd : goal.odd_gcd-odd-requires-clause-b_odd
odd_gcd-odd-requires-clause-b_odd c = (odd_part 64 c.args.b (omega (arith, c.if-b-eq0.false)) c.ranges.b.fits).1

pub returns : goal.returns
returns c =
    gcd_shifted c.args.a c.args.b c.odd_gcd-odd.result c.min.result (omega (arith, c.if-a-eq0.false)) (omega (arith, c.if-b-eq0.false))
    c.ranges.a.fits c.ranges.b.fits c.odd_gcd-odd.ensures c.min.ensures
