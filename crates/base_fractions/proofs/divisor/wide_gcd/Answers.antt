use Rattle.std.proofs.Common.{ap, sym, ◌∙◌, ◌%◌, nat_abs, to_z-of_z}
use Rattle.base_numbers.specs.Gcd.{gcd as gcd_of}
use Rattle.base_numbers.proofs.gcd.Gcds.{gcd-step}
use Rattle.base_numbers.proofs.gcd.Coprimes.{coprime-one, gcd_comm}
use Rattle.base_fractions.proofs.divisor.wide_gcd.Goals as goal

pub returns-then-g-eq1 : goal.returns-then-g-eq1
returns-then-g-eq1 c = sym (ap (gcd_of (nat_abs c.args.t)) c.if-g-eq1.true ∙ (coprime-one (nat_abs c.args.t)).one)

pub returns : goal.returns
returns c =
    c.gcd.ensures ∙ ap (λ x. gcd_of x c.args.g) c.rest.ensures ∙ gcd_comm (c.unsigned_abs.result % c.args.g) c.args.g
    ∙ gcd-step c.unsigned_abs.result c.args.g
    ∙ ap (λ x. gcd_of x c.args.g) (c.unsigned_abs.ensures.value ∙ ap nat_abs (to_z-of_z c.ranges.t))
