use Rattle.std.proofs.Common.{◌≡◌, ◌∙◌, ◌*◌, nat_abs, ap, arith, rules}
use Rattle.flow_rationals.specs.WrittenSums.{lcm}
use Rattle.flow_rationals.proofs.written_sums.Fractions.{multiple_is}
use Rattle.flow_rationals.proofs.reading.scaled.common_multiple.Goals as goal

pub returns-then-multiple-le-GREATEST : goal.returns-then-multiple-le-GREATEST
returns-then-multiple-le-GREATEST c =
    let p : c.unsigned_abs-part.result ≡ nat_abs c.num.result = search rules in
    let e : c.unsigned_abs-part.result * c.args.right ≡ lcm c.args.left c.args.right =
    ap (λ t. t * c.args.right) p ∙ multiple_is c.args.left c.args.right c.quotient.result c.num.result c.requires.right c.quotient.ensures
    c.num.ensures.value in
    (c.in-Some.ensures.1 ∙ e, c.if-multiple-le-GREATEST.true)

pub returns-else-multiple-le-GREATEST : goal.returns-else-multiple-le-GREATEST
returns-else-multiple-le-GREATEST c =
    let p : c.unsigned_abs-part.result ≡ nat_abs c.num.result = search rules in
    let e : c.unsigned_abs-part.result * c.args.right ≡ lcm c.args.left c.args.right =
    ap (λ t. t * c.args.right) p ∙ multiple_is c.args.left c.args.right c.quotient.result c.num.result c.requires.right c.quotient.ensures
    c.num.ensures.value in
    omega (arith, c.in-Some.ensures, e)

pub returns-in-None : goal.returns-in-None
returns-in-None c =
    let p : c.unsigned_abs-part.result ≡ nat_abs c.num.result = search rules in
    let e : c.unsigned_abs-part.result * c.args.right ≡ lcm c.args.left c.args.right =
    ap (λ t. t * c.args.right) p ∙ multiple_is c.args.left c.args.right c.quotient.result c.num.result c.requires.right c.quotient.ensures
    c.num.ensures.value in
    omega (arith, c.in-None.ensures, e)
