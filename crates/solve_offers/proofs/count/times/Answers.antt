use Rattle.std.proofs.Common.{◌∙◌, ◌*◌, ◌<◌, ap, subst, arith}
use Rattle.base_limits.specs.declared.limits.TheConstants.{MOST_IMPROVEMENTS}
use Rattle.solve_offers.proofs.count.Products.{power_more, power_passes}
use Rattle.solve_offers.proofs.count.times.Goals as goal

pub returns-then-total-limit : goal.returns-then-total-limit
returns-then-total-limit c =
    power_passes c.args.product c.args.factor c.times._k c.args.count MOST_IMPROVEMENTS c.requires.positive c.times-test.true
    (subst (λ t. MOST_IMPROVEMENTS < t * c.args.factor) c.times.invariant.power c.if-total-limit.true)

pub times-preserved : goal.times-preserved
times-preserved c = record {
  power = ap (λ t. t * c.args.factor) c.times.invariant.power ∙ power_more c.args.product c.args.factor c.times._k;
  small = (let h = c.if-total-limit.false in omega arith);
}
