use Rattle.base_fractions.specs.Extended.{extended}
use Rattle.solve_offers.proofs.offers.Offered.{tested}
use Rattle.solve_offers.proofs.offer.exceeds.Goals as goal

pub returns : goal.returns
returns c = tested (extended c.args.bound) (extended c.args.value) c.lt.result c.lt.ensures
