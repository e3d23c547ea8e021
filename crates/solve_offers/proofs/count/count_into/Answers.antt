use Rattle.std.proofs.Common.{rules}
use Rattle.solve_offers.proofs.count.Products.{length-edges_into}
use Rattle.solve_offers.proofs.count.count_into.Goals as goal

pub returns-clause-count : goal.returns-clause-count
returns-clause-count c = rw length-edges_into (search rules)
