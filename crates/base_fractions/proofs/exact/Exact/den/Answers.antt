use Rattle.base_fractions.proofs.exact.Kept.{kept_fits, read_den}
use Rattle.base_fractions.proofs.exact.Exact.den.Goals as goal

pub returns-clause-value : goal.returns-clause-value
returns-clause-value g c = read_den c.self.invariant c.self.view_is g.L.Limit.limit_high

pub returns-clause-fits : goal.returns-clause-fits
returns-clause-fits g c = kept_fits c.self.invariant c.self.view_is
