use Rattle.std.proofs.Common.{FitsSigned, w64, rules}
use Rattle.base_fractions.proofs.exact.Kept.{kept_fits, read_num}
use Rattle.base_fractions.proofs.exact.Exact.num.Goals as goal

pub returns-clause-value : goal.returns-clause-value
returns-clause-value g c =
    let f : FitsSigned w64 c.self.inside.num = search rules in
    read_num c.self.invariant c.self.view_is f

pub returns-clause-fits : goal.returns-clause-fits
returns-clause-fits g c = kept_fits c.self.invariant c.self.view_is
