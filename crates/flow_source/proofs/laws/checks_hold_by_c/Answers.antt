use Rattle.flow_source.proofs.by_c.Kept.{checks_by_c}
use Rattle.flow_source.proofs.laws.checks_hold_by_c.Goals as goal

pub returns : goal.returns
returns c = checks_by_c
