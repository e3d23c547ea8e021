use Rattle.flow_source.proofs.by_c.Kept.{bounds_by_c}
use Rattle.flow_source.proofs.laws.bounds_hold_by_c.Goals as goal

pub returns : goal.returns
returns c = bounds_by_c
