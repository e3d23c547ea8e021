use Rattle.source_groups.proofs.Once.{grouping_once}
use Rattle.source_groups.proofs.laws.one_grouping.Goals as goal

pub returns : goal.returns
returns c = grouping_once
