use Rattle.std.proofs.Common.{length}
use Rattle.flow_edges.proofs.wide.+wide_deed.Given as goal

abbrev pub decreases-wide_deed : goal.decreases-wide_deed
decreases-wide_deed l = length l.deeds.now
