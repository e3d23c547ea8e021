use Rattle.std.proofs.Common.{length}
use Rattle.flow_edges.proofs.deed_walk.+along_deeds.Given as goal

abbrev pub decreases-along_deeds : goal.decreases-along_deeds
decreases-along_deeds l = length l.deeds.now
