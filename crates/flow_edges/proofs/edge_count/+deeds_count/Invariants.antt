use Rattle.std.proofs.Common.{length}
use Rattle.flow_edges.proofs.edge_count.+deeds_count.Given as goal

abbrev pub decreases-deeds_count : goal.decreases-deeds_count
decreases-deeds_count l = length l.deeds.now
