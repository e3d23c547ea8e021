use Rattle.std.proofs.Common.{length}
use Rattle.flow_edges.proofs.checked.+deed_check_count.Given as goal

abbrev pub decreases-deed_check_count : goal.decreases-deed_check_count
decreases-deed_check_count l = length l.deeds.now
