use Rattle.std.proofs.Common.{length}
use Rattle.flow_edges.proofs.checked.+add_deed_checks.Given as goal

abbrev pub decreases-add_deed_checks : goal.decreases-add_deed_checks
decreases-add_deed_checks l = length l.deeds.now
