use Rattle.std.proofs.Common.{◌+◌, length}
use Rattle.solve_joint.specs.Searches.{missing}
use Rattle.solve_joint.proofs.closure.Finding.{IsSearch}
use Rattle.solve_joint.proofs.closure.reached.Given as goal

abbrev pub invariant-going : goal.invariant-going
invariant-going l = IsSearch l.points l.steps l.point l.search.found l.search.open.items

abbrev pub decreases-going : goal.decreases-going
decreases-going l = missing l.search.found + missing l.search.found + length l.search.open.items
