use Rattle.std.proofs.Common.{◌≡◌, ◌++◌, length, map}
use Rattle.cert_types.specs.Certificates.{evidence_of}
use Rattle.solve_offers.specs.Incoming.{numbers_at}
use Rattle.solve_offers.specs.Known.{AreKnown}
use Rattle.solve_rounds.proofs.uppers.UpperLists.{uppers_to}
use Rattle.solve_rounds.proofs.uppers.push_into.Given as goal

abbrev pub invariant-loop-place : goal.invariant-loop-place
invariant-loop-place l = record {
  uppers : map evidence_of l.uppers.items ≡ map evidence_of l.initial.uppers.items
      ++ uppers_to l.at.system.now l.at.bounds.now l.row
      (numbers_at (length l.at.system.now.flow.points) l.at.system.now.flow.edges l.point) l.place;
  known : AreKnown l.at.system.now l.at.bounds.now l.known;
}
