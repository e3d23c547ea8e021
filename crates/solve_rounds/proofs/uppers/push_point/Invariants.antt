use Rattle.std.proofs.Common.{◌≡◌, ◌++◌, map}
use Rattle.flow_systems.specs.View.{equations_of}
use Rattle.cert_types.specs.Certificates.{evidence_of}
use Rattle.solve_offers.specs.AtBounds.{vector_at}
use Rattle.solve_offers.specs.Known.{AreKnown}
use Rattle.solve_rounds.specs.Uppers.{uppers_of_rows}
use Rattle.solve_rounds.proofs.uppers.push_point.Given as goal

abbrev pub invariant-loop-row : goal.invariant-loop-row
invariant-loop-row l = record {
  uppers : map evidence_of l.uppers.items ≡ map evidence_of l.initial.uppers.items
      ++ uppers_of_rows (equations_of l.at.system.now) (vector_at l.at.system.now l.at.bounds.now) l.point l.row;
  known : AreKnown l.at.system.now l.at.bounds.now l.known;
}
