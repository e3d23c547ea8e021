use Rattle.std.proofs.Common.{◌≡◌, ℕ, ◌<◌}
use Rattle.std.specs.Prelude.{None}
use Rattle.solve_offers.specs.Known.{HasEntries, IsPartOf, KeepsMarks, known_at}
use Rattle.solve_offers.proofs.known.forget_edge.Given as goal

abbrev pub invariant-loop-row : goal.invariant-loop-row
invariant-loop-row l = record {
  entries : HasEntries l.system l.known;
  gone : (row : ℕ) → row < l.row → known_at l.system l.known l.edge row ≡ None;
  part : IsPartOf l.known l.initial.known;
  marks : KeepsMarks l.initial.known l.known;
}
