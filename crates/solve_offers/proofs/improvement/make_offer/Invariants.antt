use Rattle.std.proofs.Common.{◌≡◌, length, map, take}
use Rattle.base_fractions.specs.Extended.{extended}
use Rattle.solve_offers.specs.AtBounds.{transformers, vector_at, edge_at, row_at}
use Rattle.solve_offers.specs.Incoming.{numbers_at}
use Rattle.solve_offers.specs.Known.{AreKnown}
use Rattle.solve_offers.proofs.improvement.make_offer.Given as goal

abbrev pub invariant-loop-place : goal.invariant-loop-place
invariant-loop-place l = record {
  numbers : l.edges.items ≡ take l.place (numbers_at (length l.at.system.now.flow.points) l.at.system.now.flow.edges l.point);
  values : map extended l.values.items
      ≡ map (λ k. transformers l.at.system.now (vector_at l.at.system.now l.at.bounds.now)
      (edge_at l.at.system.now k) (row_at l.at.system.now l.row))
      (take l.place (numbers_at (length l.at.system.now.flow.points) l.at.system.now.flow.edges l.point));
  known : AreKnown l.at.system.now l.at.bounds.now l.known;
}
