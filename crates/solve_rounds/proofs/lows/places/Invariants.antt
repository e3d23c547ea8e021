use Rattle.std.proofs.Common.{◌≡◌, length}
use Rattle.solve_rounds.specs.Lows.{ArePlaces}
use Rattle.solve_rounds.proofs.lows.places.Given as goal

abbrev pub invariant-loop-place : goal.invariant-loop-place
invariant-loop-place l = record { size : length l.places.items ≡ l.count; places : ArePlaces l.raises l.places.items l.place }
