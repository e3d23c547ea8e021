use Rattle.std.proofs.Common.{◌≡◌, map}
use Rattle.std.specs.List.{range_with_len}
use Rattle.solve_rounds.specs.Turning.{jump_item_at}
use Rattle.solve_rounds.proofs.turning.jump_items.Given as goal

abbrev pub invariant-loop-k : goal.invariant-loop-k
invariant-loop-k l = l.items.items ≡ map (jump_item_at l.raises l.places l.list l.to l.highs) (range_with_len 0 l.k)
