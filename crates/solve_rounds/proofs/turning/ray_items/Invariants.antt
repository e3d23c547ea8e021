use Rattle.std.proofs.Common.{◌≡◌, map, take}
use Rattle.solve_rounds.specs.Turning.{ray_item_of}
use Rattle.solve_rounds.proofs.turning.ray_items.Given as goal

abbrev pub invariant-loop-rate : goal.invariant-loop-rate
invariant-loop-rate l = l.items.items ≡ map (ray_item_of l.raises l.places) (take l.rate-index l.rates)
