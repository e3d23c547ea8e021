-- The edges into each point.
use Rattle.std.specs.Prelude.{ℕ, List, [], map, get_or}
use Rattle.std.specs.List.{range_with_len}
use Rattle.flow_edges.specs.declared.edge.Edge.{Edge}
use Rattle.solve_offers.specs.Improvement.{numbers_into}

-- for each of so many points, the numbers of the edges that end there, rising
abbrev pub numbers_by_point : ℕ → List Edge → List (List ℕ)
numbers_by_point points edges = map (λ p. numbers_into p 0 edges) (range_with_len 0 points)

-- those of one of the points
abbrev pub numbers_at : ℕ → List Edge → ℕ → List ℕ
numbers_at points edges p = get_or (numbers_by_point points edges) p []
