-- Tables of tests between the points at which unknowns stand: which point reaches which by their picked edges.
use Rattle.std.specs.Prelude.{ℕ, ◌==◌, ◌||◌, ◌&&◌, Bool, false, List, [], ◌∷◌, get_or, map}
use Rattle.std.specs.List.{range_with_len}
use Rattle.solve_joint.specs.declared.node.Node.{Node}

-- a test for each point
abbrev pub row_by : ℕ → (ℕ → Bool) → List Bool
row_by points test = map test (range_with_len 0 points)

-- a test for each two points
abbrev pub table_by : ℕ → (ℕ → ℕ → Bool) → List (List Bool)
table_by points test = map (λ p. row_by points (test p)) (range_with_len 0 points)

-- whether the unknowns of a list lead from a point to another: each leads from its point to its source
abbrev pub leads : List Node → ℕ → ℕ → Bool
leads [] p q = p == q
leads (x ∷ xs) p q = leads xs p q || (leads xs p x.point && leads xs x.source q)

-- which of so many points the unknowns of a list lead to which
abbrev pub closed : ℕ → List Node → List (List Bool)
closed points nodes = table_by points (leads nodes)

-- the test of two points
abbrev pub cell : List (List Bool) → ℕ → ℕ → Bool
cell rows i j = get_or (get_or rows i []) j false

-- an unknown is another one, or its source reaches that one's point
abbrev pub gets_to : List (List Bool) → Node → Node → Bool
gets_to rows a b = a.unknown == b.unknown || cell rows a.source b.point
