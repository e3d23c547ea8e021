-- The entries of a table.
use Rattle.std.proofs.Common.{◌≡◌, ◌∙◌, ℕ, ◌<◌, Bool, false, List, [], get_or, map, ap, arith, zero-add}
use Rattle.std.specs.List.{range_with_len}
use Rattle.std.proofs.lemmas.List.{get_or-map}
use Rattle.std.proofs.lemmas.List.FromFn.{length-range_with_len, get_or-range_with_len}
use Rattle.solve_joint.specs.Tables.{row_by, table_by, cell}

-- an element that is made from its place
pub at_point : {X : Type 0} (f : ℕ → X) (points p : ℕ) (d : X) → p < points → get_or (map f (range_with_len 0 points)) p d ≡ f p
at_point f points p d l =
    get_or-map f (range_with_len 0 points) p p d (let e = length-range_with_len 0 points in omega (arith, l, e))
    ∙ ap f (get_or-range_with_len 0 points p p l ∙ zero-add p)

-- the test of two points
pub cell_at : (points : ℕ) (test : ℕ → ℕ → Bool) (p q : ℕ) → p < points → q < points → cell (table_by points test) p q ≡ test p q
cell_at points test p q l m =
    ap (λ (r : List Bool). get_or r q false) (at_point (λ s. row_by points (test s)) points p [] l)
    ∙ at_point (test p) points q false m
