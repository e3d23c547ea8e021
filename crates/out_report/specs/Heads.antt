-- The heads of points as bytes, without their bounds.
use Rattle.std.specs.Prelude.{◌++◌, ℕ, suc, List, [], ◌∷◌}
use Rattle.flow_edges.specs.declared.point.Point.{Point}
use Rattle.flow_systems.specs.Report.{head_line}

-- the head of each point in order, as the report has it; the first of them has the number p
abbrev pub head_lines : ℕ → List Point → List ℕ
head_lines p [] = []
head_lines p (point ∷ points) = head_line p point ++ head_lines (suc p) points
