-- Layouts whose columns all stand in a problem.
use Rattle.std.specs.Prelude.{ℕ, ◌+◌, ◌<◌, List, [], ◌∷◌}
use Rattle.solve_ray.specs.declared.layout.Rise.{Rise}

-- each positive column and the negative one behind it are below the width
abbrev pub AllSplit : ℕ → List ℕ → Type 0
AllSplit width [] = Unit {0}
AllSplit width (col ∷ cols) = (col + 1 < width) × AllSplit width cols

-- every column of one unknown is below the width
pub record IsWithin (width : ℕ) (rise : Rise) : Type 0 where
  pub rises : rise.col < width
  pub starts : AllSplit width rise.starts
  pub frees : AllSplit width rise.frees

-- every column of all unknowns is
abbrev pub AreWithin : ℕ → List Rise → Type 0
AreWithin width [] = Unit {0}
AreWithin width (rise ∷ rises) = IsWithin width rise × AreWithin width rises
