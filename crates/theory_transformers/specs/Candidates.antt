-- Vectors that a list's picked edges support, over a base.
use Rattle.std.specs.Prelude.{◌≡◌, ℕ, zero, suc, List, [], ◌∷◌}
use Rattle.base_numbers.specs.Rational.{ℚ, zero_ℚ, ◌-ℚ◌}
use Rattle.base_numbers.specs.Extended.{fin, ◌≤ᴱ◌}
use Rattle.flow_systems.specs.Equations.{Equations, Vector}
use Rattle.theory_validity.specs.Certificates.{num}
use Rattle.theory_transformers.specs.EdgeProblems.{transformer}
use Rattle.theory_transformers.specs.JointProblems.{Listed, picked, own_row}
use Rattle.theory_transformers.specs.JointPoints.{Unlisted}

-- the vector is finite at the unknown, at least the base there, and the picked edge's transformer at the vector is at least its number
pub record Supported (system : Equations) (b q : Vector) (u : Listed) : Type 0 where
  pub bound : ℚ
  pub finite : q u.point u.row ≡ fin bound
  pub above : b u.point u.row ≤ᴱ fin bound
  pub supported : fin bound ≤ᴱ transformer system q (picked system u) (own_row system u)

-- each unknown of the list is supported
abbrev pub AllSupported : Equations → Vector → Vector → List Listed → Type 0
AllSupported system b q [] = Unit {0}
AllSupported system b q (u ∷ rest) = Supported system b q u × AllSupported system b q rest

-- a vector that is the base outside the list, and supported on it
pub record Candidate (system : Equations) (b : Vector) (list : List Listed) (q : Vector) : Type 0 where
  pub outside : (p r : ℕ) → Unlisted list p r → q p r ≡ b p r
  pub inside : AllSupported system b q list

-- the candidate that no other exceeds
pub record GreatestSupported (system : Equations) (b : Vector) (list : List Listed) (q : Vector) : Type 0 where
  pub candidate : Candidate system b list q
  pub greatest : (other : Vector) → Candidate system b list other → (p r : ℕ) → other p r ≤ᴱ q p r

-- how much a vector is above the base at each listed unknown
unfoldable pub rises_of : List Listed → Vector → Vector → (ℕ → ℚ)
rises_of [] b q k = zero_ℚ
rises_of (u ∷ rest) b q zero = num (q u.point u.row) -ℚ num (b u.point u.row)
rises_of (u ∷ rest) b q (suc k) = rises_of rest b q k
