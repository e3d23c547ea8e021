-- The steps of a certificate that a joint problem's outcome gives.
use Rattle.std.specs.Prelude.{◌≡◌, ℕ, ◌<◌, List, [], ◌∷◌, length, take, drop}
use Rattle.std.proofs.Common.{⊎_elim}
use Rattle.base_numbers.specs.Rational.{ℚ, zero_ℚ}
use Rattle.base_numbers.specs.Extended.{fin, ◌<ᴱ◌}
use Rattle.base_numbers.proofs.rational.Laws.{le_or_lt}
use Rattle.flow_systems.specs.Equations.{Equations, Vector}
use Rattle.theory_validity.specs.Words.{Word}
use Rattle.theory_validity.specs.Steps.{Pieces, Item, Runs, end_value}
use Rattle.theory_validity.specs.Certificates.{num}
use Rattle.theory_transformers.specs.JointProblems.{Listed, picked, own_row, columns_of}

-- a word that runs at the base and exceeds it, with a value for each column
pub record Low (system : Equations) (b : Vector) (u : Listed) (w : Word) : Type 0 where
  pub size : length w ≡ columns_of system u
  pub runs : Runs system b (picked system u) w
  pub above : b u.point u.row <ᴱ fin (end_value system (picked system u) (own_row system u) w)

-- each listed unknown has its low word
abbrev pub AllLow : Equations → Vector → List Listed → List Word → Type 0
AllLow system b [] ws = Unit {0}
AllLow system b (u ∷ rest) [] = ⊥
AllLow system b (u ∷ rest) (w ∷ ws) = Low system b u w × AllLow system b rest ws

-- an unknown in range and not at the entry, whose picked edge is there and ends at its point
pub record IsPicked (system : Equations) (u : Listed) : Type 0 where
  pub later : 0 < u.point
  pub point_within : u.point < system.points
  pub row_within : u.row < length system.template
  pub edge_within : u.edge < length system.edges
  pub into : (picked system u).to ≡ u.point

-- each listed unknown is picked
abbrev pub AllPicked : Equations → List Listed → Type 0
AllPicked system [] = Unit {0}
AllPicked system (u ∷ rest) = IsPicked system u × AllPicked system rest

-- a word cut behind the start values
unfoldable pub pieces : ℕ → Word → Pieces
pieces n w = record { start = take n w; free = drop n w }

-- the item of a step that an unknown's words and number make
unfoldable pub item_of : ℕ → Listed → Word → Word → ℚ → Item
item_of n u low second number = record {
  point = u.point;
  row = u.row;
  edge = u.edge;
  low = pieces n low;
  second = pieces n second;
  number =
      number;
}

-- the items of a jump: each listed unknown with its low and high word and its number at the vector reached
unfoldable pub jump_items : ℕ → Vector → List Listed → List Word → List Word → List Item
jump_items n y [] ls hs = []
jump_items n y (u ∷ rest) [] hs = []
jump_items n y (u ∷ rest) (l ∷ ls) [] = []
jump_items n y (u ∷ rest) (l ∷ ls) (h ∷ hs) = item_of n u l h (num (y u.point u.row)) ∷ jump_items n y rest ls hs

-- the items of a ray: each listed unknown whose rate is above 0 with its low word, its direction and its rate
unfoldable pub ray_items : ℕ → (ℕ → ℕ → ℚ) → List Listed → List Word → List Word → List Item
ray_items n rate [] ls ds = []
ray_items n rate (u ∷ rest) [] ds = []
ray_items n rate (u ∷ rest) (l ∷ ls) [] = []
ray_items n rate (u ∷ rest) (l ∷ ls) (d ∷ ds) = ⊎_elim (λ h. ray_items n rate rest ls ds) (λ h. item_of n u l d (rate u.point u.row)
    ∷ ray_items n rate rest ls ds) (le_or_lt (rate u.point u.row) zero_ℚ)
