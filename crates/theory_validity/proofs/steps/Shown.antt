-- What it means that a number is shown by words, and that a vector stays shown.
use Rattle.std.specs.Prelude.{◌≡◌, ℕ, ◌<◌, ℤ, List, slice_get, Some}
use Rattle.base_numbers.specs.Extended.{Ext, ◌<ᴱ◌}
use Rattle.flow_systems.specs.Equations.{Equations, Vector, Exceeds}
use Rattle.theory_validity.specs.Steps.{Below}

-- every smaller number is exceeded by a transition into the unknown's point
abbrev pub Shown : Equations → Vector → ℕ → ℕ → Type 0
Shown system F p r = (row : List ℤ) (number : Ext) → slice_get system.template r ≡ Some row → number <ᴱ F p r
    → Exceeds system F p row number

-- at every greater vector each unknown outside the entry that is the same is shown
abbrev pub StablyShown : Equations → Vector → Type 0
StablyShown system z = (F : Vector) → Below system z F → (p r : ℕ) → 0 < p → F p r ≡ z p r → Shown system F p r
