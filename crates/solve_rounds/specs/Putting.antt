-- Bounds after some of them are put.
use Rattle.std.specs.Prelude.{ℕ, zero, suc, ◌<◌, List, length, get_or, slice_set}
use Rattle.base_numbers.specs.Extended.{Ext as Extended}

-- every number of a list is below n
abbrev pub AreNumberedIn : ℕ → List ℕ → Type 0
AreNumberedIn n list = (k : ℕ) → k < length list → get_or list k 0 < n

-- bounds where the first n unknowns of a list, one after the other, take the value of their place
unfoldable pub puts : (ℕ → Extended) → List ℕ → List Extended → ℕ → List Extended
puts value list bounds zero = bounds
puts value list bounds (suc n) = slice_set (puts value list bounds n) (get_or list n 0) (value n)
