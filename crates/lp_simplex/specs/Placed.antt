-- Values that are put at the places of their names.
use Rattle.std.specs.Prelude.{◌≡◌, ◌≢◌, ℕ, suc, ◌+◌, ◌<◌, List, length}
use Rattle.base_numbers.specs.Rational.{ℚ, zero_ℚ}
use Rattle.lp_dictionary.specs.Cells.{cell}

-- of the first n names the one that is j + 1 past the base has its value at the place j, and all other places have 0
pub record IsPlaced {F : Type 0} (m : F → ℚ) (name : ℕ → ℕ) (value : ℕ → ℚ) (n base count : ℕ) (xs : List F) : Type 0 where
  pub size : length xs ≡ count
  pub put : (i j : ℕ) → i < n → j < count → name i ≡ suc (j + base) → cell m xs j ≡ value i
  pub rest : (j : ℕ) → j < count → ((i : ℕ) → i < n → name i ≢ suc (j + base)) → cell m xs j ≡ zero_ℚ

-- the value is put at the place of the name, if it has one
pub record Places {F : Type 0} (m : F → ℚ) (name base : ℕ) (value : ℚ) (old new : List F) : Type 0 where
  pub size : length new ≡ length old
  pub put : (j : ℕ) → j < length old → name ≡ suc (j + base) → cell m new j ≡ value
  pub kept : (j : ℕ) → name ≢ suc (j + base) → cell m new j ≡ cell m old j
