-- Lists of entries that are not zero, rising by column, and the list of numbers that they stand for.
use Rattle.std.specs.Prelude.{◌≢◌, ℕ, zero, suc, ◌<◌, ◌≤◌, cond, eqb, List, [], ◌∷◌, ◌++◌, map, get_or}
use Rattle.base_numbers.specs.Rational.{ℚ, zero_ℚ}
use Rattle.lp_dictionary.specs.Formulas.{is_zero}
use Rattle.lp_dictionary.specs.declared.entry.Entry.{Entry}

-- the number at a column: 0 where the list has no entry
abbrev pub value_at : {F : Type 0} → (F → ℚ) → List (Entry F) → ℕ → ℚ
value_at m [] k = zero_ℚ
value_at m (e ∷ es) k = cond (eqb e.col k) (m e.value) (value_at m es k)

-- the columns rise strictly, from lo on and below n
abbrev pub Rises : {F : Type 0} → ℕ → ℕ → List (Entry F) → Type 0
Rises lo n [] = Unit {0}
Rises lo n (e ∷ es) = (lo ≤ e.col) × (e.col < n) × Rises (suc e.col) n es

-- the columns rise strictly
abbrev pub IsRising : {F : Type 0} → List (Entry F) → Type 0
IsRising es = (n : ℕ) × Rises 0 n es

-- no entry is 0
abbrev pub HasNoZero : {F : Type 0} → (F → ℚ) → List (Entry F) → Type 0
HasNoZero m [] = Unit {0}
HasNoZero m (e ∷ es) = (m e.value ≢ zero_ℚ) × HasNoZero m es

-- the column of the entry at a place
abbrev pub col_at : {F : Type 0} → List (Entry F) → ℕ → ℕ
col_at es i = get_or (map (λ e. e.col) es) i 0

-- the list with one more entry at its end, unless its value is 0
abbrev pub pushed : {F : Type 0} → (F → ℚ) → List (Entry F) → ℕ → F → List (Entry F)
pushed m es k x = cond (is_zero (m x)) es (es ++ record { col = k; value = x } ∷ [])

-- the numbers at the columns below n, 0 where the list has no entry
abbrev pub spread : {F : Type 0} → (F → ℚ) → ℕ → List (Entry F) → List ℚ
spread m zero es = []
spread m (suc n) es = spread m n es ++ value_at m es n ∷ []
