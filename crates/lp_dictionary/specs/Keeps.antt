-- What a list of entries stands for.
use Rattle.std.specs.Prelude.{◌≡◌, ℕ, ◌<◌, List, length, get_or}
use Rattle.base_numbers.specs.Rational.{ℚ, zero_ℚ}
use Rattle.lp_dictionary.specs.declared.entry.Entry.{Entry}
use Rattle.lp_dictionary.specs.Entries.{value_at, Rises, HasNoZero}

-- the list rises, and has the numbers of f at the columns below n
pub record Keeps {F : Type 0} (m : F → ℚ) (f : ℕ → ℚ) (n : ℕ) (es : List (Entry F)) : Type 0 where
  pub rises : Rises 0 n es
  pub values : (k : ℕ) → k < n → value_at m es k ≡ f k

-- the list has the numbers of xs, and no entry for those that are 0
pub record Lists {F : Type 0} (m : F → ℚ) (xs : List ℚ) (es : List (Entry F)) : Type 0 where
  pub keeps : Keeps m (λ k. get_or xs k zero_ℚ) (length xs) es
  pub no_zero : HasNoZero m es
