-- Searches below a bound.
use Rattle.std.specs.Prelude.{ℕ, zero, suc, Bool, true, false, cond}
use Rattle.base_numbers.specs.Rational.{ℚ, lt_ℚ}

-- what a search finds
pub data Search : Type 0 where
  none : Search
  found : ℕ → Search

-- the search one further, where b says whether n itself is wanted
abbrev pub first_more : ℕ → Search → Bool → Search
first_more n (found k) b = found k
first_more n none true = found n
first_more n none false = none

-- the first k < n with p k
unfoldable pub first : (ℕ → Bool) → ℕ → Search
first p zero = none
first p (suc n) = first_more n (first p n) (p n)

-- the search one further, where the last test says whether n itself is wanted
abbrev pub least_more : (ℕ → ℚ) → ℕ → Search → Bool → Search
least_more f n (found k) true = cond (lt_ℚ (f n) (f k)) (found n) (found k)
least_more f n (found k) false = found k
least_more f n none true = found n
least_more f n none false = none

-- the first k < n with p k whose f k is least
unfoldable pub least : (ℕ → Bool) → (ℕ → ℚ) → ℕ → Search
least p f zero = none
least p f (suc n) = least_more f n (least p f n) (p n)
