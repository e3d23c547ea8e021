-- Linear programs from lists of limits, and products of a list with a point given as a function.
use Rattle.std.specs.Prelude.{ℕ, zero, suc, ◌≤◌, Bool, true, false, List, [], ◌∷◌, length, get_or}
use Rattle.base_numbers.specs.Rational.{ℚ, zero_ℚ, ◌+ℚ◌, ◌*ℚ◌, ◌≤ℚ◌}
use Rattle.lp_theory.specs.Problem.{Problem}
use Rattle.lp_theory.specs.Listed.{at}

-- a row of a problem: coefficients and a side
pub record Limit : Type 0 where
  pub coeffs : List ℚ
  pub side : ℚ

-- the row without coefficients and with side 0
unfoldable pub no_limit : Limit
no_limit = record { coeffs = []; side = zero_ℚ }

-- the problem over so many columns with these rows and this goal
unfoldable pub limits_problem : ℕ → List Limit → List ℚ → Problem
limits_problem columns limits goal = record {
  cols = columns;
  rows = length limits;
  coef = λ r. at (get_or limits r no_limit).coeffs;
  side = λ r. (get_or limits r no_limit).side;
  goal = at goal;
}

-- the sum of the products of a list's entries and a point's
unfoldable pub product : List ℚ → (ℕ → ℚ) → ℚ
product [] x = zero_ℚ
product (a ∷ u) x = a *ℚ x 0 +ℚ product u (λ k. x (suc k))

-- a point without its first n entries
abbrev pub shift : ℕ → (ℕ → ℚ) → (ℕ → ℚ)
shift zero x = x
shift (suc n) x = shift n (λ k. x (suc k))

-- the list of a point's first n entries
abbrev pub tabulate : ℕ → (ℕ → ℚ) → List ℚ
tabulate zero x = []
tabulate (suc n) x = x 0 ∷ tabulate n (λ k. x (suc k))

-- a side, or 0 where directions are meant
abbrev pub side_for : Bool → ℚ → ℚ
side_for true c = c
side_for false c = zero_ℚ

-- every row is met by a point, or falls along a direction
abbrev pub AllUnder : Bool → List Limit → (ℕ → ℚ) → Type 0
AllUnder t [] x = Unit {0}
AllUnder t (l ∷ ls) x = (product l.coeffs x ≤ℚ side_for t l.side) × AllUnder t ls x

-- no row has more than so many coefficients
abbrev pub AllWithin : ℕ → List Limit → Type 0
AllWithin n [] = Unit {0}
AllWithin n (l ∷ ls) = (length l.coeffs ≤ n) × AllWithin n ls
