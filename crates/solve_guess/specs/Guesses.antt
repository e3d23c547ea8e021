-- What is said of guesses.
use Rattle.std.specs.Prelude.{◌≡◌, ℕ, length}
use Rattle.solve_guess.specs.declared.guess.Guess.{Guess}
use Rattle.solve_guess.specs.declared.guess.Guess.TheVariants.{Point, Ray}

-- a point has so many numbers
abbrev pub HasNumbers : ℕ → Guess → Type 0
HasNumbers count (Point numbers) = length numbers.items ≡ count
HasNumbers count (Ray rates) = Unit {0}
