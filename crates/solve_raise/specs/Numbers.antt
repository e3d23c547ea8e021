-- The numbers of a raise, and the operations by which they are formed.
use Rattle.std.specs.Prelude.{pos, ◌+ℤ◌, ◌&&◌, Bool, List, [], ◌∷◌, ◌++◌, if◌then◌else◌}
use Rattle.base_numbers.specs.Rational.{ℚ, whole, one_ℚ, ◌+ℚ◌, ◌-ℚ◌, ◌*ℚ◌, ◌/ℚ◌, lt_ℚ, floor}
use Rattle.base_numbers.specs.Extended.{Ext, neg_inf, fin, pos_inf}
use Rattle.base_fractions.specs.Fits.{long_limit}
use Rattle.base_fractions.specs.declared.wide.Op.TheVariants.{Add, Sub, Mul, Div}
use Rattle.base_fractions.specs.Operation.{Operation, fits}
use Rattle.flow_systems.specs.declared.trace.Trace.{Trace}
use Rattle.theory_validity.specs.Words.{moved}
use Rattle.theory_validity.specs.Steps.{Pieces}

-- a fraction of the code holds the number
abbrev pub fitting : ℚ → Bool
fitting q = fits long_limit q

-- the least whole number above a number
abbrev pub next_whole : ℚ → ℚ
next_whole q = whole (floor q +ℤ pos 1)

-- ---- a raise to a fraction
-- the number half way
abbrev pub middle_operations : ℚ → ℚ → List Operation
middle_operations b v = record { op = Add; left = b; right = v } ∷ record { op = Div; left = b +ℚ v; right = whole (pos 2) } ∷ []

-- from a bound towards a value: from -∞ one less than the value; from a fraction nothing that can be refused where the next whole
-- number fits and is below the value, and else the middle
unfoldable pub number_operations : Ext → ℚ → List Operation
number_operations neg_inf v = record { op = Sub; left = v; right = one_ℚ } ∷ []
number_operations (fin b) v = if fitting (next_whole b) && lt_ℚ (next_whole b) v then [] else middle_operations b v
number_operations pos_inf v = []

-- ---- a raise to +∞
-- how often a row has to rise by a rate, so that from a value it comes above a bound
abbrev pub multiple : ℚ → ℚ → ℚ → ℚ
multiple b value rate = next_whole ((b -ℚ value) /ℚ rate)

abbrev pub multiple_operations : ℚ → ℚ → ℚ → List Operation
multiple_operations b value rate =
    record { op = Sub; left = b; right = value } ∷ record { op = Div; left = b -ℚ value; right = rate }
    ∷ record { op = Add; left = whole (floor ((b -ℚ value) /ℚ rate)); right = one_ℚ } ∷ []

-- a trace plus t times a direction, entry by entry
abbrev pub moved_pieces : ℚ → Trace → Trace → Pieces
moved_pieces t trace direction = record { start = moved trace.start t direction.start; free = moved trace.free t direction.free }

-- an entry: the product and then the sum
abbrev pub entry_operations : ℚ → ℚ → ℚ → List Operation
entry_operations t x d = record { op = Mul; left = t; right = d } ∷ record { op = Add; left = x; right = t *ℚ d } ∷ []

-- entries in order
abbrev pub entries_operations : ℚ → List ℚ → List ℚ → List Operation
entries_operations t [] ds = []
entries_operations t (x ∷ xs) [] = []
entries_operations t (x ∷ xs) (d ∷ ds) = entry_operations t x d ++ entries_operations t xs ds

-- the start before the free values
abbrev pub moved_operations : ℚ → Trace → Trace → List Operation
moved_operations t trace direction = entries_operations t trace.start direction.start ++ entries_operations t trace.free direction.free
