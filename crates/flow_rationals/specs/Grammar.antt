-- How equations are spelled. Each definition gives the symbols of a part of the text, and then these that follow it.
use Rattle.std.specs.Prelude.{◌≡◌, ◌++◌, ℕ, List, [], ◌∷◌, Option, Some, None}
use Rattle.flow_rationals.specs.declared.reading.symbol.Symbol.{Symbol}
use Rattle.flow_rationals.specs.declared.reading.symbol.Symbol.TheVariants.{Named, Number, Minus, Plus, Star, Colon, Comma, Semicolon}
use Rattle.flow_rationals.specs.declared.reading.symbol.Symbol.TheVariants.{Equal}
use Rattle.flow_rationals.specs.declared.reading.symbol.Symbol.TheVariants.{LeftParen, RightParen, Max, Min, End}
use Rattle.flow_rationals.specs.declared.reading.written.Below.{Below}
use Rattle.flow_rationals.specs.declared.reading.written.Ratio.{Ratio}
use Rattle.flow_rationals.specs.declared.reading.written.Part.{Part}
use Rattle.flow_rationals.specs.declared.reading.written.Part.TheVariants.{Multiple, Constant}
use Rattle.flow_rationals.specs.declared.reading.written.Addends.{Addends}
use Rattle.flow_rationals.specs.declared.reading.written.Choice.{Choice}
use Rattle.flow_rationals.specs.declared.reading.written.Choice.TheVariants.{Alone, Least}
use Rattle.flow_rationals.specs.declared.reading.written.Written.{Written}

-- `:` and a number, if they are there
abbrev pub below_then : Option Below → List Symbol → List Symbol
below_then None rest = rest
below_then (Some b) rest = Colon ∷ Number b.den b.at ∷ rest

-- a number, maybe with `:` and another one
abbrev pub ratio_then : Ratio → List Symbol → List Symbol
ratio_then r rest = Number r.num r.at ∷ below_then r.below rest

-- a ratio and `*`, if they are there
abbrev pub factor_then : Option Ratio → List Symbol → List Symbol
factor_then None rest = rest
factor_then (Some r) rest = ratio_then r (Star ∷ rest)

-- `-`, if it is there
abbrev pub minus_then : Option ℕ → List Symbol → List Symbol
minus_then None rest = rest
minus_then (Some at) rest = Minus at ∷ rest

-- a part of a sum
abbrev pub part_then : Part → List Symbol → List Symbol
part_then (Multiple factor name at) rest = factor_then factor (Named name at ∷ rest)
part_then (Constant minus ratio) rest = minus_then minus (ratio_then ratio rest)

-- further parts, each with a `+` before it
abbrev pub parts_then : List Part → List Symbol → List Symbol
parts_then [] rest = rest
parts_then (p ∷ ps) rest = Plus ∷ part_then p (parts_then ps rest)

-- a sum
abbrev pub sum_then : Addends → List Symbol → List Symbol
sum_then s rest = part_then s.first (parts_then s.more rest)

-- further sums of a minimum, each with a `,` before it, and the `)` that ends it
abbrev pub sums_then : List Addends → List Symbol → List Symbol
sums_then [] rest = RightParen ∷ rest
sums_then (s ∷ ss) rest = Comma ∷ sum_then s (sums_then ss rest)

-- an alternative: a sum, or `min` of sums
abbrev pub choice_then : Choice → List Symbol → List Symbol
choice_then (Alone s) rest = sum_then s rest
choice_then (Least first more) rest = Min ∷ LeftParen ∷ sum_then first (sums_then more rest)

-- alternatives, each with a `,` before it, and the `)` and `;` that end an equation
abbrev pub choices_then : List Choice → List Symbol → List Symbol
choices_then [] rest = RightParen ∷ Semicolon ∷ rest
choices_then (c ∷ cs) rest = Comma ∷ choice_then c (choices_then cs rest)

-- an equation
abbrev pub equation_then : Written → List Symbol → List Symbol
equation_then e rest =
    Named e.name e.at ∷ Equal ∷ Max ∷ LeftParen ∷ minus_then e.minus (ratio_then e.start (choices_then e.choices rest))

-- equations, and the end
abbrev pub equations_symbols : List Written → List Symbol
equations_symbols [] = End ∷ []
equations_symbols (e ∷ es) = equation_then e (equations_symbols es)

-- The symbols spell these equations, of which there is at least one.
abbrev pub Spells : List Symbol → List Written → Type 0
Spells symbols [] = ⊥
Spells symbols (e ∷ es) = symbols ≡ equations_symbols (e ∷ es)

-- The symbols begin a text of equations.
abbrev pub Begins : List Symbol → Type 0
Begins front = (equations : List Written) × (rest : List Symbol) × Spells (front ++ rest) equations
