-- A machine that goes from place to place, and where it stops.
use Rattle.std.specs.Prelude.{◌≡◌, ◌<◌, ◌+◌, ℕ, List, [], ◌∷◌, length, take, Option, Some, None, option_and_then}
use Rattle.flow_rationals.specs.declared.reading.symbol.Symbol.{Symbol}
use Rattle.flow_rationals.specs.declared.reading.symbol.Symbol.TheVariants as symbol
use Rattle.flow_rationals.specs.declared.reading.place.Within.{Within}
use Rattle.flow_rationals.specs.declared.reading.place.Within.TheVariants.{Alone, Minimum}
use Rattle.flow_rationals.specs.declared.reading.place.Place.{Place}
use Rattle.flow_rationals.specs.declared.reading.place.Place.TheVariants.{First, Name, Equal, Max, Opening, Start, StartNumber, StartBelow}
use Rattle.flow_rationals.specs.declared.reading.place.Place.TheVariants.{StartDen, Alternatives}
use Rattle.flow_rationals.specs.declared.reading.place.Place.TheVariants.{Alternative, MinOpening, Part, Factor, FactorDen, FactorEnd}
use Rattle.flow_rationals.specs.declared.reading.place.Place.TheVariants.{Times, Constant}
use Rattle.flow_rationals.specs.declared.reading.place.Place.TheVariants.{ConstantBelow, ConstantDen, AfterPart, Semicolon, Done}

-- after the `,` that follows a sum
abbrev pub comma_next : Within → Place
comma_next Alone = Alternative
comma_next Minimum = Part Minimum

-- after the `)` that follows a sum
abbrev pub paren_next : Within → Place
paren_next Alone = Semicolon
paren_next Minimum = Alternatives

-- what follows a whole part
abbrev pub within_next : Within → Symbol → Option Place
within_next w symbol.Plus = Some (Part w)
within_next w symbol.Comma = Some (comma_next w)
within_next w symbol.RightParen = Some (paren_next w)
within_next w s = None

-- a part's first symbol
abbrev pub part_next : Within → Symbol → Option Place
part_next w (symbol.Named name at) = Some (AfterPart w)
part_next w (symbol.Number value at) = Some (Factor w)
part_next w (symbol.Minus at) = Some (Constant w)
part_next w s = None

-- what follows a number that may be a factor, without a `:` so far
abbrev pub factor_next : Within → Symbol → Option Place
factor_next w symbol.Colon = Some (FactorDen w)
factor_next w symbol.Star = Some (Times w)
factor_next w s = within_next w s

-- what follows a number that may be a factor, with its `:`
abbrev pub factor_end_next : Within → Symbol → Option Place
factor_end_next w symbol.Star = Some (Times w)
factor_end_next w s = within_next w s

-- what follows a number that is no factor
abbrev pub constant_below_next : Within → Symbol → Option Place
constant_below_next w symbol.Colon = Some (ConstantDen w)
constant_below_next w s = within_next w s

-- a number alone
abbrev pub number_next : Place → Symbol → Option Place
number_next after (symbol.Number value at) = Some after
number_next after s = None

-- a name alone
abbrev pub name_next : Place → Symbol → Option Place
name_next after (symbol.Named name at) = Some after
name_next after s = None

-- the start
abbrev pub start_next : Symbol → Option Place
start_next (symbol.Minus at) = Some StartNumber
start_next s = number_next StartBelow s

-- what follows a whole start or alternative
abbrev pub alternatives_next : Symbol → Option Place
alternatives_next symbol.Comma = Some Alternative
alternatives_next symbol.RightParen = Some Semicolon
alternatives_next s = None

-- what follows the start's first number
abbrev pub start_below_next : Symbol → Option Place
start_below_next symbol.Colon = Some StartDen
start_below_next s = alternatives_next s

-- an alternative's first symbol
abbrev pub alternative_next : Symbol → Option Place
alternative_next symbol.Min = Some MinOpening
alternative_next s = part_next Alone s

-- an equation's name, or the end
abbrev pub name_or_end_next : Symbol → Option Place
name_or_end_next symbol.End = Some Done
name_or_end_next s = name_next Equal s

-- one sign or word alone
abbrev pub only_next : Place → Symbol → Option Place
only_next Equal symbol.Equal = Some Max
only_next Max symbol.Max = Some Opening
only_next Opening symbol.LeftParen = Some Start
only_next MinOpening symbol.LeftParen = Some (Part Minimum)
only_next Semicolon symbol.Semicolon = Some Name
only_next p s = None

-- the place after a symbol, if it may stand at this place
abbrev pub next : Place → Symbol → Option Place
next First s = name_next Equal s
next Name s = name_or_end_next s
next Start s = start_next s
next StartNumber s = number_next StartBelow s
next StartBelow s = start_below_next s
next StartDen s = number_next Alternatives s
next Alternatives s = alternatives_next s
next Alternative s = alternative_next s
next (Part w) s = part_next w s
next (Factor w) s = factor_next w s
next (FactorDen w) s = number_next (FactorEnd w) s
next (FactorEnd w) s = factor_end_next w s
next (Times w) s = name_next (AfterPart w) s
next (Constant w) s = number_next (ConstantBelow w) s
next (ConstantBelow w) s = constant_below_next w s
next (ConstantDen w) s = number_next (AfterPart w) s
next (AfterPart w) s = within_next w s
next Equal s = only_next Equal s
next Max s = only_next Max s
next Opening s = only_next Opening s
next MinOpening s = only_next MinOpening s
next Semicolon s = only_next Semicolon s
next Done s = None

-- the place after symbols, if each may stand where it does
abbrev pub run : Place → List Symbol → Option Place
run p [] = Some p
run p (s ∷ ss) = option_and_then (λ q. run q ss) (next p s)

-- Each symbol may stand where it does.
abbrev pub GoesThrough : List Symbol → Type 0
GoesThrough symbols = (p : Place) × (run First symbols ≡ Some p)

-- the first i symbols may stand where they do, and with the next one not all of them may
pub record RefusedAt (symbols : List Symbol) (i : ℕ) : Type 0 where
  pub within : i < length symbols
  pub place : Place
  pub before : run First (take i symbols) ≡ Some place
  pub refused : run First (take (i + 1) symbols) ≡ None
