-- What the reading of symbols finds first among them.
use Rattle.std.specs.Prelude.{◌≡◌, ℕ, List, ◌∷◌, Option, Some, None}
use denote.Ref.{Bor}
use Rattle.flow_rationals.specs.declared.reading.symbol.Symbol.{Symbol}
use Rattle.flow_rationals.specs.declared.reading.symbol.Symbol.TheVariants.{Minus, Plus, Star, Colon, Comma, Semicolon, Equal, LeftParen}
use Rattle.flow_rationals.specs.declared.reading.symbol.Symbol.TheVariants.{RightParen, Max, Min, End}
use Rattle.flow_rationals.specs.declared.reading.heads.Mark.{Mark}
use Rattle.flow_rationals.specs.declared.reading.heads.Mark.TheVariants as mark

-- No `:` stands first.
abbrev pub NoColon : List Symbol → Type 0
NoColon (Colon ∷ ss) = ⊥
NoColon ss = Unit {0}

-- `,` or `)` stands first, which may follow a sum.
abbrev pub EndsSum : List Symbol → Type 0
EndsSum (Comma ∷ ss) = Unit {0}
EndsSum (RightParen ∷ ss) = Unit {0}
EndsSum ss = ⊥

-- So may follow a part: `+`, too.
abbrev pub EndsPart : List Symbol → Type 0
EndsPart (Plus ∷ ss) = Unit {0}
EndsPart ss = EndsSum ss

-- This was found, and these symbols stand after it.
abbrev pub Finds : {X : Type 0} → Option (X × Bor (List Symbol)) → X → List Symbol → Type 0
Finds None x rest = ⊥
Finds (Some found) x rest = (found.0 ≡ x) × (found.1.now ≡ rest)

-- the symbol of a mark
abbrev pub mark_symbol : Mark → Symbol
mark_symbol mark.Plus = Plus
mark_symbol mark.Star = Star
mark_symbol mark.Colon = Colon
mark_symbol mark.Comma = Comma
mark_symbol mark.Semicolon = Semicolon
mark_symbol mark.Equal = Equal
mark_symbol mark.LeftParen = LeftParen
mark_symbol mark.RightParen = RightParen
mark_symbol mark.Max = Max
mark_symbol mark.Min = Min
mark_symbol mark.End = End

-- Where no `-` was found, none stands first.
abbrev pub NoMinus : Option ℕ → List Symbol → Type 0
NoMinus None symbols = (at : ℕ) (rest : List Symbol) → symbols ≡ Minus at ∷ rest → ⊥
NoMinus (Some at) symbols = Unit {0}
