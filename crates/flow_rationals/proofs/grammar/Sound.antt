-- What goes through the machine to the end spells equations.
use Rattle.std.proofs.Common.{◌≡◌, ◌∙◌, ◌++◌, ℕ, List, [], ◌∷◌, Option, Some, None, refl, ap}
use Rattle.flow_rationals.specs.declared.reading.symbol.Symbol.{Symbol}
use Rattle.flow_rationals.specs.declared.reading.symbol.Symbol.TheVariants as symbol
use Rattle.flow_rationals.specs.declared.reading.place.Within.{Within}
use Rattle.flow_rationals.specs.declared.reading.place.Within.TheVariants as within
use Rattle.flow_rationals.specs.declared.reading.place.Place.{Place}
use Rattle.flow_rationals.specs.declared.reading.place.Place.TheVariants as place
use Rattle.flow_rationals.specs.declared.reading.written.Ratio.{Ratio}
use Rattle.flow_rationals.specs.declared.reading.written.Part.{Part}
use Rattle.flow_rationals.specs.declared.reading.written.Part.TheVariants.{Multiple, Constant}
use Rattle.flow_rationals.specs.declared.reading.written.Addends.{Addends}
use Rattle.flow_rationals.specs.declared.reading.written.Choice.{Choice}
use Rattle.flow_rationals.specs.declared.reading.written.Choice.TheVariants.{Alone, Least}
use Rattle.flow_rationals.specs.declared.reading.written.Written.{Written}
use Rattle.flow_rationals.specs.Grammar.{ratio_then, minus_then, part_then, parts_then, sums_then, choice_then, choices_then}
use Rattle.flow_rationals.specs.Grammar.{equations_symbols, Spells, Begins}
use Rattle.flow_rationals.specs.Places.{comma_next, paren_next, run}
use Rattle.flow_rationals.proofs.grammar.Complete.{spelled_runs, run_then, run-append}

abbrev plain : ℕ → ℕ → Ratio
plain n at = record { num = n; at = at; below = None }

abbrev over : ℕ → ℕ → ℕ → ℕ → Ratio
over n at d dat = record { num = n; at = at; below = Some (record { den = d; at = dat }) }

-- what may follow: alternatives and further equations
abbrev Choices : List Symbol → Type 0
Choices ss = (cs : List Choice) × (es : List Written) × (ss ≡ choices_then cs (equations_symbols es))

-- what may follow a sum
abbrev EndOf : Within → List Symbol → Type 0
EndOf within.Alone ss = Choices ss
EndOf within.Minimum ss = (sums : List Addends) × (r : List Symbol) × (ss ≡ sums_then sums r) × Choices r

-- what may follow a part
abbrev After : Within → List Symbol → Type 0
After w ss = (ps : List Part) × (r : List Symbol) × (ss ≡ parts_then ps r) × EndOf w r

-- a part of these symbols and what may follow it
abbrev PartOf : Within → List Symbol → Type 0
PartOf w ss = (p : Part) × (r : List Symbol) × (ss ≡ part_then p r) × After w r

abbrev StartOf : List Symbol → Type 0
StartOf ss = (r : Ratio) × (cs : List Choice) × (es : List Written) × (ss ≡ ratio_then r (choices_then cs (equations_symbols es)))

-- a start, maybe with a `-`, and what may follow it, after these
abbrev BodyOf : (List Symbol → List Symbol) → List Symbol → Type 0
BodyOf f ss = (m : Option ℕ) × (r : Ratio) × (cs : List Choice) × (es : List Written)
    × (ss ≡ f (minus_then m (ratio_then r (choices_then cs (equations_symbols es)))))

-- What the symbols from a place on are, whatever stands before it.
abbrev Rest : Place → List Symbol → Type 0
Rest place.First ss = (es : List Written) × Spells ss es
Rest place.Name ss = (es : List Written) × (ss ≡ equations_symbols es)
Rest place.Equal ss = BodyOf (λ x. symbol.Equal ∷ symbol.Max ∷ symbol.LeftParen ∷ x) ss
Rest place.Max ss = BodyOf (λ x. symbol.Max ∷ symbol.LeftParen ∷ x) ss
Rest place.Opening ss = BodyOf (λ x. symbol.LeftParen ∷ x) ss
Rest place.Start ss = BodyOf (λ x. x) ss
Rest place.StartNumber ss = StartOf ss
Rest place.StartBelow ss = (n at : ℕ) → StartOf (symbol.Number n at ∷ ss)
Rest place.StartDen ss = (n at : ℕ) → StartOf (symbol.Number n at ∷ symbol.Colon ∷ ss)
Rest place.Alternatives ss = Choices ss
Rest place.Alternative ss = (c : Choice) × (r : List Symbol) × (ss ≡ choice_then c r) × Choices r
Rest place.MinOpening ss = (c : Choice) × (r : List Symbol) × (symbol.Min ∷ ss ≡ choice_then c r) × Choices r
Rest (place.Part w) ss = PartOf w ss
Rest (place.Factor w) ss = (n at : ℕ) → PartOf w (symbol.Number n at ∷ ss)
Rest (place.FactorDen w) ss = (n at : ℕ) → PartOf w (symbol.Number n at ∷ symbol.Colon ∷ ss)
Rest (place.FactorEnd w) ss = (n at d dat : ℕ) → PartOf w (symbol.Number n at ∷ symbol.Colon ∷ symbol.Number d dat ∷ ss)
Rest (place.Times w) ss = (name : List ℕ) × (at : ℕ) × (r : List Symbol) × (ss ≡ symbol.Named name at ∷ r) × After w r
Rest (place.Constant w) ss = (m : ℕ) → PartOf w (symbol.Minus m ∷ ss)
Rest (place.ConstantBelow w) ss = (m n at : ℕ) → PartOf w (symbol.Minus m ∷ symbol.Number n at ∷ ss)
Rest (place.ConstantDen w) ss = (m n at : ℕ) → PartOf w (symbol.Minus m ∷ symbol.Number n at ∷ symbol.Colon ∷ ss)
Rest (place.AfterPart w) ss = After w ss
Rest place.Semicolon ss = (es : List Written) × (ss ≡ symbol.Semicolon ∷ equations_symbols es)
Rest place.Done ss = ss ≡ []

alone_of : (ss : List Symbol) → PartOf within.Alone ss → Rest place.Alternative ss
alone_of ss h = (Alone (record { first = h.0; more = h.3.0 }), h.3.1, h.2 ∙ ap (part_then h.0) h.3.2, h.3.3)

least_of : (ss : List Symbol) → PartOf within.Minimum ss → Rest place.MinOpening (symbol.LeftParen ∷ ss)
least_of ss h = (
  Least (record { first = h.0; more = h.3.0 }) h.3.3.0,
  h.3.3.1,
  ap (λ x. symbol.Min ∷ symbol.LeftParen ∷ x) (h.2 ∙ ap (part_then h.0) (h.3.2 ∙ ap (parts_then h.3.0) h.3.3.2)),
  h.3.3.3,
)

comma_choices : (ss : List Symbol) → Rest place.Alternative ss → Choices (symbol.Comma ∷ ss)
comma_choices ss h = (h.0 ∷ h.3.0, h.3.1, ap (λ x. symbol.Comma ∷ x) (h.2 ∙ ap (choice_then h.0) h.3.2))

paren_choices : (ss : List Symbol) → Rest place.Semicolon ss → Choices (symbol.RightParen ∷ ss)
paren_choices ss h = ([], h.0, ap (λ x. symbol.RightParen ∷ x) h.1)

plus_after : (w : Within) (ss : List Symbol) → PartOf w ss → After w (symbol.Plus ∷ ss)
plus_after w ss h = (h.0 ∷ h.3.0, h.3.1, ap (λ x. symbol.Plus ∷ x) (h.2 ∙ ap (part_then h.0) h.3.2), h.3.3)

comma_after : (w : Within) (ss : List Symbol) → Rest (comma_next w) ss → After w (symbol.Comma ∷ ss)
comma_after within.Alone ss h = ([], symbol.Comma ∷ ss, refl, comma_choices ss h)
comma_after within.Minimum ss h = (
  [],
  symbol.Comma ∷ ss,
  refl,
  (
    record { first = h.0; more = h.3.0 } ∷ h.3.3.0,
    h.3.3.1,
    ap (λ x. symbol.Comma ∷ x) (h.2 ∙ ap (part_then h.0) (h.3.2 ∙ ap (parts_then h.3.0) h.3.3.2)),
    h.3.3.3,
  ),
)

paren_after : (w : Within) (ss : List Symbol) → Rest (paren_next w) ss → After w (symbol.RightParen ∷ ss)
paren_after within.Alone ss h = ([], symbol.RightParen ∷ ss, refl, paren_choices ss h)
paren_after within.Minimum ss h = ([], symbol.RightParen ∷ ss, refl, ([], ss, refl, h))

-- a number that stands alone, with its `-` or without
alone_plain : (w : Within) (ss : List Symbol) → After w ss → (n at : ℕ) → PartOf w (symbol.Number n at ∷ ss)
alone_plain w ss h = λ n at. (Constant None (plain n at), ss, refl, h)

alone_over : (w : Within) (ss : List Symbol) → After w ss → (n at d dat : ℕ)
    → PartOf w (symbol.Number n at ∷ symbol.Colon ∷ symbol.Number d dat ∷ ss)
alone_over w ss h = λ n at d dat. (Constant None (over n at d dat), ss, refl, h)

alone_minus : (w : Within) (ss : List Symbol) → After w ss → (m n at : ℕ) → PartOf w (symbol.Minus m ∷ symbol.Number n at ∷ ss)
alone_minus w ss h = λ m n at. (Constant (Some m) (plain n at), ss, refl, h)

start_plain : (ss : List Symbol) → Choices ss → (n at : ℕ) → StartOf (symbol.Number n at ∷ ss)
start_plain ss h = λ n at. (plain n at, h.0, h.1, ap (λ x. symbol.Number n at ∷ x) h.2)

named_equation : (name : List ℕ) (at : ℕ) (ss : List Symbol) → Rest place.Equal ss
    → (e : Written) × (es : List Written) × (symbol.Named name at ∷ ss ≡ equations_symbols (e ∷ es))
named_equation name at ss h =
    (record { name = name; at = at; minus = h.0; start = h.1; choices = h.2 }, h.3, ap (λ x. symbol.Named name at ∷ x) h.4)

-- symbols that go through to the end from a place are what may follow there
pub sound : (p : Place) (ss : List Symbol) → run p ss ≡ Some place.Done → Rest p ss
sound place.First (symbol.Named name at ∷ ss) h = let e = named_equation name at ss (sound place.Equal ss h) in (e.0 ∷ e.1, e.2)
sound place.First ss h = absurd cc
sound place.Name (symbol.Named name at ∷ ss) h = let e = named_equation name at ss (sound place.Equal ss h) in (e.0 ∷ e.1, e.2)
sound place.Name (symbol.End ∷ ss) h = ([], ap (λ x. symbol.End ∷ x) (sound place.Done ss h))
sound place.Name ss h = absurd cc
sound place.Equal (symbol.Equal ∷ ss) h = let b = sound place.Max ss h in (b.0, b.1, b.2, b.3, ap (λ x. symbol.Equal ∷ x) b.4)
sound place.Equal ss h = absurd cc
sound place.Max (symbol.Max ∷ ss) h = let b = sound place.Opening ss h in (b.0, b.1, b.2, b.3, ap (λ x. symbol.Max ∷ x) b.4)
sound place.Max ss h = absurd cc
sound place.Opening (symbol.LeftParen ∷ ss) h = let b = sound place.Start ss h in (b.0, b.1, b.2, b.3, ap (λ x. symbol.LeftParen ∷ x) b.4)
sound place.Opening ss h = absurd cc
sound place.Start (symbol.Minus m ∷ ss) h = let b = sound place.StartNumber ss h in
    (Some m, b.0, b.1, b.2, ap (λ x. symbol.Minus m ∷ x) b.3)
sound place.Start (symbol.Number n at ∷ ss) h = let b = sound place.StartBelow ss h n at in (None, b.0, b.1, b.2, b.3)
sound place.Start ss h = absurd cc
sound place.StartNumber (symbol.Number n at ∷ ss) h = sound place.StartBelow ss h n at
sound place.StartNumber ss h = absurd cc
sound place.StartBelow (symbol.Colon ∷ ss) h = sound place.StartDen ss h
sound place.StartBelow (symbol.Comma ∷ ss) h = start_plain (symbol.Comma ∷ ss) (comma_choices ss (sound place.Alternative ss h))
sound place.StartBelow (symbol.RightParen ∷ ss) h = start_plain (symbol.RightParen ∷ ss) (paren_choices ss (sound place.Semicolon ss h))
sound place.StartBelow ss h = absurd cc
sound place.StartDen (symbol.Number d dat ∷ ss) h =
    let b = sound place.Alternatives ss h in λ n at. (
      over n at d dat,
      b.0,
      b.1,
      ap (λ x. symbol.Number n at ∷ symbol.Colon ∷ symbol.Number d dat ∷ x) b.2,
    )
sound place.StartDen ss h = absurd cc
sound place.Alternatives (symbol.Comma ∷ ss) h = comma_choices ss (sound place.Alternative ss h)
sound place.Alternatives (symbol.RightParen ∷ ss) h = paren_choices ss (sound place.Semicolon ss h)
sound place.Alternatives ss h = absurd cc
sound place.Alternative (symbol.Min ∷ ss) h = sound place.MinOpening ss h
sound place.Alternative (symbol.Named name at ∷ ss) h = alone_of (symbol.Named name at ∷ ss)
    (Multiple None name at, ss, refl, sound (place.AfterPart within.Alone) ss h)
sound place.Alternative (symbol.Number n at ∷ ss) h = alone_of (symbol.Number n at ∷ ss) (sound (place.Factor within.Alone) ss h n at)
sound place.Alternative (symbol.Minus m ∷ ss) h = alone_of (symbol.Minus m ∷ ss) (sound (place.Constant within.Alone) ss h m)
sound place.Alternative ss h = absurd cc
sound place.MinOpening (symbol.LeftParen ∷ ss) h = least_of ss (sound (place.Part within.Minimum) ss h)
sound place.MinOpening ss h = absurd cc
sound (place.Part w) (symbol.Named name at ∷ ss) h = (Multiple None name at, ss, refl, sound (place.AfterPart w) ss h)
sound (place.Part w) (symbol.Number n at ∷ ss) h = sound (place.Factor w) ss h n at
sound (place.Part w) (symbol.Minus m ∷ ss) h = sound (place.Constant w) ss h m
sound (place.Part w) ss h = absurd cc
sound (place.Factor w) (symbol.Colon ∷ ss) h = sound (place.FactorDen w) ss h
sound (place.Factor w) (symbol.Star ∷ ss) h =
    let b = sound (place.Times w) ss h in λ n at. (
      Multiple (Some (plain n at)) b.0 b.1,
      b.2,
      ap (λ x. symbol.Number n at ∷ symbol.Star ∷ x) b.3,
      b.4,
    )
sound (place.Factor w) (symbol.Plus ∷ ss) h = alone_plain w (symbol.Plus ∷ ss) (plus_after w ss (sound (place.Part w) ss h))
sound (place.Factor w) (symbol.Comma ∷ ss) h = alone_plain w (symbol.Comma ∷ ss) (comma_after w ss (sound (comma_next w) ss h))
sound (place.Factor w) (symbol.RightParen ∷ ss) h = alone_plain w (symbol.RightParen ∷ ss) (paren_after w ss (sound (paren_next w) ss h))
sound (place.Factor w) ss h = absurd cc
sound (place.FactorDen w) (symbol.Number d dat ∷ ss) h = λ n at. sound (place.FactorEnd w) ss h n at d dat
sound (place.FactorDen w) ss h = absurd cc
sound (place.FactorEnd w) (symbol.Star ∷ ss) h =
    let b = sound (place.Times w) ss h in
    λ n at d dat. (
      Multiple (Some (over n at d dat)) b.0 b.1,
      b.2,
      ap (λ x. symbol.Number n at ∷ symbol.Colon ∷ symbol.Number d dat
          ∷ symbol.Star ∷ x) b.3,
      b.4,
    )
sound (place.FactorEnd w) (symbol.Plus ∷ ss) h = alone_over w (symbol.Plus ∷ ss) (plus_after w ss (sound (place.Part w) ss h))
sound (place.FactorEnd w) (symbol.Comma ∷ ss) h = alone_over w (symbol.Comma ∷ ss) (comma_after w ss (sound (comma_next w) ss h))
sound (place.FactorEnd w) (symbol.RightParen ∷ ss) h = alone_over w (symbol.RightParen ∷ ss) (paren_after w ss (sound (paren_next w) ss h))
sound (place.FactorEnd w) ss h = absurd cc
sound (place.Times w) (symbol.Named name at ∷ ss) h = (name, at, ss, refl, sound (place.AfterPart w) ss h)
sound (place.Times w) ss h = absurd cc
sound (place.Constant w) (symbol.Number n at ∷ ss) h = λ m. sound (place.ConstantBelow w) ss h m n at
sound (place.Constant w) ss h = absurd cc
sound (place.ConstantBelow w) (symbol.Colon ∷ ss) h = sound (place.ConstantDen w) ss h
sound (place.ConstantBelow w) (symbol.Plus ∷ ss) h = alone_minus w (symbol.Plus ∷ ss) (plus_after w ss (sound (place.Part w) ss h))
sound (place.ConstantBelow w) (symbol.Comma ∷ ss) h = alone_minus w (symbol.Comma ∷ ss) (comma_after w ss (sound (comma_next w) ss h))
sound (place.ConstantBelow w) (symbol.RightParen ∷ ss) h = alone_minus w (symbol.RightParen ∷ ss)
    (paren_after w ss (sound (paren_next w) ss h))
sound (place.ConstantBelow w) ss h = absurd cc
sound (place.ConstantDen w) (symbol.Number d dat ∷ ss) h =
    let b = sound (place.AfterPart w) ss h in λ m n at. (Constant (Some m) (over n at d dat), ss, refl, b)
sound (place.ConstantDen w) ss h = absurd cc
sound (place.AfterPart w) (symbol.Plus ∷ ss) h = plus_after w ss (sound (place.Part w) ss h)
sound (place.AfterPart w) (symbol.Comma ∷ ss) h = comma_after w ss (sound (comma_next w) ss h)
sound (place.AfterPart w) (symbol.RightParen ∷ ss) h = paren_after w ss (sound (paren_next w) ss h)
sound (place.AfterPart w) ss h = absurd cc
sound place.Semicolon (symbol.Semicolon ∷ ss) h = let b = sound place.Name ss h in (b.0, ap (λ x. symbol.Semicolon ∷ x) b.1)
sound place.Semicolon ss h = absurd cc
sound place.Done [] h = refl
sound place.Done ss h = absurd cc

-- how a text may go on from a place to its end
abbrev a_name : Symbol
a_name = symbol.Named (97 ∷ []) 0

abbrev a_number : Symbol
a_number = symbol.Number 1 0

abbrev closed : List Symbol
closed = symbol.RightParen ∷ symbol.Semicolon ∷ symbol.End ∷ []

abbrev part_closed : Within → List Symbol
part_closed within.Alone = closed
part_closed within.Minimum = symbol.RightParen ∷ closed

abbrev ending : Place → List Symbol
ending place.First = a_name ∷ symbol.Equal ∷ symbol.Max ∷ symbol.LeftParen ∷ a_number ∷ closed
ending place.Name = symbol.End ∷ []
ending place.Equal = symbol.Equal ∷ symbol.Max ∷ symbol.LeftParen ∷ a_number ∷ closed
ending place.Max = symbol.Max ∷ symbol.LeftParen ∷ a_number ∷ closed
ending place.Opening = symbol.LeftParen ∷ a_number ∷ closed
ending place.Start = a_number ∷ closed
ending place.StartNumber = a_number ∷ closed
ending place.StartBelow = closed
ending place.StartDen = a_number ∷ closed
ending place.Alternatives = closed
ending place.Alternative = a_name ∷ closed
ending place.MinOpening = symbol.LeftParen ∷ a_name ∷ symbol.RightParen ∷ closed
ending (place.Part w) = a_name ∷ part_closed w
ending (place.Factor w) = part_closed w
ending (place.FactorDen w) = a_number ∷ part_closed w
ending (place.FactorEnd w) = part_closed w
ending (place.Times w) = a_name ∷ part_closed w
ending (place.Constant w) = a_number ∷ part_closed w
ending (place.ConstantBelow w) = part_closed w
ending (place.ConstantDen w) = a_number ∷ part_closed w
ending (place.AfterPart w) = part_closed w
ending place.Semicolon = symbol.Semicolon ∷ symbol.End ∷ []
ending place.Done = []

part_ends : (w : Within) → run (place.AfterPart w) (part_closed w) ≡ Some place.Done
part_ends within.Alone = refl
part_ends within.Minimum = refl

factor_ends : (w : Within) → run (place.Factor w) (part_closed w) ≡ Some place.Done
factor_ends within.Alone = refl
factor_ends within.Minimum = refl

factor_end_ends : (w : Within) → run (place.FactorEnd w) (part_closed w) ≡ Some place.Done
factor_end_ends within.Alone = refl
factor_end_ends within.Minimum = refl

constant_ends : (w : Within) → run (place.ConstantBelow w) (part_closed w) ≡ Some place.Done
constant_ends within.Alone = refl
constant_ends within.Minimum = refl

-- from each place the end can be reached
ends : (p : Place) → run p (ending p) ≡ Some place.Done
ends (place.Part w) = part_ends w
ends (place.Factor w) = factor_ends w
ends (place.FactorDen w) = factor_end_ends w
ends (place.FactorEnd w) = factor_end_ends w
ends (place.Times w) = part_ends w
ends (place.Constant w) = constant_ends w
ends (place.ConstantBelow w) = constant_ends w
ends (place.ConstantDen w) = part_ends w
ends (place.AfterPart w) = part_ends w
ends _ = refl

-- symbols that go through begin a text
pub through_begins : (front : List Symbol) (p : Place) → run place.First front ≡ Some p → Begins front
through_begins front p h =
    let whole : run place.First (front ++ ending p) ≡ Some place.Done =
    run-append place.First front (ending p) ∙ (ap (run_then (ending p)) h ∙ ends p) in
    let s = sound place.First (front ++ ending p) whole in
    (s.0, ending p, s.1)

-- symbols that begin a text go through
pub begins_through : (front : List Symbol) → Begins front → run place.First front ≡ None → ⊥
begins_through front b h =
    let whole : run place.First (front ++ b.1) ≡ Some place.Done = spelled_runs (front ++ b.1) b.0 b.2 in
    let none : run place.First (front ++ b.1) ≡ None = run-append place.First front b.1 ∙ ap (run_then b.1) h in
    cc
