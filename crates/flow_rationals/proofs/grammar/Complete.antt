-- What equations spell goes through the machine.
use Rattle.std.proofs.Common.{◌≡◌, ◌++◌, ◌∙◌, ℕ, List, [], ◌∷◌, Option, Some, None, option_and_then, refl, ap}
use Rattle.flow_rationals.specs.declared.reading.symbol.Symbol.{Symbol}
use Rattle.flow_rationals.specs.declared.reading.symbol.Symbol.TheVariants as symbol
use Rattle.flow_rationals.specs.declared.reading.place.Within.{Within}
use Rattle.flow_rationals.specs.declared.reading.place.Within.TheVariants as within
use Rattle.flow_rationals.specs.declared.reading.place.Place.{Place}
use Rattle.flow_rationals.specs.declared.reading.place.Place.TheVariants as place
use Rattle.flow_rationals.specs.declared.reading.written.Below.{Below}
use Rattle.flow_rationals.specs.declared.reading.written.Ratio.{Ratio}
use Rattle.flow_rationals.specs.declared.reading.written.Part.{Part}
use Rattle.flow_rationals.specs.declared.reading.written.Part.TheVariants.{Multiple, Constant}
use Rattle.flow_rationals.specs.declared.reading.written.Addends.{Addends}
use Rattle.flow_rationals.specs.declared.reading.written.Choice.{Choice}
use Rattle.flow_rationals.specs.declared.reading.written.Choice.TheVariants.{Alone, Least}
use Rattle.flow_rationals.specs.declared.reading.written.Written.{Written}
use Rattle.flow_rationals.specs.Grammar.{below_then, ratio_then, minus_then, part_then, parts_then, sum_then, sums_then, choice_then}
use Rattle.flow_rationals.specs.Grammar.{choices_then, equation_then, equations_symbols, Spells}
use Rattle.flow_rationals.specs.Found.{EndsSum, EndsPart}
use Rattle.flow_rationals.specs.Places.{next, run}

factor_follows : (w : Within) (ss : List Symbol) → EndsPart ss → run (place.Factor w) ss ≡ run (place.AfterPart w) ss
factor_follows w (symbol.Plus ∷ ss) h = refl
factor_follows w (symbol.Comma ∷ ss) h = refl
factor_follows w (symbol.RightParen ∷ ss) h = refl
factor_follows w ss h = absurd h

factor_end_follows : (w : Within) (ss : List Symbol) → EndsPart ss → run (place.FactorEnd w) ss ≡ run (place.AfterPart w) ss
factor_end_follows w (symbol.Plus ∷ ss) h = refl
factor_end_follows w (symbol.Comma ∷ ss) h = refl
factor_end_follows w (symbol.RightParen ∷ ss) h = refl
factor_end_follows w ss h = absurd h

constant_follows : (w : Within) (ss : List Symbol) → EndsPart ss → run (place.ConstantBelow w) ss ≡ run (place.AfterPart w) ss
constant_follows w (symbol.Plus ∷ ss) h = refl
constant_follows w (symbol.Comma ∷ ss) h = refl
constant_follows w (symbol.RightParen ∷ ss) h = refl
constant_follows w ss h = absurd h

-- a ratio before `*`
factor_run : (w : Within) (b : Option Below) (ss : List Symbol) → run (place.Factor w) (below_then b (symbol.Star ∷ ss))
    ≡ run (place.Times w) ss
factor_run w None ss = refl
factor_run w (Some b) ss = refl

plain_run : (w : Within) (b : Option Below) (ss : List Symbol) → EndsPart ss
    → run (place.Factor w) (below_then b ss) ≡ run (place.AfterPart w) ss
plain_run w None ss h = factor_follows w ss h
plain_run w (Some b) ss h = factor_end_follows w ss h

minus_run : (w : Within) (b : Option Below) (ss : List Symbol) → EndsPart ss
    → run (place.ConstantBelow w) (below_then b ss) ≡ run (place.AfterPart w) ss
minus_run w None ss h = constant_follows w ss h
minus_run w (Some b) ss h = refl

part_run : (w : Within) (p : Part) (ss : List Symbol) → EndsPart ss → run (place.Part w) (part_then p ss) ≡ run (place.AfterPart w) ss
part_run w (Multiple None name at) ss h = refl
part_run w (Multiple (Some r) name at) ss h = factor_run w r.below (symbol.Named name at ∷ ss)
part_run w (Constant None r) ss h = plain_run w r.below ss h
part_run w (Constant (Some at) r) ss h = minus_run w r.below ss h

sum_ends_part : (ss : List Symbol) → EndsSum ss → EndsPart ss
sum_ends_part (symbol.Comma ∷ ss) h = h
sum_ends_part (symbol.RightParen ∷ ss) h = h
sum_ends_part ss h = absurd h

-- what may follow a sum may follow a part when further parts stand before it
pub parts_end : (ps : List Part) (ss : List Symbol) → EndsSum ss → EndsPart (parts_then ps ss)
parts_end [] ss h = sum_ends_part ss h
parts_end (p ∷ ps) ss h = tt

parts_run : (w : Within) (ps : List Part) (ss : List Symbol) → EndsSum ss
    → run (place.AfterPart w) (parts_then ps ss) ≡ run (place.AfterPart w) ss
parts_run w [] ss h = refl
parts_run w (p ∷ ps) ss h = part_run w p (parts_then ps ss) (parts_end ps ss h) ∙ parts_run w ps ss h

sum_run : (w : Within) (s : Addends) (ss : List Symbol) → EndsSum ss → run (place.Part w) (sum_then s ss) ≡ run (place.AfterPart w) ss
sum_run w s ss h = part_run w s.first (parts_then s.more ss) (parts_end s.more ss h) ∙ parts_run w s.more ss h

-- `,` or `)` stands first where further sums of a minimum follow
pub sums_end : (sums : List Addends) (ss : List Symbol) → EndsSum (sums_then sums ss)
sums_end [] ss = tt
sums_end (s ∷ sums) ss = tt

-- `,` or `)` stands first where further alternatives follow
pub choices_end : (cs : List Choice) (ss : List Symbol) → EndsSum (choices_then cs ss)
choices_end [] ss = tt
choices_end (c ∷ cs) ss = tt

sums_run : (sums : List Addends) (ss : List Symbol) → run (place.AfterPart within.Minimum) (sums_then sums ss) ≡ run place.Alternatives ss
sums_run [] ss = refl
sums_run (s ∷ sums) ss = sum_run within.Minimum s (sums_then sums ss) (sums_end sums ss) ∙ sums_run sums ss

-- an alternative that is a sum starts as the sum does
alone_starts : (p : Part) (ss : List Symbol) → run place.Alternative (part_then p ss) ≡ run (place.Part within.Alone) (part_then p ss)
alone_starts (Multiple None name at) ss = refl
alone_starts (Multiple (Some r) name at) ss = refl
alone_starts (Constant None r) ss = refl
alone_starts (Constant (Some at) r) ss = refl

after_alone : (cs : List Choice) (ss : List Symbol) → run (place.AfterPart within.Alone) (choices_then cs ss)
    ≡ run place.Alternatives (choices_then cs ss)
after_alone [] ss = refl
after_alone (c ∷ cs) ss = refl

choice_run : (c : Choice) (cs : List Choice) (ss : List Symbol) → run place.Alternative (choice_then c (choices_then cs ss))
    ≡ run place.Alternatives (choices_then cs ss)
choice_run (Alone s) cs ss =
    alone_starts s.first (parts_then s.more (choices_then cs ss)) ∙ (sum_run within.Alone s (choices_then cs ss) (choices_end cs ss)
    ∙ after_alone cs ss)
choice_run (Least first more) cs ss =
    sum_run within.Minimum first (sums_then more (choices_then cs ss)) (sums_end more (choices_then cs ss))
    ∙ sums_run more (choices_then cs ss)

choices_run : (cs : List Choice) (ss : List Symbol) → run place.Alternatives (choices_then cs ss) ≡ run place.Name ss
choices_run [] ss = refl
choices_run (c ∷ cs) ss = choice_run c cs ss ∙ choices_run cs ss

start_follows : (cs : List Choice) (ss : List Symbol) → run place.StartBelow (choices_then cs ss)
    ≡ run place.Alternatives (choices_then cs ss)
start_follows [] ss = refl
start_follows (c ∷ cs) ss = refl

start_below : (b : Option Below) (cs : List Choice) (ss : List Symbol)
    → run place.StartBelow (below_then b (choices_then cs ss)) ≡ run place.Alternatives (choices_then cs ss)
start_below None cs ss = start_follows cs ss
start_below (Some b) cs ss = refl

start_run : (m : Option ℕ) (r : Ratio) (cs : List Choice) (ss : List Symbol)
    → run place.Start (minus_then m (ratio_then r (choices_then cs ss))) ≡ run place.Alternatives (choices_then cs ss)
start_run None r cs ss = start_below r.below cs ss
start_run (Some at) r cs ss = start_below r.below cs ss

equation_run : (e : Written) (ss : List Symbol) → run place.Name (equation_then e ss) ≡ run place.Name ss
equation_run e ss = start_run e.minus e.start e.choices ss ∙ choices_run e.choices ss

equations_run : (es : List Written) → run place.Name (equations_symbols es) ≡ Some place.Done
equations_run [] = refl
equations_run (e ∷ es) = equation_run e (equations_symbols es) ∙ equations_run es

-- what spells equations goes through to the end
pub spelled_runs : (ss : List Symbol) (es : List Written) → Spells ss es → run place.First ss ≡ Some place.Done
spelled_runs ss [] h = absurd h
spelled_runs ss (e ∷ es) h = ap (run place.First) h ∙ equations_run (e ∷ es)

abbrev pub run_then : List Symbol → Option Place → Option Place
run_then ss o = option_and_then (λ q. run q ss) o

after_run : (xs ys : List Symbol) (o : Option Place) → ((p : Place) → run p (xs ++ ys) ≡ run_then ys (run p xs))
    → run_then (xs ++ ys) o ≡ run_then ys (run_then xs o)
after_run xs ys None h = refl
after_run xs ys (Some q) h = h q

-- symbols one after another
pub run-append : (p : Place) (xs ys : List Symbol) → run p (xs ++ ys) ≡ run_then ys (run p xs)
run-append p [] ys = refl
run-append p (x ∷ xs) ys = after_run xs ys (next p x) (λ q. run-append q xs ys)
