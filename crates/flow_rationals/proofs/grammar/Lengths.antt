-- Equations have no more alternatives than symbols.
use Rattle.std.proofs.Common.{◌≤◌, ◌+◌, ℕ, List, [], ◌∷◌, length, Option, Some, None, ap, arith}
use Rattle.std.proofs.lemmas.List.Sums.{sum_by_from}
use Rattle.flow_rationals.specs.declared.reading.symbol.Symbol.{Symbol}
use Rattle.flow_rationals.specs.declared.reading.symbol.Symbol.TheVariants as symbol
use Rattle.flow_rationals.specs.declared.reading.written.Below.{Below}
use Rattle.flow_rationals.specs.declared.reading.written.Ratio.{Ratio}
use Rattle.flow_rationals.specs.declared.reading.written.Part.{Part}
use Rattle.flow_rationals.specs.declared.reading.written.Part.TheVariants.{Multiple, Constant}
use Rattle.flow_rationals.specs.declared.reading.written.Addends.{Addends}
use Rattle.flow_rationals.specs.declared.reading.written.Choice.{Choice}
use Rattle.flow_rationals.specs.declared.reading.written.Choice.TheVariants.{Alone, Least}
use Rattle.flow_rationals.specs.declared.reading.written.Written.{Written}
use Rattle.flow_rationals.specs.Grammar.{below_then, ratio_then, minus_then, part_then, parts_then, sum_then, sums_then, choice_then}
use Rattle.flow_rationals.specs.Grammar.{choices_then, equation_then, equations_symbols, Spells}
use Rattle.flow_rationals.specs.EquFaults.{choice_count}

below_len : (b : Option Below) (ss : List Symbol) → length ss ≤ length (below_then b ss)
below_len None ss = omega arith
below_len (Some b) ss = omega arith

ratio_len : (r : Ratio) (ss : List Symbol) → length ss ≤ length (ratio_then r ss)
ratio_len r ss = omega (arith, below_len r.below ss)

part_len : (p : Part) (ss : List Symbol) → length ss ≤ length (part_then p ss)
part_len (Multiple None n a) ss = omega arith
part_len (Multiple (Some r) n a) ss = omega (arith, ratio_len r (symbol.Star ∷ symbol.Named n a ∷ ss))
part_len (Constant None r) ss = ratio_len r ss
part_len (Constant (Some a) r) ss = omega (arith, ratio_len r ss)

parts_len : (ps : List Part) (ss : List Symbol) → length ss ≤ length (parts_then ps ss)
parts_len [] ss = omega arith
parts_len (p ∷ ps) ss = omega (arith, part_len p (parts_then ps ss), parts_len ps ss)

sum_len : (s : Addends) (ss : List Symbol) → length ss ≤ length (sum_then s ss)
sum_len s ss = omega (arith, part_len s.first (parts_then s.more ss), parts_len s.more ss)

sums_len : (sums : List Addends) (ss : List Symbol) → length ss ≤ length (sums_then sums ss)
sums_len [] ss = omega arith
sums_len (s ∷ sums) ss = omega (arith, sum_len s (sums_then sums ss), sums_len sums ss)

choice_len : (c : Choice) (ss : List Symbol) → length ss ≤ length (choice_then c ss)
choice_len (Alone s) ss = sum_len s ss
choice_len (Least first more) ss = omega (arith, sum_len first (sums_then more ss), sums_len more ss)

choices_len : (cs : List Choice) (ss : List Symbol) → length cs + length ss ≤ length (choices_then cs ss)
choices_len [] ss = omega arith
choices_len (c ∷ cs) ss = omega (arith, choice_len c (choices_then cs ss), choices_len cs ss)

start_len : (m : Option ℕ) (r : Ratio) (ss : List Symbol) → length ss ≤ length (minus_then m (ratio_then r ss))
start_len None r ss = ratio_len r ss
start_len (Some a) r ss = omega (arith, ratio_len r ss)

equation_len : (e : Written) (ss : List Symbol) → 1 + length e.choices + length ss ≤ length (equation_then e ss)
equation_len e ss = omega (arith, start_len e.minus e.start (choices_then e.choices ss), choices_len e.choices ss)

equations_len : (es : List Written) → length es + choice_count es ≤ length (equations_symbols es)
equations_len [] = omega arith
equations_len (e ∷ es) =
    omega (
      arith,
      equation_len e (equations_symbols es),
      equations_len es,
      sum_by_from (λ (x : Written). length x.choices) (0 + length e.choices) es,
    )

-- equations and their alternatives together are at most as many as their symbols
pub spelled_len : (ss : List Symbol) (es : List Written) → Spells ss es → length es + choice_count es ≤ length ss
spelled_len ss [] h = absurd h
spelled_len ss (e ∷ es) h = omega (arith, ap length h, equations_len (e ∷ es))
