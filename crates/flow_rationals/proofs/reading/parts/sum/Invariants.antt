use Rattle.std.proofs.Common.{◌≡◌, ◌<◌, length, List}
use Rattle.flow_rationals.specs.declared.reading.symbol.Symbol.{Symbol}
use Rattle.flow_rationals.specs.declared.reading.written.Addends.{Addends}
use Rattle.flow_rationals.specs.Grammar.{sum_then}
use Rattle.flow_rationals.specs.Found.{EndsSum}
use Rattle.flow_rationals.proofs.found.Parts.{GoesOn}
use Rattle.flow_rationals.proofs.reading.parts.sum.Given as goal

abbrev pub invariant-parts : goal.invariant-parts
invariant-parts l = record {
  goes_on : (s : Addends) (m : List Symbol) → EndsSum m → l.fn.symbols ≡ sum_then s m → GoesOn l.first l.more.items l.rest s m;
  shorter : length l.rest < length l.fn.symbols;
}

abbrev pub decreases-parts : goal.decreases-parts
decreases-parts l = length l.rest
