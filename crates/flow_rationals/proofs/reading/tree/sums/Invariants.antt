use Rattle.std.proofs.Common.{◌≡◌, ◌≤◌, length, List}
use Rattle.flow_rationals.specs.declared.reading.symbol.Symbol.{Symbol}
use Rattle.flow_rationals.specs.declared.reading.written.Addends.{Addends}
use Rattle.flow_rationals.specs.Grammar.{sums_then}
use Rattle.flow_rationals.proofs.found.Lists.{ListGoesOn}
use Rattle.flow_rationals.proofs.reading.tree.sums.Given as goal

abbrev pub invariant-sums : goal.invariant-sums
invariant-sums l = record {
  go_on : (sums : List Addends) (m : List Symbol) → l.fn.symbols ≡ sums_then sums m
      → ListGoesOn Addends sums_then l.sums.items l.rest sums m;
  shorter : length l.rest ≤ length l.fn.symbols;
}

abbrev pub decreases-sums : goal.decreases-sums
decreases-sums l = length l.rest
