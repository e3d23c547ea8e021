use Rattle.std.proofs.Common.{◌≡◌, ◌≤◌, length, List}
use Rattle.flow_rationals.specs.declared.reading.symbol.Symbol.{Symbol}
use Rattle.flow_rationals.specs.declared.reading.written.Choice.{Choice}
use Rattle.flow_rationals.specs.Grammar.{choices_then}
use Rattle.flow_rationals.proofs.found.Lists.{ListGoesOn}
use Rattle.flow_rationals.proofs.reading.tree.choices.Given as goal

abbrev pub invariant-choices : goal.invariant-choices
invariant-choices l = record {
  go_on : (cs : List Choice) (m : List Symbol) → l.fn.symbols ≡ choices_then cs m
      → ListGoesOn Choice choices_then l.choices.items l.rest cs m;
  shorter : length l.rest ≤ length l.fn.symbols;
}

abbrev pub decreases-choices : goal.decreases-choices
decreases-choices l = length l.rest
