use Rattle.std.proofs.Common.{◌≡◌, take}
use Rattle.flow_rationals.specs.Symbols.{symbols_of}
use Rattle.flow_rationals.proofs.reading.symbols.symbols_of.Given as goal

abbrev pub invariant-loop-token : goal.invariant-loop-token
invariant-loop-token l = l.symbols.items ≡ symbols_of l.text (take l.token-index l.tokens)
