use Rattle.std.proofs.Common.{◌≡◌, ◌≤◌, List, Option, length}
use Rattle.source_grammar.specs.Tokens.{Token}
use Rattle.source_grammar.specs.Grammar.{Sizes}
use Rattle.source_grammar.proofs.grammar.Follow.{NoBracket}
use Rattle.source_reader.specs.Reading.{first_kind}
use Rattle.source_change.specs.Arrays.{onto_some_sizes}
use Rattle.source_change.proofs.loops.Sizes.{Left}
use Rattle.source_change.proofs.arrays.sizes.Given as goal

abbrev pub invariant-sizes : goal.invariant-sizes
invariant-sizes l = record {
  left : (ss : Option Sizes) (rest : List Token) → l.initial.reader.ahead ≡ onto_some_sizes ss rest → NoBracket (first_kind rest)
      → Left l.known ss rest l.initial.reader l.reader l.initial.extents.items l.extents.items;
  fewer : length l.reader.ahead ≤ length l.initial.reader.ahead;
}

abbrev pub decreases-sizes : goal.decreases-sizes
decreases-sizes l = length l.reader.ahead
