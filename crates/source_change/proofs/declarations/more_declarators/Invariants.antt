use Rattle.std.proofs.Common.{◌≡◌, ◌≤◌, List, length}
use Rattle.lang_tokens.specs.Lines.{line_at}
use Rattle.source_grammar.specs.Tokens.{Token}
use Rattle.source_grammar.specs.Grammar.{MoreDeclarators, GoodMoreDeclarators}
use Rattle.source_grammar.proofs.grammar.Follow.{AfterList}
use Rattle.source_reader.specs.Reading.{first_kind}
use Rattle.source_change.specs.Onto.{onto_more_declarators}
use Rattle.source_change.proofs.loops.Declarators.{Left}
use Rattle.source_change.proofs.declarations.more_declarators.Given as goal

abbrev pub invariant-names : goal.invariant-names
invariant-names l = record {
  left : (xs : MoreDeclarators) (rest : List Token) → GoodMoreDeclarators xs → l.initial.reader.ahead ≡ onto_more_declarators xs rest
      → AfterList (first_kind rest)
      → Left l.initial.reader.integers (line_at l.initial.reader.text) l.initial.reader.variables xs rest l.initial.reader l.reader
      l.initial.known l.known
      l.initial.out.items l.out.items;
  fewer : length l.reader.ahead ≤ length l.initial.reader.ahead;
}

abbrev pub decreases-names : goal.decreases-names
decreases-names l = length l.reader.ahead
