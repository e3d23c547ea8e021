use Rattle.std.proofs.Common.{◌≡◌, ◌≤◌, List, length}
use Rattle.lang_tokens.specs.Lines.{line_at}
use Rattle.source_grammar.specs.Tokens.{Token}
use Rattle.source_grammar.specs.Grammar.{MoreUpdates, GoodMoreUpdates}
use Rattle.source_grammar.proofs.grammar.Follow.{AfterList}
use Rattle.source_reader.specs.Reading.{first_kind}
use Rattle.source_change.specs.Onto.{onto_more_updates}
use Rattle.source_change.proofs.loops.Updates.{Left}
use Rattle.source_change.proofs.changes.more_updates.Given as goal

abbrev pub invariant-changes : goal.invariant-changes
invariant-changes l = record {
  left : (us : MoreUpdates) (rest : List Token) → GoodMoreUpdates us → l.initial.reader.ahead ≡ onto_more_updates us rest
      → AfterList (first_kind rest)
      → Left l.initial.reader.integers (line_at l.initial.reader.text) l.initial.reader.variables us rest l.initial.reader l.reader
      l.initial.known l.known
      l.initial.deeds.items l.deeds.items;
  fewer : length l.reader.ahead ≤ length l.initial.reader.ahead;
}

abbrev pub decreases-changes : goal.decreases-changes
decreases-changes l = length l.reader.ahead
