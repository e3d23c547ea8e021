use Rattle.std.proofs.Common.{◌≡◌, ◌≤◌, ℕ, List, ◌∷◌, length}
use Rattle.lang_tokens.specs.Lines.{line_at}
use Rattle.source_grammar.specs.Tokens.{Token, token, right_paren}
use Rattle.source_grammar.specs.Grammar.{MoreParameters}
use Rattle.source_statement.specs.Onto.{onto_more_parameters}
use Rattle.source_statement.proofs.parts.Parameters.{Left}
use Rattle.source_statement.proofs.parameters.more_parameters.Given as goal

abbrev pub invariant-more : goal.invariant-more
invariant-more l = record {
  left : (ps : MoreParameters) (b : ℕ) (rest : List Token)
      → l.initial.reader.ahead ≡ onto_more_parameters ps (token right_paren b ∷ rest)
      → Left l.initial.reader.integers (line_at l.initial.reader.text) l.initial.reader.variables ps
      (token right_paren b ∷ rest) l.initial.reader l.reader
      l.initial.known l.known l.initial.out.items l.out.items;
  fewer : length l.reader.ahead ≤ length l.initial.reader.ahead;
}

abbrev pub decreases-more : goal.decreases-more
decreases-more l = length l.reader.ahead
