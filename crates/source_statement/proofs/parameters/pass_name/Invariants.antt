use Rattle.std.proofs.Common.{◌≡◌, ◌++◌, List, length}
use Rattle.source_grammar.specs.Tokens.{Token}
use Rattle.source_grammar.specs.Grammar.{Specifiers, FunctionName, spell_function_name}
use Rattle.source_reader.specs.Reading.{at_tokens}
use Rattle.source_statement.specs.Onto.{onto_specifiers}
use Rattle.source_statement.proofs.parameters.pass_name.Given as goal

abbrev pub invariant-storage : goal.invariant-storage
invariant-storage l = record {
  left : (ss : Specifiers) (f : FunctionName) (rest : List Token)
      → l.initial.reader.ahead ≡ onto_specifiers ss (spell_function_name f ++ rest)
      → (now : Specifiers) × (l.reader ≡ at_tokens l.initial.reader (onto_specifiers now (spell_function_name f ++ rest)));
}

abbrev pub decreases-storage : goal.decreases-storage
decreases-storage l = length l.reader.ahead
