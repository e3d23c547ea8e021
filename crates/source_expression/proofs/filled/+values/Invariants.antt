-- Each call has fewer tokens to come, or is of something smaller that begins with the same one.
use Rattle.std.proofs.Common.{◌≡◌, ◌+◌, ◌*◌, ◌++◌, ℕ, List, length}
use Rattle.source_tree.specs.Expressions.{Expressions}
use Rattle.source_grammar.specs.Tokens.{Token, right_brace}
use Rattle.source_grammar.specs.Grammar.{MoreValues, GoodMoreValues, spell_more_values}
use Rattle.source_reader.specs.Reading.{GoesOn, first_kind}
use Rattle.source_expression.specs.Sides.{IsEvaluatedOf}
use Rattle.source_expression.proofs.Valued.{Listing}
use Rattle.source_expression.proofs.filled.+values.Given as goal

abbrev pub decreases-values : goal.decreases-values
decreases-values l = 4 * length l.reader.now.ahead + 3

abbrev pub decreases-value : goal.decreases-value
decreases-value l = 4 * length l.reader.now.ahead + 2

abbrev pub decreases-listed : goal.decreases-listed
decreases-listed l = 4 * length l.reader.now.ahead + 1

abbrev pub decreases-more_values : goal.decreases-more_values
decreases-more_values l = 4 * length l.reader.now.ahead + 2

abbrev pub invariant-more_values-commas : goal.invariant-more_values-commas
invariant-more_values-commas l = record {
  reads : (xs : Expressions) (h : ℕ) (vs : MoreValues) (rest : List Token) → IsEvaluatedOf l.site h l.fn.before xs
      → GoodMoreValues vs → first_kind rest ≡ right_brace → l.fn.reader.ahead ≡ spell_more_values vs ++ rest
      → Listing l.site l.known h xs vs rest l.all l.reader.ahead;
  goes : GoesOn l.fn.reader l.reader;
}

abbrev pub decreases-more_values-commas : goal.decreases-more_values-commas
decreases-more_values-commas l = length l.reader.ahead
