-- Each call has fewer tokens to come, or is of something smaller that begins with the same one.
use Rattle.std.proofs.Common.{◌≡◌, ◌≤◌, ◌+◌, ◌*◌, ◌++◌, ℕ, List, length, map}
use Rattle.source_tree.specs.Expressions.{Expressions}
use Rattle.source_grammar.specs.Tokens.{Token, right_paren}
use Rattle.source_grammar.specs.Grammar.{Expr, MoreArguments, Subscripts, Groups, GoodMoreArguments, GoodSubscripts}
use Rattle.source_grammar.specs.Grammar.{spell_expr, spell_more_arguments, spell_subscripts}
use Rattle.source_meaning.specs.Expressions.{subscript_count}
use Rattle.source_tree.specs.Extents.{extent_of}
use Rattle.source_reader.specs.Reading.{GoesOn, first_kind}
use Rattle.source_expression.specs.Sides.{IsEvaluatedOf}
use Rattle.source_expression.specs.Joins.{Stops}
use Rattle.source_expression.proofs.Joined.{Goes}
use Rattle.source_expression.proofs.Given.{Listing}
use Rattle.source_expression.proofs.Indexed.{Indexing, brackets_of}
use Rattle.source_expression.proofs.+expressions.Given as goal

abbrev pub decreases-expressions::expression : goal.decreases-expressions::expression
decreases-expressions::expression l = 8 * length l.reader.now.ahead + 5

abbrev pub decreases-expressions::choice : goal.decreases-expressions::choice
decreases-expressions::choice l = 8 * length l.reader.now.ahead + 4

abbrev pub decreases-expressions::joins : goal.decreases-expressions::joins
decreases-expressions::joins l = 8 * length l.reader.now.ahead + 4

abbrev pub decreases-expressions::join : goal.decreases-expressions::join
decreases-expressions::join l = 8 * length l.reader.now.ahead + 3

abbrev pub decreases-expressions::right_side : goal.decreases-expressions::right_side
decreases-expressions::right_side l = 8 * length l.reader.now.ahead + 5

abbrev pub decreases-operands::operand : goal.decreases-operands::operand
decreases-operands::operand l = 8 * length l.reader.now.ahead + 3

abbrev pub decreases-operands::named_element : goal.decreases-operands::named_element
decreases-operands::named_element l = 8 * length l.reader.now.ahead + 2

abbrev pub decreases-subscripts::element : goal.decreases-subscripts::element
decreases-subscripts::element l = 8 * length l.reader.now.ahead + 1

abbrev pub decreases-subscripts::index : goal.decreases-subscripts::index
decreases-subscripts::index l = 8 * length l.reader.now.ahead

abbrev pub invariant-subscripts::element-loop-extent : goal.invariant-subscripts::element-loop-extent
invariant-subscripts::element-loop-extent l = record {
  reads : (at : ℕ) (is : Subscripts) (rest : List Token) → GoodSubscripts is → subscript_count is ≡ length l.extents
      → l.fn.reader.ahead ≡ spell_subscripts is ++ rest
      → Indexing l.site l.known l.next at (map extent_of l.extents) (brackets_of is) rest l.extent-index l.all l.reader.ahead;
  goes : GoesOn l.fn.reader l.reader;
}

abbrev pub decreases-operands::call : goal.decreases-operands::call
decreases-operands::call l = 8 * length l.reader.now.ahead + 2

abbrev pub decreases-operands::grouped : goal.decreases-operands::grouped
decreases-operands::grouped l = 8 * length l.reader.now.ahead + 2

abbrev pub decreases-operands::prefixed : goal.decreases-operands::prefixed
decreases-operands::prefixed l = 8 * length l.reader.now.ahead + 2

abbrev pub decreases-lists::arguments : goal.decreases-lists::arguments
decreases-lists::arguments l = 8 * length l.reader.now.ahead + 8

abbrev pub decreases-lists::argument : goal.decreases-lists::argument
decreases-lists::argument l = 8 * length l.reader.now.ahead + 7

abbrev pub decreases-lists::one : goal.decreases-lists::one
decreases-lists::one l = 8 * length l.reader.now.ahead + 6

abbrev pub decreases-lists::more_arguments : goal.decreases-lists::more_arguments
decreases-lists::more_arguments l = 8 * length l.reader.now.ahead + 6

abbrev pub invariant-expressions::joins-signs : goal.invariant-expressions::joins-signs
invariant-expressions::joins-signs l = record {
  reads : (e : Expr) (rest : List Token) → 1 ≤ l.least → Groups l.least e → Stops l.least rest
      → l.fn.reader.ahead ≡ spell_expr e ++ rest → Goes l.site l.known l.next l.least l.first e rest l.value l.reader.ahead;
  goes : GoesOn l.fn.reader l.reader;
}

abbrev pub decreases-expressions::joins-signs : goal.decreases-expressions::joins-signs
decreases-expressions::joins-signs l = length l.reader.ahead

abbrev pub invariant-lists::more_arguments-commas : goal.invariant-lists::more_arguments-commas
invariant-lists::more_arguments-commas l = record {
  reads : (xs : Expressions) (h : ℕ) (es : MoreArguments) (rest : List Token) → IsEvaluatedOf l.site h l.fn.before xs
      → GoodMoreArguments es → first_kind rest ≡ right_paren → l.fn.reader.ahead ≡ spell_more_arguments es ++ rest
      → Listing l.site l.known h xs es rest l.all l.reader.ahead;
  goes : GoesOn l.fn.reader l.reader;
}

abbrev pub decreases-lists::more_arguments-commas : goal.decreases-lists::more_arguments-commas
decreases-lists::more_arguments-commas l = length l.reader.ahead
