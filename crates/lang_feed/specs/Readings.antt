-- The second pass over the tokens of an expression.
use Rattle.std.specs.Prelude.{ℕ, List, [], length, Result, Ok, Err}
use Rattle.lang_grammar.specs.Grammar.{semicolon, Token, token}
use Rattle.lang_tokens.specs.Lines.{line_at}
use Rattle.lang_meaning.specs.declared.fault.ParseFault.{ParseFault}
use Rattle.lang_meaning.specs.declared.fault.ParseFault.TheVariants as fault
use Rattle.lang_meaning.specs.Results.{◌>>=◌}
use Rattle.lang_meaning.specs.Walk.{Value, State}
use Rattle.lang_meaning.specs.Feed.{wants, has, Machine, at, feed, feed_one}
use Rattle.lang_meaning.specs.Expressions.{Meaning, knowing, meaning_of}
use Rattle.lang_meaning.specs.ExpressionAnswers.{ExpressionAnswer}

-- the value that is there
abbrev pub value_there : ℕ → Machine → Result Value ParseFault
value_there a (at st fs (has v)) = Ok v
value_there a (at st fs m) = Err (fault.Unexpected a)

-- the tokens of an expression are taken, and a `;` as the end behind them
abbrev pub valued : (ℕ → ℕ) → ℕ → State → ℕ → List Token → Result Value ParseFault
valued line width st a ts = feed line width ts (at st [] wants) >>= λ s. feed_one line width s (token semicolon a) >>= λ r. value_there a r

-- what comes of the tokens of an expression that begins at this place, with the number of the token behind it
abbrev pub reading_of : List ℕ → List (List ℕ) → ℕ → List Token → ℕ → ExpressionAnswer
reading_of text names a ts next = valued (line_at text) (length names) (knowing names) a ts >>= λ v. meaning_of a v >>= λ m. Ok (m, next)

-- what an expression is, with the number of the token behind it
abbrev pub with_next : ℕ → Result Meaning ParseFault → ExpressionAnswer
with_next next r = r >>= λ m. Ok (m, next)
