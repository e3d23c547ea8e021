-- What is answered of an expression: found, exact and within the limits.
use Rattle.std.proofs.Common.{◌≡◌, ◌+◌, ◌<◌, ℕ, List, length, drop, get_or, Result, Ok, Err, subst}
use Rattle.std.specs.Prelude.{slice_range}
use Rattle.std.specs.Result.{IsErrAnd, IfOk}
use Rattle.lang_grammar.specs.Grammar.{Token}
use Rattle.lang_grammar.specs.View.{tokens_of}
use Rattle.lang_tokens.specs.declared.token.Token as lex_token
use Rattle.lang_parser.specs.declared.alone.Read.{Read}
use Rattle.lang_meaning.specs.declared.fault.ParseFault.{ParseFault}
use Rattle.lang_meaning.specs.declared.fault.ParseFault.TheVariants.{NoMemory}
use Rattle.lang_meaning.specs.ExpressionAnswers.{ExpressionAnswer, ExpressionMeans, HasLongest, IsRefused, MeaningFits}
use Rattle.lang_feed.specs.Readings.{reading_of}
use Rattle.lang_parser.specs.Expressions.{read_of, expr_of}
use Rattle.lang_meaning.specs.Gives.{Gives}
use Rattle.lang_feed.proofs.texts.Expressions.{some_meaning, reading_means}
use Rattle.lang_meaning.proofs.meaning.OneExpression.{expression_once}
use Rattle.lang_feed.proofs.counts.WholeTexts.{EndsWell}
use Rattle.lang_meaning.proofs.results.Binds.{handed_on}
use Rattle.lang_meaning.proofs.limits.Expressions.{AnswerFits, means_fits}

abbrev pub Found : List ℕ → List Token → ℕ → List (List ℕ) → Result Read ParseFault → Type 0
Found text ts from names result = (wanted : ExpressionAnswer) × ExpressionMeans text ts from names wanted × Gives read_of result wanted

abbrev pub Exact : List ℕ → List Token → ℕ → List (List ℕ) → Result Read ParseFault → Type 0
Exact text ts from names result = (wanted : ExpressionAnswer) → ExpressionMeans text ts from names wanted → Gives read_of result wanted

-- where both passes have been made
module _ (text : List ℕ) (ts : List lex_token.Token) (from n : ℕ) (d : lex_token.Token) (names : List (List ℕ)) (within : from < length ts)
    (longest : HasLongest (drop from (tokens_of text ts)) n) (result : Result Read ParseFault)
    (gives : Gives read_of result (reading_of text names (get_or ts from d).at (tokens_of text (slice_range ts from (from + n)))
    (from + n))) where
  -- the tokens mean something, and that is the answer, unless it is want of memory
  pub reading_found : Found text (tokens_of text ts) from names result
  reading_found = (_, reading_means text ts from n d names within longest, gives)

  -- whatever the tokens mean is the answer, unless it is want of memory
  pub reading_exact : Exact text (tokens_of text ts) from names result
  reading_exact = λ w m. subst (λ (x : ExpressionAnswer). Gives read_of result x)
      (expression_once text (tokens_of text ts) from names _ w (reading_means text ts from n d names within longest) m) gives

-- where the first pass has refused the tokens
module _ (text : List ℕ) (ts : List Token) (from : ℕ) (names : List (List ℕ)) (f : ParseFault) (result : Result Read ParseFault)
    (handed : IsErrAnd result (λ y. y ≡ f))
    (refused : (f ≡ NoMemory → ⊥) → IsRefused text ts from f) where
  -- whatever the tokens mean is the fault that is answered, unless it is want of memory
  pub refused_exact : Exact text ts from names result
  refused_exact = λ w m. handed_on read_of result f w handed (λ n. expression_once text ts from names w (Err f) m (refused n names))

  -- tokens whose last is the end of a text mean something, and that is the fault that is answered, unless it is want of memory
  pub refused_found : EndsWell (drop from ts) → Found text ts from names result
  refused_found e = let s = some_meaning text ts from names e in (s.0, s.1, refused_exact s.0 s.1)

-- what is answered of what is meant
pub read_fits : (text : List ℕ) (ts : List Token) (from : ℕ) (names : List (List ℕ)) (r : ExpressionAnswer)
    → ExpressionMeans text ts from names r
    → (result : Result Read ParseFault) → Gives read_of result r → IfOk result (λ read. MeaningFits (length names) (expr_of read.expr))
read_fits text ts from names r m result g = on result g where
  on : (result : Result Read ParseFault) → Gives read_of result r → IfOk result (λ read. MeaningFits (length names) (expr_of read.expr))
  on (Ok x) h = subst (AnswerFits (length names)) h (means_fits text ts from names r m)
  on (Err e) h = tt
