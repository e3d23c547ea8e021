use Rattle.std.proofs.Common.{arith, ap, subst}
use Rattle.lang_grammar.specs.View.{tokens_of}
use Rattle.lang_feed.proofs.texts.Expressions.{few_tokens}
use Rattle.lang_meaning.specs.ExpressionAnswers.{ExpressionMeans}
use Rattle.lang_parser.specs.Expressions.{read_of}
use Rattle.ask_claims.specs.Claims.{parsed}
use Rattle.ask_claims.proofs.claims.Parsed.{parse_handed}
use Rattle.ask_claims.proofs.reading.read_expression.Goals as goal

pub overflow_cast-from : goal.overflow_cast-from
overflow_cast-from c = omega (arith, c.requires.size, c.requires.from, few_tokens c.args.text.now c.args.tokens.now c.requires.tokens)

pub returns-in_err-expression-clause-found : goal.returns-in_err-expression-clause-found
returns-in_err-expression-clause-found c =
    let f = c.in_err-expression.ensures.found in (
      f.0,
      subst (λ names. ExpressionMeans c.args.text.now (tokens_of c.args.text.now c.args.tokens.now) c.args.from names f.0)
          c.as_slice.ensures f.1,
      parse_handed read_of c.from_residual.result c.in_err-expression.field-0.0 f.0 c.from_residual.ensures.1 f.2,
    )

pub returns-clause-found : goal.returns-clause-found
returns-clause-found c =
    let f = c.in_ok-expression.ensures.found in (
      f.0,
      subst (λ names. ExpressionMeans c.args.text.now (tokens_of c.args.text.now c.args.tokens.now) c.args.from names f.0)
          c.as_slice.ensures f.1,
      ap parsed f.2,
    )
