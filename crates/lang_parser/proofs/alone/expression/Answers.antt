use Rattle.std.proofs.Common.{arith}
use Rattle.std.specs.Prelude.{◌+◌}
use Rattle.std.proofs.lemmas.Result.{IfOk-weaker}
use Rattle.lang_grammar.specs.View.{tokens_of}
use Rattle.lang_feed.proofs.texts.Expressions.{ends_from, few_tokens, longest_within}
use Rattle.lang_meaning.proofs.proper.Lexed.{proper_range}
use Rattle.lang_parser.proofs.meaning.ExpressionAnswers.{reading_found, reading_exact, refused_found, refused_exact, read_fits}
use Rattle.lang_meaning.proofs.proper.Lexed.{all_proper}
use Rattle.lang_parser.proofs.alone.expression.Goals as goal

pub returns-in_err-count-clause-exact : goal.returns-in_err-count-clause-exact
returns-in_err-count-clause-exact c =
    refused_exact c.args.text.now (tokens_of c.args.text.now c.args.tokens.now) c.args.from c.args.names.now c.in_err-count.field-0.0
    c.from_residual.result
    c.from_residual.ensures.1 c.in_err-count.ensures.fault

pub returns-in_err-count-clause-found : goal.returns-in_err-count-clause-found
returns-in_err-count-clause-found c =
    refused_found c.args.text.now (tokens_of c.args.text.now c.args.tokens.now) c.args.from c.args.names.now c.in_err-count.field-0.0
    c.from_residual.result
    c.from_residual.ensures.1 c.in_err-count.ensures.fault (ends_from c.args.text.now c.args.tokens.now c.args.from c.requires.tokens
    c.requires.from)

pub overflow_cast-end : goal.overflow_cast-end
overflow_cast-end c =
    omega (
      arith,
      c.requires.size,
      few_tokens c.args.text.now c.args.tokens.now c.requires.tokens,
      longest_within c.args.text.now c.args.tokens.now c.args.from c.in_ok-count.count c.requires.from c.in_ok-count.ensures.read,
    )

pub read_tokens-requires-clause-proper : goal.read_tokens-requires-clause-proper
read_tokens-requires-clause-proper c =
    proper_range c.args.text.now c.args.tokens.now c.args.from (c.args.from + c.in_ok-count.count)
    (all_proper c.args.text.now c.args.tokens.now c.requires.tokens)

pub returns-clause-exact : goal.returns-clause-exact
returns-clause-exact c =
    reading_exact c.args.text.now c.args.tokens.now c.args.from c.in_ok-count.count _ c.args.names.now c.requires.from
    c.in_ok-count.ensures.read
    c.read_tokens.result c.read_tokens.ensures.gives

pub returns-clause-found : goal.returns-clause-found
returns-clause-found c =
    reading_found c.args.text.now c.args.tokens.now c.args.from c.in_ok-count.count _ c.args.names.now c.requires.from
    c.in_ok-count.ensures.read
    c.read_tokens.result c.read_tokens.ensures.gives

pub returns-clause-fits : goal.returns-clause-fits
returns-clause-fits c =
    let f = reading_found c.args.text.now c.args.tokens.now c.args.from c.in_ok-count.count _ c.args.names.now c.requires.from
    c.in_ok-count.ensures.read
    c.read_tokens.result c.read_tokens.ensures.gives in
    read_fits c.args.text.now (tokens_of c.args.text.now c.args.tokens.now) c.args.from c.args.names.now f.0 f.1 c.read_tokens.result f.2

pub returns-clause-next : goal.returns-clause-next
returns-clause-next c =
    let l = longest_within c.args.text.now c.args.tokens.now c.args.from c.in_ok-count.count c.requires.from c.in_ok-count.ensures.read in
    IfOk-weaker c.read_tokens.result _ _ (λ read e. (omega (arith, e), omega (arith, e, l))) c.read_tokens.ensures.next
