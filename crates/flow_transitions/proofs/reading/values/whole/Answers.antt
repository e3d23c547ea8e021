use Rattle.std.proofs.Common.{◌∙◌, subst}
use Rattle.lang_grammar.specs.View.{tokens_of}
use Rattle.lang_meaning.specs.ExpressionAnswers.{ExpressionMeans}
use Rattle.lang_parser.specs.Expressions.{expr_of}
use Rattle.flow_transitions.proofs.progress.Expressions.{expression_range, fault_told}
use Rattle.flow_transitions.proofs.reading.values.whole.Goals as goal

pub returns-in-Ok-clause-later : goal.returns-in-Ok-clause-later
returns-in-Ok-clause-later c =
    let text = c.args.text.now in
    let tokens = c.args.tokens.now in
    let h = c.in-Ok.ensures.found in
    let means = subst (ExpressionMeans text (tokens_of text tokens) c.args.at c.args.names.now) h.2 h.1 in
    (expression_range text tokens c.args.at c.args.names.now (expr_of c.in-Ok.read.expr) c.in-Ok.read.next means).0

pub returns-in-Ok-clause-next : goal.returns-in-Ok-clause-next
returns-in-Ok-clause-next c =
    let text = c.args.text.now in
    let tokens = c.args.tokens.now in
    let h = c.in-Ok.ensures.found in
    let means = subst (ExpressionMeans text (tokens_of text tokens) c.args.at c.args.names.now) h.2 h.1 in
    (expression_range text tokens c.args.at c.args.names.now (expr_of c.in-Ok.read.expr) c.in-Ok.read.next means).1

pub returns-in-Ok-clause-means : goal.returns-in-Ok-clause-means
returns-in-Ok-clause-means c =
    let h = c.in-Ok.ensures.found in
    subst (ExpressionMeans c.args.text.now (tokens_of c.args.text.now c.args.tokens.now) c.args.at c.args.names.now) h.2 h.1

pub returns-in-Err-clause-refused : goal.returns-in-Err-clause-refused
returns-in-Err-clause-refused c = λ n.
    let p = c.in-Err.fault in
    let told = fault_told p (λ e. n (c.refused.ensures ∙ e)) in
    let h = c.in-Err.ensures.found in (
      p,
      c.refused.ensures ∙ told.1,
      subst (ExpressionMeans c.args.text.now (tokens_of c.args.text.now c.args.tokens.now) c.args.at
          c.args.names.now) (h.2 told.0) h.1,
    )
