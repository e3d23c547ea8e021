use Rattle.std.proofs.Common.{◌∙◌}
use Rattle.std.proofs.lemmas.Result.{IfOk-weaker}
use Rattle.lang_grammar.specs.Reaches.{expression_start, reach_of}
use Rattle.lang_grammar.specs.View.{tokens_of}
use Rattle.lang_grammar.proofs.phrase.Exact.{exact_by}
use Rattle.lang_grammar.proofs.phrase.Found.{found_by}
use Rattle.lang_grammar.proofs.phrase.Plain.{plain_reach}
use Rattle.lang_grammar.proofs.expression.examine_expression.Goals as goal

pub returns-clause-found : goal.returns-clause-found
returns-clause-found c =
    IfOk-weaker c.reach.result _ _ (λ s e text. found_by (reach_of s) (tokens_of text c.args.tokens.now)
    (e ∙ plain_reach text expression_start c.args.tokens.now)) c.reach.ensures

pub returns-clause-exact : goal.returns-clause-exact
returns-clause-exact c =
    IfOk-weaker c.reach.result _ _
    (λ s e text t n f. exact_by (reach_of s) t (tokens_of text c.args.tokens.now) (e ∙ plain_reach text expression_start c.args.tokens.now)
    n f) c.reach.ensures
