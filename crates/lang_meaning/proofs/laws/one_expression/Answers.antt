use Rattle.lang_meaning.proofs.meaning.OneExpression.{expression_once}
use Rattle.lang_meaning.proofs.laws.one_expression.Goals as goal

pub returns : goal.returns
returns c = λ text tokens from names r s m n. expression_once text tokens from names r s m n
