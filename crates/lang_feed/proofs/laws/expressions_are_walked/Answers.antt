use Rattle.lang_feed.proofs.texts.Expressions.{reading_is}
use Rattle.lang_feed.proofs.laws.expressions_are_walked.Goals as goal

pub returns : goal.returns
returns c = λ text names a e next g. reading_is text names a e next g
