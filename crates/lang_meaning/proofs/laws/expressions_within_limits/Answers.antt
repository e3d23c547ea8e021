use Rattle.std.proofs.Common.{Ok}
use Rattle.lang_meaning.proofs.limits.Expressions.{means_fits}
use Rattle.lang_meaning.proofs.laws.expressions_within_limits.Goals as goal

pub returns : goal.returns
returns c = λ text tokens from names m next i. means_fits text tokens from names (Ok (m, next)) i
