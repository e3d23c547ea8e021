use Rattle.flow_rationals.proofs.above.LeastAbove.{post_above, least_above}
use Rattle.flow_rationals.proofs.law.least_vectors_are_least_above.Goals as goal

pub returns-clause-post : goal.returns-clause-post
returns-clause-post c = post_above

pub returns-clause-least : goal.returns-clause-least
returns-clause-least c = least_above
