use Rattle.std.proofs.Common.{arith}
use Rattle.source_tokens.proofs.placed.Fronts.{each_in}
use Rattle.source_constants.proofs.directive.limits_at.Goals as goal

pub is_limits-requires-clause-last : goal.is_limits-requires-clause-last
is_limits-requires-clause-last c = each_in c.args.text.now c.args.tokens.now 5 _ c.requires (omega arith)
