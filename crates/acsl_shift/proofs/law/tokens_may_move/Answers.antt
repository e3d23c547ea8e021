use Rattle.acsl_shift.proofs.moves.Nesting.{whole_may_move}
use Rattle.acsl_shift.proofs.moves.Stays.{tokens_may_move}
use Rattle.acsl_shift.proofs.law.tokens_may_move.Goals as goal

pub returns-clause-means : goal.returns-clause-means
returns-clause-means c = tokens_may_move

pub returns-clause-whole : goal.returns-clause-whole
returns-clause-whole c = whole_may_move
