use Rattle.acsl_comments.proofs.pieces.Programs.{programs}
use Rattle.acsl_comments.proofs.laws.programs_stay.Goals as goal

pub returns : goal.returns
returns c = programs c.tokens_may_move.ensures.means c.tokens_may_move.ensures.whole
