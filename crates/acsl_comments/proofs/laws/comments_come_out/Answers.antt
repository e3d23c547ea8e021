use Rattle.acsl_comments.proofs.pieces.Out.{come_out}
use Rattle.acsl_comments.proofs.laws.comments_come_out.Goals as goal

pub returns : goal.returns
returns c = come_out
