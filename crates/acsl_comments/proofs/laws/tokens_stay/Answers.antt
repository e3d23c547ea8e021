use Rattle.acsl_comments.proofs.pieces.Stay.{stay}
use Rattle.acsl_comments.proofs.laws.tokens_stay.Goals as goal

pub returns : goal.returns
returns c = stay
