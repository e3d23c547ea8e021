use Rattle.acsl_notes.proofs.standing.Places.{comments_stand}
use Rattle.acsl_notes.proofs.laws.comments_may_stand.Goals as goal

pub returns : goal.returns
returns c = comments_stand c.anchors_stand.ensures
