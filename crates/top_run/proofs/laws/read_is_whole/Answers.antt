use Rattle.top_run.proofs.parts.Plain.{whole}
use Rattle.top_run.proofs.laws.read_is_whole.Goals as goal

pub returns : goal.returns
returns c = λ files file load h. whole files file load h
