use Rattle.std.proofs.Common.{refl}
use Rattle.lang_meaning.specs.Walk.{width_of}
use Rattle.lang_feed.proofs.texts.Programs.{walked_is}
use Rattle.lang_feed.proofs.laws.programs_are_walked.Goals as goal

pub returns : goal.returns
returns c = λ line tokens p r. walked_is line tokens (width_of p) p r refl
