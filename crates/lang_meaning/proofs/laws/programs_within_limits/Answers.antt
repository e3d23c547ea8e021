use Rattle.std.proofs.Common.{Ok}
use Rattle.lang_meaning.proofs.limits.Programs.{meant_fits}
use Rattle.lang_meaning.proofs.laws.programs_within_limits.Goals as goal

pub returns : goal.returns
returns c = λ text tokens names body m. meant_fits text tokens (Ok (names, body)) m
