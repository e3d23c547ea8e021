use Rattle.top_run.proofs.parts.Headlined.{is_headline}
use Rattle.top_run.proofs.promise.headline.Goals as goal

pub returns : goal.returns
returns g c = λ analysis format asked. is_headline _ _ _ _ _ _ _ _ _ c.run.ensures.run analysis format asked
