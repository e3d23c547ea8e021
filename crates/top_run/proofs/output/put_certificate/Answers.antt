use Rattle.top_run.proofs.output.Putting.{put_in_one}
use Rattle.top_run.proofs.output.put_certificate.Goals as goal

pub returns : goal.returns
returns g c =
    put_in_one _ _ _ _ _ _ _ _ _ c.put.result _ c.put_status.ensures c.put.ensures.appends c.put.ensures.cause c.put.ensures.takes
