use Rattle.top_run.proofs.output.Putting.{put_by_lines}
use Rattle.top_run.proofs.output.put_report.Goals as goal

pub returns : goal.returns
returns g c =
    put_by_lines _ _ _ _ _ _ _ _ _ c.put_lines.result _ c.put_status.ensures c.put_lines.ensures.appends c.put_lines.ensures.cause
    c.put_lines.ensures.pieces
