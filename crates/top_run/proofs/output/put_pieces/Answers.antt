use Rattle.top_run.proofs.output.Putting.{lines_named, one_named}
use Rattle.top_run.proofs.output.put_pieces.Goals as goal

pub returns-in-Lines : goal.returns-in-Lines
returns-in-Lines g c = lines_named _ _ _ _ c.args.pieces c.in-Lines.is c.put_report.ensures

pub returns-in-Whole : goal.returns-in-Whole
returns-in-Whole g c = one_named _ _ _ _ c.args.pieces c.in-Whole.is c.put_certificate.ensures
