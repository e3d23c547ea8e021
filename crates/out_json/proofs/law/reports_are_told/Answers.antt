use Rattle.out_json.proofs.told.Reports.{reports_told}
use Rattle.out_json.proofs.law.reports_are_told.Goals as goal

pub returns : goal.returns
returns c = reports_told
