use Rattle.cert_checker.proofs.law.Totals.{column_total, side_total}
use Rattle.cert_checker.proofs.law.evidence_is_summed.Goals as goal

pub returns : goal.returns
returns c = λ system edge rows guards h e. record {
  column = λ k. column_total system edge rows guards k h;
  side =
      λ z. side_total system z edge rows guards e;
}
