use Rattle.cert_text.proofs.form_laws.Laws.{one_reading}
use Rattle.cert_text.proofs.law.one_reading.Goals as goal

pub returns : goal.returns
returns c = one_reading
