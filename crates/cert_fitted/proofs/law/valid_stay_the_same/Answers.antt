use Rattle.cert_fitted.proofs.fitted_laws.Evidence.{valid_same}
use Rattle.cert_fitted.proofs.fitted_laws.Lists.{rows_same}
use Rattle.cert_fitted.proofs.law.valid_stay_the_same.Goals as goal

pub returns-clause-rows : goal.returns-clause-rows
returns-clause-rows c = rows_same

pub returns-clause-cert : goal.returns-clause-cert
returns-clause-cert c = valid_same
