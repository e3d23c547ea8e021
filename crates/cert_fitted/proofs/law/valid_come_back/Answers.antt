use Rattle.cert_fitted.proofs.fitted_laws.Evidence.{dense_back, valid_back}
use Rattle.cert_fitted.proofs.law.valid_come_back.Goals as goal

pub returns-clause-dense : goal.returns-clause-dense
returns-clause-dense c = dense_back

pub returns-clause-bare : goal.returns-clause-bare
returns-clause-bare c = valid_back
