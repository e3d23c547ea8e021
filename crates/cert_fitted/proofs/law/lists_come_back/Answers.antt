use Rattle.cert_fitted.proofs.fitted_laws.Lists.{lists_back}
use Rattle.cert_fitted.proofs.law.lists_come_back.Goals as goal

pub returns : goal.returns
returns c = lists_back
