use Rattle.theory_validity.proofs.steps.CertificateLaw.{certificate_least}
use Rattle.theory_validity.proofs.law.certificates_are_least.Goals as goal

pub returns : goal.returns
returns c = certificate_least
