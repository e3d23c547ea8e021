use Rattle.theory_validity.proofs.faults.CertificateFaults.{certificate_fault_none}
use Rattle.theory_validity.proofs.law.faultless_is_valid.Goals as goal

pub returns : goal.returns
returns c = certificate_fault_none
