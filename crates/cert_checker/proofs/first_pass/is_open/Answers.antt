use Rattle.std.proofs.Common.{refl}
use Rattle.cert_checker.proofs.first_pass.is_open.Goals as goal

pub returns-in-Fin : goal.returns-in-Fin
returns-in-Fin c = rw (c.in-Jump.is, c.in-Fin.is) (λ t. (c.in-Fin.field-0, refl), λ h. refl)
