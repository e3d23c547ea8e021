use Rattle.cert_checker.proofs.first_pass.Comparisons.{test_less}
use Rattle.cert_checker.proofs.first_pass.is_below.Goals as goal

pub returns-in-Fin : goal.returns-in-Fin
returns-in-Fin c = rw c.in-Fin.is (test_less c.in-Fin.limit c.args.number c.lt.result c.lt.ensures)
