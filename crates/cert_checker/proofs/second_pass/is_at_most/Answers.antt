use Rattle.flow_systems.proofs.fit_tests.Tested.{test_le}
use Rattle.cert_checker.proofs.second_pass.is_at_most.Goals as goal

pub returns-in-Fin : goal.returns-in-Fin
returns-in-Fin c = rw c.in-Fin.is (test_le c.in-Fin.limit c.args.number c.le.result c.le.ensures)
