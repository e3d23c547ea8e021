use Rattle.flow_systems.proofs.fit_tests.Tested.{test_le}
use Rattle.cert_checker.proofs.first_pass.is_raised.Goals as goal

pub returns-then-is_below : goal.returns-then-is_below
returns-then-is_below c =
    let t = test_le c.args.number c.args.value c.le.result c.le.ensures in
    rw c.in-Plain.is (λ h. (c.is_below.ensures.0 c.if-is_below.true, t.0 h), λ h. t.1 h.1)
