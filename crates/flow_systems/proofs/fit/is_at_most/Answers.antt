use Rattle.std.proofs.Common.{sym, subst}
use Rattle.base_numbers.specs.Rational.{◌≤ℚ◌}
use Rattle.flow_systems.proofs.fit_tests.Tested.{test_le}
use Rattle.flow_systems.proofs.fit.is_at_most.Goals as goal

pub returns-in_ok-value-in-Fin : goal.returns-in_ok-value-in-Fin
returns-in_ok-value-in-Fin c =
    let t = test_le c.in_ok-value-in-Fin.value c.in-Fin.limit c.le.result c.le.ensures in
    rw c.in-Fin.is (
      (
        λ h. subst (λ v. v ≤ℚ c.in-Fin.limit) c.in_ok-value-in-Fin.ensures.0 (t.0 h),
        λ h. t.1 (subst (λ v. v ≤ℚ c.in-Fin.limit) (sym c.in_ok-value-in-Fin.ensures.0) h),
      ),
      c.in_ok-value-in-Fin.ensures.1,
    )
