use Rattle.std.proofs.Common.{◌≡◌, ◌∙◌, Bool, sym, refl}
use Rattle.std.specs.Prelude.{IsTrue}
use Rattle.std.specs.Ordering.{partial_lt, as_partial_cmp}
use Rattle.base_numbers.specs.Rational.{ℚ, ◌<ℚ◌}
use Rattle.base_numbers.specs.Compare.{cmp_ℚ}
use Rattle.base_numbers.proofs.compare.Compared.{cmp_lt}
use Rattle.test_solver.proofs.edges.raises.is_below.Goals as goal

test_less : (a b : ℚ) (r : Bool) → r ≡ partial_lt (as_partial_cmp cmp_ℚ) a b → IsTrue r → a <ℚ b
test_less a b r e h = cmp_lt (λ q. q) (λ x y. refl) a b (sym e ∙ h)

pub returns-in-Fin : goal.returns-in-Fin
returns-in-Fin c = rw c.in-Fin.is (test_less c.in-Fin.limit c.args.value c.lt.result c.lt.ensures)
