use Rattle.std.proofs.Common.{◌≡◌, map, take}
use Rattle.std.specs.Prelude.{IsTrue}
use Rattle.base_numbers.specs.Rational.{ℚ}
use Rattle.lang_tree.specs.Numbers.{are_numbers}
use Rattle.cert_fitted.proofs.fitting.numerators.Given as goal

abbrev pub invariant-loop-number : goal.invariant-loop-number
invariant-loop-number l = record {
  values : l.row.items ≡ map (λ (q : ℚ). q.num) (take l.number-index l.list);
  numbers : IsTrue (are_numbers l.row.items);
}
