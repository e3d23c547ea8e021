-- What is hashed of a number: its parts, so equal numbers hash alike.
use Rattle.std.specs.Prelude.{◌≡◌, ◌++◌, ℕ, List, IsTrue, true}
use Rattle.std.specs.Ordering.{eq_by_cmp, is_eq}
use Rattle.std.specs.declared.cmp.Ordering.{Ordering}
use Rattle.std.specs.declared.cmp.Ordering.TheVariants.{Less, Equal, Greater}
use Rattle.std.specs.Hash as fed
use Rattle.std.proofs.Common.{refl, ap}
use Rattle.base_numbers.specs.Rational.{ℚ}
use Rattle.base_numbers.specs.Compare.{cmp_ℚ}
use Rattle.base_numbers.proofs.compare.Compared.{cmp-equal}

-- numerator and denominator
abbrev pub frac_hash : ℚ → List (List ℕ)
frac_hash q = fed.i64 q.num ++ fed.u64 q.den

-- an answer of a comparison that is_eq accepts is equal
pub is_eq-equal : (o : Ordering) → is_eq o ≡ true → o ≡ Equal
is_eq-equal Less e = cc
is_eq-equal Equal e = refl
is_eq-equal Greater e = cc

-- fractions that compare as equal hash alike
pub frac_hash_agrees : (x y : ℚ) → IsTrue (eq_by_cmp cmp_ℚ x y) → frac_hash x ≡ frac_hash y
frac_hash_agrees x y e = ap frac_hash (cmp-equal x y (is_eq-equal (cmp_ℚ x y) e))
