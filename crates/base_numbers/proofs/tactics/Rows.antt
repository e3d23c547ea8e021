-- What is known of a polynomial's value: the rows that `Linarith.antt` adds up and `Simplex.antt` finds multipliers for.
use Rattle.std.proofs.Common.{List, [], ◌∷◌, ℤ, pos, ◌+ℤ◌}
use Rattle.base_numbers.proofs.tactics.Ring.{Term, term}

pub data Kind : Type 0 where
  is_eq is_ge is_gt : Kind

-- ---- rows: a fact's kind and its polynomial
pub data Row : Type 0 where
  row : Kind → List Term → Row

abbrev pub constant : List Term → ℤ
constant [] = pos 0
constant (term c [] ∷ p) = c +ℤ constant p
constant (term c (i ∷ m) ∷ p) = constant p
