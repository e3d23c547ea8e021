-- The whole numbers of a program.
use Rattle.std.specs.Prelude.{ℤ, Bool, List, nat_abs, nat_le}
use Rattle.std.specs.List.{list_all}

-- within 2^63 - 1 in absolute value
abbrev pub is_number : ℤ → Bool
is_number z = nat_le (nat_abs z) 9223372036854775807

-- each of them is
abbrev pub are_numbers : List ℤ → Bool
are_numbers zs = list_all is_number zs
