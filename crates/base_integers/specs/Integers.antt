-- The integers by which a function computes: all of them, or those of a machine.
use Rattle.std.specs.Prelude.{ℕ, ℤ, pos, negsuc, ◌≤ℤ◌}
use Rattle.base_integers.specs.declared.integers.Width.{Width}
use Rattle.base_integers.specs.declared.integers.Width.TheVariants.{Bits8, Bits16, Bits32}
use Rattle.base_integers.specs.declared.integers.Integers.{Integers}
use Rattle.base_integers.specs.declared.integers.Integers.TheVariants.{Mathematical, Machine}

-- the greatest integer of so many bits, in two's complement
abbrev pub greatest : Width → ℕ
greatest Bits8 = 127
greatest Bits16 = 32767
greatest Bits32 = 2147483647

-- a number is one of the integers; the least one of a machine is the opposite of the greatest one less 1
abbrev pub Has : Integers → ℤ → Type 0
Has Mathematical z = Unit {0}
Has (Machine width) z = (negsuc (greatest width) ≤ℤ z) × (z ≤ℤ pos (greatest width))
