-- The rational numbers with a least and a greatest element.
use Rattle.base_numbers.specs.Rational.{ℚ, ◌≤ℚ◌, ◌<ℚ◌}

-- a rational number, or one of the two infinities
pub data Ext : Type 0 where
  neg_inf : Ext
  fin : ℚ → Ext
  pos_inf : Ext

infix 4 ◌≤ᴱ◌ ◌<ᴱ◌
-- an extended number is at most another
abbrev pub ◌≤ᴱ◌ : Ext → Ext → Type 0
neg_inf ≤ᴱ y = Unit {0}
fin a ≤ᴱ neg_inf = ⊥
fin a ≤ᴱ fin b = a ≤ℚ b
fin a ≤ᴱ pos_inf = Unit {0}
pos_inf ≤ᴱ neg_inf = ⊥
pos_inf ≤ᴱ fin b = ⊥
pos_inf ≤ᴱ pos_inf = Unit {0}

-- an extended number is below another
abbrev pub ◌<ᴱ◌ : Ext → Ext → Type 0
neg_inf <ᴱ neg_inf = ⊥
neg_inf <ᴱ fin b = Unit {0}
neg_inf <ᴱ pos_inf = Unit {0}
fin a <ᴱ neg_inf = ⊥
fin a <ᴱ fin b = a <ℚ b
fin a <ᴱ pos_inf = Unit {0}
pos_inf <ᴱ y = ⊥
