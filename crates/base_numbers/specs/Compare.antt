-- What comparisons of numbers answer.
use Rattle.std.specs.Prelude.{pos, ◌*ℤ◌}
use Rattle.std.specs.Ordering.{int_cmp}
use Rattle.std.specs.declared.cmp.Ordering.{Ordering}
use Rattle.std.specs.declared.cmp.Ordering.TheVariants.{Less, Equal, Greater}
use Rattle.base_numbers.specs.Rational.{ℚ}
use Rattle.base_numbers.specs.Extended.{Ext, neg_inf, fin, pos_inf}

-- what a comparison of two rational numbers answers
unfoldable pub cmp_ℚ : ℚ → ℚ → Ordering
cmp_ℚ a b = int_cmp (a.num *ℤ pos b.den) (b.num *ℤ pos a.den)

-- what a comparison of two extended numbers answers
abbrev pub cmp_ᴱ : Ext → Ext → Ordering
cmp_ᴱ neg_inf neg_inf = Equal
cmp_ᴱ neg_inf (fin b) = Less
cmp_ᴱ neg_inf pos_inf = Less
cmp_ᴱ (fin a) neg_inf = Greater
cmp_ᴱ (fin a) (fin b) = cmp_ℚ a b
cmp_ᴱ (fin a) pos_inf = Less
cmp_ᴱ pos_inf neg_inf = Greater
cmp_ᴱ pos_inf (fin b) = Greater
cmp_ᴱ pos_inf pos_inf = Equal
