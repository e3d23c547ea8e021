-- A code of the extended numbers, by which a proof tells lists of bounds apart.
use Rattle.std.specs.Prelude.{◌≡◌, ◌⊎◌, refl}
use Rattle.std.proofs.Common.{inl, inr}
use Rattle.std.specs.Coded.{Coded, code_by, coded⊎}
use base.Stored.{coded_unit}
use Rattle.base_numbers.specs.Rational.{ℚ}
use Rattle.base_numbers.specs.Extended.{Ext, neg_inf, fin, pos_inf}
use Rattle.base_fractions.specs.Fits.{coded_ℚ}

-- an extended number in parts: -inf, a fraction or +inf
abbrev Parts : Type 0
Parts = Unit {0} ⊎ (ℚ ⊎ Unit {0})

-- the parts of an extended number
abbrev parts_of : Ext → Parts
parts_of neg_inf = inl tt
parts_of (fin q) = inr (inl q)
parts_of pos_inf = inr (inr tt)

-- the extended number of parts
abbrev of_parts : Parts → Ext
of_parts (inl u) = neg_inf
of_parts (inr (inl q)) = fin q
of_parts (inr (inr u)) = pos_inf

-- the parts of an extended number make it again
pub of_parts-parts_of : (x : Ext) → of_parts (parts_of x) ≡ x
of_parts-parts_of neg_inf = refl
of_parts-parts_of (fin q) = refl
of_parts-parts_of pos_inf = refl

-- the code of extended numbers by their parts
abbrev pub coded_extended : Coded Ext
coded_extended = code_by Parts (coded⊎ coded_unit (coded⊎ coded_ℚ coded_unit)) parts_of of_parts of_parts-parts_of
