-- Fractions with infinities, as extended numbers and as texts.
use Rattle.std.specs.Prelude.{ℕ, List, [], ◌∷◌}
use Rattle.std.specs.Ordering.{eq_by_cmp}
use Rattle.std.specs.Cmp.{IsTotalOrder, IsEquivalence, on_total}
use Rattle.std.proofs.lemmas.Cmp.{eq_by_cmp_equiv}
use Rattle.std.specs.declared.cmp.Ordering.{Ordering}
use Rattle.base_numbers.specs.Extended.{Ext as Extended, neg_inf, fin, pos_inf}
use Rattle.base_numbers.specs.Compare.{cmp_ᴱ}
use Rattle.base_numbers.proofs.extended.ExtendedLaws.{cmp_ᴱ_total}
use Rattle.base_fractions.specs.declared.ext.Ext.{Ext}
use Rattle.base_fractions.specs.declared.ext.Ext.TheVariants.{NegInf, Fin, PosInf}
use Rattle.base_fractions.specs.Fits.{Fits, long_limit}
use Rattle.base_fractions.specs.Texts.{frac_text}

-- the extended number that a value stands for
abbrev pub extended : Ext → Extended
extended NegInf = neg_inf
extended (Fin q) = fin q
extended PosInf = pos_inf

-- a fraction fits
abbrev pub ExtFits : Ext → Type 0
ExtFits NegInf = Unit {0}
ExtFits (Fin q) = Fits long_limit q
ExtFits PosInf = Unit {0}

-- the text of a fraction, `-inf` or `+inf`
abbrev pub ext_text : Ext → List ℕ
ext_text NegInf = 45 ∷ 105 ∷ 110 ∷ 102 ∷ []
ext_text (Fin q) = frac_text q
ext_text PosInf = 43 ∷ 105 ∷ 110 ∷ 102 ∷ []

-- values are compared as the extended numbers are
abbrev pub ext_cmp : Ext → Ext → Ordering
ext_cmp x y = cmp_ᴱ (extended x) (extended y)

-- the comparison of extended fractions is a total order
pub ext_cmp_total : IsTotalOrder ext_cmp
ext_cmp_total = on_total extended cmp_ᴱ_total

-- equality by comparison of extended fractions is an equivalence
pub ext_cmp_equiv : IsEquivalence (eq_by_cmp ext_cmp)
ext_cmp_equiv = eq_by_cmp_equiv ext_cmp_total
