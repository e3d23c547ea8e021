-- Two extended fractions that `==` tells apart, or doesn't.
use Rattle.std.proofs.Common.{◌≡◌, Bool, true, false, not, refl, subst}
use Rattle.std.specs.Prelude.{IsTrue}
use Rattle.std.specs.Ordering.{eq_by_cmp}
use Rattle.std.proofs.lemmas.Cmp.{eq_by_cmp_equiv}
use Rattle.base_numbers.specs.Compare.{cmp_ᴱ}
use Rattle.base_numbers.proofs.extended.ExtendedLaws.{cmpᴱ-equal, cmp_ᴱ_total}
use Rattle.base_fractions.specs.declared.ext.Ext.{Ext}
use Rattle.base_fractions.specs.Extended.{extended, ext_cmp}
use Rattle.base_fractions.specs.HashedParts.{is_eq-equal}

-- two extended fractions that `==` tells apart don't stand for one extended number
pub differs : (x y : Ext) → true ≡ not (eq_by_cmp ext_cmp x y) → extended x ≡ extended y → ⊥
differs x y t e = by (eq_by_cmp ext_cmp x y) (subst (λ b. IsTrue (eq_by_cmp cmp_ᴱ (extended x) b)) e
    ((eq_by_cmp_equiv cmp_ᴱ_total).refl (extended x))) t
  where
    by : (b : Bool) → IsTrue b → true ≡ not b → ⊥
    by true h k = cc
    by false h k = cc

-- two extended fractions that `==` doesn't tell apart stand for one extended number
pub equals : (x y : Ext) → false ≡ not (eq_by_cmp ext_cmp x y) → extended x ≡ extended y
equals x y t = cmpᴱ-equal (extended x) (extended y) (is_eq-equal (ext_cmp x y) (by (eq_by_cmp ext_cmp x y) t))
  where
    by : (b : Bool) → false ≡ not b → IsTrue b
    by true k = refl
    by false k = cc
