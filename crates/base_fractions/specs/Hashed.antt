-- What is hashed of a fraction or an infinity, so that equal values hash alike.
use Rattle.std.specs.Prelude.{◌≡◌, ◌++◌, ℕ, List, IsTrue}
use Rattle.std.specs.Ordering.{eq_by_cmp}
use Rattle.std.specs.Hash as fed
use Rattle.std.proofs.Common.{refl, ap}
use Rattle.base_numbers.proofs.extended.ExtendedLaws.{cmpᴱ-equal}
use Rattle.base_fractions.specs.declared.ext.Ext.{Ext}
use Rattle.base_fractions.specs.declared.ext.Ext.TheVariants.{NegInf, Fin, PosInf}
use Rattle.base_fractions.specs.Extended.{extended, ext_cmp}
use Rattle.base_fractions.specs.HashedParts.{frac_hash, is_eq-equal}

-- a number for the kind, and the fraction
abbrev pub ext_hash : Ext → List (List ℕ)
ext_hash NegInf = fed.u8 0
ext_hash (Fin q) = fed.u8 1 ++ frac_hash q
ext_hash PosInf = fed.u8 2

extended_same : (x y : Ext) → extended x ≡ extended y → x ≡ y
extended_same NegInf NegInf e = refl
extended_same NegInf (Fin q) e = cc
extended_same NegInf PosInf e = cc
extended_same (Fin p) NegInf e = cc
extended_same (Fin p) (Fin q) e = let k : p ≡ q = cc in ap Fin k
extended_same (Fin p) PosInf e = cc
extended_same PosInf NegInf e = cc
extended_same PosInf (Fin q) e = cc
extended_same PosInf PosInf e = refl

-- extended fractions that compare as equal hash alike
pub ext_hash_agrees : (x y : Ext) → IsTrue (eq_by_cmp ext_cmp x y) → ext_hash x ≡ ext_hash y
ext_hash_agrees x y e = ap ext_hash (extended_same x y (cmpᴱ-equal (extended x) (extended y) (is_eq-equal (ext_cmp x y) e)))
