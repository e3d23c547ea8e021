-- Numbers, and the forms of guards, within their limits.
use Rattle.std.proofs.Common.{◌≡◌, List, [], ◌∷◌, map, refl}
use Rattle.std.specs.Prelude.{ℤ, pos, negsuc, neg_ℤ, nat_abs, IsTrue, zero, suc}
use Rattle.std.proofs.lemmas.Bool.{and_parts, and_from}
use Rattle.lang_tree.specs.Numbers.{is_number, are_numbers}

-- a negated integer is as far from 0
pub nat_abs-neg : (z : ℤ) → nat_abs (neg_ℤ z) ≡ nat_abs z
nat_abs-neg (pos zero) = refl
nat_abs-neg (pos (suc n)) = refl
nat_abs-neg (negsuc n) = refl

-- negated numbers within the limits are within the limits
pub are_numbers-negated : (zs : List ℤ) → IsTrue (are_numbers zs) → IsTrue (are_numbers (map neg_ℤ zs))
are_numbers-negated [] h = refl
are_numbers-negated (z ∷ zs) h =
    let p = and_parts (is_number z) (are_numbers zs) h in
    and_from (is_number (neg_ℤ z)) (are_numbers (map neg_ℤ zs)) (rw (nat_abs-neg z) p.0) (are_numbers-negated zs p.1)
