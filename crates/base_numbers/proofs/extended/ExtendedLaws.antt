-- The order of the extended numbers is total, and comparisons answer by it.
use Rattle.std.proofs.Common.{◌≡◌, ◌⊎◌, inl, inr, ⊎_elim, Less, Equal, refl, ap, subst}
use Rattle.std.specs.Ordering.{ordering_reverse}
use Rattle.std.specs.Cmp.{IsTotalOrder}
use Rattle.base_numbers.specs.Rational.{ℚ}
use Rattle.base_numbers.specs.Extended.{Ext, neg_inf, fin, pos_inf, ◌≤ᴱ◌, ◌<ᴱ◌}
use Rattle.base_numbers.proofs.rational.Laws.{≤ℚ_refl, ≤ℚ_trans, ≤ℚ_antisymm, le_or_lt, le_of_lt_ℚ, not_le_of_lt, <ℚ_trans}
use Rattle.base_numbers.specs.Compare.{cmp_ᴱ}
use Rattle.base_numbers.proofs.compare.Compared.{cmp-less, less-cmp, cmp-equal, cmp_ℚ_total}

-- each extended number is at most itself
pub ≤ᴱ_refl : (x : Ext) → x ≤ᴱ x
≤ᴱ_refl neg_inf = tt
≤ᴱ_refl (fin a) = ≤ℚ_refl a
≤ᴱ_refl pos_inf = tt

-- the order of extended numbers is transitive
pub ≤ᴱ_trans : (x y z : Ext) → x ≤ᴱ y → y ≤ᴱ z → x ≤ᴱ z
≤ᴱ_trans neg_inf y z h i = tt
≤ᴱ_trans (fin a) neg_inf z h i = absurd h
≤ᴱ_trans (fin a) (fin b) neg_inf h i = i
≤ᴱ_trans (fin a) (fin b) (fin c) h i = ≤ℚ_trans h i
≤ᴱ_trans (fin a) (fin b) pos_inf h i = tt
≤ᴱ_trans (fin a) pos_inf neg_inf h i = i
≤ᴱ_trans (fin a) pos_inf (fin c) h i = absurd i
≤ᴱ_trans (fin a) pos_inf pos_inf h i = tt
≤ᴱ_trans pos_inf neg_inf z h i = absurd h
≤ᴱ_trans pos_inf (fin b) z h i = absurd h
≤ᴱ_trans pos_inf pos_inf z h i = i

-- two extended numbers, each at most the other, are one
pub ≤ᴱ_antisymm : (x y : Ext) → x ≤ᴱ y → y ≤ᴱ x → x ≡ y
≤ᴱ_antisymm neg_inf neg_inf h i = refl
≤ᴱ_antisymm neg_inf (fin b) h i = absurd i
≤ᴱ_antisymm neg_inf pos_inf h i = absurd i
≤ᴱ_antisymm (fin a) neg_inf h i = absurd h
≤ᴱ_antisymm (fin a) (fin b) h i = ap fin (≤ℚ_antisymm h i)
≤ᴱ_antisymm (fin a) pos_inf h i = absurd i
≤ᴱ_antisymm pos_inf neg_inf h i = absurd h
≤ᴱ_antisymm pos_inf (fin b) h i = absurd h
≤ᴱ_antisymm pos_inf pos_inf h i = refl

-- of two extended numbers the first is at most the second, or the second is below the first
pub ext_le_or_lt : (x y : Ext) → (x ≤ᴱ y) ⊎ (y <ᴱ x)
ext_le_or_lt neg_inf y = inl tt
ext_le_or_lt (fin a) neg_inf = inr tt
ext_le_or_lt (fin a) (fin b) = le_or_lt a b
ext_le_or_lt (fin a) pos_inf = inl tt
ext_le_or_lt pos_inf neg_inf = inr tt
ext_le_or_lt pos_inf (fin b) = inr tt
ext_le_or_lt pos_inf pos_inf = inl tt

-- an extended number below another is at most that one
pub ext_le_of_lt : (x y : Ext) → x <ᴱ y → x ≤ᴱ y
ext_le_of_lt neg_inf y h = tt
ext_le_of_lt (fin a) neg_inf h = h
ext_le_of_lt (fin a) (fin b) h = le_of_lt_ℚ h
ext_le_of_lt (fin a) pos_inf h = tt
ext_le_of_lt pos_inf y h = absurd h

-- an extended number below another isn't at least that one
pub ext_not_le_of_lt : (x y : Ext) → x <ᴱ y → ¬ (y ≤ᴱ x)
ext_not_le_of_lt neg_inf neg_inf h i = h
ext_not_le_of_lt neg_inf (fin b) h i = i
ext_not_le_of_lt neg_inf pos_inf h i = i
ext_not_le_of_lt (fin a) neg_inf h i = h
ext_not_le_of_lt (fin a) (fin b) h i = not_le_of_lt h i
ext_not_le_of_lt (fin a) pos_inf h i = i
ext_not_le_of_lt pos_inf y h i = h

-- of two extended numbers one is at most the other
pub ≤ᴱ_total : (x y : Ext) → (x ≤ᴱ y) ⊎ (y ≤ᴱ x)
≤ᴱ_total x y = ⊎_elim (λ h. inl h) (λ h. inr (ext_le_of_lt y x h)) (ext_le_or_lt x y)

-- a comparison that answers less says that the first extended number is below the second
pub cmpᴱ-less : (x y : Ext) → cmp_ᴱ x y ≡ Less → x <ᴱ y
cmpᴱ-less neg_inf neg_inf e = cc
cmpᴱ-less neg_inf (fin b) e = tt
cmpᴱ-less neg_inf pos_inf e = tt
cmpᴱ-less (fin a) neg_inf e = cc
cmpᴱ-less (fin a) (fin b) e = cmp-less a b e
cmpᴱ-less (fin a) pos_inf e = tt
cmpᴱ-less pos_inf neg_inf e = cc
cmpᴱ-less pos_inf (fin b) e = cc
cmpᴱ-less pos_inf pos_inf e = cc

-- of an extended number below another a comparison answers less
pub less-cmpᴱ : (x y : Ext) → x <ᴱ y → cmp_ᴱ x y ≡ Less
less-cmpᴱ neg_inf neg_inf h = absurd h
less-cmpᴱ neg_inf (fin b) h = refl
less-cmpᴱ neg_inf pos_inf h = refl
less-cmpᴱ (fin a) neg_inf h = absurd h
less-cmpᴱ (fin a) (fin b) h = less-cmp a b h
less-cmpᴱ (fin a) pos_inf h = refl
less-cmpᴱ pos_inf y h = absurd h

-- a comparison answers equal only of one extended number
pub cmpᴱ-equal : (x y : Ext) → cmp_ᴱ x y ≡ Equal → x ≡ y
cmpᴱ-equal neg_inf neg_inf e = refl
cmpᴱ-equal neg_inf (fin b) e = cc
cmpᴱ-equal neg_inf pos_inf e = cc
cmpᴱ-equal (fin a) neg_inf e = cc
cmpᴱ-equal (fin a) (fin b) e = ap fin (cmp-equal a b e)
cmpᴱ-equal (fin a) pos_inf e = cc
cmpᴱ-equal pos_inf neg_inf e = cc
cmpᴱ-equal pos_inf (fin b) e = cc
cmpᴱ-equal pos_inf pos_inf e = refl

<ᴱ_trans : (x y z : Ext) → x <ᴱ y → y <ᴱ z → x <ᴱ z
<ᴱ_trans neg_inf neg_inf z h i = absurd h
<ᴱ_trans neg_inf (fin b) neg_inf h i = i
<ᴱ_trans neg_inf (fin b) (fin c) h i = tt
<ᴱ_trans neg_inf (fin b) pos_inf h i = tt
<ᴱ_trans neg_inf pos_inf z h i = absurd i
<ᴱ_trans (fin a) neg_inf z h i = absurd h
<ᴱ_trans (fin a) (fin b) neg_inf h i = i
<ᴱ_trans (fin a) (fin b) (fin c) h i = <ℚ_trans h i
<ᴱ_trans (fin a) (fin b) pos_inf h i = tt
<ᴱ_trans (fin a) pos_inf z h i = absurd i
<ᴱ_trans pos_inf y z h i = absurd h

cmpᴱ-turned : (x y : Ext) → cmp_ᴱ x y ≡ ordering_reverse (cmp_ᴱ y x)
cmpᴱ-turned neg_inf neg_inf = refl
cmpᴱ-turned neg_inf (fin b) = refl
cmpᴱ-turned neg_inf pos_inf = refl
cmpᴱ-turned (fin a) neg_inf = refl
cmpᴱ-turned (fin a) (fin b) = cmp_ℚ_total.antisymm a b
cmpᴱ-turned (fin a) pos_inf = refl
cmpᴱ-turned pos_inf neg_inf = refl
cmpᴱ-turned pos_inf (fin b) = refl
cmpᴱ-turned pos_inf pos_inf = refl

-- the comparison of extended numbers is a total order
pub cmp_ᴱ_total : IsTotalOrder cmp_ᴱ
cmp_ᴱ_total = record {
  antisymm = cmpᴱ-turned;
  trans = λ x y z p q. less-cmpᴱ x z (<ᴱ_trans x y z (cmpᴱ-less x y p) (cmpᴱ-less y z q));
  congr = λ x y z p. ap (λ w. cmp_ᴱ w z) (cmpᴱ-equal x y p);
}

-- what lies between two fractions is a fraction
pub between : (a : ℚ) (x : Ext) (b : ℚ) → fin a ≤ᴱ x → x ≤ᴱ fin b → (q : ℚ) × (x ≡ fin q)
between a neg_inf b h i = absurd h
between a (fin q) b h i = (q, refl)
between a pos_inf b h i = absurd i

-- what is at most a number below a third is below the third
pub ext_lt_of_le_of_lt : (x y z : Ext) → x ≤ᴱ y → y <ᴱ z → x <ᴱ z
ext_lt_of_le_of_lt x y z h i = ⊎_elim (λ l. absurd (ext_not_le_of_lt y z i (≤ᴱ_trans z x y l h))) (λ l. l) (ext_le_or_lt z x)

-- what is below a number that is at most a third is below the third
pub ext_lt_of_lt_of_le : (x y z : Ext) → x <ᴱ y → y ≤ᴱ z → x <ᴱ z
ext_lt_of_lt_of_le x y z h i = ⊎_elim (λ l. absurd (ext_not_le_of_lt x y h (≤ᴱ_trans y z x i l))) (λ l. l) (ext_le_or_lt z x)

-- equal extended numbers are at most each other
pub ext_le_of_eq : (x y : Ext) → x ≡ y → x ≤ᴱ y
ext_le_of_eq x y e = subst (λ v. x ≤ᴱ v) e (≤ᴱ_refl x)

-- no extended number is below itself
pub ext_lt_irrefl : (x : Ext) → x <ᴱ x → ⊥
ext_lt_irrefl x h = ext_not_le_of_lt x x h (≤ᴱ_refl x)

-- what is at least +∞ is +∞
pub top_from_le : (v : Ext) → pos_inf ≤ᴱ v → v ≡ pos_inf
top_from_le neg_inf h = absurd h
top_from_le (fin c) h = absurd h
top_from_le pos_inf h = refl

-- what is at least a fraction is above -∞
pub above_neg_inf : (a : ℚ) (v : Ext) → fin a ≤ᴱ v → neg_inf <ᴱ v
above_neg_inf a neg_inf h = h
above_neg_inf a (fin c) h = tt
above_neg_inf a pos_inf h = tt

-- what is above something and below something is a fraction
pub finite_inside : (x y z : Ext) → x <ᴱ y → y <ᴱ z → (c : ℚ) × (y ≡ fin c)
finite_inside x neg_inf z h i = absurd (nothing x h)
  where
    nothing : (v : Ext) → v <ᴱ neg_inf → ⊥
    nothing neg_inf h = h
    nothing (fin c) h = h
    nothing pos_inf h = h
finite_inside x (fin c) z h i = (c, refl)
finite_inside x pos_inf z h i = absurd i

-- fractions that are one extended number are one fraction
pub fin_same : (a b : ℚ) → fin a ≡ fin b → a ≡ b
fin_same a b e = cc
