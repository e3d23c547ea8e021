-- Positions of values in offers.
use Rattle.std.proofs.Common.{◌≡◌, ◌∙◌, ◌↔◌, ℕ, ◌+◌, ◌<◌, ◌≤◌, Bool, true, false, List, length, map, get_or, refl, sym, ap, subst, ⊎_elim}
use Rattle.std.proofs.Common.{IsTrue, arith, below_more}
use Rattle.std.specs.Ordering.{is_lt}
use Rattle.std.specs.declared.cmp.Ordering.{Ordering}
use Rattle.std.specs.declared.cmp.Ordering.TheVariants.{Less, Equal, Greater}
use Rattle.std.proofs.lemmas.List.{get_or-map, get_or_past}
use Rattle.std.proofs.lemmas.Bool.{cases_lt}
use Rattle.base_numbers.specs.Extended.{Ext as Extended, neg_inf, fin, pos_inf, ◌≤ᴱ◌, ◌<ᴱ◌}
use Rattle.base_numbers.specs.Compare.{cmp_ᴱ}
use Rattle.base_numbers.proofs.extended.ExtendedLaws.{≤ᴱ_refl, ≤ᴱ_trans, ext_le_or_lt, ext_le_of_lt, ext_not_le_of_lt, cmpᴱ-less, less-cmpᴱ}
use Rattle.base_numbers.proofs.extended.ExtendedLaws.{ext_lt_of_le_of_lt, ext_lt_of_lt_of_le}
use Rattle.base_fractions.specs.declared.ext.Ext.{Ext}
use Rattle.base_fractions.specs.Extended.{extended}
use Rattle.solve_offers.specs.declared.offer.Offer.{Offer}
use Rattle.solve_offers.specs.Offers.{Exceeds, SomeExceeds, IsFirstGreatest, is_top}

is_lt-less : (o : Ordering) → is_lt o ≡ true → o ≡ Less
is_lt-less Less e = refl
is_lt-less Equal e = cc
is_lt-less Greater e = cc

-- a test by the order
pub tested : (x y : Extended) (b : Bool) → b ≡ is_lt (cmp_ᴱ x y) → IsTrue b ↔ (x <ᴱ y)
tested x y b e = (λ h. cmpᴱ-less x y (is_lt-less (cmp_ᴱ x y) (sym e ∙ h)), λ h. e ∙ ap is_lt (less-cmpᴱ x y h))

-- what isn't below is at least
pub not_below : (x y : Extended) → (x <ᴱ y → ⊥) → y ≤ᴱ x
not_below x y h = ⊎_elim (λ k. k) (λ k. absurd (h k)) (ext_le_or_lt y x)

bottom : (x : Extended) → neg_inf ≤ᴱ x
bottom x = tt

-- nothing is below -∞
pub none_below : (x : Extended) → x <ᴱ neg_inf → ⊥
none_below neg_inf h = h
none_below (fin q) h = h
none_below pos_inf h = h

-- the value at a position
abbrev pub value : List Ext → ℕ → Extended
value xs k = get_or (map extended xs) k neg_inf

-- a value that is read from a list is the value at its place
pub value_read : (xs : List Ext) (k : ℕ) (x : Ext) → k < length xs → x ≡ get_or xs k x → value xs k ≡ extended x
value_read xs k x l e = get_or-map extended xs k x neg_inf l ∙ ap extended (sym e)

-- the first position of the greatest value so far
pub record BestSoFar (V : ℕ → Extended) (best k : ℕ) : Type 0 where
  -- the best position is among those so far
  pub within : best ≤ k
  -- no value so far is above the best one
  pub greatest : (j : ℕ) → j < k → V j ≤ᴱ V best
  -- each value before the best one is below it
  pub first : (j : ℕ) → j < best → V j <ᴱ V best

module _ (V : ℕ → Extended) (best k : ℕ) (so_far : BestSoFar V best k) where
  -- a greater value comes: it is the greatest so far, and above all before it
  pub best_moves : V best <ᴱ V k → BestSoFar V k (k + 1)
  best_moves l = record {
    within = omega arith;
    greatest = below_more _ _ (λ j b. ≤ᴱ_trans (V j) (V best) (V k) (so_far.greatest j b) (ext_le_of_lt (V best) (V k) l)) (≤ᴱ_refl (V k));
    first = λ j b. ext_lt_of_le_of_lt (V j) (V best) (V k) (so_far.greatest j b) l;
  }

  -- no greater one comes
  pub best_stays : (V best <ᴱ V k → ⊥) → BestSoFar V best (k + 1)
  best_stays l = record {
    within = (let w = so_far.within in omega arith);
    greatest = below_more _ _ so_far.greatest (not_below (V best) (V k) l);
    first = so_far.first;
  }

-- where some value exceeds a bound, the best of all positions is one of them, and exceeds it too
pub best_is : (values : List Extended) (best : ℕ) (bound : Extended) (m : ℕ) → bound <ᴱ get_or values m neg_inf →
    BestSoFar (λ j. get_or values j neg_inf) best (length values) → IsFirstGreatest values best
best_is values best bound m above so_far = record {
  within = ⊎_elim (λ l. l) (λ l. absurd (none_below bound (ext_lt_of_lt_of_le bound (V m) neg_inf above
      (subst (λ v. V m ≤ᴱ v) (get_or_past values best neg_inf l) (greatest m))))) (cases_lt best (length values));
  greatest = greatest;
  first = so_far.first;
}
  where
    V : ℕ → Extended
    V j = get_or values j neg_inf

    greatest : (j : ℕ) → V j ≤ᴱ V best
    greatest j = ⊎_elim (λ l. so_far.greatest j l) (λ l. subst (λ v. v ≤ᴱ V best) (sym (get_or_past values j neg_inf l)) (bottom (V best)))
        (cases_lt j (length values))

-- the greatest value exceeds what some value exceeds
pub best_exceeds : (offer : Offer) (k : ℕ) → SomeExceeds offer → IsFirstGreatest offer.values k → Exceeds offer k
best_exceeds offer k some best = ext_lt_of_lt_of_le (extended offer.bound) (get_or offer.values some.0 neg_inf)
    (get_or offer.values k neg_inf) some.1 (best.greatest some.0)

-- a bound that no value exceeds
pub none_exceeds : (values : List Extended) (bound : Extended) → ((j : ℕ) → j < length values → get_or values j neg_inf ≤ᴱ bound) → (m : ℕ)
    → bound <ᴱ get_or values m neg_inf → ⊥
none_exceeds values bound all m above =
    ⊎_elim (λ l. ext_not_le_of_lt bound (get_or values m neg_inf) above (all m l))
    (λ l. none_below bound (subst (λ v. bound <ᴱ v) (get_or_past values m neg_inf l) above)) (cases_lt m (length values))

-- a bound that is told to be +∞ is
pub top_is : (x : Extended) → is_top x ≡ true → x ≡ pos_inf
top_is neg_inf e = cc
top_is (fin c) e = cc
top_is pos_inf e = refl

-- one that is told not to be is below it
pub below_top : (x : Extended) → is_top x ≡ false → x <ᴱ pos_inf
below_top neg_inf e = tt
below_top (fin c) e = tt
below_top pos_inf e = cc
