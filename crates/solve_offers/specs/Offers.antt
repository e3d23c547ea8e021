-- Offers: a bound, and the transformers of some edges.
use Rattle.std.specs.Prelude.{ℕ, ◌<◌, Bool, true, false, List, length, get_or}
use Rattle.base_numbers.specs.Extended.{Ext as Extended, neg_inf, fin, pos_inf, ◌≤ᴱ◌, ◌<ᴱ◌}
use Rattle.base_numbers.proofs.rational.Laws.{<ℚ_prop}
use Rattle.base_fractions.specs.Extended.{extended}
use Rattle.solve_offers.specs.declared.offer.Offer.{Offer}

-- the value at a position exceeds the bound: none does past the last
abbrev pub Exceeds : Offer → ℕ → Type 0
Exceeds offer k = extended offer.bound <ᴱ get_or offer.values k neg_inf

-- some value exceeds the bound
abbrev pub SomeExceeds : Offer → Type 0
SomeExceeds offer = (k : ℕ) × Exceeds offer k

-- whether a bound is +∞
abbrev pub is_top : Extended → Bool
is_top neg_inf = false
is_top (fin c) = false
is_top pos_inf = true

-- the first position of the greatest value
pub record IsFirstGreatest (values : List Extended) (k : ℕ) : Type 0 where
  pub within : k < length values
  pub greatest : (j : ℕ) → get_or values j neg_inf ≤ᴱ get_or values k neg_inf
  pub first : (j : ℕ) → j < k → get_or values j neg_inf <ᴱ get_or values k neg_inf

-- the first position whose value exceeds the bound
pub record IsFirstExceeding (offer : Offer) (k : ℕ) : Type 0 where
  pub exceeds : Exceeds offer k
  pub first : (j : ℕ) → j < k → get_or offer.values j neg_inf ≤ᴱ extended offer.bound

-- two proofs of an order are equal
<ᴱ_prop : (x y : Extended) → IsProp (x <ᴱ y)
<ᴱ_prop neg_inf neg_inf p q = absurd p
<ᴱ_prop neg_inf (fin b) p q = λ i. tt
<ᴱ_prop neg_inf pos_inf p q = λ i. tt
<ᴱ_prop (fin a) neg_inf p q = absurd p
<ᴱ_prop (fin a) (fin b) p q = <ℚ_prop a b p q
<ᴱ_prop (fin a) pos_inf p q = λ i. tt
<ᴱ_prop pos_inf y p q = absurd p

pub Exceeds-prop : (offer : Offer) (k : ℕ) → IsProp (Exceeds offer k)
Exceeds-prop offer k = <ᴱ_prop (extended offer.bound) (get_or offer.values k neg_inf)
