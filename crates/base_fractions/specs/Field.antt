-- The laws of an ordered field for values that stand for rational numbers, wherever an operation has an answer.
-- `m x` is the number that x stands for, and `cmp` compares two values.
use Rattle.std.specs.Prelude.{◌≡◌, ◌≢◌}
use Rattle.std.specs.Cmp.{IsTotalOrder}
use Rattle.std.specs.Ordering.{ordering_reverse}
use Rattle.std.specs.declared.cmp.Ordering.{Ordering}
use Rattle.std.specs.declared.cmp.Ordering.TheVariants.{Less}
use Rattle.std.proofs.Common.{refl, [], ◌∷◌, ap, ap₂, sym, ◌∙◌, subst₂}
use Rattle.base_numbers.specs.Rational.{ℚ, zero_ℚ, one_ℚ, ◌+ℚ◌, ◌-ℚ◌, ◌*ℚ◌, ◌/ℚ◌, neg_ℚ, ◌<ℚ◌}
use Rattle.base_numbers.specs.Compare.{cmp_ℚ}
use Rattle.base_numbers.proofs.rational.Laws.{+ℚ_comm, +ℚ_assoc, +ℚ_idr, +ℚ_invr, *ℚ_comm, *ℚ_assoc, *ℚ_idr, *ℚ-+ℚ, *ℚ_pos, one_ne_zero}
use Rattle.base_numbers.proofs.tactics.Ring.{ring, reads}
use Rattle.base_numbers.proofs.tactics.Linarith.{lin_lt, lt, reads_all}
use Rattle.base_numbers.proofs.rational.Quotients.{quotient_times}
use Rattle.base_numbers.proofs.compare.Compared.{cmp-less, less-cmp, cmp_ℚ_total}

module _ {X : Type 0} (m : X → ℚ) (cmp : X → X → Ordering) where
  -- r is the sum of a and b
  abbrev pub IsSum : X → X → X → Type 0
  IsSum a b r = m r ≡ m a +ℚ m b

  -- r is the difference of a and b
  abbrev pub IsDifference : X → X → X → Type 0
  IsDifference a b r = m r ≡ m a -ℚ m b

  -- r is the product of a and b
  abbrev pub IsProduct : X → X → X → Type 0
  IsProduct a b r = m r ≡ m a *ℚ m b

  -- r is the quotient of a and b
  abbrev pub IsQuotient : X → X → X → Type 0
  IsQuotient a b r = m r ≡ m a /ℚ m b

  -- the operations, as far as they have answers, are those of an ordered field
  pub record IsOrderedField : Type 0 where
    pub sum_comm : (a b r s : X) → IsSum a b r → IsSum b a s → r ≡ s
    pub sum_assoc : (a b c x y r s : X) → IsSum a b x → IsSum x c r → IsSum b c y → IsSum a y s → r ≡ s
    pub sum_zero : (a z r : X) → m z ≡ zero_ℚ → IsSum a z r → r ≡ a
    pub sum_negate : (a n r z : X) → m n ≡ neg_ℚ (m a) → IsSum a n r → m z ≡ zero_ℚ → r ≡ z
    pub difference : (a b r s : X) → IsDifference a b r → IsSum r b s → s ≡ a
    pub product_comm : (a b r s : X) → IsProduct a b r → IsProduct b a s → r ≡ s
    pub product_assoc : (a b c x y r s : X) → IsProduct a b x → IsProduct x c r → IsProduct b c y → IsProduct a y s → r ≡ s
    pub product_one : (a u r : X) → m u ≡ one_ℚ → IsProduct a u r → r ≡ a
    pub distributes : (a b c x y z r s : X) → IsSum b c x → IsProduct a x r → IsProduct a b y → IsProduct a c z → IsSum y z s → r ≡ s
    pub quotient : (a b r s : X) → m b ≢ zero_ℚ → IsQuotient a b r → IsProduct r b s → s ≡ a
    pub zero_not_one : (z u : X) → m z ≡ zero_ℚ → m u ≡ one_ℚ → z ≢ u
    pub total : IsTotalOrder cmp
    pub sum_monotone : (a b c r s : X) → cmp a b ≡ Less → IsSum a c r → IsSum b c s → cmp r s ≡ Less
    pub product_positive : (z a b r : X) → m z ≡ zero_ℚ → cmp z a ≡ Less → cmp z b ≡ Less → IsProduct a b r → cmp z r ≡ Less

  module _ (same : (x y : X) → m x ≡ m y → x ≡ y) (ordered : (x y : X) → cmp x y ≡ cmp_ℚ (m x) (m y)) where
    less : (x y : X) → cmp x y ≡ Less → m x <ℚ m y
    less x y e = cmp-less (m x) (m y) (sym (ordered x y) ∙ e)

    to_less : (x y : X) → m x <ℚ m y → cmp x y ≡ Less
    to_less x y h = ordered x y ∙ less-cmp (m x) (m y) h

    total_order : IsTotalOrder cmp
    total_order = record {
      antisymm = λ x y. ordered x y ∙ cmp_ℚ_total.antisymm (m x) (m y) ∙ ap ordering_reverse (sym (ordered y x));
      trans = λ x y z p q. ordered x z ∙ cmp_ℚ_total.trans (m x) (m y) (m z) (sym (ordered x y) ∙ p) (sym (ordered y z) ∙ q);
      congr = λ x y z p. ordered x z ∙ cmp_ℚ_total.congr (m x) (m y) (m z) (sym (ordered x y) ∙ p) ∙ sym (ordered y z);
    }

    positive : (z a b r : ℚ) → z ≡ zero_ℚ → z <ℚ a → z <ℚ b → r ≡ a *ℚ b → z <ℚ r
    positive z a b r e h i f =
        subst₂ (λ x y. x <ℚ y) (sym e) (sym f) (*ℚ_pos (subst₂ (λ x y. x <ℚ y) e refl h) (subst₂ (λ x y. x <ℚ y) e refl i))

    -- where equal meanings are equal values and the order is that of the numbers, the laws hold
    pub ordered_field : IsOrderedField
    ordered_field = record {
      sum_comm = λ a b r s e f. same r s (e ∙ +ℚ_comm (m a) (m b) ∙ sym f);
      sum_assoc = λ a b c x y r s e f g h. same r s (f ∙ ap (λ t. t +ℚ m c) e ∙ +ℚ_assoc (m a) (m b) (m c) ∙ ap (λ t. m a +ℚ t) (sym g)
          ∙ sym h);
      sum_zero = λ a z r e f. same r a (f ∙ ap (λ t. m a +ℚ t) e ∙ +ℚ_idr (m a));
      sum_negate = λ a n r z e f g. same r z (f ∙ ap (λ t. m a +ℚ t) e ∙ +ℚ_invr (m a) ∙ sym g);
      difference = λ a b r s e f. same s a (f ∙ ap (λ t. t +ℚ m b) e ∙ ring (m a ∷ m b ∷ []) (search reads depth 40) refl);
      product_comm = λ a b r s e f. same r s (e ∙ *ℚ_comm (m a) (m b) ∙ sym f);
      product_assoc = λ a b c x y r s e f g h. same r s (f ∙ ap (λ t. t *ℚ m c) e ∙ *ℚ_assoc (m a) (m b) (m c) ∙ ap (λ t. m a *ℚ t) (sym g)
          ∙ sym h);
      product_one = λ a u r e f. same r a (f ∙ ap (λ t. m a *ℚ t) e ∙ *ℚ_idr (m a));
      distributes = λ a b c x y z r s e f g h k. same r s (f ∙ ap (λ t. m a *ℚ t) e ∙ *ℚ-+ℚ (m a) (m b) (m c)
          ∙ ap₂ (λ t u. t +ℚ u) (sym g) (sym h) ∙ sym k);
      quotient = λ a b r s n e f. same s a (f ∙ ap (λ t. t *ℚ m b) e ∙ quotient_times (m a) (m b) n);
      zero_not_one = λ z u e f g. one_ne_zero (sym f ∙ ap m (sym g) ∙ e);
      total = total_order;
      sum_monotone = λ a b c r s e f g. to_less r s
          (subst₂ (λ x y. x <ℚ y) (sym f) (sym g) (lin_lt (m a ∷ m b ∷ m c ∷ []) (lt (less a b e) ∷ []) (search reads_all depth 40) tt));
      product_positive = λ z a b r e h i f. to_less z r (positive (m z) (m a) (m b) (m r) e (less z a h) (less z b i) f);
    }
