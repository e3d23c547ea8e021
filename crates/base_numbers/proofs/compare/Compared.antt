-- `cmp_ℚ` is a total order, and answers as ≤ℚ and <ℚ do.
use Rattle.std.proofs.Common.{◌≡◌, Bool, true, false, cond, pos, ◌*ℤ◌, Ordering, Less, Equal, Greater, Option, Some, refl, ap, sym, ◌∙◌}
use Rattle.std.proofs.Common.{subst, true≢false}
use Rattle.std.specs.Ordering.{partial_lt, is_some_and, is_lt, is_eq, ordering_reverse, eq_by_cmp}
use Rattle.std.specs.Cmp.{IsTotalOrder, IsEquivalence}
use Rattle.std.proofs.lemmas.Cmp.{int_cmp_total, eq_by_cmp_equiv, tied_itself}
use Rattle.base_numbers.proofs.compare.Tests.{true_from_T, T_from_true}
use Rattle.base_numbers.specs.Rational.{ℚ, lt_ℚ, ◌≤ℚ◌, ◌<ℚ◌}
use Rattle.base_numbers.specs.Compare.{cmp_ℚ}
use Rattle.base_numbers.proofs.rational.Laws.{<ℚ_trans, ≤ℚ_antisymm, le_of_not_lt_ℚ}

answer_less : (s t : Bool) → cond s Less (cond t Greater Equal) ≡ Less → s ≡ true
answer_less true t e = refl
answer_less false true e = cc
answer_less false false e = cc

answer_equal : (s t : Bool) → cond s Less (cond t Greater Equal) ≡ Equal → (s ≡ false) × (t ≡ false)
answer_equal true t e = cc
answer_equal false true e = cc
answer_equal false false e = (refl, refl)

-- a comparison that answers less says that the first number is below the second
pub cmp-less : (a b : ℚ) → cmp_ℚ a b ≡ Less → a <ℚ b
unfolding cmp_ℚ lt_ℚ
cmp-less a b e = record { lt = T_from_true (lt_ℚ a b) (answer_less (lt_ℚ a b) (lt_ℚ b a) e) }

-- of a number below another a comparison answers less
pub less-cmp : (a b : ℚ) → a <ℚ b → cmp_ℚ a b ≡ Less
unfolding cmp_ℚ lt_ℚ
less-cmp a b h = ap (λ s. cond s Less (cond (lt_ℚ b a) Greater Equal)) (true_from_T (lt_ℚ a b) h.lt)

-- a comparison answers equal only of one number
pub cmp-equal : (a b : ℚ) → cmp_ℚ a b ≡ Equal → a ≡ b
unfolding cmp_ℚ lt_ℚ
cmp-equal a b e =
    let h = answer_equal (lt_ℚ a b) (lt_ℚ b a) e in
    ≤ℚ_antisymm (le_of_not_lt_ℚ (λ g. true≢false (sym (true_from_T (lt_ℚ b a) g.lt) ∙ h.1)))
    (le_of_not_lt_ℚ (λ l. true≢false (sym (true_from_T (lt_ℚ a b) l.lt) ∙ h.0)))

-- the comparison of rational numbers is a total order
pub cmp_ℚ_total : IsTotalOrder cmp_ℚ
unfolding cmp_ℚ
cmp_ℚ_total = record {
  antisymm = λ x y. int_cmp_total.antisymm (x.num *ℤ pos y.den) (y.num *ℤ pos x.den);
  trans = λ x y z p q. less-cmp x z (<ℚ_trans (cmp-less x y p) (cmp-less y z q));
  congr = λ x y z p. ap (λ w. cmp_ℚ w z) (cmp-equal x y p);
}

-- of equal numbers a comparison answers equal
pub equal-cmp : (a b : ℚ) → a ≡ b → cmp_ℚ a b ≡ Equal
equal-cmp a b e = subst (λ x. cmp_ℚ a x ≡ Equal) e (tied_itself cmp_ℚ_total a)

-- a comparison that answers greater says that the second number is below the first
pub cmp-greater : (a b : ℚ) → cmp_ℚ a b ≡ Greater → b <ℚ a
cmp-greater a b e = cmp-less b a (cmp_ℚ_total.antisymm b a ∙ ap ordering_reverse e)

-- equality by comparison of rational numbers is an equivalence
pub eq_ℚ_equiv : IsEquivalence (eq_by_cmp cmp_ℚ)
eq_ℚ_equiv = eq_by_cmp_equiv cmp_ℚ_total

is_lt-less : (o : Ordering) → is_lt o ≡ true → o ≡ Less
is_lt-less Less e = refl
is_lt-less Equal e = cc
is_lt-less Greater e = cc

-- what `<`, `==` and the like answer of values that stand for rational numbers
module _ {X : Type 0} (m : X → ℚ) {R : X → X → Ordering} (ordered : (x y : X) → R x y ≡ cmp_ℚ (m x) (m y)) where
  -- where `<` answers yes, the first value's number is below the second's
  pub cmp_lt : (x y : X) → is_lt (R x y) ≡ true → m x <ℚ m y
  cmp_lt x y e = cmp-less (m x) (m y) (is_lt-less (cmp_ℚ (m x) (m y)) (ap is_lt (sym (ordered x y)) ∙ e))

  cmp_not_lt : (x y : X) → is_lt (R x y) ≡ false → m y ≤ℚ m x
  cmp_not_lt x y e = le_of_not_lt_ℚ (λ h. true≢false (sym (ap is_lt (ordered x y ∙ less-cmp (m x) (m y) h)) ∙ e))

  cmp_same : (x y : X) → m x ≡ m y → is_eq (R x y) ≡ true
  cmp_same x y e = ap is_eq (ordered x y ∙ equal-cmp (m x) (m y) e)

  module _ {C : X → X → Option Ordering} (agrees : (x y : X) → C x y ≡ Some (R x y)) (x y : X) (r : Bool) (e : r ≡ partial_lt C x y) where
    -- a test `<` that answers true says that the first value's number is below the second's
    pub test_lt : r ≡ true → m x <ℚ m y
    test_lt f = cmp_lt x y (ap (is_some_and is_lt) (sym (agrees x y)) ∙ sym e ∙ f)

    -- a test `<` that answers false says that the second value's number is at most the first's
    pub test_not_lt : r ≡ false → m y ≤ℚ m x
    test_not_lt f = cmp_not_lt x y (ap (is_some_and is_lt) (sym (agrees x y)) ∙ sym e ∙ f)
