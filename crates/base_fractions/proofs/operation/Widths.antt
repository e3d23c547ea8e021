-- The test for a wide operation against what the operations of a field answer.
use Rattle.std.proofs.Common.{◌≡◌, ◌∙◌, Bool, true, false, not, cond, T, ◌&&◌, ℤ, pos, nat_abs, List, [], ◌∷◌, ◌++◌, Some, None, Result, Ok}
use Rattle.std.proofs.Common.{Err, MatchResult, refl, ap, sym, subst, true≢false}
use lib.Signed.{le_z}
use Rattle.std.proofs.lemmas.List.Folds.{find-append}
use Rattle.base_numbers.specs.Rational.{ℚ, ◌+ℚ◌, ◌*ℚ◌}
use Rattle.base_fractions.specs.Fits.{Fits}
use Rattle.base_fractions.specs.declared.wide.Op.{Op}
use Rattle.base_fractions.specs.declared.wide.Op.TheVariants.{Add, Mul}
use Rattle.base_fractions.specs.declared.wide.Wide.{Wide}
use Rattle.base_fractions.specs.Operation.{Operation, result_by, result_of, fits, is_wide, first_wide, operation_of, product_sum_operations}
use Rattle.base_fractions.specs.Operation.{Answers}

both_true : (a b : Bool) → T a → T b → a && b ≡ true
both_true true true s t = refl
both_true true false s t = absurd t
both_true false b s t = absurd s

both_parts : (a b : Bool) → a && b ≡ true → T a × T b
both_parts true true e = (tt, tt)
both_parts true false e = absurd (true≢false (sym e))
both_parts false b e = absurd (true≢false (sym e))

-- a number that fits passes the test
fits_yes : (L : ℤ) (q : ℚ) → Fits L q → fits L q ≡ true
unfolding fits
fits_yes L q h = both_true (le_z (pos (nat_abs q.num)) L) (le_z (pos q.den) L) h.num_fits.le h.den_fits.le

fits_out : (L : ℤ) (q : ℚ) → fits L q ≡ true → Fits L q
unfolding fits
fits_out L q e = let p = both_parts (le_z (pos (nat_abs q.num)) L) (le_z (pos q.den) L) e in
    record { num_fits = record { le = p.0 }; den_fits = record { le = p.1 } }

-- and no other number does
fits_no : (L : ℤ) (q : ℚ) → ¬ (Fits L q) → fits L q ≡ false
fits_no L q n = by (fits L q) refl
  where
    by : (b : Bool) → fits L q ≡ b → b ≡ false
    by true e = absurd (n (fits_out L q e))
    by false e = refl

-- an operation whose result fits is passed over
pub first_wide_past : (L : ℤ) (o : Operation) (os : List Operation) → Fits L (result_of o) → first_wide L (o ∷ os) ≡ first_wide L os
first_wide_past L o os h = ap (λ b. cond (not b) (Some o) (first_wide L os)) (fits_yes L (result_of o) h)

-- an operation whose result doesn't fit is the first wide one
pub first_wide_here : (L : ℤ) (o : Operation) (os : List Operation) → ¬ (Fits L (result_of o)) → first_wide L (o ∷ os) ≡ Some o
first_wide_here L o os n = ap (λ b. cond (not b) (Some o) (first_wide L os)) (fits_no L (result_of o) n)

-- where no operation of the first list is wide, the first wide one of both lists is that of the second
pub first_wide_later : (L : ℤ) (os ps : List Operation) → first_wide L os ≡ None → first_wide L (os ++ ps) ≡ first_wide L ps
first_wide_later L os ps e = find-append (is_wide L) os ps ∙ cc

-- a first wide operation of the first list is the first of both lists
pub first_wide_sooner : (L : ℤ) (os ps : List Operation) (o : Operation) → first_wide L os ≡ Some o → first_wide L (os ++ ps) ≡ Some o
first_wide_sooner L os ps o e = find-append (is_wide L) os ps ∙ cc

module _ {F : Type 0} (m : F → ℚ) (L : ℤ) where
  -- the answer of one operation of a field is that of a list with this operation alone
  pub one_answer : (op : Op) (a b : F) (res : Result F (Wide F)) →
      MatchResult res (λ r. (m r ≡ result_by op (m a) (m b)) × Fits L (m r))
      (λ e. (¬ (Fits L (result_by op (m a) (m b)))) × (e ≡ record { op = op; left = a; right = b })) →
      Answers m L (result_by op (m a) (m b)) (record { op = op; left = m a; right = m b } ∷ []) res
  one_answer op a b (Ok r) h = (h.0, first_wide_past L (record { op = op; left = m a; right = m b }) [] (subst (Fits L) h.0 h.1))
  one_answer op a b (Err w) h = first_wide_here L (record { op = op; left = m a; right = m b }) [] h.0
      ∙ ap (λ (x : Wide _). Some (operation_of m x)) (sym h.1)

  -- an answer after operations of which none is wide is the answer of them all
  pub after : (v : ℚ) (os ps : List Operation) (res : Result F (Wide F)) → first_wide L os ≡ None → Answers m L v ps res
      → Answers m L v (os ++ ps) res
  after v os ps (Ok r) e h = (h.0, first_wide_later L os ps e ∙ h.1)
  after v os ps (Err w) e h = first_wide_later L os ps e ∙ h

  -- where the product is wide, it is the first wide operation of a sum with a product
  pub product_refused : (a f b : F) (w : Wide F) → ¬ (Fits L (m f *ℚ m b)) → w ≡ record { op = Mul; left = f; right = b }
      → first_wide L (product_sum_operations (m a) (m f) (m b)) ≡ Some (operation_of m w)
  product_refused a f b w n e =
      first_wide_here L (record { op = Mul; left = m f; right = m b }) (record { op = Add; left = m a; right = m f *ℚ m b } ∷ []) n
      ∙ ap (λ (x : Wide F). Some (operation_of m x)) (sym e)

  -- after a product that fits, the answer of the sum is that of the sum with the product
  pub product_added : (a f b p : F) (res : Result F (Wide F)) → m p ≡ m f *ℚ m b → Fits L (m p) →
      MatchResult res (λ r. (m r ≡ m a +ℚ m p) × Fits L (m r)) (λ e. (¬ (Fits L (m a +ℚ m p)))
      × (e ≡ record { op = Add; left = a; right = p })) →
      Answers m L (m a +ℚ m f *ℚ m b) (product_sum_operations (m a) (m f) (m b)) res
  product_added a f b p res e h s =
      after (m a +ℚ m f *ℚ m b) (record { op = Mul; left = m f; right = m b } ∷ [])
      (record { op = Add; left = m a; right = m f *ℚ m b } ∷ []) res
      (first_wide_past L (record { op = Mul; left = m f; right = m b }) [] (subst (Fits L) e h))
      (subst (λ x. Answers m L (m a +ℚ x) (record { op = Add; left = m a; right = x } ∷ []) res) e (one_answer Add a p res s))
