-- Products and sums with a factor that is 1 or -1.
use mir.Syntax.{w64}
use lib.Signed.{mag}
use Rattle.std.proofs.lemmas.Int.{ints, to_z-of_z}
use Rattle.std.proofs.Common.{◌≡◌, ◌<◌, ◌^◌, ℤ, FitsSigned, to_z, of_z, pos, [], ◌∷◌, Some, Result, Ok, Err, MatchResult, ap, sym, ◌∙◌}
use Rattle.std.proofs.Common.{subst, arith}
use Rattle.base_numbers.specs.Rational.{ℚ, one_ℚ, neg_ℚ, ◌+ℚ◌, ◌*ℚ◌}
use Rattle.base_numbers.proofs.rational.Laws.{*ℚ_idl, neg_ℚ-*ℚ, neg_ℚ-neg_ℚ}
use Rattle.base_numbers.proofs.rational.Reps.{IsRep, rep, rep_eq, rep_one}
use borrow.Author.Differences.{up, down}
use Rattle.base_fractions.specs.Fits.{Fits}
use Rattle.base_fractions.specs.declared.wide.Op.TheVariants.{Add, Mul}
use Rattle.base_fractions.specs.declared.wide.Wide.{Wide}
use Rattle.base_fractions.specs.Operation.{operation_of, product_sum_operations, Answers}
use Rattle.lp_dictionary.proofs.Widths.{first_wide_past, first_wide_here}

-- a number whose parts are 1
pub one_by_parts : (q : ℚ) → q.num ≡ pos 1 → q.den ≡ 1 → q ≡ one_ℚ
one_by_parts q e d = rep_eq (subst (λ n. IsRep q 1 0 n) d (subst (λ z. IsRep q (up z) (down z) q.den) e (rep q))) rep_one (omega arith)

-- a word that is read as 1
pub one_read : (x : ℤ) → mag x < 2 ^ 63 → of_z w64 x ≡ 1 → x ≡ pos 1
one_read x h e = sym (to_z-of_z w64 x (let f : FitsSigned w64 x = omega (arith, ints, h) in f)) ∙ ap (to_z w64) e

-- the product with 1 and with -1
pub times_one : (f b : ℚ) → f ≡ one_ℚ → b ≡ f *ℚ b
times_one f b e = sym (ap (λ x. x *ℚ b) e ∙ *ℚ_idl b)

-- a product with the factor -1 is the negated other factor
pub times_negated : (f b : ℚ) → neg_ℚ f ≡ one_ℚ → neg_ℚ b ≡ f *ℚ b
times_negated f b e = ap neg_ℚ (times_one (neg_ℚ f) b e ∙ neg_ℚ-*ℚ f b) ∙ neg_ℚ-neg_ℚ (f *ℚ b)

module _ {F : Type 0} (m : F → ℚ) (L : ℤ) (f b : ℚ) (term : F) (e : m term ≡ f *ℚ b) (h : Fits L (m term)) where
  -- the product alone
  pub unit_answer : Answers m L (f *ℚ b) (record { op = Mul; left = f; right = b } ∷ []) (Ok term)
  unit_answer = (e, first_wide_past L (record { op = Mul; left = f; right = b }) [] (subst (Fits L) e h))

  -- the sum with it
  pub unit_sum : (x : F) (res : Result F (Wide F)) → MatchResult res (λ r. (m r ≡ m x +ℚ m term) × Fits L (m r))
      (λ w. (¬ (Fits L (m x +ℚ m term))) × (w ≡ record { op = Add; left = x; right = term })) →
      Answers m L (m x +ℚ f *ℚ b) (product_sum_operations (m x) f b) res
  unit_sum x (Ok r) s = (
    s.0 ∙ ap (λ y. m x +ℚ y) e,
    first_wide_past L (record { op = Mul; left = f; right = b }) (record { op = Add; left = m x; right = f *ℚ b } ∷ []) (subst (Fits L) e h)
        ∙ first_wide_past L (record { op = Add; left = m x; right = f *ℚ b }) [] (subst (Fits L) (s.0 ∙ ap (λ y. m x +ℚ y) e) s.1),
  )
  unit_sum x (Err w) s =
      first_wide_past L (record { op = Mul; left = f; right = b }) (record { op = Add; left = m x; right = f *ℚ b } ∷ [])
      (subst (Fits L) e h)
      ∙ first_wide_here L (record { op = Add; left = m x; right = f *ℚ b }) [] (subst (λ y. ¬ (Fits L (m x +ℚ y))) e s.0)
      ∙ ap (λ y. Some (record { op = Add; left = m x; right = y })) (sym e)
      ∙ ap (λ (v : Wide _). Some (operation_of m v)) (sym s.1)
