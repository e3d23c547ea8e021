-- Formula 4 at single entries, with the product of formula 3 in the pivot's column.
use Rattle.std.proofs.Common.{◌≡◌, ◌≢◌, Bool, true, false, cond, ℤ, [], ◌∷◌, Option, Some, None, Result, MatchResult, refl, ap, sym, ◌∙◌}
use Rattle.std.proofs.Common.{subst, subst₂, true≢false}
use Rattle.base_numbers.specs.Rational.{ℚ, zero_ℚ, ◌+ℚ◌, ◌*ℚ◌}
use Rattle.base_numbers.proofs.rational.Laws.{*ℚ-zero, +ℚ_idl}
use Rattle.base_fractions.specs.declared.wide.Op.TheVariants.{Mul}
use Rattle.base_fractions.specs.declared.wide.Wide.{Wide}
use Rattle.base_fractions.specs.Operation.{Operation, fits, first_wide, operation_of, product_sum_operations, Answers}
use Rattle.lp_dictionary.specs.Formulas.{is_zero, added_operations, combined}
use Rattle.lp_dictionary.proofs.Entries.{all_made, added_zero}
use Rattle.lp_sparse.specs.Rows.{merged}
use Rattle.lp_sparse.specs.Merge.{kept, term, term_operations}

module _ (L : ℤ) where
  -- where the pivot row's new entry is 0
  pub merged_zero : (a f b p : ℚ) (t : Bool) → t ≡ false → b ≡ zero_ℚ →
      (a ≡ merged a f b p t) × (first_wide L (added_operations a f b t) ≡ None)
  merged_zero a f b p true e z = absurd (true≢false e)
  merged_zero a f b p false e z = added_zero L a f b false refl z

  -- outside the pivot's column
  pub merged_sum : {F : Type 0} (m : F → ℚ) (a f b p : ℚ) (t : Bool) (res : Result F (Wide F)) → t ≡ false → f ≢ zero_ℚ → b ≢ zero_ℚ →
      Answers m L (a +ℚ f *ℚ b) (product_sum_operations a f b) res → Answers m L (merged a f b p t) (added_operations a f b t) res
  merged_sum m a f b p true res e n k s = absurd (true≢false e)
  merged_sum m a f b p false res e n k s = subst (λ os. Answers m L (a +ℚ f *ℚ b) os res)
      (sym (all_made L f b (product_sum_operations a f b) n k)) s

  -- where the row has no entry
  pub merged_term : {F : Type 0} (m : F → ℚ) (f b p : ℚ) (t : Bool) (res : Result F (Wide F))
      → Answers m L (term f b p t) (term_operations f b t) res →
      Answers m L (merged zero_ℚ f b p t) (added_operations zero_ℚ f b t) res
  merged_term m f b p true res h = h
  merged_term {F} m f b p false res h =
      subst₂ (λ v (o : Option Operation). MatchResult res (λ (r : F). (m r ≡ v) × (o ≡ None)) (λ w. o ≡ Some (operation_of m w)))
      (sym (+ℚ_idl (f *ℚ b))) (same (is_zero f) (is_zero b)) h
    where
      one : first_wide L (record { op = Mul; left = f; right = b } ∷ []) ≡ first_wide L (product_sum_operations zero_ℚ f b)
      one = by (fits L (f *ℚ b)) refl
        where
          by : (t : Bool) → fits L (f *ℚ b) ≡ t → first_wide L (record { op = Mul; left = f; right = b } ∷ [])
              ≡ first_wide L (product_sum_operations zero_ℚ f b)
          by true e = rw (+ℚ_idl (f *ℚ b), e)
          by false e = rw e

      same : (s t : Bool) → first_wide L (cond s [] (cond t [] (record { op = Mul; left = f; right = b } ∷ [])))
          ≡ first_wide L (cond s [] (cond t [] (product_sum_operations zero_ℚ f b)))
      same true t = refl
      same false true = refl
      same false false = one

  -- where the pivot's row has no entry
  pub merged_kept : (a f p : ℚ) (t : Bool) → (kept a p t ≡ merged a f zero_ℚ p t) × (first_wide L (added_operations a f zero_ℚ t) ≡ None)
  merged_kept a f p true = (refl, refl)
  merged_kept a f p false = added_zero L a f zero_ℚ false refl refl

-- what stays 0 where both rows have 0
pub combined_none : (L : ℤ) (a f b : ℚ) (t : Bool) → a ≡ zero_ℚ → b ≡ zero_ℚ
    → (combined a f b t ≡ zero_ℚ) × (first_wide L (added_operations a f b t) ≡ None)
combined_none L a f b true y z = (ap (λ x. f *ℚ x) z ∙ *ℚ-zero f, refl)
combined_none L a f b false y z = (sym (added_zero L a f b false refl z).0 ∙ y, (added_zero L a f b false refl z).1)
