-- The four formulas at single entries.
use Rattle.std.proofs.Common.{◌≡◌, ◌≢◌, Bool, true, false, cond, ℤ, List, [], ◌∷◌, Some, None, Result, MatchResult, refl, ap, ap₂}
use Rattle.std.proofs.Common.{sym, ◌∙◌, subst, true≢false}
use Rattle.base_numbers.specs.Rational.{ℚ, zero_ℚ, one_ℚ, inv_ℚ, neg_ℚ, ◌+ℚ◌, ◌*ℚ◌, ◌/ℚ◌}
use Rattle.base_numbers.proofs.rational.Laws.{div_ℚ_is, zero-*ℚ, *ℚ-zero, neg_ℚ-zero, +ℚ_idr}
use Rattle.base_fractions.specs.Fits.{Fits}
use Rattle.base_fractions.specs.declared.wide.Op.TheVariants.{Add, Mul, Div}
use Rattle.base_fractions.specs.declared.wide.Wide.{Wide}
use Rattle.base_fractions.specs.Operation.{Operation, first_wide, operation_of, Answers}
use Rattle.lp_dictionary.specs.Formulas.{is_zero, divided, division, divided_operations, unless_zero, product_operations, added}
use Rattle.lp_dictionary.specs.Formulas.{added_operations}
use Rattle.lp_dictionary.proofs.Widths.{first_wide_past, first_wide_here, is_zero_yes, is_zero_no, one_answer}

zero_over : (p : ℚ) → neg_ℚ (zero_ℚ /ℚ p) ≡ zero_ℚ
zero_over p = ap neg_ℚ (div_ℚ_is zero_ℚ p ∙ zero-*ℚ (inv_ℚ p)) ∙ neg_ℚ-zero

module _ (L : ℤ) where
  -- formula 1
  pub divided_at : {F : Type 0} (m : F → ℚ) (one pivot : F) (a : ℚ) (b : Bool) (res : Result F (Wide F)) → b ≡ true → m one ≡ one_ℚ →
      MatchResult res (λ r. (m r ≡ m one /ℚ m pivot) × Fits L (m r)) (λ e. (¬ (Fits L (m one /ℚ m pivot)))
      × (e ≡ record { op = Div; left = one; right = pivot })) →
      Answers m L (divided a (m pivot) b) (divided_operations a (m pivot) b) res
  divided_at m one pivot a true res e f h =
      subst (λ x. Answers m L (x /ℚ m pivot) (record { op = Div; left = x; right = m pivot } ∷ []) res) f
      (one_answer m L Div one pivot res h)
  divided_at m one pivot a false res e f h = absurd (true≢false (sym e))

  -- formula 2 where the entry is 0
  pub divided_zero : (a p : ℚ) (b : Bool) → b ≡ false → a ≡ zero_ℚ → (a ≡ divided a p b) × (first_wide L (divided_operations a p b) ≡ None)
  divided_zero a p true e z = absurd (true≢false e)
  divided_zero a p false e z = (
    z ∙ sym (ap (λ x. neg_ℚ (x /ℚ p)) z ∙ zero_over p),
    ap (λ t. first_wide L (cond t [] (record { op = Div; left = a; right = p } ∷ []))) (is_zero_yes a z),
  )

  division_is : (a p : ℚ) → a ≢ zero_ℚ → division a p ≡ record { op = Div; left = a; right = p } ∷ []
  division_is a p n = ap (λ t. cond t [] (record { op = Div; left = a; right = p } ∷ [])) (is_zero_no a n)

  -- formula 2 where the quotient is wide
  pub divided_refused : (a p : ℚ) (b : Bool) → b ≡ false → a ≢ zero_ℚ → ¬ (Fits L (a /ℚ p))
      → first_wide L (divided_operations a p b) ≡ Some (record { op = Div; left = a; right = p })
  divided_refused a p true e n w = absurd (true≢false e)
  divided_refused a p false e n w = ap (first_wide L) (division_is a p n)
      ∙ first_wide_here L (record { op = Div; left = a; right = p }) [] w

  -- formula 2 where it fits
  pub divided_off : (a p q r : ℚ) (b : Bool) → b ≡ false → a ≢ zero_ℚ → q ≡ a /ℚ p → Fits L q → r ≡ neg_ℚ q
      → (r ≡ divided a p b) × (first_wide L (divided_operations a p b) ≡ None)
  divided_off a p q r true e n f h g = absurd (true≢false e)
  divided_off a p q r false e n f h g = (
    g ∙ ap neg_ℚ f,
    ap (first_wide L) (division_is a p n) ∙ first_wide_past L (record { op = Div; left = a; right = p }) [] (subst (Fits L) f h),
  )

  none_made : (f b : ℚ) (os : List Operation) → b ≡ zero_ℚ → unless_zero f b os ≡ []
  none_made f b os z = ap (λ t. cond (is_zero f) [] (cond t [] os)) (is_zero_yes b z) ∙ by (is_zero f)
    where
      by : (t : Bool) → cond {A = List Operation} t [] [] ≡ []
      by true = refl
      by false = refl

  -- neither factor is 0
  pub all_made : (f b : ℚ) (os : List Operation) → f ≢ zero_ℚ → b ≢ zero_ℚ → unless_zero f b os ≡ os
  all_made f b os n k = ap₂ (λ s t. cond s [] (cond t [] os)) (is_zero_no f n) (is_zero_no b k)

  -- formula 3 where the pivot row's new entry is 0
  pub product_zero : (f b : ℚ) → b ≡ zero_ℚ → (b ≡ f *ℚ b) × (first_wide L (product_operations f b) ≡ None)
  product_zero f b z = (
    z ∙ sym (ap (λ x. f *ℚ x) z ∙ *ℚ-zero f),
    ap (first_wide L) (none_made f b (record { op = Mul; left = f; right = b } ∷ []) z),
  )

  -- formula 3
  pub product_made : {F : Type 0} (m : F → ℚ) (factor above : F) (res : Result F (Wide F)) → m factor ≢ zero_ℚ → m above ≢ zero_ℚ →
      MatchResult res (λ r. (m r ≡ m factor *ℚ m above) × Fits L (m r))
      (λ e. (¬ (Fits L (m factor *ℚ m above))) × (e ≡ record { op = Mul; left = factor; right = above })) →
      Answers m L (m factor *ℚ m above) (product_operations (m factor) (m above)) res
  product_made m factor above res n k h =
      subst (λ os. Answers m L (m factor *ℚ m above) os res) (sym (all_made (m factor) (m above)
      (record { op = Mul; left = m factor; right = m above } ∷ []) n k)) (one_answer m L Mul factor above res h)

  -- formula 4 leaves the pivot's column
  pub added_at : (a f b : ℚ) (t : Bool) → t ≡ true → (a ≡ added a f b t) × (first_wide L (added_operations a f b t) ≡ None)
  added_at a f b true e = (refl, refl)
  added_at a f b false e = absurd (true≢false (sym e))

  -- formula 4 where the pivot row's new entry is 0
  pub added_zero : (a f b : ℚ) (t : Bool) → t ≡ false → b ≡ zero_ℚ → (a ≡ added a f b t) × (first_wide L (added_operations a f b t) ≡ None)
  added_zero a f b true e z = absurd (true≢false e)
  added_zero a f b false e z = (
    sym (ap (λ x. a +ℚ x) (ap (λ x. f *ℚ x) z ∙ *ℚ-zero f) ∙ +ℚ_idr a),
    ap (first_wide L) (none_made f b (record { op = Mul; left = f; right = b } ∷ record { op = Add; left = a; right = f *ℚ b } ∷ []) z),
  )

  -- formula 4 where the product is wide
  pub added_refused : (a f b : ℚ) (t : Bool) → t ≡ false → f ≢ zero_ℚ → b ≢ zero_ℚ → ¬ (Fits L (f *ℚ b))
      → first_wide L (added_operations a f b t) ≡ Some (record { op = Mul; left = f; right = b })
  added_refused a f b true e n k w = absurd (true≢false e)
  added_refused a f b false e n k w =
      ap (first_wide L) (all_made f b (record { op = Mul; left = f; right = b } ∷ record { op = Add; left = a; right = f *ℚ b } ∷ []) n k)
      ∙ first_wide_here L (record { op = Mul; left = f; right = b }) (record { op = Add; left = a; right = f *ℚ b } ∷ []) w

  -- formula 4
  pub added_off : {F : Type 0} (m : F → ℚ) (entry product : F) (f b : ℚ) (t : Bool) (res : Result F (Wide F)) → t ≡ false → f ≢ zero_ℚ
      → b ≢ zero_ℚ → m product ≡ f *ℚ b → Fits L (m product) →
      MatchResult res (λ r. (m r ≡ m entry +ℚ m product) × Fits L (m r))
      (λ e. (¬ (Fits L (m entry +ℚ m product))) × (e ≡ record { op = Add; left = entry; right = product })) →
      Answers m L (added (m entry) f b t) (added_operations (m entry) f b t) res
  added_off m entry product f b true res e n k g h s = absurd (true≢false e)
  added_off m entry product f b false res e n k g h s =
      let made = all_made f b (record { op = Mul; left = f; right = b } ∷ record { op = Add; left = m entry; right = f *ℚ b } ∷ []) n k in
      let past = ap (first_wide L) made ∙ first_wide_past L (record { op = Mul; left = f; right = b })
      (record { op = Add; left = m entry; right = f *ℚ b } ∷ []) (subst (Fits L) g h) in
      let last = subst (λ x. Answers m L (m entry +ℚ x) (record { op = Add; left = m entry; right = x } ∷ []) res) g
      (one_answer m L Add entry product res s) in
      subst (λ x. MatchResult res (λ r. (m r ≡ m entry +ℚ f *ℚ b) × (x ≡ None)) (λ w. x ≡ Some (operation_of m w))) (sym past) last
