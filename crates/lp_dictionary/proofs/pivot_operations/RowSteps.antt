-- One more entry in the loops over a row.
use Rattle.std.proofs.Common.{◌≡◌, ◌≢◌, ℕ, ◌+◌, ◌<◌, ◌≤◌, ◌⊎◌, inl, inr, ⊎_elim, Bool, true, false, cond, eqb, ℤ, List, [], ◌∷◌}
use Rattle.std.proofs.Common.{◌++◌, length, get_or, set, Some, None, refl, ap, ap₂, sym, ◌∙◌, arith}
use Rattle.base_numbers.specs.Rational.{ℚ, zero_ℚ, ◌+ℚ◌, ◌*ℚ◌}
use Rattle.base_numbers.proofs.rational.Laws.{zero-*ℚ, +ℚ_idr}
use Rattle.base_fractions.specs.Operation.{Operation, first_wide}
use Rattle.lp_dictionary.specs.Listed.{joined}
use Rattle.std.proofs.lemmas.Bool.{eqb-true, eqb-false}
use Rattle.base_fractions.specs.declared.wide.Op.TheVariants.{Add, Mul}
use Rattle.lp_dictionary.specs.Formulas.{is_zero, unless_zero, divided, divided_operations, combined, product_operations, added}
use Rattle.lp_dictionary.specs.Formulas.{added_operations, divided_row, combined_row, added_row}
use Rattle.lp_dictionary.specs.PivotOperations.{division_row_operations, added_row_operations, combination_row_operations}
use Rattle.lp_dictionary.specs.Cells.{row_from}
use Rattle.lp_dictionary.specs.Rows.{SetsRow}
use Rattle.lp_dictionary.proofs.Widths.{is_zero_yes, first_wide_sooner, first_wide_later}
use Rattle.lp_dictionary.proofs.cells.Cells.{cell_read, cell_written, cell_kept, sets_more}
use Rattle.lp_dictionary.proofs.listed.Joins.{joined_fits_more, joined_wide_at, joined_fits_none, joined_fits_empty, joined_same}

-- no entries of the pivot's row make no wide operation
pub division_none : (L : ℤ) (a : ℕ → ℚ) (c : ℕ) → first_wide L (division_row_operations 0 a c) ≡ None
unfolding division_row_operations
division_none L a c = joined_fits_none L (λ k. divided_operations (a k) (a c) (eqb k c))

-- no entries of another row make no wide operation
pub added_none : (L : ℤ) (a : ℕ → ℚ) (f : ℚ) (b : ℕ → ℚ) (c : ℕ) → first_wide L (added_row_operations 0 a f b c) ≡ None
unfolding added_row_operations
added_none L a f b c = joined_fits_none L (λ k. added_operations (a k) f (b k) (eqb k c))

module _ {F : Type 0} (m : F → ℚ) (L : ℤ) (old ys : List F) (start k c : ℕ) (x p : F) (below : start + k < length ys)
    (c_below : start + c < length old)
    (x_is : x ≡ get_or ys (start + k) x) (p_is : p ≡ get_or old (start + c) p) where
  module _ (f : ℕ → ℚ) (h : SetsRow m start k f old ys) where
    x_read : m x ≡ row_from m old start k
    x_read = sym (cell_read m ys (start + k) x below x_is) ∙ h.outside (start + k) (inr (omega arith))

    p_read : m p ≡ row_from m old start c
    p_read = sym (cell_read m old (start + c) p c_below p_is)

  -- one more entry of the pivot's row
  pub division_more : (e : F) → SetsRow m start k (divided_row (row_from m old start) c) old ys
      → first_wide L (division_row_operations k (row_from m old start) c) ≡ None →
      (m e ≡ divided (m x) (m p) (eqb k c)) × (first_wide L (divided_operations (m x) (m p) (eqb k c)) ≡ None) →
      SetsRow m start (k + 1) (divided_row (row_from m old start) c) old (set ys (start + k) e)
      × (first_wide L (division_row_operations (k + 1) (row_from m old start) c) ≡ None)
  unfolding division_row_operations
  division_more e h w v =
      let a = row_from m old start in
      let xe : m x ≡ row_from m old start k = x_read (divided_row (row_from m old start) c) h in
      let pe : m p ≡ row_from m old start c = p_read (divided_row (row_from m old start) c) h in (
        sets_more m start k (divided_row (row_from m old start) c) old ys e h below (v.0 ∙ ap₂ (λ s t. divided s t (eqb k c)) xe pe),
        joined_fits_more L k (λ j. divided_operations (row_from m old start j) (row_from m old start c) (eqb j c)) w
            (ap₂ (λ s t. first_wide L (divided_operations s t (eqb k c))) (sym xe) (sym pe) ∙ v.1),
      )

  -- an entry of the pivot's row that is refused
  pub division_refused : (n : ℕ) (o : Operation) → k < n → SetsRow m start k (divided_row (row_from m old start) c) old ys
      → first_wide L (division_row_operations k (row_from m old start) c) ≡ None →
      first_wide L (divided_operations (m x) (m p) (eqb k c)) ≡ Some o
      → first_wide L (division_row_operations n (row_from m old start) c) ≡ Some o
  unfolding division_row_operations
  division_refused n o l h w v =
      let xe : m x ≡ row_from m old start k = x_read (divided_row (row_from m old start) c) h in
      let pe : m p ≡ row_from m old start c = p_read (divided_row (row_from m old start) c) h in
      joined_wide_at L k n (λ j. divided_operations (row_from m old start j) (row_from m old start c) (eqb j c)) o l w
      (ap₂ (λ s t. first_wide L (divided_operations s t (eqb k c))) (sym xe) (sym pe) ∙ v)

module _ {F : Type 0} (m : F → ℚ) (L : ℤ) (old ys : List F) (start above k n c : ℕ) (x y : F) (f : ℚ) (k_below : k < n)
    (below : start + k < length ys) (above_below : above + k < length ys) (apart : (start + n ≤ above) ⊎ (above + n ≤ start))
    (x_is : x ≡ get_or ys (start + k) x) (y_is : y ≡ get_or ys (above + k) y)
    (h : SetsRow m start k (added_row (row_from m old start) f (row_from m old above) c) old ys)
    (w : first_wide L (added_row_operations k (row_from m old start) f (row_from m old above) c) ≡ None) where
  entry_read : m x ≡ row_from m old start k
  entry_read = sym (cell_read m ys (start + k) x below x_is) ∙ h.outside (start + k) (inr (omega arith))

  above_read : m y ≡ row_from m old above k
  above_read = sym (cell_read m ys (above + k) y above_below y_is) ∙ h.outside (above + k)
      (⊎_elim (λ a. inr (omega (arith, a, k_below))) (λ a. inl (omega (arith, a, k_below))) apart)

  -- one more entry of another row
  pub added_more : (e : F) → (m e ≡ added (m x) f (m y) (eqb k c)) × (first_wide L (added_operations (m x) f (m y) (eqb k c)) ≡ None) →
      SetsRow m start (k + 1) (added_row (row_from m old start) f (row_from m old above) c) old (set ys (start + k) e)
      × (first_wide L (added_row_operations (k + 1) (row_from m old start) f (row_from m old above) c) ≡ None)
  unfolding added_row_operations
  added_more e v = (
    sets_more m start k (added_row (row_from m old start) f (row_from m old above) c) old ys e h below
        (v.0 ∙ ap₂ (λ s t. added s f t (eqb k c)) entry_read above_read),
    joined_fits_more L k (λ j. added_operations (row_from m old start j) f (row_from m old above j) (eqb j c)) w
        (ap₂ (λ s t. first_wide L (added_operations s f t (eqb k c))) (sym entry_read) (sym above_read) ∙ v.1),
  )

  -- an entry of another row that is refused
  pub added_stops : (o : Operation) → first_wide L (added_operations (m x) f (m y) (eqb k c)) ≡ Some o
      → first_wide L (added_row_operations n (row_from m old start) f (row_from m old above) c) ≡ Some o
  unfolding added_row_operations
  added_stops o v =
      joined_wide_at L k n (λ j. added_operations (row_from m old start j) f (row_from m old above j) (eqb j c)) o k_below w
      (ap₂ (λ s t. first_wide L (added_operations s f t (eqb k c))) (sym entry_read) (sym above_read) ∙ v)

-- a row with 0 in the pivot's column stays as it is
pub combined_still : (a b : ℕ → ℚ) (c k : ℕ) → a c ≡ zero_ℚ → combined_row a b c k ≡ a k
combined_still a b c k z = by (eqb k c) refl
  where
    by : (t : Bool) → eqb k c ≡ t → combined (a k) (a c) (b k) t ≡ a k
    by true e = ap (λ x. x *ℚ b k) z ∙ zero-*ℚ (b k) ∙ sym (ap a (eqb-true k c e) ∙ z)
    by false e = ap (λ x. a k +ℚ x *ℚ b k) z ∙ ap (λ x. a k +ℚ x) (zero-*ℚ (b k)) ∙ +ℚ_idr (a k)

none_made : (f b : ℚ) (os : List Operation) → f ≡ zero_ℚ → unless_zero f b os ≡ []
none_made f b os z = ap (λ s. cond s [] (cond (is_zero b) [] os)) (is_zero_yes f z)

-- a row with 0 in the pivot's column makes no wide operation
pub combination_still : (L : ℤ) (n : ℕ) (a b : ℕ → ℚ) (c : ℕ) → a c ≡ zero_ℚ → first_wide L (combination_row_operations n a b c) ≡ None
unfolding combination_row_operations added_row_operations
combination_still L n a b c z =
    ap (λ os. first_wide L (os ++ joined n (λ k. added_operations (a k) (a c) (b k) (eqb k c))))
    (none_made (a c) (b c) (record { op = Mul; left = a c; right = b c } ∷ []) z)
    ∙ joined_fits_empty L n (λ k. added_operations (a k) (a c) (b k) (eqb k c)) (λ k l. by k (eqb k c))
  where
    by : (k : ℕ) (t : Bool) → added_operations (a k) (a c) (b k) t ≡ []
    by k true = refl
    by k false = none_made (a c) (b k) (record { op = Mul; left = a c; right = b k } ∷ record { op = Add; left = a k; right = a c *ℚ b k }
        ∷ []) z

-- rows that agree below n make the same operations
pub division_same : (n : ℕ) (a b : ℕ → ℚ) (c : ℕ) → c < n → ((k : ℕ) → k < n → a k ≡ b k)
    → division_row_operations n a c ≡ division_row_operations n b c
unfolding division_row_operations
division_same n a b c l h =
    joined_same n (λ k. divided_operations (a k) (a c) (eqb k c)) (λ k. divided_operations (b k) (b c) (eqb k c))
    (λ k m. ap₂ (λ s t. divided_operations s t (eqb k c)) (h k m) (h c l))

-- rows that agree below n make the same operations
pub combination_same : (n : ℕ) (a a' b b' : ℕ → ℚ) (c : ℕ) → c < n → ((k : ℕ) → k < n → a k ≡ a' k) → ((k : ℕ) → k < n → b k ≡ b' k)
    → combination_row_operations n a b c ≡ combination_row_operations n a' b' c
unfolding combination_row_operations added_row_operations
combination_same n a a' b b' c l h i =
    ap₂ (λ os ps. os ++ ps) (ap₂ product_operations (h c l) (i c l))
    (joined_same n (λ k. added_operations (a k) (a c) (b k) (eqb k c)) (λ k. added_operations (a' k) (a' c) (b' k) (eqb k c))
    (λ k m. ap₂ (λ s t. added_operations s t (b k) (eqb k c)) (h k m) (h c l)
    ∙ ap (λ t. added_operations (a' k) (a' c) t (eqb k c)) (i k m)))

-- entries that agree, with those in the pivot's column, are combined to the same number
pub combined_same : (a a' b b' : ℕ → ℚ) (c k : ℕ) → a k ≡ a' k → a c ≡ a' c → b k ≡ b' k → combined_row a b c k ≡ combined_row a' b' c k
combined_same a a' b b' c k h i j = ap₂ (λ s t. combined s t (b k) (eqb k c)) h i ∙ ap (λ t. combined (a' k) (a' c) t (eqb k c)) j

-- formula 3, and then formula 4
module _ {F : Type 0} (m : F → ℚ) (L : ℤ) (old : List F) (start above n c : ℕ) (v : F) (c_in : c < n) (within : start + n ≤ length old)
    (above_within : above + n ≤ length old) (apart : (start + n ≤ above) ⊎ (above + n ≤ start)) where
  mid : List F
  mid = set old (start + c) v

  mid_entry : (k : ℕ) → k ≢ c → row_from m (set old (start + c) v) start k ≡ row_from m old start k
  mid_entry k d = cell_kept m old (start + c) (start + k) v (λ e. d (omega (arith, e)))

  mid_pivot : row_from m (set old (start + c) v) start c ≡ m v
  mid_pivot = cell_written m old (start + c) v (omega (arith, c_in, within))

  mid_above : (k : ℕ) → k < n → row_from m (set old (start + c) v) above k ≡ row_from m old above k
  mid_above k l = cell_kept m old (start + c) (above + k) v (λ e. ⊎_elim (λ a. omega (arith, e, a, c_in, l))
      (λ a. omega (arith, e, a, c_in, l)) apart)

  -- after formula 3 in the pivot's column and formula 4 elsewhere, the row is the combined one
  pub combined_after : (f : ℚ) (new : List F) → f ≡ row_from m old start c → m v ≡ f *ℚ row_from m old above c
      → SetsRow m start n (added_row (row_from m (set old (start + c) v) start) f (row_from m (set old (start + c) v) above) c)
      (set old (start + c) v) new →
      SetsRow m start n (combined_row (row_from m old start) (row_from m old above) c) old new
  combined_after f new f_is v_is h = record {
    inside = λ k l. h.inside k l ∙ entry k l (eqb k c) refl;
    outside = λ p o. h.outside p o ∙ cell_kept m old (start + c) p v (λ e. ⊎_elim (λ a. omega (arith, e, a))
        (λ a. omega (arith, e, a, c_in)) o);
  }
    where
      entry : (k : ℕ) → k < n → (t : Bool) → eqb k c ≡ t → added (row_from m (set old (start + c) v) start k) f
          (row_from m (set old (start + c) v) above k) t ≡ combined (row_from m old start k) (row_from m old start c)
          (row_from m old above k) t
      entry k l true e = let q = eqb-true k c e in ap (row_from m (set old (start + c) v) start) q ∙ mid_pivot ∙ v_is
          ∙ ap₂ (λ s t. s *ℚ t) f_is (ap (row_from m old above) (sym q))
      entry k l false e = ap₂ (λ s t. s +ℚ t) (mid_entry k (eqb-false k c e)) (ap₂ (λ s t. s *ℚ t) f_is (mid_above k l))

  -- the operations
  combined_operations_are : (f : ℚ) → f ≡ row_from m old start c → combination_row_operations n (row_from m old start)
      (row_from m old above) c ≡
      product_operations f (row_from m old above c) ++ added_row_operations n (row_from m (set old (start + c) v) start) f
      (row_from m (set old (start + c) v) above) c
  unfolding combination_row_operations added_row_operations
  combined_operations_are f f_is =
      ap₂ (λ os ps. os ++ ps) (ap (λ t. product_operations t (row_from m old above c)) (sym f_is))
      (joined_same n (λ k. added_operations (row_from m old start k) (row_from m old start c) (row_from m old above k) (eqb k c))
      (λ k. added_operations (row_from m (set old (start + c) v) start k) f (row_from m (set old (start + c) v) above k) (eqb k c))
      (λ k l. made k l (eqb k c) refl))
    where
      made : (k : ℕ) → k < n → (t : Bool) → eqb k c ≡ t → added_operations (row_from m old start k) (row_from m old start c)
          (row_from m old above k) t ≡ added_operations (row_from m (set old (start + c) v) start k) f
          (row_from m (set old (start + c) v) above k) t
      made k l true e = refl
      made k l false e =
          ap₂ (λ s t. added_operations s t (row_from m old above k) false) (sym (mid_entry k (eqb-false k c e))) (sym f_is)
          ∙ ap (λ t. added_operations (row_from m (set old (start + c) v) start k) f t false) (sym (mid_above k l))

  -- a product that fits leaves the decision to formula 4
  pub combined_later : (f x : ℚ) → f ≡ row_from m old start c → x ≡ row_from m old above c → first_wide L (product_operations f x) ≡ None →
      first_wide L (combination_row_operations n (row_from m old start) (row_from m old above) c) ≡
      first_wide L (added_row_operations n (row_from m (set old (start + c) v) start) f (row_from m (set old (start + c) v) above) c)
  combined_later f x f_is x_is fits =
      ap (λ os. first_wide L os) (combined_operations_are f f_is)
      ∙ first_wide_later L (product_operations f (row_from m old above c))
      (added_row_operations n (row_from m (set old (start + c) v) start) f (row_from m (set old (start + c) v) above) c)
      (ap (λ t. first_wide L (product_operations f t)) (sym x_is) ∙ fits)

-- a product that is refused
pub combined_sooner : (L : ℤ) (n : ℕ) (a b : ℕ → ℚ) (c : ℕ) (f x : ℚ) (o : Operation) → f ≡ a c → x ≡ b c
    → first_wide L (product_operations f x) ≡ Some o → first_wide L (combination_row_operations n a b c) ≡ Some o
unfolding combination_row_operations
combined_sooner L n a b c f x o e g h = first_wide_sooner L (product_operations (a c) (b c)) (added_row_operations n a (a c) b c) o
    (ap₂ (λ s t. first_wide L (product_operations s t)) (sym e) (sym g) ∙ h)
