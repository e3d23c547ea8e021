-- One more entry in the division of the pivot's row.
use Rattle.std.proofs.Common.{◌≡◌, ◌≢◌, ℕ, ◌+◌, ◌<◌, ◌≤◌, false, cond, eqb, ℤ, List, [], ◌∷◌, Some, None, refl, ap, ap₂, sym, ◌∙◌, subst}
use Rattle.std.proofs.Common.{arith}
use Rattle.std.proofs.lemmas.Bool.{eq-eqb, ne_eqb}
use Rattle.base_numbers.specs.Rational.{ℚ, zero_ℚ}
use Rattle.base_fractions.specs.Operation.{Operation, first_wide}
use Rattle.lp_dictionary.specs.Formulas.{divided, divided_row, divided_operations}
use Rattle.lp_dictionary.specs.PivotOperations.{division_row_operations}
use Rattle.lp_dictionary.proofs.Entries.{divided_zero}
use Rattle.lp_dictionary.proofs.listed.Joins.{joined_fits_more, joined_wide_at, joined_fits_none}
use Rattle.lp_dictionary.specs.declared.entry.Entry.{Entry}
use Rattle.lp_dictionary.specs.Entries.{pushed}
use Rattle.lp_dictionary.specs.Keeps.{Keeps}
use Rattle.lp_dictionary.proofs.kept.Lists.{keeps_none, keeps_gap, keeps_pushed}
use Rattle.lp_sparse.specs.Merge.{Left}
use Rattle.lp_sparse.proofs.merge.Gaps.{joined_gap, left_to, left_zero, left_head, left_behind, left_none}

-- the columns below r of the row a are divided, and those of the list are left
pub record Dividing {F : Type 0} (m : F → ℚ) (L : ℤ) (a : ℕ → ℚ) (c n r : ℕ) (es out : List (Entry F)) : Type 0 where
  -- the entries of the list are those of the row a from the column r on
  pub left : Left m a r n es
  -- the entries that were made are those of the divided row below the column r
  pub kept : Keeps m (divided_row a c) r out
  -- none of the operations below the column r is wide
  pub fits : first_wide L (division_row_operations r a c) ≡ None
  -- the column r is at most the row's width
  pub reach : r ≤ n

module _ {F : Type 0} (m : F → ℚ) (L : ℤ) (a : ℕ → ℚ) (c n : ℕ) (pivot : a c ≢ zero_ℚ) where
  abbrev made : ℕ → List Operation
  made k = divided_operations (a k) (a c) (eqb k c)

  passed : (q : ℕ) → a q ≡ zero_ℚ → (divided_row a c q ≡ zero_ℚ) × (first_wide L (made q) ≡ None)
  passed q z =
      let off : eqb q c ≡ false = ne_eqb q c (λ s. pivot (ap a (sym s) ∙ z)) in
      let h = divided_zero L (a q) (a c) (eqb q c) off z in
      (sym h.0 ∙ z, h.1)

  module _ (r : ℕ) (e : Entry F) (es out : List (Entry F)) (h : Dividing m L a c n r (e ∷ es) out) where
    here : Dividing m L a c n e.col (e ∷ es) out
    unfolding division_row_operations
    here =
        let l : r ≤ e.col = h.left.rises.0 in
        let w : e.col < n = h.left.rises.1 in
        let none = λ (q : ℕ) (s : r ≤ q) (t : q < e.col). passed q (left_zero m a n r q e.col (e ∷ es) h.left (omega arith) s t) in
        record {
          left = left_to m a n r e.col (e ∷ es) h.left l (omega arith);
          kept = keeps_gap m (divided_row a c) r e.col out h.kept l (λ q s t. (none q s t).0);
          fits = joined_gap L r e.col made h.fits l (λ q s t. (none q s t).1);
          reach = omega (arith, w);
        }

    entry_is : m e.value ≡ a e.col
    entry_is = sym (ap (λ b. cond b (m e.value) zero_ℚ) (eq-eqb e.col e.col refl)) ∙ left_head m a n e.col (e ∷ es) here.left

    ops_are : (p : ℚ) → p ≡ a c → divided_operations (m e.value) p (eqb e.col c) ≡ made e.col
    ops_are p q = ap₂ (λ s t. divided_operations s t (eqb e.col c)) entry_is q

    -- one more entry
    pub dividing_more : (p : ℚ) (v : F) → p ≡ a c → m v ≡ divided (m e.value) p (eqb e.col c)
        → first_wide L (divided_operations (m e.value) p (eqb e.col c)) ≡ None → Dividing m L a c n (e.col + 1) es (pushed m out e.col v)
    unfolding division_row_operations
    dividing_more p v p_is v_is w =
        let g = here in
        let b : e.col < n = h.left.rises.1 in
        record {
          left = subst (λ b. Left m a (e.col + 1) n (cond b es (e ∷ es))) (eq-eqb e.col e.col refl)
              (left_behind m a n e.col (e ∷ es) g.left);
          kept = keeps_pushed m (divided_row a c) e.col v out g.kept (v_is ∙ ap₂ (λ s t. divided s t (eqb e.col c)) entry_is p_is);
          fits = joined_fits_more L e.col made g.fits (ap (first_wide L) (sym (ops_are p p_is)) ∙ w);
          reach = omega (arith, b);
        }

    -- an entry that is refused
    pub dividing_refused : (p : ℚ) (o : Operation) → p ≡ a c → first_wide L (divided_operations (m e.value) p (eqb e.col c)) ≡ Some o
        → first_wide L (division_row_operations n a c) ≡ Some o
    unfolding division_row_operations
    dividing_refused p o p_is w = joined_wide_at L e.col n made o h.left.rises.1 here.fits (ap (first_wide L) (sym (ops_are p p_is)) ∙ w)

  -- no entry is divided
  pub dividing_none : (es : List (Entry F)) → Left m a 0 n es → Dividing m L a c n 0 es []
  unfolding division_row_operations
  dividing_none es p = record { left = p; kept = keeps_none m (divided_row a c); fits = joined_fits_none L made; reach = omega arith }

  -- all are
  pub dividing_end : (r : ℕ) (es out : List (Entry F)) → Dividing m L a c n r es out → es ≡ []
      → Keeps m (divided_row a c) n out × (first_wide L (division_row_operations n a c) ≡ None)
  unfolding division_row_operations
  dividing_end r es out h s =
      let p = subst (λ (xs : List (Entry F)). Left m a r n xs) s h.left in
      let none = λ (k : ℕ) (l : r ≤ k). passed k (left_none m a n r k p l) in (
        keeps_gap m (divided_row a c) r n out h.kept h.reach (λ k l d. (none k l).0),
        joined_gap L r n made h.fits h.reach (λ k l d. (none k l).1),
      )
