-- One more column in the merge of a row and the pivot's row.
use Rattle.std.proofs.Common.{◌≡◌, ℕ, ◌+◌, ◌<◌, ◌≤◌, Bool, true, false, cond, eqb, ℤ, List, [], ◌∷◌, Some, None, refl, ap, ap₂, sym, ◌∙◌}
use Rattle.std.proofs.Common.{subst, subst₂, arith, length, drop, get_or}
use Rattle.std.proofs.lemmas.List.{drop_more}
use Rattle.std.proofs.lemmas.Bool.{eqb-true, eq-eqb}
use Rattle.base_numbers.specs.Rational.{ℚ, zero_ℚ, ◌+ℚ◌, ◌*ℚ◌}
use Rattle.base_fractions.specs.Operation.{Operation, first_wide}
use Rattle.lp_dictionary.specs.Formulas.{combined, combined_row, added_operations}
use Rattle.lp_dictionary.specs.PivotOperations.{added_row_operations}
use Rattle.lp_dictionary.proofs.listed.Joins.{joined_fits_more, joined_wide_at, joined_fits_none}
use Rattle.lp_dictionary.specs.declared.entry.Entry.{Entry}
use Rattle.lp_dictionary.specs.Entries.{pushed}
use Rattle.lp_sparse.specs.Entries.{head_value, behind}
use Rattle.lp_dictionary.specs.Keeps.{Keeps}
use Rattle.lp_sparse.specs.Rows.{merged}
use Rattle.lp_sparse.specs.Merge.{kept, StartsAt, Left, Merging, MergesOn}
use Rattle.lp_sparse.proofs.merge.SingleEntries.{combined_none, merged_kept}
use Rattle.lp_dictionary.proofs.kept.Lists.{keeps_none, keeps_gap, keeps_pushed}
use Rattle.lp_sparse.proofs.merge.Gaps.{joined_gap, left_to, left_zero, left_head, left_behind, left_none, starts_value, starts_behind}
use Rattle.lp_sparse.proofs.merge.Gaps.{starts_before}

-- the first entry, which stands at its column
head_read : {F : Type 0} (m : F → ℚ) (e : Entry F) (es : List (Entry F)) → head_value m (e ∷ es) e.col ≡ m e.value
head_read m e es = ap (λ t. cond t (m e.value) zero_ℚ) (eq-eqb e.col e.col refl)

taken_head : {F : Type 0} (e : Entry F) (es : List (Entry F)) → behind (e ∷ es) e.col ≡ es
taken_head e es = ap (λ t. cond t es (e ∷ es)) (eq-eqb e.col e.col refl)

module _ {F : Type 0} (m : F → ℚ) (L : ℤ) (a b : ℕ → ℚ) (f : ℚ) (c n : ℕ) (f_is : f ≡ a c) where
  -- the operations of column k
  abbrev made : ℕ → List Operation
  made k = added_operations (a k) f (b k) (eqb k c)

  passed : (q : ℕ) → a q ≡ zero_ℚ → b q ≡ zero_ℚ → (combined_row a b c q ≡ zero_ℚ) × (first_wide L (made q) ≡ None)
  passed q y z = let h = combined_none L (a q) f (b q) (eqb q c) y z in (ap (λ t. combined (a q) t (b q) (eqb q c)) (sym f_is) ∙ h.0, h.1)

  -- up to a column before which no entry stands
  gap : (r k : ℕ) (da db out : List (Entry F)) → Merging m L a b f c n r da db out → r ≤ k → k ≤ n → StartsAt k da → StartsAt k db
      → Merging m L a b f c n k da db out
  unfolding added_row_operations
  gap r k da db out h l w x y =
      let none = λ (q : ℕ) (s : r ≤ q) (t : q < k). passed q (left_zero m a n r q k da h.left x s t)
      (left_zero m b n r q k db h.above y s t) in
      record {
        left = left_to m a n r k da h.left l x;
        above = left_to m b n r k db h.above l y;
        kept = keeps_gap m (combined_row a b c) r k out h.kept l (λ q s t. (none q s t).0);
        fits = joined_gap L r k made h.fits l (λ q s t. (none q s t).1);
        reach = w;
      }

  merged_is : (k : ℕ) (p : ℚ) → p ≡ f *ℚ b c → merged (a k) f (b k) p (eqb k c) ≡ combined_row a b c k
  merged_is k p e = by (eqb k c) refl
    where
      by : (t : Bool) → eqb k c ≡ t → merged (a k) f (b k) p t ≡ combined (a k) (a c) (b k) t
      by true s = e ∙ ap₂ (λ x y. x *ℚ y) f_is (ap b (sym (eqb-true k c s)))
      by false s = ap (λ x. a k +ℚ x *ℚ b k) f_is

  module _ (r k : ℕ) (da db out : List (Entry F)) (h : Merging m L a b f c n r da db out) (l : r ≤ k) (d : k < n) (s : StartsAt k da)
      (t : StartsAt k db) (x y : ℚ) (x_is : x ≡ head_value m da k) (y_is : y ≡ head_value m db k) where
    at_column : Merging m L a b f c n k da db out
    at_column = gap r k da db out h l (omega (arith, d)) s t

    entry_is : x ≡ a k
    entry_is = x_is ∙ left_head m a n k da at_column.left

    above_is : y ≡ b k
    above_is = y_is ∙ left_head m b n k db at_column.above

    ops_are : added_operations x f y (eqb k c) ≡ made k
    ops_are = ap₂ (λ s t. added_operations s f t (eqb k c)) entry_is above_is

    -- one more column
    merging_more : (p : ℚ) (v : F) → p ≡ f *ℚ b c → m v ≡ merged x f y p (eqb k c) → first_wide L (added_operations x f y (eqb k c)) ≡ None
        →
        Merging m L a b f c n (k + 1) (behind da k) (behind db k) (pushed m out k v)
    unfolding added_row_operations
    merging_more p v p_is v_is w =
        record {
          left = left_behind m a n k da at_column.left;
          above = left_behind m b n k db at_column.above;
          kept = keeps_pushed m (combined_row a b c) k v out at_column.kept
              (v_is ∙ ap₂ (λ s t. merged s f t p (eqb k c)) entry_is above_is ∙ merged_is k p p_is);
          fits = joined_fits_more L k made at_column.fits (ap (first_wide L) (sym ops_are) ∙ w);
          reach = omega (arith, d);
        }

    -- a column that is refused
    merging_refused : (o : Operation) → first_wide L (added_operations x f y (eqb k c)) ≡ Some o
        → first_wide L (added_row_operations n a f b c) ≡ Some o
    unfolding added_row_operations
    merging_refused o w = joined_wide_at L k n made o d at_column.fits (ap (first_wide L) (sym ops_are) ∙ w)

  -- an entry of the row that stands before the other list
  pub merging_kept : (r u : ℕ) (e : Entry F) (es db out : List (Entry F)) → Merging m L a b f c n r (e ∷ es) db out → e.col < u
      → StartsAt u db → (p : ℚ) (v : F) → p ≡ f *ℚ b c → m v ≡ kept (m e.value) p (eqb e.col c) →
      Merging m L a b f c n (e.col + 1) es db (pushed m out e.col v)
  merging_kept r u e es db out h l s p v p_is v_is =
      let one = merged_kept L (m e.value) f p (eqb e.col c) in
      subst₂ (λ us vs. Merging m L a b f c n (e.col + 1) us vs (pushed m out e.col v)) (taken_head e es) (starts_behind u e.col db s l)
      (merging_more r e.col (e ∷ es) db out h h.left.rises.0 h.left.rises.1 (omega arith) (starts_before u e.col db s (omega (arith, l)))
      (m e.value) zero_ℚ (sym (head_read m e es)) (starts_value m u e.col db s l) p v p_is (v_is ∙ one.0) one.1)

  module _ (r : ℕ) (e : Entry F) (da es out : List (Entry F)) (h : Merging m L a b f c n r da (e ∷ es) out) (s : StartsAt e.col da) where
    -- an entry of the pivot's row, before which the row has none
    pub merging_entry : (p : ℚ) (v : F) → p ≡ f *ℚ b c → m v ≡ merged (head_value m da e.col) f (m e.value) p (eqb e.col c) →
        first_wide L (added_operations (head_value m da e.col) f (m e.value) (eqb e.col c)) ≡ None
        → Merging m L a b f c n (e.col + 1) (behind da e.col) es (pushed m out e.col v)
    merging_entry p v p_is v_is w =
        subst (λ vs. Merging m L a b f c n (e.col + 1) (behind da e.col) vs (pushed m out e.col v)) (taken_head e es)
        (merging_more r e.col da (e ∷ es) out h h.above.rises.0 h.above.rises.1 s (omega arith) (head_value m da e.col) (m e.value) refl
        (sym (head_read m e es)) p v p_is v_is w)

    -- one that is refused
    pub entry_refused : (o : Operation) → first_wide L (added_operations (head_value m da e.col) f (m e.value) (eqb e.col c)) ≡ Some o
        → first_wide L (added_row_operations n a f b c) ≡ Some o
    entry_refused o w = merging_refused r e.col da (e ∷ es) out h h.above.rises.0 h.above.rises.1 s (omega arith) (head_value m da e.col)
        (m e.value) refl (sym (head_read m e es)) o w

  -- the entries of the row that stand before an entry e of the pivot's row
  pub merging_before : (p : ℚ) → p ≡ f *ℚ b c → (bs : List (Entry F)) (j : ℕ) (e : Entry F) → j < length bs → e ≡ get_or bs j e
      → {r : ℕ} {da out : List (Entry F)} (da' more : List (Entry F)) → MergesOn m L p c e.col da da' out more
      → Merging m L a b f c n r da (drop j bs) out → (q : ℕ) × Merging m L a b f c n q da' (e ∷ drop (j + 1) bs) more
  merging_before p p_is bs j e l is {r} da' more on h =
      let drop_is : drop j bs ≡ e ∷ drop (j + 1) bs = drop_more bs j e l ∙ ap (λ x. x ∷ drop (j + 1) bs) (sym is) in
      let k = on a b f n r (drop j bs) f_is p_is (subst (StartsAt e.col) (sym drop_is) (omega arith)) h in
      (k.0, subst (λ ys. Merging m L a b f c n k.0 da' ys more) drop_is k.1)

  -- no column is merged
  pub merging_none : (da db : List (Entry F)) → Left m a 0 n da → Left m b 0 n db → Merging m L a b f c n 0 da db []
  unfolding added_row_operations
  merging_none da db p q = record {
    left = p;
    above = q;
    kept = keeps_none m (combined_row a b c);
    fits = joined_fits_none L made;
    reach =
        omega arith;
  }

  -- all columns are
  merging_end : (r : ℕ) (da db out : List (Entry F)) → Merging m L a b f c n r da db out → da ≡ [] → db ≡ []
      → Keeps m (combined_row a b c) n out × (first_wide L (added_row_operations n a f b c) ≡ None)
  unfolding added_row_operations
  merging_end r da db out h s t =
      let p = subst (λ (es : List (Entry F)). Left m a r n es) s h.left in
      let q = subst (λ (es : List (Entry F)). Left m b r n es) t h.above in
      let none = λ (k : ℕ) (l : r ≤ k). passed k (left_none m a n r k p l) (left_none m b n r k q l) in (
        keeps_gap m (combined_row a b c) r n out h.kept h.reach (λ k l d. (none k l).0),
        joined_gap L r n made h.fits h.reach (λ k l d. (none k l).1),
      )

  -- they are after the entries of the row that stand behind those of the pivot's row
  pub merging_last : (p : ℚ) → p ≡ f *ℚ b c → (u : ℕ) {r : ℕ} {da da' db out : List (Entry F)} (more : List (Entry F))
      → MergesOn m L p c u da da' out more → Merging m L a b f c n r da db out → da' ≡ [] → db ≡ []
      → Keeps m (combined_row a b c) n more × (first_wide L (added_row_operations n a f b c) ≡ None)
  merging_last p p_is u {r} {da' = da'} {db = db} more on h s t =
      let k = on a b f n r db f_is p_is (subst (StartsAt u) (sym t) tt) h in
      merging_end k.0 da' db more k.1 s t
