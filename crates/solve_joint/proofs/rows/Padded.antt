-- Lists of coefficients that have the same entries, with zeros behind their ends.
use Rattle.std.proofs.Common.{◌≡◌, ◌∙◌, ℕ, zero, suc, ◌+◌, ◌-◌, ◌≤◌, List, [], ◌∷◌, ◌++◌, length, map, refl, ap, ap₂, sym, append_assoc}
use Rattle.std.proofs.Common.{length-append, arith}
use Rattle.std.specs.Prelude.{ℤ}
use Rattle.base_numbers.proofs.vector.Vectors.{length-zeros}
use Rattle.base_numbers.specs.Rational.{ℚ, zero_ℚ, one_ℚ, whole, neg_ℚ, ◌+ℚ◌, ◌*ℚ◌}
use Rattle.base_numbers.specs.Vector.{add_vec, scale_vec, zeros}
use Rattle.base_numbers.proofs.rational.Laws.{+ℚ_idl, +ℚ_idr, *ℚ-zero, *ℚ_idr, neg_ℚ-zero}
use Rattle.base_numbers.proofs.tactics.Ring.{ring, reads}
use Rattle.theory_validity.specs.Words.{Affine, shifted, column, columns, combined, start_form}
use Rattle.lp_theory.specs.Listed.{at}
use Rattle.theory_transformers.specs.JointProblems.{split_list}
use Rattle.theory_transformers.proofs.joint_problems.JointProducts.{length-split}
use Rattle.solve_joint.specs.Rows.{dense_row}

-- the same entries
abbrev pub Same : List ℚ → List ℚ → Type 0
Same u v = (k : ℕ) → at u k ≡ at v k

-- the same list in front keeps lists the same
same_behind : (a u v : List ℚ) → Same u v → Same (a ++ u) (a ++ v)
same_behind [] u v h k = h k
same_behind (x ∷ a) u v h zero = refl
same_behind (x ∷ a) u v h (suc k) = same_behind a u v h k

at_zeros : (n k : ℕ) → at (zeros n) k ≡ zero_ℚ
at_zeros zero k = refl
at_zeros (suc n) zero = refl
at_zeros (suc n) (suc k) = at_zeros n k

-- zeros behind a list keep its entries
pub same_zeros : (u : List ℚ) (n : ℕ) → Same (u ++ zeros n) u
same_zeros [] n k = at_zeros n k
same_zeros (x ∷ u) n zero = refl
same_zeros (x ∷ u) n (suc k) = same_zeros u n k

-- each coefficient and its negation
split_empty : (v : List ℚ) → Same [] v → Same (split_list []) (split_list v)
unfolding split_list
split_empty [] h k = refl
split_empty (y ∷ v) h zero = h 0
split_empty (y ∷ v) h (suc zero) = sym neg_ℚ-zero ∙ ap neg_ℚ (h 0)
split_empty (y ∷ v) h (suc (suc k)) = split_empty v (λ j. h (suc j)) k

-- lists with the same entries have the same split lists
split_same : (u v : List ℚ) → Same u v → Same (split_list u) (split_list v)
unfolding split_list
split_same [] v h k = split_empty v h k
split_same (x ∷ u) [] h k = sym (split_empty (x ∷ u) (λ j. sym (h j)) k)
split_same (x ∷ u) (y ∷ v) h zero = h 0
split_same (x ∷ u) (y ∷ v) h (suc zero) = ap neg_ℚ (h 0)
split_same (x ∷ u) (y ∷ v) h (suc (suc k)) = split_same u v (λ j. h (suc j)) k

-- a dense row has the entries of rises, zeros and split columns
pub dense_same : (cols : ℕ) (rises : List ℚ) (offset : ℕ) (u v : List ℚ) → Same u v
    → Same (dense_row cols rises offset u) (rises ++ (zeros offset ++ split_list v))
dense_same cols rises offset u v h k =
    same_zeros ((rises ++ zeros offset) ++ split_list u) (cols - length rises - offset - length u - length u) k
    ∙ ap (λ xs. at xs k) (append_assoc rises (zeros offset) (split_list u))
    ∙ same_behind rises (zeros offset ++ split_list u) (zeros offset ++ split_list v)
    (same_behind (zeros offset) (split_list u) (split_list v) (split_same u v h)) k

-- a row with all its columns has one entry for each column
pub length-dense : (cols : ℕ) (rises : List ℚ) (offset : ℕ) (u : List ℚ) → length rises + (offset + (length u + length u)) ≤ cols
    → length (dense_row cols rises offset u) ≡ cols
length-dense cols rises offset u l =
    omega (
      arith,
      l,
      length-append ((rises ++ zeros offset) ++ split_list u) (zeros (cols - length rises - offset - length u - length u)),
      length-append (rises ++ zeros offset) (split_list u),
      length-append rises (zeros offset),
      length-zeros offset,
      length-split u,
      length-zeros (cols - length rises - offset - length u - length u),
    )

-- ---- forms
at_add : (u v : List ℚ) (k : ℕ) → at (add_vec u v) k ≡ at u k +ℚ at v k
unfolding add_vec
at_add [] v k = sym (+ℚ_idl (at v k))
at_add (x ∷ u) [] k = sym (+ℚ_idr (at (x ∷ u) k))
at_add (x ∷ u) (y ∷ v) zero = refl
at_add (x ∷ u) (y ∷ v) (suc k) = at_add u v k

at_scale : (c : ℚ) (u : List ℚ) (k : ℕ) → at (scale_vec c u) k ≡ c *ℚ at u k
unfolding scale_vec
at_scale c [] k = sym (*ℚ-zero c)
at_scale c (x ∷ u) zero = refl
at_scale c (x ∷ u) (suc k) = at_scale c u k

combined_shifted : (cs : List ℤ) (fs : List Affine) (k : ℕ) → at (combined cs (map shifted fs)).coeffs k
    ≡ at (zero_ℚ ∷ (combined cs fs).coeffs) k
unfolding combined shifted
combined_shifted [] fs zero = refl
combined_shifted [] fs (suc k) = refl
combined_shifted (c ∷ cs) [] zero = refl
combined_shifted (c ∷ cs) [] (suc k) = refl
combined_shifted (c ∷ cs) (f ∷ fs) zero =
    at_add (scale_vec (whole c) (zero_ℚ ∷ f.coeffs)) (combined cs (map shifted fs)).coeffs 0
    ∙ ap₂ (λ a b. a +ℚ b) (at_scale (whole c) (zero_ℚ ∷ f.coeffs) 0 ∙ *ℚ-zero (whole c)) (combined_shifted cs fs 0) ∙ +ℚ_idl zero_ℚ
combined_shifted (c ∷ cs) (f ∷ fs) (suc k) =
    at_add (scale_vec (whole c) (zero_ℚ ∷ f.coeffs)) (combined cs (map shifted fs)).coeffs (suc k)
    ∙ ap₂ (λ a b. a +ℚ b) (at_scale (whole c) (zero_ℚ ∷ f.coeffs) (suc k) ∙ sym (at_scale (whole c) f.coeffs k))
    (combined_shifted cs fs (suc k))
    ∙ sym (at_add (scale_vec (whole c) f.coeffs) (combined cs fs).coeffs k)

-- the form of a row at the start has the row's coefficients
pub start_same : (n : ℕ) (row : List ℤ) → length row ≤ n → Same (map whole row) (start_form n row).coeffs
unfolding start_form combined columns column
start_same n [] l k = refl
start_same zero (c ∷ cs) l k = absurd (omega (arith, l))
start_same (suc n) (c ∷ cs) l zero =
    sym (at_add (scale_vec (whole c) (one_ℚ ∷ [])) (combined cs (map shifted (columns n))).coeffs 0
    ∙ ap₂ (λ a b. a +ℚ b) (at_scale (whole c) (one_ℚ ∷ []) 0 ∙ *ℚ_idr (whole c)) (combined_shifted cs (columns n) 0) ∙ +ℚ_idr (whole c))
start_same (suc n) (c ∷ cs) l (suc k) =
    start_same n cs (omega (arith, l)) k
    ∙ sym (at_add (scale_vec (whole c) (one_ℚ ∷ [])) (combined cs (map shifted (columns n))).coeffs (suc k)
    ∙ ap₂ (λ a b. a +ℚ b) (at_scale (whole c) (one_ℚ ∷ []) (suc k) ∙ *ℚ-zero (whole c)) (combined_shifted cs (columns n) (suc k))
    ∙ +ℚ_idl (at (combined cs (columns n)).coeffs k))

-- negated coefficients
pub negated_same : (u v : List ℚ) → Same u v → Same (map neg_ℚ u) (scale_vec (neg_ℚ one_ℚ) v)
negated_same u v h k = at_negated u k ∙ ap neg_ℚ (h k) ∙ minus (at v k) ∙ sym (at_scale (neg_ℚ one_ℚ) v k)
  where
    at_negated : (u : List ℚ) (k : ℕ) → at (map neg_ℚ u) k ≡ neg_ℚ (at u k)
    at_negated [] k = sym neg_ℚ-zero
    at_negated (x ∷ u) zero = refl
    at_negated (x ∷ u) (suc k) = at_negated u k

    minus : (q : ℚ) → neg_ℚ q ≡ neg_ℚ one_ℚ *ℚ q
    minus q = ring (q ∷ []) (search reads depth 40) refl
