-- Sums over the rows of an edge's problem are sums over its template rows and guards.
use Rattle.std.proofs.Common.{◌≡◌, ◌∙◌, ℕ, zero, suc, ◌<◌, List, [], ◌∷◌, ◌++◌, length, map, get_or, refl, sym, ap, arith}
use Rattle.std.specs.Prelude.{ℤ}
use Rattle.base_numbers.proofs.vector.Vectors.{get_or-add_vec, get_or-scale_vec}
use Rattle.base_numbers.proofs.vector.Sums.{sum_first}
use Rattle.base_numbers.specs.Rational.{ℚ, zero_ℚ, ◌+ℚ◌, ◌*ℚ◌, neg_ℚ, ◌≤ℚ◌}
use Rattle.base_numbers.specs.Extended.{Ext, neg_inf, fin, pos_inf}
use Rattle.base_numbers.specs.Vector.{sum_to, scale_vec, vec_mat, AllNonneg}
use Rattle.base_numbers.proofs.rational.Laws.{zero-*ℚ, +ℚ_idl, +ℚ_assoc, ≤ℚ_refl}
use Rattle.theory_validity.specs.Words.{Affine, start_form}
use Rattle.theory_validity.specs.Certificates.{num, NotFinite, coefficients, row_side, guard_side}
use Rattle.lp_theory.specs.Listed.{at}
use Rattle.theory_transformers.specs.Limits.{Limit, no_limit, tabulate}
use Rattle.theory_transformers.specs.EdgeProblems.{source_limit, source_limits, guard_limits}
use Rattle.theory_transformers.specs.Spread.{spread_one, spread, skip_one, skip}

-- ---- entries of sums of lists

-- ---- sums over limits
-- a column's entries of these rows, each times its multiplier, summed
unfoldable pub column_sum : List Limit → (ℕ → ℚ) → ℕ → ℚ
column_sum [] y j = zero_ℚ
column_sum (l ∷ ls) y j = y 0 *ℚ at l.coeffs j +ℚ column_sum ls (λ k. y (suc k)) j

-- the sides of these rows, each times its multiplier, summed
unfoldable pub side_sum : List Limit → (ℕ → ℚ) → ℚ
side_sum [] y = zero_ℚ
side_sum (l ∷ ls) y = y 0 *ℚ l.side +ℚ side_sum ls (λ k. y (suc k))

-- a multiplier of at least 0 for each row
abbrev pub NonnegFor : List Limit → (ℕ → ℚ) → Type 0
NonnegFor [] y = Unit {0}
NonnegFor (l ∷ ls) y = (zero_ℚ ≤ℚ y 0) × NonnegFor ls (λ k. y (suc k))

-- the sum over a problem's rows at a column is the column sum of its limits
pub column_sum_is : (ls : List Limit) (y : ℕ → ℚ) (j : ℕ) → sum_to (length ls) (λ r. y r *ℚ at (get_or ls r no_limit).coeffs j)
    ≡ column_sum ls y j
unfolding column_sum sum_to
column_sum_is [] y j = refl
column_sum_is (l ∷ ls) y j = sum_first (length ls) (λ r. y r *ℚ at (get_or (l ∷ ls) r no_limit).coeffs j)
    ∙ ap (λ s. y 0 *ℚ at l.coeffs j +ℚ s) (column_sum_is ls (λ k. y (suc k)) j)

-- the sum over a problem's sides is the side sum of its limits
pub side_sum_is : (ls : List Limit) (y : ℕ → ℚ) → sum_to (length ls) (λ r. y r *ℚ (get_or ls r no_limit).side) ≡ side_sum ls y
unfolding side_sum sum_to
side_sum_is [] y = refl
side_sum_is (l ∷ ls) y = sum_first (length ls) (λ r. y r *ℚ (get_or (l ∷ ls) r no_limit).side)
    ∙ ap (λ s. y 0 *ℚ l.side +ℚ s) (side_sum_is ls (λ k. y (suc k)))

-- multipliers that are at least 0 by number are so for each row
pub nonneg_for : (ls : List Limit) (y : ℕ → ℚ) → ((r : ℕ) → r < length ls → zero_ℚ ≤ℚ y r) → NonnegFor ls y
nonneg_for [] y h = tt
nonneg_for (l ∷ ls) y h = (h 0 (omega arith), nonneg_for ls (λ k. y (suc k)) (λ r i. h (suc r) (omega (arith, i))))

-- ---- guards
-- the column sum of guards is that of their coefficients times the multipliers
pub guard_columns : (gs : List Affine) (y : ℕ → ℚ) (j : ℕ) → column_sum (guard_limits (λ u. u) gs) y j
    ≡ at (vec_mat (tabulate (length gs) y) (coefficients gs)) j
unfolding column_sum guard_limits vec_mat coefficients
guard_columns [] y j = refl
guard_columns (g ∷ gs) y j =
    ap (λ s. y 0 *ℚ at g.coeffs j +ℚ s) (guard_columns gs (λ k. y (suc k)) j)
    ∙ sym (get_or-add_vec (scale_vec (y 0) g.coeffs) (vec_mat (tabulate (length gs) (λ k. y (suc k))) (map (λ f. f.coeffs) gs)) j
    ∙ ap (λ s. s +ℚ at (vec_mat (tabulate (length gs) (λ k. y (suc k))) (map (λ f. f.coeffs) gs)) j)
    (get_or-scale_vec (y 0) g.coeffs j))

-- the side sum of guards is their side under the multipliers
pub guard_sides : (gs : List Affine) (y : ℕ → ℚ) → side_sum (guard_limits (λ u. u) gs) y ≡ guard_side (tabulate (length gs) y) gs
unfolding side_sum guard_limits guard_side
guard_sides [] y = refl
guard_sides (g ∷ gs) y = ap (λ s. y 0 *ℚ neg_ℚ g.constant +ℚ s) (guard_sides gs (λ k. y (suc k)))

-- multipliers of at least 0 for the rows of guards are at least 0 as a list
pub guard_nonneg : (gs : List Affine) (y : ℕ → ℚ) → NonnegFor (guard_limits (λ u. u) gs) y → AllNonneg (tabulate (length gs) y)
unfolding guard_limits
guard_nonneg [] y h = tt
guard_nonneg (g ∷ gs) y h = (h.0, guard_nonneg gs (λ k. y (suc k)) h.1)

-- ---- template rows
regroup : (a b c : ℚ) → a +ℚ (b +ℚ c) ≡ (a +ℚ b) +ℚ c
regroup a b c = sym (+ℚ_assoc a b c)

vec_mat_at : (c : ℚ) (row : List ℚ) (ys : List ℚ) (rows : List (List ℚ)) (j : ℕ)
    → at (vec_mat (c ∷ ys) (row ∷ rows)) j ≡ c *ℚ at row j +ℚ at (vec_mat ys rows) j
unfolding vec_mat
vec_mat_at c row ys rows j = get_or-add_vec (scale_vec c row) (vec_mat ys rows) j
    ∙ ap (λ s. s +ℚ at (vec_mat ys rows) j) (get_or-scale_vec c row j)

no_multiple : (row : List ℚ) (ys : List ℚ) (rows : List (List ℚ)) (j : ℕ)
    → at (vec_mat ys rows) j ≡ at (vec_mat (zero_ℚ ∷ ys) (row ∷ rows)) j
no_multiple row ys rows j = sym (vec_mat_at zero_ℚ row ys rows j ∙ ap (λ s. s +ℚ at (vec_mat ys rows) j) (zero-*ℚ (at row j))
    ∙ +ℚ_idl (at (vec_mat ys rows) j))

one_column : (n : ℕ) (v : Ext) (row : List ℤ) (ls ms : List Limit) (y : ℕ → ℚ) (j : ℕ) (rows : List (List ℚ)) (rest : (ℕ → ℚ) → List ℚ)
    (tail : (ℕ → ℚ) → (ℕ → ℚ)) →
    ((x : ℕ → ℚ) → column_sum (ls ++ ms) x j ≡ at (vec_mat (rest x) rows) j +ℚ column_sum ms (tail x) j) →
    column_sum (source_limit (λ u. u) n v row ls ++ ms) y j ≡ at (vec_mat (spread_one v y rest) ((start_form n row).coeffs ∷ rows)) j +ℚ
    column_sum ms (skip_one v y tail) j
unfolding source_limit spread_one skip_one column_sum
one_column n neg_inf row ls ms y j rows rest tail h = h y ∙ ap (λ s. s +ℚ column_sum ms (tail y) j)
    (no_multiple (start_form n row).coeffs (rest y) rows j)
one_column n (fin c) row ls ms y j rows rest tail h =
    ap (λ s. y 0 *ℚ at (start_form n row).coeffs j +ℚ s) (h (λ k. y (suc k)))
    ∙ regroup (y 0 *ℚ at (start_form n row).coeffs j) (at (vec_mat (rest (λ k. y (suc k))) rows) j)
    (column_sum ms (tail (λ k. y (suc k))) j)
    ∙ ap (λ s. s +ℚ column_sum ms (tail (λ k. y (suc k))) j) (sym (vec_mat_at (y 0) (start_form n row).coeffs (rest (λ k. y (suc k))) rows
    j))
one_column n pos_inf row ls ms y j rows rest tail h = h y ∙ ap (λ s. s +ℚ column_sum ms (tail y) j)
    (no_multiple (start_form n row).coeffs (rest y) rows j)

-- the column sum of a source and further rows is that of the spread multipliers and that of the further rows
pub source_columns : (n : ℕ) (bounds : ℕ → Ext) (rows : List (List ℤ)) (ms : List Limit) (y : ℕ → ℚ) (j : ℕ)
    → column_sum (source_limits (λ r u. u) n bounds rows ++ ms) y j
    ≡ at (vec_mat (spread bounds rows y) (coefficients (map (start_form n) rows))) j +ℚ column_sum ms (skip bounds rows y) j
unfolding source_limits spread skip coefficients vec_mat
source_columns n bounds [] ms y j = sym (+ℚ_idl (column_sum ms y j))
source_columns n bounds (row ∷ rows) ms y j =
    one_column n (bounds 0) row (source_limits (λ r u. u) n (λ r. bounds (suc r)) rows) ms y j (coefficients (map (start_form n) rows))
    (spread (λ r. bounds (suc r)) rows) (skip (λ r. bounds (suc r)) rows)
    (λ x. source_columns n (λ r. bounds (suc r)) rows ms x j)

no_side : (a b : ℚ) → b ≡ zero_ℚ *ℚ a +ℚ b
no_side a b = sym (ap (λ s. s +ℚ b) (zero-*ℚ a) ∙ +ℚ_idl b)

one_side : (n : ℕ) (v : Ext) (row : List ℤ) (ls ms : List Limit) (y : ℕ → ℚ) (bounds : ℕ → Ext) (rest : (ℕ → ℚ) → List ℚ)
    (tail : (ℕ → ℚ) → (ℕ → ℚ)) → bounds 0 ≡ v →
    ((x : ℕ → ℚ) → side_sum (ls ++ ms) x ≡ row_side (rest x) (λ r. bounds (suc r)) +ℚ side_sum ms (tail x)) →
    side_sum (source_limit (λ u. u) n v row ls ++ ms) y ≡ row_side (spread_one v y rest) bounds +ℚ side_sum ms (skip_one v y tail)
unfolding source_limit spread_one skip_one side_sum row_side num
one_side n neg_inf row ls ms y bounds rest tail e h = h y ∙ ap (λ s. s +ℚ side_sum ms (tail y))
    (no_side (num (bounds 0)) (row_side (rest y) (λ r. bounds (suc r))))
one_side n (fin c) row ls ms y bounds rest tail e h =
    ap (λ s. y 0 *ℚ c +ℚ s) (h (λ k. y (suc k))) ∙ regroup (y 0 *ℚ c) (row_side (rest (λ k. y (suc k))) (λ r. bounds (suc r)))
    (side_sum ms (tail (λ k. y (suc k))))
    ∙ ap (λ s. (y 0 *ℚ num s +ℚ row_side (rest (λ k. y (suc k))) (λ r. bounds (suc r))) +ℚ side_sum ms (tail (λ k. y (suc k)))) (sym e)
one_side n pos_inf row ls ms y bounds rest tail e h = h y ∙ ap (λ s. s +ℚ side_sum ms (tail y))
    (no_side (num (bounds 0)) (row_side (rest y) (λ r. bounds (suc r))))

-- the side sum of a source and further rows is that of the spread multipliers and that of the further rows
pub source_sides : (n : ℕ) (bounds : ℕ → Ext) (rows : List (List ℤ)) (ms : List Limit) (y : ℕ → ℚ)
    → side_sum (source_limits (λ r u. u) n bounds rows ++ ms) y
    ≡ row_side (spread bounds rows y) bounds +ℚ side_sum ms (skip bounds rows y)
unfolding source_limits spread skip row_side
source_sides n bounds [] ms y = sym (+ℚ_idl (side_sum ms y))
source_sides n bounds (row ∷ rows) ms y =
    one_side n (bounds 0) row (source_limits (λ r u. u) n (λ r. bounds (suc r)) rows) ms y bounds (spread (λ r. bounds (suc r)) rows)
    (skip (λ r. bounds (suc r)) rows) refl (λ x. source_sides n (λ r. bounds (suc r)) rows ms x)

one_nonneg : (n : ℕ) (v : Ext) (row : List ℤ) (ls ms : List Limit) (y : ℕ → ℚ) (rest : (ℕ → ℚ) → List ℚ) (tail : (ℕ → ℚ) → (ℕ → ℚ)) →
    ((x : ℕ → ℚ) → NonnegFor (ls ++ ms) x → AllNonneg (rest x) × NonnegFor ms (tail x)) →
    NonnegFor (source_limit (λ u. u) n v row ls ++ ms) y → AllNonneg (spread_one v y rest) × NonnegFor ms (skip_one v y tail)
unfolding source_limit spread_one skip_one
one_nonneg n neg_inf row ls ms y rest tail h i = let r = h y i in ((≤ℚ_refl zero_ℚ, r.0), r.1)
one_nonneg n (fin c) row ls ms y rest tail h i = let r = h (λ k. y (suc k)) i.1 in ((i.0, r.0), r.1)
one_nonneg n pos_inf row ls ms y rest tail h i = let r = h y i in ((≤ℚ_refl zero_ℚ, r.0), r.1)

-- multipliers of at least 0 stay so when they are spread, and so do those of the further rows
pub source_nonneg : (n : ℕ) (bounds : ℕ → Ext) (rows : List (List ℤ)) (ms : List Limit) (y : ℕ → ℚ)
    → NonnegFor (source_limits (λ r u. u) n bounds rows ++ ms) y →
    AllNonneg (spread bounds rows y) × NonnegFor ms (skip bounds rows y)
unfolding source_limits spread skip
source_nonneg n bounds [] ms y h = (tt, h)
source_nonneg n bounds (row ∷ rows) ms y h =
    one_nonneg n (bounds 0) row (source_limits (λ r u. u) n (λ r. bounds (suc r)) rows) ms y (spread (λ r. bounds (suc r)) rows)
    (skip (λ r. bounds (suc r)) rows) (λ x i. source_nonneg n (λ r. bounds (suc r)) rows ms x i) h

one_length : (v : Ext) (y : ℕ → ℚ) (rest : (ℕ → ℚ) → List ℚ) (k : ℕ) → ((x : ℕ → ℚ) → length (rest x) ≡ k)
    → length (spread_one v y rest) ≡ suc k
unfolding spread_one
one_length neg_inf y rest k h = ap suc (h y)
one_length (fin c) y rest k h = ap suc (h (λ k. y (suc k)))
one_length pos_inf y rest k h = ap suc (h y)

-- the spread multipliers are as many as the template rows
pub spread_length : (bounds : ℕ → Ext) (rows : List (List ℤ)) (y : ℕ → ℚ) → length (spread bounds rows y) ≡ length rows
unfolding spread
spread_length bounds [] y = refl
spread_length bounds (row ∷ rows) y = one_length (bounds 0) y (spread (λ r. bounds (suc r)) rows) (length rows)
    (λ x. spread_length (λ r. bounds (suc r)) rows x)

one_zero : (v : Ext) (y : ℕ → ℚ) (rest : (ℕ → ℚ) → List ℚ) → NotFinite v → get_or (spread_one v y rest) 0 zero_ℚ ≡ zero_ℚ
unfolding spread_one
one_zero neg_inf y rest h = refl
one_zero (fin c) y rest h = absurd h
one_zero pos_inf y rest h = refl

later_zero : (v : Ext) (y : ℕ → ℚ) (rest : (ℕ → ℚ) → List ℚ) (r : ℕ) → ((x : ℕ → ℚ) → get_or (rest x) r zero_ℚ ≡ zero_ℚ)
    → get_or (spread_one v y rest) (suc r) zero_ℚ ≡ zero_ℚ
unfolding spread_one
later_zero neg_inf y rest r h = h y
later_zero (fin c) y rest r h = h (λ k. y (suc k))
later_zero pos_inf y rest r h = h y

-- a template row whose bound isn't finite has the multiplier 0
pub spread_zero : (bounds : ℕ → Ext) (rows : List (List ℤ)) (y : ℕ → ℚ) (r : ℕ) → NotFinite (bounds r)
    → get_or (spread bounds rows y) r zero_ℚ ≡ zero_ℚ
unfolding spread
spread_zero bounds [] y r h = refl
spread_zero bounds (row ∷ rows) y zero h = one_zero (bounds 0) y (spread (λ r. bounds (suc r)) rows) h
spread_zero bounds (row ∷ rows) y (suc r) h = later_zero (bounds 0) y (spread (λ r. bounds (suc r)) rows) r
    (λ x. spread_zero (λ r. bounds (suc r)) rows x r h)
