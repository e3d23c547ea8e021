-- Sums of rows and guards from the left are those of the theory.
use Rattle.std.proofs.Common.{◌≡◌, ◌∙◌, ℕ, zero, suc, ◌+◌, ◌==◌, pos, List, [], ◌∷◌, length, map, get_or, refl, sym, ap, ap₂, arith}
use Rattle.std.specs.Prelude.{ℤ, IsTrue}
use Rattle.std.specs.List.{range_with_len}
use Rattle.base_numbers.specs.Rational.{ℚ, whole, zero_ℚ, ◌+ℚ◌, ◌*ℚ◌, neg_ℚ}
use Rattle.base_numbers.specs.Extended.{Ext}
use Rattle.base_numbers.specs.Vector.{dot, scale_vec, vec_mat}
use Rattle.base_numbers.proofs.vector.Vectors.{get_or-add_vec, get_or-scale_vec}
use Rattle.base_numbers.proofs.rational.Laws.{+ℚ_assoc, +ℚ_idl, +ℚ_idr, *ℚ-zero, *ℚ_idr}
use Rattle.flow_edges.specs.declared.edge.Edge.{Edge}
use Rattle.flow_systems.specs.States.{dotℚ}
use Rattle.flow_systems.specs.Equations.{Equations, Vector}
use Rattle.flow_systems.specs.SystemLimits.{is_over}
use Rattle.flow_systems.proofs.Sizes.{both}
use Rattle.theory_validity.specs.Words.{Affine, shifted, column, columns, guard_forms, start_form}
use Rattle.theory_validity.specs.Certificates.{num, coefficients, combination, row_side, guard_side, side}
use Rattle.solve_composition.proofs.composed.Dense.{coeff-combined}
use Rattle.cert_checker.specs.EvidenceEvents.{total, row_column, guard_column, row_numbers, guard_numbers}
use Rattle.cert_checker.proofs.names.Items.{eqb_out}

-- a sum from the left is a product of lists
total_dot : (s : ℚ) (xs ys : List ℚ) → total s xs ys ≡ s +ℚ dot xs ys
unfolding total dot
total_dot s [] ys = sym (+ℚ_idr s)
total_dot s (x ∷ xs) [] = sym (+ℚ_idr s)
total_dot s (x ∷ xs) (y ∷ ys) = total_dot (s +ℚ (x *ℚ y)) xs ys ∙ +ℚ_assoc s (x *ℚ y) (dot xs ys)

-- of rows and then guards
both_dot : (rows xs guards ys : List ℚ) → total (total zero_ℚ rows xs) guards ys ≡ dot rows xs +ℚ dot guards ys
both_dot rows xs guards ys = total_dot (total zero_ℚ rows xs) guards ys
    ∙ ap (λ s. s +ℚ dot guards ys) (total_dot zero_ℚ rows xs ∙ +ℚ_idl (dot rows xs))

-- ---- entries
at-vec_mat : (ys : List ℚ) (rs : List (List ℚ)) (k : ℕ) → get_or (vec_mat ys rs) k zero_ℚ ≡ dot ys (map (λ r. get_or r k zero_ℚ) rs)
unfolding vec_mat dot
at-vec_mat [] rs k = refl
at-vec_mat (y ∷ ys) [] k = refl
at-vec_mat (y ∷ ys) (r ∷ rs) k = get_or-add_vec (scale_vec y r) (vec_mat ys rs) k
    ∙ ap₂ (λ a b. a +ℚ b) (get_or-scale_vec y r k) (at-vec_mat ys rs k)

at-coefficients : (fs : List Affine) (k : ℕ) → map (λ r. get_or r k zero_ℚ) (coefficients fs) ≡ map (λ f. get_or f.coeffs k zero_ℚ) fs
unfolding coefficients
at-coefficients [] k = refl
at-coefficients (f ∷ fs) k = ap (λ xs. get_or f.coeffs k zero_ℚ ∷ xs) (at-coefficients fs k)

-- ---- rows at the start
first_zeros : (cs : List ℤ) (fs : List Affine) → dotℚ cs (map (λ f. get_or f.coeffs 0 zero_ℚ) (map shifted fs)) ≡ zero_ℚ
unfolding shifted
first_zeros [] fs = refl
first_zeros (c ∷ cs) [] = refl
first_zeros (c ∷ cs) (f ∷ fs) = ap₂ (λ a b. a +ℚ b) (*ℚ-zero (whole c)) (first_zeros cs fs) ∙ +ℚ_idl zero_ℚ

later_same : (fs : List Affine) (k : ℕ) → map (λ f. get_or f.coeffs (suc k) zero_ℚ) (map shifted fs)
    ≡ map (λ f. get_or f.coeffs k zero_ℚ) fs
unfolding shifted
later_same [] k = refl
later_same (f ∷ fs) k = ap (λ xs. get_or f.coeffs k zero_ℚ ∷ xs) (later_same fs k)

at-columns : (n : ℕ) (row : List ℤ) (k : ℕ) → length row ≡ n → dotℚ row (map (λ f. get_or f.coeffs k zero_ℚ) (columns n))
    ≡ whole (get_or row k (pos 0))
unfolding columns column zero_ℚ
at-columns zero [] k e = refl
at-columns zero (c ∷ cs) k e = absurd (omega arith)
at-columns (suc n) [] k e = absurd (omega arith)
at-columns (suc n) (c ∷ cs) zero e = ap₂ (λ a b. a +ℚ b) (*ℚ_idr (whole c)) (first_zeros cs (columns n)) ∙ +ℚ_idr (whole c)
at-columns (suc n) (c ∷ cs) (suc k) e =
    ap₂ (λ a b. a +ℚ b) (*ℚ-zero (whole c)) (ap (dotℚ cs) (later_same (columns n) k) ∙ at-columns n cs k (omega arith))
    ∙ +ℚ_idl (whole (get_or cs k (pos 0)))

at-start : (n : ℕ) (rows : List (List ℤ)) (k : ℕ) → IsTrue (is_over n rows)
    → map (λ f. get_or f.coeffs k zero_ℚ) (map (start_form n) rows) ≡ map (λ row. whole (get_or row k (pos 0))) rows
unfolding start_form
at-start n [] k h = refl
at-start n (row ∷ rows) k h =
    let p = both (length row == n) (is_over n rows) h in
    ap₂ (λ x xs. x ∷ xs) (coeff-combined row (columns n) k ∙ at-columns n row k (eqb_out (length row) n p.0)) (at-start n rows k p.1)

-- the sum of a column is the combination's entry there
pub column_total : (system : Equations) (edge : Edge) (rows guards : List ℚ) (k : ℕ) → IsTrue (is_over system.variables system.template) →
    total (total zero_ℚ rows (row_column system k)) guards (guard_column system edge k)
    ≡ get_or (combination system edge rows guards) k zero_ℚ
unfolding combination
column_total system edge rows guards k h =
    both_dot rows (row_column system k) guards (guard_column system edge k)
    ∙ sym (get_or-add_vec (vec_mat rows (coefficients (map (start_form system.variables) system.template)))
    (vec_mat guards (coefficients (guard_forms system.variables edge.actions))) k
    ∙ ap₂ (λ a b. a +ℚ b)
    (at-vec_mat rows (coefficients (map (start_form system.variables) system.template)) k
    ∙ ap (dot rows) (at-coefficients (map (start_form system.variables) system.template) k
    ∙ at-start system.variables system.template k h))
    (at-vec_mat guards (coefficients (guard_forms system.variables edge.actions)) k
    ∙ ap (dot guards) (at-coefficients (guard_forms system.variables edge.actions) k)))

-- ---- the side
row_side_is : (ys : List ℚ) (g bounds : ℕ → Ext) (a n : ℕ) → length ys ≡ n → ((r : ℕ) → g r ≡ bounds (a + r))
    → row_side ys g ≡ dot ys (map (λ r. num (bounds r)) (range_with_len a n))
unfolding row_side dot
row_side_is [] g bounds a n e h = refl
row_side_is (y ∷ ys) g bounds a zero e h = absurd (omega arith)
row_side_is (y ∷ ys) g bounds a (suc n) e h = ap₂ (λ p q. p +ℚ q)
    (ap (λ v. y *ℚ num v) (h 0 ∙ ap bounds (let q : a + 0 ≡ a = omega arith in q)))
    (row_side_is ys (λ r. g (suc r)) bounds (a + 1) n (omega arith) (λ r. h (suc r)
    ∙ ap bounds (let q : a + suc r ≡ (a + 1) + r = omega arith in q)))

guard_side_is : (ms : List ℚ) (gs : List Affine) → guard_side ms gs ≡ dot ms (map (λ g. neg_ℚ g.constant) gs)
unfolding guard_side dot
guard_side_is [] gs = refl
guard_side_is (m ∷ ms) [] = refl
guard_side_is (m ∷ ms) (g ∷ gs) = ap (λ s. m *ℚ neg_ℚ g.constant +ℚ s) (guard_side_is ms gs)

-- the sum of the side is the side
pub side_total : (system : Equations) (z : Vector) (edge : Edge) (rows guards : List ℚ) → length rows ≡ length system.template →
    total (total zero_ℚ rows (row_numbers system z edge)) guards (guard_numbers system edge) ≡ side system z edge rows guards
unfolding side
side_total system z edge rows guards e =
    both_dot rows (row_numbers system z edge) guards (guard_numbers system edge)
    ∙ sym (ap₂ (λ a b. a +ℚ b) (row_side_is rows (z edge.from) (z edge.from) 0 (length system.template) e
    (λ r. ap (z edge.from) (let q : r ≡ 0 + r = omega arith in q))) (guard_side_is guards (guard_forms system.variables edge.actions)))
