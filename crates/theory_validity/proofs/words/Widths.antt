-- A composed form has no column past a word's, so coefficients that are the same on those are the same.
use Rattle.std.proofs.Common.{◌≡◌, ◌∙◌, ℕ, zero, suc, ◌+◌, ◌<◌, ◌≤◌, List, [], ◌∷◌, length, map, get_or, refl, sym, ap, subst, arith}
use Rattle.std.proofs.Common.{le_trans}
use Rattle.std.specs.Prelude.{ℤ}
use Rattle.std.proofs.Math.ListN.{get_or-eq_default}
use native.Mathlib.Decide.{dec_lt}
use Rattle.base_numbers.proofs.vector.Vectors.{length-scale_vec}
use Rattle.base_numbers.specs.Rational.{ℚ, zero_ℚ, ◌+ℚ◌, ◌*ℚ◌}
use Rattle.base_numbers.specs.Vector.{dot, add_vec, scale_vec, vec_mat}
use Rattle.base_numbers.proofs.rational.Laws.{zero-*ℚ, +ℚ_idl}
use Rattle.lang_tree.specs.declared.form.Form.{Form}
use Rattle.flow_edges.specs.declared.edge.Action.{Action}
use Rattle.flow_edges.specs.declared.edge.Action.TheVariants.{Guard, Assign, Havoc, Check}
use Rattle.flow_edges.specs.declared.edge.Edge.{Edge}
use Rattle.flow_systems.specs.Equations.{Equations}
use Rattle.theory_validity.specs.Words.{Affine, with_form, shifted, column, columns, combined, composed}
use Rattle.theory_validity.specs.Words.{guards_from, ends_from, free_count, width}
use Rattle.theory_validity.specs.Words.{guard_forms, start_form, end_form}
use Rattle.theory_validity.specs.Certificates.{coefficients, combination, SameColumns}

-- forms of at most m coefficients
abbrev pub Narrow : ℕ → List Affine → Type 0
Narrow m [] = Unit {0}
Narrow m (f ∷ fs) = (length f.coeffs ≤ m) × Narrow m fs

abbrev NarrowRows : ℕ → List (List ℚ) → Type 0
NarrowRows m [] = Unit {0}
NarrowRows m (r ∷ rs) = (length r ≤ m) × NarrowRows m rs

widen : (m k : ℕ) (fs : List Affine) → m ≤ k → Narrow m fs → Narrow k fs
widen m k [] h n = tt
widen m k (f ∷ fs) h n = (le_trans n.0 h, widen m k fs h n.1)

length-add_vec-le : (m : ℕ) (u v : List ℚ) → length u ≤ m → length v ≤ m → length (add_vec u v) ≤ m
unfolding add_vec
length-add_vec-le m [] v h i = i
length-add_vec-le m (x ∷ u) [] h i = h
length-add_vec-le zero (x ∷ u) (y ∷ v) h i = absurd (omega arith)
length-add_vec-le (suc m) (x ∷ u) (y ∷ v) h i = let r = length-add_vec-le m u v (omega arith) (omega arith) in omega arith

narrow_combined : (m : ℕ) (row : List ℤ) (fs : List Affine) → Narrow m fs → length (combined row fs).coeffs ≤ m
unfolding combined
narrow_combined m [] fs h = omega arith
narrow_combined m (c ∷ cs) [] h = omega arith
narrow_combined m (c ∷ cs) (f ∷ fs) h =
    length-add_vec-le m (scale_vec (Rattle.base_numbers.specs.Rational.whole c) f.coeffs) (combined cs fs).coeffs
    (subst (λ k. k ≤ m) (sym (length-scale_vec (Rattle.base_numbers.specs.Rational.whole c) f.coeffs)) h.0) (narrow_combined m cs fs h.1)

narrow_composed : (m : ℕ) (form : Form) (fs : List Affine) → Narrow m fs → length (composed form fs).coeffs ≤ m
unfolding composed
narrow_composed m form fs h = narrow_combined m form.coeffs fs h

narrow_column : (k : ℕ) → length (column k).coeffs ≤ suc k
unfolding column shifted
narrow_column zero = omega arith
narrow_column (suc k) = let r = narrow_column k in omega arith

narrow_shifted : (m : ℕ) (fs : List Affine) → Narrow m fs → Narrow (suc m) (map shifted fs)
unfolding shifted
narrow_shifted m [] h = tt
narrow_shifted m (f ∷ fs) h = let r = h.0 in (omega arith, narrow_shifted m fs h.1)

narrow_columns : (n : ℕ) → Narrow n (columns n)
unfolding columns
narrow_columns zero = tt
narrow_columns (suc n) = (let r = narrow_column 0 in omega arith, narrow_shifted n (columns n) (narrow_columns n))

narrow_set : (m : ℕ) (fs : List Affine) (i : ℕ) (f : Affine) → length f.coeffs ≤ m → Narrow m fs → Narrow m (with_form fs i f)
narrow_set m [] zero f h n = (h, tt)
narrow_set m [] (suc i) f h n = (omega arith, narrow_set m [] i f h tt)
narrow_set m (g ∷ fs) zero f h n = (h, n.1)
narrow_set m (g ∷ fs) (suc i) f h n = (n.0, narrow_set m fs i f h n.1)

narrow_guards : (k : ℕ) (fs : List Affine) (actions : List Action) → Narrow k fs
    → Narrow (k + free_count actions) (guards_from k fs actions)
unfolding guards_from free_count
narrow_guards k fs [] h = tt
narrow_guards k fs (Guard form ∷ actions) h = (let r = narrow_composed k form fs h in omega arith, narrow_guards k fs actions h)
narrow_guards k fs (Assign var form ∷ actions) h = narrow_guards k (with_form fs var (composed form fs)) actions
    (narrow_set k fs var (composed form fs) (narrow_composed k form fs h) h)
narrow_guards k fs (Havoc var ∷ actions) h =
    let e : suc k + free_count actions ≡ k + suc (free_count actions) = omega arith in
    subst (λ m. Narrow m (guards_from (suc k) (with_form fs var (column k)) actions)) e
    (narrow_guards (suc k) (with_form fs var (column k)) actions (narrow_set (suc k) fs var (column k) (narrow_column k)
    (widen k (suc k) fs (omega arith) h)))
narrow_guards k fs (Check about ∷ actions) h = narrow_guards k fs actions h

narrow_ends : (k : ℕ) (fs : List Affine) (actions : List Action) → Narrow k fs → Narrow (k + free_count actions) (ends_from k fs actions)
unfolding ends_from free_count
narrow_ends k fs [] h = widen k (k + 0) fs (omega arith) h
narrow_ends k fs (Guard form ∷ actions) h = narrow_ends k fs actions h
narrow_ends k fs (Assign var form ∷ actions) h = narrow_ends k (with_form fs var (composed form fs)) actions
    (narrow_set k fs var (composed form fs) (narrow_composed k form fs h) h)
narrow_ends k fs (Havoc var ∷ actions) h =
    let e : suc k + free_count actions ≡ k + suc (free_count actions) = omega arith in
    subst (λ m. Narrow m (ends_from (suc k) (with_form fs var (column k)) actions)) e
    (narrow_ends (suc k) (with_form fs var (column k)) actions (narrow_set (suc k) fs var (column k) (narrow_column k)
    (widen k (suc k) fs (omega arith) h)))
narrow_ends k fs (Check about ∷ actions) h = narrow_ends k fs actions h

-- a row's form at the end has at most a word's columns
pub end_form_width : (n : ℕ) (actions : List Action) (row : List ℤ) → length (end_form n actions row).coeffs ≤ width n actions
unfolding end_form width
end_form_width n actions row = narrow_combined (n + free_count actions) row (ends_from n (columns n) actions)
    (narrow_ends n (columns n) actions (narrow_columns n))

-- so have the composed guards
pub guard_forms_width : (n : ℕ) (actions : List Action) → Narrow (width n actions) (guard_forms n actions)
unfolding guard_forms width
guard_forms_width n actions = narrow_guards n (columns n) actions (narrow_columns n)

-- and at the start at most the variables' columns
pub start_form_width : (n : ℕ) (row : List ℤ) → length (start_form n row).coeffs ≤ n
unfolding start_form
start_form_width n row = narrow_combined n row (columns n) (narrow_columns n)

narrow_coefficients : (m : ℕ) (fs : List Affine) → Narrow m fs → NarrowRows m (coefficients fs)
unfolding coefficients
narrow_coefficients m [] h = tt
narrow_coefficients m (f ∷ fs) h = (h.0, narrow_coefficients m fs h.1)

narrow_starts : (n m : ℕ) (rows : List (List ℤ)) → n ≤ m → NarrowRows m (coefficients (map (start_form n) rows))
unfolding coefficients
narrow_starts n m [] h = tt
narrow_starts n m (row ∷ rows) h = (le_trans (start_form_width n row) h, narrow_starts n m rows h)

narrow_vec_mat : (m : ℕ) (ys : List ℚ) (rs : List (List ℚ)) → NarrowRows m rs → length (vec_mat ys rs) ≤ m
unfolding vec_mat
narrow_vec_mat m [] rs h = omega arith
narrow_vec_mat m (y ∷ ys) [] h = omega arith
narrow_vec_mat m (y ∷ ys) (r ∷ rs) h =
    length-add_vec-le m (scale_vec y r) (vec_mat ys rs) (subst (λ k. k ≤ m) (sym (length-scale_vec y r)) h.0) (narrow_vec_mat m ys rs h.1)

-- a combination has at most a word's columns
pub combination_width : (system : Equations) (edge : Edge) (rows guards : List ℚ)
    → length (combination system edge rows guards) ≤ width system.variables edge.actions
unfolding combination width guard_forms
combination_width system edge rows guards =
    let n = system.variables in
    let m = n + free_count edge.actions in
    length-add_vec-le m (vec_mat rows (coefficients (map (start_form n) system.template)))
    (vec_mat guards (coefficients (guards_from n (columns n) edge.actions)))
    (narrow_vec_mat m rows (coefficients (map (start_form n) system.template)) (narrow_starts n m system.template (omega arith)))
    (narrow_vec_mat m guards (coefficients (guards_from n (columns n) edge.actions))
    (narrow_coefficients m (guards_from n (columns n) edge.actions) (narrow_guards n (columns n) edge.actions (narrow_columns n))))

-- coefficients that are the same column by column have the same products
dot-zeros : (u w : List ℚ) → ((k : ℕ) → get_or u k zero_ℚ ≡ zero_ℚ) → dot u w ≡ zero_ℚ
unfolding dot
dot-zeros [] w same = refl
dot-zeros (x ∷ u) [] same = refl
dot-zeros (x ∷ u) (y ∷ w) same =
    ap (λ s. s *ℚ y +ℚ dot u w) (same 0) ∙ ap (λ s. s +ℚ dot u w) (zero-*ℚ y) ∙ +ℚ_idl (dot u w) ∙ dot-zeros u w (λ k. same (suc k))

dot_everywhere : (u v w : List ℚ) → ((k : ℕ) → get_or u k zero_ℚ ≡ get_or v k zero_ℚ) → dot u w ≡ dot v w
unfolding dot
dot_everywhere [] v w same = sym (dot-zeros v w (λ k. sym (same k)))
dot_everywhere (x ∷ u) [] w same = dot-zeros (x ∷ u) w same
dot_everywhere (x ∷ u) (y ∷ v) [] same = refl
dot_everywhere (x ∷ u) (y ∷ v) (z ∷ w) same = ap (λ s. s *ℚ z +ℚ dot u w) (same 0)
    ∙ ap (λ s. y *ℚ z +ℚ s) (dot_everywhere u v w (λ k. same (suc k)))

-- coefficients that are the same on the columns have the same products
pub dot_same : (columns : ℕ) (u v w : List ℚ) → length u ≤ columns → length v ≤ columns → SameColumns columns u v → dot u w ≡ dot v w
dot_same columns u v w h i same = dot_everywhere u v w (λ k. by k (dec_lt k columns))
  where
    by : (k : ℕ) → Dec (k < columns) → get_or u k zero_ℚ ≡ get_or v k zero_ℚ
    by k (yes l) = same k l
    by k (no l) =
        let past : columns ≤ k = omega arith in
        get_or-eq_default u zero_ℚ (le_trans h past) ∙ sym (get_or-eq_default v zero_ℚ (le_trans i past))
