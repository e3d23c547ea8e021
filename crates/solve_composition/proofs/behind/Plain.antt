-- Guards over the variables alone are composed by operations that are never wide.
use Rattle.std.proofs.Common.{◌≡◌, ◌∙◌, ◌⊎◌, inl, inr, ⊎_elim, ℕ, zero, suc, ℤ, List, [], ◌∷◌, get_or, map, None, refl, ap, sym, subst}
use Rattle.std.proofs.Common.{nat_abs, arith}
use Rattle.std.specs.Prelude.{IsTrue, flat_map, ◌&&◌, nat_le, length}
use Rattle.std.specs.List.{list_all, range_with_len}
use Rattle.std.proofs.lemmas.Bool.{and_parts, leb-true}
use Rattle.std.proofs.lemmas.Int.{ints}
use Rattle.base_numbers.specs.Rational.{ℚ, whole, zero_ℚ, one_ℚ, ◌+ℚ◌, ◌*ℚ◌}
use Rattle.base_numbers.proofs.rational.Parts.{num-whole, den-whole}
use Rattle.base_numbers.proofs.rational.Laws.{+ℚ_idl, +ℚ_idr, *ℚ-zero, *ℚ_idr}
use Rattle.base_fractions.specs.declared.wide.Op.TheVariants.{Add, Mul}
use Rattle.base_fractions.specs.Fits.{Fits, long_limit}
use Rattle.base_fractions.specs.Operation.{Operation, first_wide}
use Rattle.lang_tree.specs.declared.form.Form.{Form}
use Rattle.lang_tree.specs.Limits.{is_form}
use Rattle.lang_tree.specs.Numbers.{is_number, are_numbers}
use Rattle.flow_edges.specs.Steps.{guards}
use Rattle.flow_systems.specs.States.{dotℚ}
use Rattle.flow_systems.specs.Sums.{products_operations, row_operations, form_operations}
use Rattle.flow_systems.proofs.Widths.{first_wide_later, first_wide_past}
use Rattle.theory_validity.specs.Words.{Affine as Formal, shifted, column, columns, width}
use Rattle.solve_composition.specs.Behind.{placed_actions, placed_composition, end_forms}
use Rattle.solve_composition.specs.Composed.{first_entries}
use Rattle.solve_composition.specs.Operations.{column_values, constants, column_operations, form_composition}
use Rattle.solve_composition.proofs.behind.Forms.{composition_only, ends_only}
use Rattle.solve_composition.proofs.sums.Products.{zero_fits}
use Rattle.solve_composition.proofs.walk.States.{columns_are}

-- ---- numbers that fit
whole_fits : (z : ℤ) → IsTrue (is_number z) → Fits long_limit (whole z)
whole_fits z h =
    let l = leb-true (nat_abs z) 9223372036854775807 h in
    record {
      num_fits = let e = ap nat_abs (num-whole z) in omega (arith, ints, l);
      den_fits = let e = den-whole z in omega (arith, ints);
    }

-- 0 fits
pub nothing_fits : Fits long_limit zero_ℚ
nothing_fits = zero_fits

-- ---- lists of coefficients
-- all are 0
abbrev pub AreZero : List ℚ → Type 0
AreZero [] = Unit {0}
AreZero (x ∷ xs) = (x ≡ zero_ℚ) × AreZero xs

-- all are 0 but for at most one, which is 1
abbrev pub IsUnit : List ℚ → Type 0
IsUnit [] = Unit {0}
IsUnit (x ∷ xs) = ((x ≡ zero_ℚ) × IsUnit xs) ⊎ ((x ≡ one_ℚ) × AreZero xs)

-- one product that is added
module _ (sum : ℚ) (c : ℤ) (x : ℚ) (cs : List ℤ) (xs : List ℚ) (product : Fits long_limit (whole c *ℚ x))
    (added : Fits long_limit (sum +ℚ (whole c *ℚ x))) where
  added_passes : first_wide long_limit (products_operations (sum +ℚ (whole c *ℚ x)) cs xs) ≡ None
      → first_wide long_limit (products_operations sum (c ∷ cs) (x ∷ xs)) ≡ None
  added_passes h =
      let rest = products_operations (sum +ℚ (whole c *ℚ x)) cs xs in
      first_wide_past long_limit (record { op = Mul; left = whole c; right = x })
      (record { op = Add; left = sum; right = whole c *ℚ x } ∷ rest) product
      ∙ first_wide_past long_limit (record { op = Add; left = sum; right = whole c *ℚ x }) rest added ∙ h

times_zero : (c : ℤ) (x : ℚ) → x ≡ zero_ℚ → whole c *ℚ x ≡ zero_ℚ
times_zero c x e = ap (λ y. whole c *ℚ y) e ∙ *ℚ-zero (whole c)

plus_zero : (sum : ℚ) (c : ℤ) (x : ℚ) → x ≡ zero_ℚ → sum +ℚ (whole c *ℚ x) ≡ sum
plus_zero sum c x e = ap (λ y. sum +ℚ y) (times_zero c x e) ∙ +ℚ_idr sum

zeros_pass : (sum : ℚ) (cs : List ℤ) (xs : List ℚ) → Fits long_limit sum → AreZero xs
    → first_wide long_limit (products_operations sum cs xs) ≡ None
zeros_pass sum [] xs f z = refl
zeros_pass sum (c ∷ cs) [] f z = refl
zeros_pass sum (c ∷ cs) (x ∷ xs) f z =
    let next = subst (Fits long_limit) (sym (plus_zero sum c x z.0)) f in
    added_passes sum c x cs xs (subst (Fits long_limit) (sym (times_zero c x z.0)) nothing_fits) next
    (zeros_pass (sum +ℚ (whole c *ℚ x)) cs xs next z.1)

unit_passes : (sum : ℚ) → sum ≡ zero_ℚ → (cs : List ℤ) → IsTrue (are_numbers cs) → (xs : List ℚ) → IsUnit xs
    → first_wide long_limit (products_operations sum cs xs) ≡ None
unit_passes sum e [] n xs u = refl
unit_passes sum e (c ∷ cs) n [] u = refl
unit_passes sum e (c ∷ cs) n (x ∷ xs) u =
    let p = and_parts (is_number c) (are_numbers cs) n in
    ⊎_elim (λ z.
    let next = plus_zero sum c x z.0 ∙ e in
    added_passes sum c x cs xs (subst (Fits long_limit) (sym (times_zero c x z.0)) nothing_fits)
    (subst (Fits long_limit) (sym next) nothing_fits) (unit_passes (sum +ℚ (whole c *ℚ x)) next cs p.1 xs z.1))
    (λ o.
    let one : whole c *ℚ x ≡ whole c = ap (λ y. whole c *ℚ y) o.0 ∙ *ℚ_idr (whole c) in
    let next : sum +ℚ (whole c *ℚ x) ≡ whole c = ap (λ s. s +ℚ (whole c *ℚ x)) e ∙ +ℚ_idl (whole c *ℚ x) ∙ one in
    let fits = whole_fits c p.0 in
    let added = subst (Fits long_limit) (sym next) fits in
    added_passes sum c x cs xs (subst (Fits long_limit) (sym one) fits) added
    (zeros_pass (sum +ℚ (whole c *ℚ x)) cs xs added o.1)) u

-- ---- the columns
shift_zero : (fs : List Formal) → AreZero (map (λ f. get_or f.coeffs 0 zero_ℚ) (map shifted fs))
unfolding shifted
shift_zero [] = tt
shift_zero (f ∷ fs) = (refl, shift_zero fs)

shift_same : (k : ℕ) (fs : List Formal) → column_values (suc k) (map shifted fs) ≡ column_values k fs
unfolding shifted
shift_same k [] = refl
shift_same k (f ∷ fs) = ap (λ xs. get_or f.coeffs k zero_ℚ ∷ xs) (shift_same k fs)

unit_column : (k n : ℕ) → IsUnit (column_values k (columns n))
unfolding columns column
unit_column k zero = tt
unit_column zero (suc n) = inr (refl, shift_zero (columns n))
unit_column (suc k) (suc n) = inl (refl, subst IsUnit (sym (shift_same k (columns n))) (unit_column k n))

shift_constants : (fs : List Formal) → AreZero (constants fs) → AreZero (constants (map shifted fs))
unfolding shifted
shift_constants [] z = tt
shift_constants (f ∷ fs) z = (z.0, shift_constants fs z.1)

zero_constants : (n : ℕ) → AreZero (constants (columns n))
unfolding columns column
zero_constants zero = tt
zero_constants (suc n) = (refl, shift_constants (columns n) (zero_constants n))

zero_dot : (cs : List ℤ) (xs : List ℚ) → AreZero xs → dotℚ cs xs ≡ zero_ℚ
zero_dot [] xs z = refl
zero_dot (c ∷ cs) [] z = refl
zero_dot (c ∷ cs) (x ∷ xs) z =
    ap (λ s. s +ℚ dotℚ cs xs) (times_zero c x z.0) ∙ +ℚ_idl (dotℚ cs xs) ∙ zero_dot cs xs z.1

-- ---- a guard, and all of them
flat_none : {A : Type 0} (f : A → List Operation) (xs : List A) → ((x : A) → first_wide long_limit (f x) ≡ None)
    → first_wide long_limit (flat_map f xs) ≡ None
flat_none f [] h = refl
flat_none f (x ∷ xs) h = first_wide_later long_limit (f x) (flat_map f xs) (h x) ∙ flat_none f xs h

guard_passes : (w n : ℕ) (g : Form) → IsTrue (is_form n g) → first_wide long_limit (form_composition w (columns n) g) ≡ None
guard_passes w n g h =
    let p = and_parts (nat_le (length g.coeffs) n) (are_numbers g.coeffs && is_number g.constant) h in
    let q = and_parts (are_numbers g.coeffs) (is_number g.constant) p.1 in
    let xs = constants (columns n) in
    let sum : dotℚ g.coeffs xs +ℚ whole g.constant ≡ whole g.constant = ap (λ s. s +ℚ whole g.constant)
    (zero_dot g.coeffs xs (zero_constants n)) ∙ +ℚ_idl (whole g.constant) in
    first_wide_later long_limit (column_operations w g.coeffs (columns n)) (form_operations g xs)
    (flat_none (λ k. row_operations g.coeffs (column_values k (columns n))) (range_with_len 0 w)
    (λ k. unit_passes zero_ℚ refl g.coeffs q.0 (column_values k (columns n)) (unit_column k n)))
    ∙ first_wide_later long_limit (row_operations g.coeffs xs)
    (record { op = Add; left = dotℚ g.coeffs xs; right = whole g.constant } ∷ [])
    (zeros_pass zero_ℚ g.coeffs xs nothing_fits (zero_constants n))
    ∙ first_wide_past long_limit (record { op = Add; left = dotℚ g.coeffs xs; right = whole g.constant }) []
    (subst (Fits long_limit) (sym sum) (whole_fits g.constant q.1))

guards_pass : (w n : ℕ) (gs : List Form) → IsTrue (list_all (is_form n) gs)
    → first_wide long_limit (flat_map (form_composition w (columns n)) gs) ≡ None
guards_pass w n [] h = refl
guards_pass w n (g ∷ gs) h =
    let p = and_parts (is_form n g) (list_all (is_form n) gs) h in
    first_wide_later long_limit (form_composition w (columns n) g) (flat_map (form_composition w (columns n)) gs) (guard_passes w n g p.0)
    ∙ guards_pass w n gs p.1

-- no operation of the composition of guards alone is wide
pub guards_alone : (n : ℕ) (gs : List Form) → IsTrue (list_all (is_form n) gs) → first_wide long_limit (placed_composition n [] gs) ≡ None
guards_alone n gs h =
    ap (first_wide long_limit) (composition_only (width n (guards gs)) n (columns n) gs) ∙ guards_pass (width n (guards gs)) n gs h

-- ---- the columns as forms
zero_entries : (w : ℕ) → AreZero (first_entries w [])
zero_entries zero = tt
zero_entries (suc w) = (refl, zero_entries w)

-- the coefficients of a column are 0 but for one
pub column_entries : (w k : ℕ) → IsUnit (first_entries w (column k).coeffs)
unfolding column shifted
column_entries zero k = tt
column_entries (suc w) zero = inr (refl, zero_entries w)
column_entries (suc w) (suc k) = inl (refl, column_entries w k)

-- and its constant is 0
pub column_constant : (k : ℕ) → (column k).constant ≡ zero_ℚ
unfolding column shifted
column_constant zero = refl
column_constant (suc k) = column_constant k

-- guards leave the variables, which are the first columns
pub plain_ends : (n : ℕ) (gs : List Form) → end_forms n (placed_actions [] gs) ≡ map column (range_with_len 0 n)
plain_ends n gs = ends_only n (columns n) gs ∙ columns_are n
