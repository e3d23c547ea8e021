-- The rows of the system are the names' values.
use Rattle.std.proofs.Common.{◌≡◌, ◌∙◌, ℕ, zero, suc, ◌+◌, ◌<◌, ℤ, pos, List, [], ◌∷◌, length, get_or, map, refl, ap, ap₂, sym, subst}
use Rattle.std.proofs.Common.{arith, zero-add}
use Rattle.std.specs.Prelude.{slice_get, Some}
use Rattle.std.specs.List.{range_with_len}
use Rattle.std.proofs.lemmas.Bool.{eq-eqb, ne_eqb}
use Rattle.std.proofs.lemmas.List.FromFn.{length-map-range_with_len, get_or-map-range_with_len}
use Rattle.std.proofs.lemmas.Option.{slice_get_within, get_or_from_slice_get, slice_get-get_or}
use Rattle.base_numbers.specs.Rational.{ℚ, whole, zero_ℚ, ◌+ℚ◌, ◌*ℚ◌}
use Rattle.base_numbers.specs.Extended.{fin, ◌≤ᴱ◌}
use Rattle.base_numbers.proofs.rational.Laws.{+ℚ_idr, +ℚ_idl, *ℚ_idl, *ℚ-zero, zero-*ℚ, whole-zero, whole-one}
use Rattle.flow_templates.specs.Domains.{term, multiple}
use Rattle.flow_systems.specs.States.{RationalState, dotℚ}
use Rattle.flow_systems.specs.Equations.{Vector, Fits}
use Rattle.flow_rationals.specs.declared.equation.Equation.{Equation}
use Rattle.flow_rationals.specs.System.{rows_of, system_of}

term_own : (c : ℤ) (i k : ℕ) → k ≡ i → term c i k ≡ c
term_own c i k e = rw (eq-eqb k i e) refl

term_other : (c : ℤ) (i k : ℕ) → (k ≡ i → ⊥) → term c i k ≡ pos 0
term_other c i k n = rw (ne_eqb k i n) refl

none_added : (y z : ℚ) → (whole (pos 0) *ℚ y) +ℚ z ≡ z
none_added y z = ap (λ c. (c *ℚ y) +ℚ z) whole-zero ∙ ap (λ x. x +ℚ z) (zero-*ℚ y) ∙ +ℚ_idl z

-- ---- one variable times a number
dot_past : (c : ℤ) (i a n : ℕ) (x : RationalState) → i < a → dotℚ (map (term c i) (range_with_len a n)) x ≡ zero_ℚ
dot_past c i a zero x h = refl
dot_past c i a (suc n) [] h = refl
dot_past c i a (suc n) (y ∷ x) h =
    ap₂ (λ z w. (whole z *ℚ y) +ℚ w) (term_other c i a (λ e. omega arith)) (dot_past c i (a + 1) n x (omega arith)) ∙ none_added y zero_ℚ

dot_from : (c : ℤ) (i a d n : ℕ) (x : RationalState) → a + d ≡ i → d < n
    → dotℚ (map (term c i) (range_with_len a n)) x ≡ whole c *ℚ get_or x d zero_ℚ
dot_from c i a d zero x e h = absurd (omega arith)
dot_from c i a d (suc n) [] e h = sym (*ℚ-zero (whole c))
dot_from c i a zero (suc n) (y ∷ x) e h =
    ap₂ (λ z w. (whole z *ℚ y) +ℚ w) (term_own c i a (omega arith)) (dot_past c i (a + 1) n x (omega arith)) ∙ +ℚ_idr (whole c *ℚ y)
dot_from c i a (suc d) (suc n) (y ∷ x) e h =
    ap₂ (λ z w. (whole z *ℚ y) +ℚ w) (term_other c i a (λ f. omega arith)) (dot_from c i (a + 1) d n x (omega arith) (omega arith))
    ∙ none_added y (whole c *ℚ get_or x d zero_ℚ)

-- the row with one coefficient c is worth c times its variable
pub dot_multiple : (width : ℕ) (c : ℤ) (i : ℕ) (x : RationalState) → i < width → dotℚ (multiple width c i) x ≡ whole c *ℚ get_or x i zero_ℚ
dot_multiple width c i x h = dot_from c i 0 i width x (zero-add i) h

-- the row with one coefficient 1 is worth its variable
pub one_times : (width i : ℕ) (x : RationalState) → i < width → dotℚ (multiple width (pos 1) i) x ≡ get_or x i zero_ℚ
one_times width i x h = dot_multiple width (pos 1) i x h ∙ ap (λ c. c *ℚ get_or x i zero_ℚ) whole-one ∙ *ℚ_idl (get_or x i zero_ℚ)

-- ---- rows
pub length-rows : (n : ℕ) → length (rows_of n) ≡ n
length-rows n = length-map-range_with_len (multiple (n + 1) (pos 1)) 0 n

row_read : (n r : ℕ) → r < n → get_or (rows_of n) r [] ≡ multiple (n + 1) (pos 1) r
row_read n r h = get_or-map-range_with_len (multiple (n + 1) (pos 1)) 0 n r r [] h (zero-add r)

row_is : (n r : ℕ) (row : List ℤ) → slice_get (rows_of n) r ≡ Some row → (r < n) × (row ≡ multiple (n + 1) (pos 1) r)
row_is n r row e =
    let l : r < n = subst (λ k. r < k) (length-rows n) (slice_get_within (rows_of n) r row e) in
    (l, sym (get_or_from_slice_get (rows_of n) r row [] e) ∙ row_read n r l)

row_there : (n r : ℕ) → r < n → slice_get (rows_of n) r ≡ Some (multiple (n + 1) (pos 1) r)
row_there n r h = slice_get-get_or (rows_of n) r [] (subst (λ k. r < k) (sym (length-rows n)) h) ∙ ap Some (row_read n r h)

-- ---- states that fit
module _ (equations : List Equation) (v : Vector) (p : ℕ) (x : RationalState) where
  -- a state that fits has each name at most at its value
  pub fits_out : Fits (system_of equations) v p x → (r : ℕ) → r < length equations → fin (get_or x r zero_ℚ) ≤ᴱ v p r
  fits_out fits r h =
      let n = length equations in
      subst (λ q. fin q ≤ᴱ v p r) (one_times (n + 1) r x (omega arith)) (fits r (multiple (n + 1) (pos 1) r) (row_there n r h))

  -- a state that has each name at most at its value fits
  pub fits_from : ((r : ℕ) → r < length equations → fin (get_or x r zero_ℚ) ≤ᴱ v p r) → Fits (system_of equations) v p x
  fits_from h r row e =
      let n = length equations in
      let k = row_is n r row e in
      let l : r < n + 1 = (let m = k.0 in omega arith) in
      subst (λ cs. fin (dotℚ cs x) ≤ᴱ v p r) (sym k.1) (subst (λ q. fin q ≤ᴱ v p r) (sym (one_times (n + 1) r x l)) (h r k.0))
