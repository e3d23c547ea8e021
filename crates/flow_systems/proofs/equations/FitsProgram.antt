-- A plain program that finds whether a state fits, row by row.
use Rattle.std.proofs.Common.{◌≡◌, ◌↔◌, ℕ, zero, suc, Bool, true, false, T, ◌&&◌, List, [], ◌∷◌, subst}
use Rattle.std.specs.Prelude.{ℤ, slice_get, Some}
use Rattle.base_numbers.specs.Rational.{le_ℚ}
use Rattle.base_numbers.specs.Extended.{Ext, neg_inf, fin, pos_inf, ◌≤ᴱ◌}
use Rattle.flow_systems.specs.States.{RationalState, dotℚ}
use Rattle.flow_systems.specs.Equations.{Equations, Vector, Fits}

abbrev pub is_below : Ext → Ext → Bool
is_below neg_inf y = true
is_below (fin a) neg_inf = false
is_below (fin a) (fin b) = le_ℚ a b
is_below (fin a) pos_inf = true
is_below pos_inf neg_inf = false
is_below pos_inf (fin b) = false
is_below pos_inf pos_inf = true

abbrev pub fits_rows : List (List ℤ) → (ℕ → Ext) → RationalState → Bool
fits_rows [] bounds x = true
fits_rows (row ∷ rows) bounds x = is_below (fin (dotℚ row x)) (bounds 0) && fits_rows rows (λ r. bounds (suc r)) x

below_in : (x y : Ext) → T (is_below x y) → x ≤ᴱ y
below_in neg_inf y h = tt
below_in (fin a) neg_inf h = h
below_in (fin a) (fin b) h = record { le = h }
below_in (fin a) pos_inf h = tt
below_in pos_inf neg_inf h = h
below_in pos_inf (fin b) h = h
below_in pos_inf pos_inf h = tt

below_out : (x y : Ext) → x ≤ᴱ y → T (is_below x y)
below_out neg_inf y h = tt
below_out (fin a) neg_inf h = h
below_out (fin a) (fin b) h = h.le
below_out (fin a) pos_inf h = tt
below_out pos_inf neg_inf h = h
below_out pos_inf (fin b) h = h
below_out pos_inf pos_inf h = tt

and_in : (a b : Bool) → T (a && b) → T a × T b
and_in true b h = (tt, h)
and_in false b h = absurd h

and_out : (a b : Bool) → T a → T b → T (a && b)
and_out true b h k = k
and_out false b h k = h

some_same : (u v : List ℤ) → Some u ≡ Some v → u ≡ v
some_same u v e = cc

rows_in : (rows : List (List ℤ)) (bounds : ℕ → Ext) (x : RationalState) → T (fits_rows rows bounds x) →
    (r : ℕ) (row : List ℤ) → slice_get rows r ≡ Some row → fin (dotℚ row x) ≤ᴱ bounds r
rows_in [] bounds x h r row e = cc
rows_in (first ∷ rows) bounds x h zero row e =
    let p = and_in (is_below (fin (dotℚ first x)) (bounds 0)) (fits_rows rows (λ k. bounds (suc k)) x) h in
    subst (λ u. fin (dotℚ u x) ≤ᴱ bounds 0) (some_same first row e) (below_in (fin (dotℚ first x)) (bounds 0) p.0)
rows_in (first ∷ rows) bounds x h (suc r) row e =
    let p = and_in (is_below (fin (dotℚ first x)) (bounds 0)) (fits_rows rows (λ k. bounds (suc k)) x) h in
    rows_in rows (λ k. bounds (suc k)) x p.1 r row e

rows_out : (rows : List (List ℤ)) (bounds : ℕ → Ext) (x : RationalState)
    → ((r : ℕ) (row : List ℤ) → slice_get rows r ≡ Some row → fin (dotℚ row x) ≤ᴱ bounds r) →
    T (fits_rows rows bounds x)
rows_out [] bounds x f = tt
rows_out (first ∷ rows) bounds x f =
    and_out (is_below (fin (dotℚ first x)) (bounds 0)) (fits_rows rows (λ k. bounds (suc k)) x)
    (below_out (fin (dotℚ first x)) (bounds 0) (f 0 first refl_some)) (rows_out rows (λ k. bounds (suc k)) x (λ r row e. f (suc r) row e))
  where
    refl_some : slice_get (first ∷ rows) 0 ≡ Some first
    refl_some = cc

-- the program finds what the definition says
fits_program : (system : Equations) (v : Vector) (p : ℕ) (x : RationalState) → T (fits_rows system.template (v p) x) ↔ Fits system v p x
fits_program system v p x = (rows_in system.template (v p) x, rows_out system.template (v p) x)
