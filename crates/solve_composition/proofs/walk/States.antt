-- States of forms with all their columns.
use Rattle.std.proofs.Common.{◌≡◌, ◌∙◌, ◌==◌, ◌&&◌, ℕ, zero, suc, ◌+◌, ◌<◌, List, [], ◌∷◌, length, map, refl, ap, ap₂, sym, subst, add-one}
use Rattle.std.specs.Prelude.{IsTrue, nat_lt}
use Rattle.std.specs.List.{list_all, range_with_len}
use Rattle.std.proofs.lemmas.Bool.{eq-eqb, eqb-true, lt-ltb}
use Rattle.std.proofs.lemmas.List.{length-map}
use Rattle.flow_systems.proofs.Sizes.{both}
use Rattle.theory_validity.specs.Words.{Affine as Form, shifted, column, columns}
use Rattle.solve_composition.specs.declared.affine.Affine.{Affine}
use Rattle.solve_composition.specs.Composed.{dense}
use Rattle.solve_composition.specs.Walks.{has_width, IsState}
use Rattle.solve_composition.proofs.composed.Dense.{length-first_entries}

-- each form of a state has each column
pub state_has : (state : List Affine) (w k : ℕ) → k < w → IsState w state → IsTrue (list_all (λ f. nat_lt k (length f.coeffs)) state)
state_has [] w k l h = refl
state_has (f ∷ state) w k l h =
    let p = both (length f.coeffs == w) (list_all (has_width w) state) h in
    ap₂ (λ a b. a && b) (lt-ltb k (length f.coeffs) (subst (λ n. k < n) (sym (eqb-true (length f.coeffs) w p.0)) l))
    (state_has state w k l p.1)

-- forms with w columns make a state
pub state_dense : (w : ℕ) (forms : List Form) → IsState w (map (dense w) forms)
state_dense w [] = refl
state_dense w (f ∷ forms) = ap₂ (λ a b. a && b) (eq-eqb (length (dense w f).coeffs) w (length-first_entries w f.coeffs))
    (state_dense w forms)

-- forms with all w columns have w coefficients each
pub state_is : (state : List Affine) (w : ℕ) (forms : List Form) → state ≡ map (dense w) forms → IsState w state
state_is state w forms e = subst (IsState w) (sym e) (state_dense w forms)

-- ---- the start state
columns_shifted : (a n : ℕ) → map column (range_with_len (a + 1) n) ≡ map shifted (map column (range_with_len a n))
unfolding column
columns_shifted a zero = refl
columns_shifted a (suc n) = ap₂ (λ x xs. x ∷ xs) (ap column (add-one a)) (columns_shifted (a + 1) n)

-- the forms of the first n columns are those of the numbers below n
pub columns_are : (n : ℕ) → columns n ≡ map column (range_with_len 0 n)
unfolding columns
columns_are zero = refl
columns_are (suc n) = ap (λ xs. column 0 ∷ xs) (ap (map shifted) (columns_are n) ∙ sym (columns_shifted 0 n))

map_map : {X Y Z : Type 0} (f : X → Y) (g : Y → Z) (xs : List X) → map (λ x. g (f x)) xs ≡ map g (map f xs)
map_map f g [] = refl
map_map f g (x ∷ xs) = ap (λ ys. g (f x) ∷ ys) (map_map f g xs)

-- the start state is that of the variables' own columns
pub start_is : (w n : ℕ) → map (λ k. dense w (column k)) (range_with_len 0 n) ≡ map (dense w) (columns n)
start_is w n = map_map column (dense w) (range_with_len 0 n) ∙ ap (map (dense w)) (sym (columns_are n))

-- there are as many columns as variables
pub length-columns : (n : ℕ) → length (columns n) ≡ n
unfolding columns
length-columns zero = refl
length-columns (suc n) = ap suc (length-map (columns n) shifted ∙ length-columns n)
