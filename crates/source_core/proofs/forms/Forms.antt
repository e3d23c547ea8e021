-- The values of sums, multiples and single variables.
use Rattle.std.proofs.Common.{◌≡◌, ◌<◌, ℕ, zero, suc, List, [], ◌∷◌, ◌++◌, length, get_or, replicate, map, max, refl, sym, ap, arith}
use Rattle.std.specs.Prelude.{ℤ, pos, negsuc, ◌+ℤ◌, ◌-ℤ◌, ◌*ℤ◌, IsTrue}
use Rattle.std.proofs.lemmas.Int.{ints}
use Rattle.std.proofs.lemmas.Bool.Decides.{Decides-int_eq}
use Rattle.std.specs.List.{list_all}
use Rattle.std.specs.Ordering.{int_eq}
use Rattle.std.proofs.Math.IntN.{zero-*ℤ, *ℤ-zero}
use Rattle.lang_tree.specs.declared.form.Form.{Form}
use Rattle.lang_tree.specs.Meaning.{State, dot, value}
use Rattle.source_core.specs.Forms.{constant_form, variable_form, sums, plus, scaled, opposite, minus, is_constant}
use Rattle.source_core.proofs.forms.Tests.{both_of}
use Rattle.source_core.proofs.forms.Integers.{times_assoc, times_sum, sum_times}

-- ---- values
dot-sums : (cs ds : List ℤ) (x : State) → dot (sums cs ds) x ≡ dot cs x +ℤ dot ds x
dot-sums [] ds x = let d = dot ds x in omega (arith, ints)
dot-sums (c ∷ cs) [] x = let d = dot (c ∷ cs) x in omega (arith, ints)
dot-sums (c ∷ cs) (d ∷ ds) [] = refl
dot-sums (c ∷ cs) (d ∷ ds) (y ∷ x) =
    let e = sum_times c d y in let f = dot-sums cs ds x in let p = dot cs x in let q = dot ds x in omega (arith, ints, e, f)

-- the value of a sum is the sum of the values
pub value-plus : (f g : Form) (x : State) → value (plus f g) x ≡ value f x +ℤ value g x
value-plus f g x = let e = dot-sums f.coeffs g.coeffs x in omega (arith, ints, e)

dot-scaled : (z : ℤ) (cs : List ℤ) (x : State) → dot (map (λ c. z *ℤ c) cs) x ≡ z *ℤ dot cs x
dot-scaled z [] x = sym (*ℤ-zero z)
dot-scaled z (c ∷ cs) [] = sym (*ℤ-zero z)
dot-scaled z (c ∷ cs) (y ∷ x) =
    let a = times_assoc z c y in let s = times_sum z (c *ℤ y) (dot cs x) in let d = dot-scaled z cs x in omega (arith, ints, a, s, d)

-- the value of a multiple is the multiple of the value
pub value-scaled : (z : ℤ) (f : Form) (x : State) → value (scaled z f) x ≡ z *ℤ value f x
value-scaled z f x = let d = dot-scaled z f.coeffs x in let s = times_sum z (dot f.coeffs x) f.constant in omega (arith, ints, d, s)

-- the value of the opposite is 0 less the value
pub value-opposite : (f : Form) (x : State) → value (opposite f) x ≡ pos 0 -ℤ value f x
value-opposite f x = let s = value-scaled (negsuc 0) f x in let v = value f x in omega (arith, ints, s)

-- the value of a difference is the difference of the values
pub value-minus : (f g : Form) (x : State) → value (minus f g) x ≡ value f x -ℤ value g x
value-minus f g x = let p = value-plus f (opposite g) x in let o = value-opposite g x in omega (arith, ints, p, o)

-- a constant has itself as value at each state
pub value-constant : (z : ℤ) (x : State) → value (constant_form z) x ≡ z
value-constant z x = omega (arith, ints)

dot-variable : (i : ℕ) (x : State) → dot (replicate i (pos 0) ++ (pos 1 ∷ [])) x ≡ get_or x i (pos 0)
dot-variable zero [] = refl
dot-variable zero (y ∷ x) = omega (arith, ints)
dot-variable (suc i) [] = refl
dot-variable (suc i) (y ∷ x) = let d = dot-variable i x in let z = zero-*ℤ y in omega (arith, ints, d, z)

-- a single variable has the value that the state has at its place
pub value-variable : (i : ℕ) (x : State) → value (variable_form i) x ≡ get_or x i (pos 0)
value-variable i x = let d = dot-variable i x in omega (arith, ints, d)

-- ---- forms without variables
dot-zeros : (cs : List ℤ) (x : State) → IsTrue (list_all (λ c. int_eq c (pos 0)) cs) → dot cs x ≡ pos 0
dot-zeros [] x h = refl
dot-zeros (c ∷ cs) [] h = refl
dot-zeros (c ∷ cs) (y ∷ x) h =
    let b = both_of (int_eq c (pos 0)) (list_all (λ k. int_eq k (pos 0)) cs) h in
    let e = ap (λ k. k *ℤ y) ((Decides-int_eq c (pos 0)).0 b.0) in
    let d = dot-zeros cs x b.1 in
    let z = zero-*ℤ y in omega (arith, ints, e, d, z)

-- a form whose coefficients are all 0 has its constant as value
pub value-is_constant : (f : Form) (x : State) → IsTrue (is_constant f) → value f x ≡ f.constant
value-is_constant f x h = let d = dot-zeros f.coeffs x h in omega (arith, ints, d)

-- ---- which variables a form has
-- sums have as many coefficients as the longer of both lists
pub length-sums : (cs ds : List ℤ) → length (sums cs ds) ≡ max (length cs) (length ds)
length-sums [] ds = omega arith
length-sums (c ∷ cs) [] = omega arith
length-sums (c ∷ cs) (d ∷ ds) = let e = length-sums cs ds in omega (arith, e)

dot-nothing : (cs : List ℤ) → dot cs [] ≡ pos 0
dot-nothing [] = refl
dot-nothing (c ∷ cs) = refl

-- states that agree on the first variables give one value
pub dot-agrees : (cs : List ℤ) (x y : State) → ((i : ℕ) → i < length cs → get_or x i (pos 0) ≡ get_or y i (pos 0)) → dot cs x ≡ dot cs y
dot-agrees [] x y h = refl
dot-agrees (c ∷ cs) [] [] h = refl
dot-agrees (c ∷ cs) [] (y ∷ ys) h =
    let r = dot-agrees cs [] ys (λ i l. h (suc i) (omega (arith, l))) in
    let e = ap (λ v. c *ℤ v) (h 0 (omega arith)) in
    let z = *ℤ-zero c in
    let n = dot-nothing cs in omega (arith, ints, r, e, z, n)
dot-agrees (c ∷ cs) (x ∷ xs) [] h =
    let r = dot-agrees cs xs [] (λ i l. h (suc i) (omega (arith, l))) in
    let e = ap (λ v. c *ℤ v) (h 0 (omega arith)) in
    let z = *ℤ-zero c in
    let n = dot-nothing cs in omega (arith, ints, r, e, z, n)
dot-agrees (c ∷ cs) (x ∷ xs) (y ∷ ys) h =
    let r = dot-agrees cs xs ys (λ i l. h (suc i) (omega (arith, l))) in
    let e = ap (λ v. c *ℤ v) (h 0 (omega arith)) in omega (arith, ints, r, e)
