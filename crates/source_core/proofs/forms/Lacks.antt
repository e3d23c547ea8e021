-- Variables that a form doesn't have.
use Rattle.std.proofs.Common.{◌≡◌, ◌≢◌, ◌⊎◌, inl, inr, ◌≤◌, ℕ, zero, suc, List, [], ◌∷◌, ◌++◌, length, get_or, replicate, map}
use Rattle.std.proofs.Common.{refl, sym, ap, ◌∙◌, arith}
use Rattle.std.specs.Prelude.{ℤ, pos, negsuc, ◌*ℤ◌}
use Rattle.std.proofs.lemmas.Int.{ints}
use Rattle.std.proofs.Math.IntN.{zero-*ℤ, *ℤ-zero}
use Rattle.lang_tree.specs.declared.form.Form.{Form}
use Rattle.lang_tree.specs.Meaning.{State, dot, value}
use Rattle.source_core.specs.Forms.{constant_form, variable_form, sums, plus, scaled, opposite, minus}

-- the coefficient of a variable in a form is 0
abbrev pub Lacks : ℕ → Form → Type 0
Lacks i f = get_or f.coeffs i (pos 0) ≡ pos 0

-- ---- values
times-same : (c x y : ℤ) → (c ≡ pos 0) ⊎ (x ≡ y) → c *ℤ x ≡ c *ℤ y
times-same c x y (inl e) = ap (λ k. k *ℤ x) e ∙ zero-*ℤ x ∙ sym (zero-*ℤ y) ∙ sym (ap (λ k. k *ℤ y) e)
times-same c x y (inr e) = ap (λ k. c *ℤ k) e

dot-nothing : (cs : List ℤ) → dot cs [] ≡ pos 0
dot-nothing [] = refl
dot-nothing (c ∷ cs) = refl

dot-lacks : (cs : List ℤ) (x y : State)
    → ((i : ℕ) → (get_or cs i (pos 0) ≡ pos 0) ⊎ (get_or x i (pos 0) ≡ get_or y i (pos 0))) → dot cs x ≡ dot cs y
dot-lacks [] x y h = refl
dot-lacks (c ∷ cs) [] [] h = refl
dot-lacks (c ∷ cs) [] (y ∷ ys) h =
    let r = dot-lacks cs [] ys (λ i. h (suc i)) in
    let e = times-same c (pos 0) y (h 0) in
    let z = *ℤ-zero c in
    let n = dot-nothing cs in omega (arith, ints, r, e, z, n)
dot-lacks (c ∷ cs) (x ∷ xs) [] h =
    let r = dot-lacks cs xs [] (λ i. h (suc i)) in
    let e = times-same c x (pos 0) (h 0) in
    let z = *ℤ-zero c in
    let n = dot-nothing cs in omega (arith, ints, r, e, z, n)
dot-lacks (c ∷ cs) (x ∷ xs) (y ∷ ys) h =
    let r = dot-lacks cs xs ys (λ i. h (suc i)) in let e = times-same c x y (h 0) in omega (arith, ints, r, e)

-- a form has one value at states that have the same values of the variables that it has
pub value-lacks : (f : Form) (x y : State) → ((i : ℕ) → Lacks i f ⊎ (get_or x i (pos 0) ≡ get_or y i (pos 0))) → value f x ≡ value f y
value-lacks f x y h = let d = dot-lacks f.coeffs x y h in omega (arith, ints, d)

-- ---- forms
beyond : (cs : List ℤ) (i : ℕ) → length cs ≤ i → get_or cs i (pos 0) ≡ pos 0
beyond [] i l = refl
beyond (c ∷ cs) zero l = absurd (omega (arith, l))
beyond (c ∷ cs) (suc i) l = beyond cs i (omega (arith, l))

-- a form over some variables lacks those behind
pub lacks-behind : (n i : ℕ) (f : Form) → length f.coeffs ≤ n → n ≤ i → Lacks i f
lacks-behind n i f o l = beyond f.coeffs i (omega (arith, o, l))

-- a constant lacks each
pub lacks-constant : (i : ℕ) (z : ℤ) → Lacks i (constant_form z)
lacks-constant i z = refl

other_place : (i j : ℕ) → i ≢ j → get_or (replicate j (pos 0) ++ (pos 1 ∷ [])) i (pos 0) ≡ pos 0
other_place zero zero d = absurd (d refl)
other_place (suc i) zero d = refl
other_place zero (suc j) d = refl
other_place (suc i) (suc j) d = other_place i j (λ e. d (ap suc e))

-- a variable lacks the others
pub lacks-variable : (i j : ℕ) → i ≢ j → Lacks i (variable_form j)
lacks-variable i j d = other_place i j d

lacks-sums : (cs ds : List ℤ) (i : ℕ) → get_or cs i (pos 0) ≡ pos 0 → get_or ds i (pos 0) ≡ pos 0 → get_or (sums cs ds) i (pos 0) ≡ pos 0
lacks-sums [] ds i h k = k
lacks-sums (c ∷ cs) [] i h k = h
lacks-sums (c ∷ cs) (d ∷ ds) zero h k = omega (arith, ints, h, k)
lacks-sums (c ∷ cs) (d ∷ ds) (suc i) h k = lacks-sums cs ds i h k

-- a sum lacks what both forms lack
pub lacks-plus : (i : ℕ) (f g : Form) → Lacks i f → Lacks i g → Lacks i (plus f g)
lacks-plus i f g h k = lacks-sums f.coeffs g.coeffs i h k

lacks-times : (z : ℤ) (cs : List ℤ) (i : ℕ) → get_or cs i (pos 0) ≡ pos 0 → get_or (map (λ c. z *ℤ c) cs) i (pos 0) ≡ pos 0
lacks-times z [] i h = refl
lacks-times z (c ∷ cs) zero h = ap (λ k. z *ℤ k) h ∙ *ℤ-zero z
lacks-times z (c ∷ cs) (suc i) h = lacks-times z cs i h

-- a multiple lacks what the form lacks
pub lacks-scaled : (i : ℕ) (z : ℤ) (f : Form) → Lacks i f → Lacks i (scaled z f)
lacks-scaled i z f h = lacks-times z f.coeffs i h

-- a difference lacks what both forms lack
pub lacks-minus : (i : ℕ) (f g : Form) → Lacks i f → Lacks i g → Lacks i (minus f g)
lacks-minus i f g h k = lacks-plus i f (opposite g) h (lacks-scaled i (negsuc 0) g k)
