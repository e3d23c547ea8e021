-- Forms that are made in another way than they are defined.
use Rattle.std.proofs.Common.{◌≡◌, ◌∙◌, ℤ, pos, negsuc, ◌+ℤ◌, ◌*ℤ◌, neg_ℤ, List, [], ◌∷◌, map, refl, ap, ap₂, arith}
use Rattle.std.specs.Prelude.{◌-ℤ◌}
use Rattle.std.proofs.lemmas.Int.{ints}
use Rattle.lang_tree.specs.declared.form.Form.{Form}
use Rattle.source_core.specs.Forms.{constant_form, sums, plus, minus, scaled}
use Rattle.source_core.proofs.forms.Integers.{times_assoc}

-- a form of these coefficients and this constant
abbrev pub form_with : List ℤ → ℤ → Form
form_with cs z = record { coeffs = cs; constant = z }

-- sums with nothing
pub sums-nothing : (xs : List ℤ) → sums xs [] ≡ xs
sums-nothing [] = refl
sums-nothing (x ∷ xs) = refl

map-same : (f g : ℤ → ℤ) (xs : List ℤ) → ((x : ℤ) → f x ≡ g x) → map f xs ≡ map g xs
map-same f g [] h = refl
map-same f g (x ∷ xs) h = ap₂ ◌∷◌ (h x) (map-same f g xs h)

map-itself : (f : ℤ → ℤ) (xs : List ℤ) → ((x : ℤ) → f x ≡ x) → map f xs ≡ xs
map-itself f [] h = refl
map-itself f (x ∷ xs) h = ap₂ ◌∷◌ (h x) (map-itself f xs h)

map-twice : (f g h : ℤ → ℤ) (xs : List ℤ) → ((x : ℤ) → h x ≡ f (g x)) → map h xs ≡ map f (map g xs)
map-twice f g h [] e = refl
map-twice f g h (x ∷ xs) e = ap₂ ◌∷◌ (e x) (map-twice f g h xs e)

one_times : (x : ℤ) → pos 1 *ℤ x ≡ x
one_times x = omega (arith, ints)

-- 1 * f is f
pub scaled-one : (f : Form) → scaled (pos 1) f ≡ f
scaled-one f = ap₂ form_with (map-itself (λ x. pos 1 *ℤ x) f.coeffs one_times) (one_times f.constant)

-- 0 + f is f
pub plus-zero : (f : Form) → plus (constant_form (pos 0)) f ≡ f
plus-zero f = ap (form_with f.coeffs) (nothing f.constant) where
  nothing : (x : ℤ) → pos 0 +ℤ x ≡ x
  nothing x = omega (arith, ints)

opposite_times : (d x : ℤ) → neg_ℤ d *ℤ x ≡ negsuc 0 *ℤ (d *ℤ x)
opposite_times d x = ap (λ k. k *ℤ x) (turned d) ∙ times_assoc (negsuc 0) d x where
  turned : (d : ℤ) → neg_ℤ d ≡ negsuc 0 *ℤ d
  turned d = omega (arith, ints)

-- f and -d times g is f less d * g
pub minus-scaled : (f g : Form) (d : ℤ) → plus f (scaled (neg_ℤ d) g) ≡ minus f (scaled d g)
minus-scaled f g d = ap (plus f)
    (ap₂ form_with (map-twice (λ x. negsuc 0 *ℤ x) (λ x. d *ℤ x) (λ x. neg_ℤ d *ℤ x) g.coeffs (opposite_times d))
    (opposite_times d g.constant))

-- a form less a number has the same coefficients
pub minus-constant : (f : Form) (k : ℤ) → minus f (constant_form k) ≡ form_with f.coeffs (f.constant -ℤ k)
minus-constant f k = ap₂ form_with (sums-nothing f.coeffs) (taken f.constant k) where
  taken : (c k : ℤ) → c +ℤ (negsuc 0 *ℤ k) ≡ c -ℤ k
  taken c k = omega (arith, ints)
