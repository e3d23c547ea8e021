-- Sums, differences and multiples of forms. A form has coefficients for the first variables in order, and none for those behind.
use Rattle.std.specs.Prelude.{ℕ, ℤ, pos, negsuc, ◌+ℤ◌, ◌*ℤ◌, Bool, List, [], ◌∷◌, ◌++◌, replicate, map}
use Rattle.std.specs.List.{list_all}
use Rattle.std.specs.Ordering.{int_eq}
use Rattle.lang_tree.specs.declared.form.Form.{Form}

-- the whole number z
abbrev pub constant_form : ℤ → Form
constant_form z = record { coeffs = []; constant = z }

-- the variable i
abbrev pub variable_form : ℕ → Form
variable_form i = record { coeffs = replicate i (pos 0) ++ (pos 1 ∷ []); constant = pos 0 }

-- the sums at each place, one list going on where the other ends
abbrev pub sums : List ℤ → List ℤ → List ℤ
sums [] ys = ys
sums (x ∷ xs) [] = x ∷ xs
sums (x ∷ xs) (y ∷ ys) = (x +ℤ y) ∷ sums xs ys

-- f + g
abbrev pub plus : Form → Form → Form
plus f g = record { coeffs = sums f.coeffs g.coeffs; constant = f.constant +ℤ g.constant }

-- z * f
abbrev pub scaled : ℤ → Form → Form
scaled z f = record { coeffs = map (λ x. z *ℤ x) f.coeffs; constant = z *ℤ f.constant }

-- -f
abbrev pub opposite : Form → Form
opposite f = scaled (negsuc 0) f

-- f - g
abbrev pub minus : Form → Form → Form
minus f g = plus f (opposite g)

-- all coefficients are 0
abbrev pub is_constant : Form → Bool
is_constant f = list_all (λ x. int_eq x (pos 0)) f.coeffs
