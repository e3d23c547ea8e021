-- Forms over a number of variables: sums, differences and multiples. A product of two, which may be refused, is in `Walk.antt`.
use Rattle.std.specs.Prelude.{ℕ, ℤ, pos, ◌==◌, ◌&&◌, ◌+◌, ◌+ℤ◌, ◌-ℤ◌, ◌*ℤ◌, Bool, true, false, List, [], ◌∷◌, length, nat_abs, nat_le}
use Rattle.std.specs.Prelude.{replicate, slice_set}
use Rattle.std.specs.List.{list_all}
use Rattle.std.specs.Ordering.{int_eq}
use Rattle.lang_tree.specs.declared.form.Form.{Form}
use Rattle.lang_tree.specs.Limits.{has_numbers}

-- the whole number z
abbrev pub constant_form : ℕ → ℤ → Form
constant_form width z = record { coeffs = replicate width (pos 0); constant = z }

-- the variable i plus the whole number z
abbrev pub variable_form : ℕ → ℕ → ℤ → Form
variable_form width i z = record { coeffs = slice_set (replicate width (pos 0)) i (pos 1); constant = z }

-- x + y, or x - y
abbrev pub sum_or_difference : Bool → ℤ → ℤ → ℤ
sum_or_difference false x y = x +ℤ y
sum_or_difference true x y = x -ℤ y

-- the same for the numbers at each place
abbrev pub pairwise : Bool → List ℤ → List ℤ → List ℤ
pairwise subtracts [] ys = []
pairwise subtracts (x ∷ xs) [] = []
pairwise subtracts (x ∷ xs) (y ∷ ys) = sum_or_difference subtracts x y ∷ pairwise subtracts xs ys

-- f + g, or f - g
abbrev pub together : Bool → Form → Form → Form
together subtracts f g = record {
  coeffs = pairwise subtracts f.coeffs g.coeffs;
  constant =
      sum_or_difference subtracts f.constant g.constant;
}

abbrev pub plus : Form → Form → Form
plus f g = together false f g

abbrev pub minus : Form → Form → Form
minus f g = together true f g

-- z times each number
abbrev pub products : ℤ → List ℤ → List ℤ
products z [] = []
products z (x ∷ xs) = (z *ℤ x) ∷ products z xs

-- z * f
abbrev pub scaled : ℤ → Form → Form
scaled z f = record { coeffs = products z f.coeffs; constant = z *ℤ f.constant }

-- all coefficients are 0
abbrev pub is_constant : Form → Bool
is_constant f = list_all (λ x. int_eq x (pos 0)) f.coeffs

-- its constant is within 2^63 - 2, as that of a comparison has to be
abbrev pub is_comparable : Form → Bool
is_comparable f = nat_le (nat_abs f.constant + 1) 9223372036854775807

-- one coefficient for each of n variables, and numbers within 2^63 - 1
abbrev pub is_whole_form : ℕ → Form → Bool
is_whole_form n f = length f.coeffs == n && has_numbers f
