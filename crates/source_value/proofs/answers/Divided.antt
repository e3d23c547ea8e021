-- The two halves of the condition of a quotient.
use Rattle.std.proofs.Common.{◌≡◌, ◌∙◌, ℕ, ℤ, pos, negsuc, false, ◌&&◌, refl, ap, arith, nat_le, ◌+◌}
use Rattle.std.specs.Prelude.{◌-ℤ◌, nat_abs}
use Rattle.std.proofs.lemmas.Int.{ints}
use Rattle.std.proofs.lemmas.Bool.{and_left, and_right}
use Rattle.lang_tree.specs.declared.form.Form.{Form}
use Rattle.lang_tree.specs.declared.cond.Rel.{Rel}
use Rattle.lang_tree.specs.declared.cond.Rel.TheVariants.{Le, Ge}
use Rattle.lang_tree.specs.Tree.{Condition, both, either}
use Rattle.lang_tree.specs.Limits.{has_numbers}
use Rattle.source_core.specs.Forms.{constant_form, variable_form, minus, scaled}
use Rattle.source_core.specs.Elaborated.{related, divides}
use Rattle.source_core.specs.Fits.{condition_fits}
use Rattle.source_value.proofs.forms.Made.{form_with, minus-constant}

-- a form less 0 is itself
pub minus-zero : (f : Form) → minus f (constant_form (pos 0)) ≡ f
minus-zero f = minus-constant f (pos 0) ∙ ap (form_with f.coeffs) (same f.constant) where
  same : (x : ℤ) → x -ℤ pos 0 ≡ x
  same x = omega (arith, ints)

-- a comparison of a form, and two of what is left of it
abbrev pub half : (r s t : Rel) (f rest : Form) (i k : ℤ) → Condition
half r s t f rest i k =
    both (both (related r f (constant_form i)) (related s rest (constant_form (pos 0)))) (related t rest (constant_form k))

-- where what is left is out of range, so is the half
pub rest_unfit : (r s t : Rel) (f rest : Form) (i k : ℤ) → has_numbers rest ≡ false → condition_fits (half r s t f rest i k) ≡ false
rest_unfit r s t f rest i k h =
    let a = related r f (constant_form i) in
    let b = related s rest (constant_form (pos 0)) in
    let z = minus rest (constant_form (pos 0)) in
    and_left (condition_fits a && condition_fits b) (condition_fits (related t rest (constant_form k)))
    (and_right (condition_fits a) (condition_fits b)
    (and_left (has_numbers z) (nat_le (nat_abs z.constant + 1) 9223372036854775807) (ap has_numbers (minus-zero rest) ∙ h)))

module _ (f : Form) (c : ℤ) (q : ℕ) where
  -- what a quotient leaves of the form
  abbrev pub left_over : Form
  left_over = minus f (scaled c (variable_form q))

  -- the half for forms of at least 0
  abbrev pub upper : Form → ℤ → Condition
  upper rest size = half Ge Ge Le f rest (pos 0) (size -ℤ pos 1)

  -- the half for forms below 0
  abbrev pub lower : Form → ℤ → Condition
  lower rest size = half Le Le Ge f rest (negsuc 0) (pos 1 -ℤ size)

  -- the condition is either half
  pub divides-halves : divides f c q ≡ either (upper left_over (pos (nat_abs c))) (lower left_over (pos (nat_abs c)))
  divides-halves = refl
