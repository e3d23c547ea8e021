-- Quotients and remainders by numbers other than 1 and -1.
use Rattle.std.proofs.Common.{◌≡◌, ℕ, suc, ℤ, List, true, false, refl}
use Rattle.std.specs.Prelude.{int_div, int_rem}
use Rattle.lang_tree.specs.declared.form.Form.{Form}
use Rattle.lang_tree.specs.Tree.{Deed}
use Rattle.source_core.specs.Forms.{constant_form, variable_form, minus, scaled, is_constant}
use Rattle.source_core.specs.Elaborated.{form_behind, quotient_behind, quotient_by, remainder_by, is_unit}
use Rattle.source_value.proofs.answers.Handed.{when_true, when_false}

module _ (line : ℕ) (ds : List Deed) (h : ℕ) (f : Form) (c : ℤ) where
  -- the quotient of a constant
  pub quotient-constant : is_unit c ≡ false → is_constant f ≡ true
      → quotient_by line ds h f c ≡ form_behind ds h (constant_form (int_div f.constant c))
  quotient-constant e i = when_false (λ r. r ≡ form_behind ds h (constant_form (int_div f.constant c))) (is_unit c) _ _ e
      (when_true (λ r. r ≡ form_behind ds h (constant_form (int_div f.constant c))) (is_constant f) _ _ i refl)

  -- its remainder
  pub remainder-constant : is_unit c ≡ false → is_constant f ≡ true
      → remainder_by line ds h f c ≡ form_behind ds h (constant_form (int_rem f.constant c))
  remainder-constant e i = when_false (λ r. r ≡ form_behind ds h (constant_form (int_rem f.constant c))) (is_unit c) _ _ e
      (when_true (λ r. r ≡ form_behind ds h (constant_form (int_rem f.constant c))) (is_constant f) _ _ i refl)

  -- what a hidden quotient leaves
  abbrev pub left : Form
  left = minus f (scaled c (variable_form h))

  -- the remainder of another form
  pub remainder-left : is_unit c ≡ false → is_constant f ≡ false
      → remainder_by line ds h f c ≡ form_behind (quotient_behind line ds h f c) (suc h) left
  remainder-left e i = when_false (λ r. r ≡ form_behind (quotient_behind line ds h f c) (suc h) left) (is_unit c) _ _ e
      (when_false (λ r. r ≡ form_behind (quotient_behind line ds h f c) (suc h) left) (is_constant f) _ _ i refl)
