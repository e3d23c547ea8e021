-- Integer states as rational ones.
use Rattle.std.proofs.Common.{◌≡◌, ◌∙◌, List, [], ◌∷◌, sym, ap}
use Rattle.std.specs.Prelude.{ℤ, ◌*ℤ◌}
use Rattle.std.proofs.lemmas.List.{length-map}
use Rattle.base_numbers.specs.Rational.{whole, ◌+ℚ◌, ◌*ℚ◌}
use Rattle.base_numbers.proofs.rational.Laws.{whole-add, whole-mul, whole-zero}
use Rattle.lang_tree.specs.declared.form.Form.{Form}
use Rattle.lang_tree.specs.Meaning.{State, dot, value}
use Rattle.flow_systems.specs.States.{dotℚ, valueℚ, rational}
use Rattle.flow_systems.specs.SolutionLaws.{IntegerStatesAreRational}

-- a row has the same value at an integer state and at the rational state that it is
pub dot_rational : (cs : List ℤ) (x : State) → dotℚ cs (rational x) ≡ whole (dot cs x)
dot_rational [] x = sym whole-zero
dot_rational (c ∷ cs) [] = sym whole-zero
dot_rational (c ∷ cs) (z ∷ x) =
    ap (λ q. whole c *ℚ whole z +ℚ q) (dot_rational cs x) ∙ ap (λ q. q +ℚ whole (dot cs x)) (sym (whole-mul c z))
    ∙ sym (whole-add (c *ℤ z) (dot cs x))

-- a form has the same value at an integer state and at the rational state that it is
pub value_rational : (f : Form) (x : State) → valueℚ f (rational x) ≡ whole (value f x)
value_rational f x = ap (λ q. q +ℚ whole f.constant) (dot_rational f.coeffs x) ∙ sym (whole-add (dot f.coeffs x) f.constant)

-- rows and forms have the same values at each integer state and at the rational state that it is
pub rational_law : IntegerStatesAreRational
rational_law x = record { size = length-map x whole; rows = λ row. dot_rational row x; forms = λ form. value_rational form x }
