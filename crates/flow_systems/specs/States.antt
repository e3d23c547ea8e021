-- Rational states, and traces along actions.
use Rattle.std.specs.Prelude.{◌≡◌, ℤ, List, [], ◌∷◌, map}
use Rattle.base_numbers.specs.Rational.{ℚ, whole, zero_ℚ, ◌+ℚ◌, ◌*ℚ◌, ◌≤ℚ◌}
use Rattle.lang_tree.specs.declared.form.Form.{Form}
use Rattle.lang_tree.specs.Meaning.{State, put}
use Rattle.flow_edges.specs.declared.edge.Action.{Action}
use Rattle.flow_edges.specs.declared.edge.Action.TheVariants.{Guard, Assign, Havoc, Check}

-- one fraction per variable, in order of declaration, and then for hidden ones: those up to the last that has been given a value
abbrev pub RationalState : Type 0
RationalState = List ℚ

-- the sum of the products of coefficients and values: the value of a row; a variable without a value counts as 0
abbrev pub dotℚ : List ℤ → RationalState → ℚ
dotℚ [] xs = zero_ℚ
dotℚ (c ∷ cs) [] = zero_ℚ
dotℚ (c ∷ cs) (x ∷ xs) = (whole c *ℚ x) +ℚ dotℚ cs xs

-- the value of a form
abbrev pub valueℚ : Form → RationalState → ℚ
valueℚ form x = dotℚ form.coeffs x +ℚ whole form.constant

-- an integer state as a rational one
abbrev pub rational : State → RationalState
rational x = map whole x

-- a trace along actions leads from one state to another: a guard is at most 0, an assignment sets one place to the form's value, a free one
-- to any fraction, and a check changes nothing
abbrev pub Traces : List Action → RationalState → RationalState → Type 0
Traces [] x y = y ≡ x
Traces (Guard form ∷ actions) x y = (valueℚ form x ≤ℚ zero_ℚ) × Traces actions x y
Traces (Assign var form ∷ actions) x y = Traces actions (put zero_ℚ x var (valueℚ form x)) y
Traces (Havoc var ∷ actions) x y = (q : ℚ) × Traces actions (put zero_ℚ x var q) y
Traces (Check about ∷ actions) x y = Traces actions x y
