-- Integer states, and what forms and conditions mean at them.
use Rattle.std.specs.Prelude.{◌≡◌, ◌≢◌, ◌⊎◌, ℕ, zero, suc, ℤ, pos, ◌+ℤ◌, ◌*ℤ◌, ◌≤ℤ◌, ◌<ℤ◌, Bool, true, false, not, List, [], ◌∷◌}
use Rattle.lang_tree.specs.declared.form.Form.{Form}
use Rattle.lang_tree.specs.declared.cond.Rel.{Rel}
use Rattle.lang_tree.specs.declared.cond.Rel.TheVariants.{Eq, Ne, Lt, Le, Gt, Ge}
use Rattle.lang_tree.specs.Tree.{Condition, free, compare, negation, both, either}

-- the list with this value at a place; places that it lacks before this one get another value
abbrev pub put : {A : Type 0} → A → List A → ℕ → A → List A
put other [] zero x = x ∷ []
put other [] (suc k) x = other ∷ put other [] k x
put other (y ∷ ys) zero x = x ∷ ys
put other (y ∷ ys) (suc k) x = y ∷ put other ys k x

-- one integer per variable, in order of declaration, and then for hidden ones: those up to the last that has been given a value
abbrev pub State : Type 0
State = List ℤ

-- the sum of the products of coefficients and values; a variable without a value counts as 0
abbrev pub dot : List ℤ → State → ℤ
dot [] xs = pos 0
dot (c ∷ cs) [] = pos 0
dot (c ∷ cs) (x ∷ xs) = (c *ℤ x) +ℤ dot cs xs

-- the value of a form at a state
abbrev pub value : Form → State → ℤ
value form state = dot form.coeffs state +ℤ form.constant

-- a number is so related to 0
abbrev pub Relates : Rel → ℤ → Type 0
Relates Eq z = z ≡ pos 0
Relates Ne z = z ≢ pos 0
Relates Lt z = z <ℤ pos 0
Relates Le z = z ≤ℤ pos 0
Relates Gt z = pos 0 <ℤ z
Relates Ge z = pos 0 ≤ℤ z

-- a condition may have this truth at a state: a comparison has the one that it has there, a free choice may have both
abbrev pub MayBe : Bool → Condition → State → Type 0
MayBe truth free state = Unit {0}
MayBe true (compare rel form) state = Relates rel (value form state)
MayBe false (compare rel form) state = ¬ (Relates rel (value form state))
MayBe truth (negation c) state = MayBe (not truth) c state
MayBe true (both a b) state = MayBe true a state × MayBe true b state
MayBe false (both a b) state = MayBe false a state ⊎ MayBe false b state
MayBe true (either a b) state = MayBe true a state ⊎ MayBe true b state
MayBe false (either a b) state = MayBe false a state × MayBe false b state
