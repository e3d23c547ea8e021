-- What expressions in the core keep of those of C.
use Rattle.std.specs.Prelude.{◌≡◌, ◌<◌, ◌≤◌, ◌+◌, ◌==◌, ℕ, ℤ, pos, Bool, true, false, not, ◌&&◌, ◌||◌, nat_lt, IsTrue, get_or}
use Rattle.std.specs.Prelude.{if◌then◌else◌}
use Rattle.lang_tree.specs.declared.check.Check.{Check}
use Rattle.lang_tree.specs.Meaning.{State, value, MayBe}
use Rattle.base_integers.specs.declared.integers.Integers.{Integers}
use Rattle.base_integers.specs.declared.integers.Integers.TheVariants.{Mathematical}
use Rattle.base_integers.specs.Integers.{Has}
use Rattle.source_tree.specs.Expressions.{Expression, Expressions, number, variable, unknown, call, element, grouped, negative, positive}
use Rattle.source_tree.specs.Expressions.{stepped, inverse, joined, compared, both, either, chosen, none, more}
use Rattle.source_tree.specs.Expressions.{Subscripts, no_subscript, subscript}
use Rattle.source_tree.specs.Values.{truth_number, May, Breaks}
use Rattle.source_core.specs.Preludes.{AllLeave, MayFail}
use Rattle.source_core.specs.Forms.{is_constant}
use Rattle.source_core.specs.Elaborated.{Result, a_form, a_truth, any, elaborated, numbered, is_divisor}
use Rattle.source_tree.specs.Expressions.{Operation, plus, minus, times, over, remainder}
use Rattle.lang_tree.specs.declared.form.Form.{Form}

abbrev mutual
  -- an expression has no variables but the first n
  pub is_over : ℕ → Expression → Bool
  is_over n (number v at) = true
  is_over n (variable i at) = nat_lt i n
  is_over n (unknown at) = true
  is_over n (call es at) = are_over n es
  is_over n (element is at) = are_indexes_over n is
  is_over n (stepped direction moment i sign at) = nat_lt i n
  is_over n (grouped at e) = is_over n e
  is_over n (negative at e) = is_over n e
  is_over n (positive at e) = is_over n e
  is_over n (inverse at e) = is_over n e
  is_over n (joined o sign e f) = is_over n e && is_over n f
  is_over n (compared rel sign e f) = is_over n e && is_over n f
  is_over n (both c d) = is_over n c && is_over n d
  is_over n (either c d) = is_over n c && is_over n d
  is_over n (chosen sign c e f) = is_over n c && (is_over n e && is_over n f)

  -- nor has any of these
  pub are_over : ℕ → Expressions → Bool
  are_over n none = true
  are_over n (more e es) = is_over n e && are_over n es

  -- nor has any of these indexes
  pub are_indexes_over : ℕ → Subscripts → Bool
  are_indexes_over n no_subscript = true
  are_indexes_over n (subscript extent bracket e is) = is_over n e && are_indexes_over n is

abbrev mutual
  -- how often a variable occurs in an expression
  pub occurrences : (var : ℕ) → Expression → ℕ
  occurrences j (number v at) = 0
  occurrences j (variable i at) = if i == j then 1 else 0
  occurrences j (unknown at) = 0
  occurrences j (call es at) = occurrences_in j es
  occurrences j (element is at) = occurrences_of_indexes j is
  occurrences j (stepped direction moment i sign at) = if i == j then 1 else 0
  occurrences j (grouped at e) = occurrences j e
  occurrences j (negative at e) = occurrences j e
  occurrences j (positive at e) = occurrences j e
  occurrences j (inverse at e) = occurrences j e
  occurrences j (joined o sign e f) = occurrences j e + occurrences j f
  occurrences j (compared rel sign e f) = occurrences j e + occurrences j f
  occurrences j (both c d) = occurrences j c + occurrences j d
  occurrences j (either c d) = occurrences j c + occurrences j d
  occurrences j (chosen sign c e f) = occurrences j c + (occurrences j e + occurrences j f)

  -- in these together
  pub occurrences_in : (var : ℕ) → Expressions → ℕ
  occurrences_in j none = 0
  occurrences_in j (more e es) = occurrences j e + occurrences_in j es

  -- in these indexes together
  pub occurrences_of_indexes : (var : ℕ) → Subscripts → ℕ
  occurrences_of_indexes j no_subscript = 0
  occurrences_of_indexes j (subscript extent bracket e is) = occurrences j e + occurrences_of_indexes j is

abbrev mutual
  -- each variable of which a step stands in an expression passes this test
  pub all_steps : (ℕ → Bool) → Expression → Bool
  all_steps test (number v at) = true
  all_steps test (variable i at) = true
  all_steps test (unknown at) = true
  all_steps test (call es at) = all_steps_in test es
  all_steps test (element is at) = all_steps_of_indexes test is
  all_steps test (stepped direction moment i sign at) = test i
  all_steps test (grouped at e) = all_steps test e
  all_steps test (negative at e) = all_steps test e
  all_steps test (positive at e) = all_steps test e
  all_steps test (inverse at e) = all_steps test e
  all_steps test (joined o sign e f) = all_steps test e && all_steps test f
  all_steps test (compared rel sign e f) = all_steps test e && all_steps test f
  all_steps test (both c d) = all_steps test c && all_steps test d
  all_steps test (either c d) = all_steps test c && all_steps test d
  all_steps test (chosen sign c e f) = all_steps test c && (all_steps test e && all_steps test f)

  -- in each of these
  pub all_steps_in : (ℕ → Bool) → Expressions → Bool
  all_steps_in test none = true
  all_steps_in test (more e es) = all_steps test e && all_steps_in test es

  -- in each of these indexes
  pub all_steps_of_indexes : (ℕ → Bool) → Subscripts → Bool
  all_steps_of_indexes test no_subscript = true
  all_steps_of_indexes test (subscript extent bracket e is) = all_steps test e && all_steps_of_indexes test is

-- no step stands in an expression
abbrev pub has_no_step : Expression → Bool
has_no_step e = all_steps (λ i. false) e

abbrev mutual
  -- no step stands where C may pass over it: in the right side of `&&` or `||`, or behind a `?`
  pub are_steps_certain : Expression → Bool
  are_steps_certain (number v at) = true
  are_steps_certain (variable i at) = true
  are_steps_certain (unknown at) = true
  are_steps_certain (call es at) = are_steps_certain_in es
  are_steps_certain (element is at) = are_steps_certain_of_indexes is
  are_steps_certain (stepped direction moment i sign at) = true
  are_steps_certain (grouped at e) = are_steps_certain e
  are_steps_certain (negative at e) = are_steps_certain e
  are_steps_certain (positive at e) = are_steps_certain e
  are_steps_certain (inverse at e) = are_steps_certain e
  are_steps_certain (joined o sign e f) = are_steps_certain e && are_steps_certain f
  are_steps_certain (compared rel sign e f) = are_steps_certain e && are_steps_certain f
  are_steps_certain (both c d) = are_steps_certain c && has_no_step d
  are_steps_certain (either c d) = are_steps_certain c && has_no_step d
  are_steps_certain (chosen sign c e f) = are_steps_certain c && (has_no_step e && has_no_step f)

  -- in any of these
  pub are_steps_certain_in : Expressions → Bool
  are_steps_certain_in none = true
  are_steps_certain_in (more e es) = are_steps_certain e && are_steps_certain_in es

  -- in any of these indexes
  pub are_steps_certain_of_indexes : Subscripts → Bool
  are_steps_certain_of_indexes no_subscript = true
  are_steps_certain_of_indexes (subscript extent bracket e is) = are_steps_certain e && are_steps_certain_of_indexes is

-- C comes to each step in the expression, and a variable of which a step stands there occurs once
abbrev pub steps_apart : Expression → Bool
steps_apart e = all_steps (λ i. occurrences i e == 1) e && are_steps_certain e

-- the states have the same values of the first n variables
abbrev pub Agree : ℕ → State → State → Type 0
Agree n x y = (i : ℕ) → i < n → get_or x i (pos 0) ≡ get_or y i (pos 0)

-- the first n variables have each one of the integers
abbrev pub AreIn : Integers → ℕ → State → Type 0
AreIn integers n x = (i : ℕ) → i < n → Has integers (get_or x i (pos 0))

-- a result may be this number at a state, any value being one of the integers
abbrev pub MayResult : Integers → Result → State → ℤ → Type 0
MayResult integers (a_form f) y z = z ≡ value f y
MayResult integers (a_truth c) y z = (t : Bool) × MayBe t c y × (z ≡ truth_number t)
MayResult integers any y z = Has integers z

-- each value that an expression may have is one that its result may be behind its prelude, which leaves the state of the variables that
-- the expression leaves
abbrev pub ValuesAreKept : Type 0
ValuesAreKept = (integers : Integers) (line : ℕ) (e : Expression) (n h : ℕ) → n ≤ h → IsTrue (is_over n e) → IsTrue (steps_apart e)
    → (x : State) (z : ℤ) (y : State) → May integers e x z y
    → (w : State) × AllLeave (elaborated integers line e h).prelude x w × Agree h y w
    × MayResult integers (elaborated integers line e h).result w z

-- no prelude stops a run, whether or not the expression has a value, and each keeps the variables but those of which a step stands there
abbrev pub NothingStops : Type 0
NothingStops = (integers : Integers) (line : ℕ) (e : Expression) (n h : ℕ) → n ≤ h → IsTrue (is_over n e) → IsTrue (steps_apart e)
    → ((x : State) → (y : State) × AllLeave (elaborated integers line e h).prelude x y)
    × ((x y : State) → AllLeave (elaborated integers line e h).prelude x y → (i : ℕ) → i < h
    → IsTrue (all_steps (λ j. not (j == i)) e) → get_or x i (pos 0) ≡ get_or y i (pos 0))

-- where an expression breaks a check, the check may be false on the way through the prelude
abbrev pub BreaksAreKept : Type 0
BreaksAreKept = (integers : Integers) (line : ℕ) (e : Expression) (n h : ℕ) → n ≤ h → IsTrue (is_over n e) → IsTrue (steps_apart e)
    → (x : State) → AreIn integers n x
    → (about : Check) → Breaks integers e x about
    → MayFail (elaborated integers line e h).prelude x about

-- an operation on these forms has the values that it has by C, and no more: no product of two forms, and no division by anything but a
-- number other than 0
abbrev pub is_exact_on : Operation → Form → Form → Bool
is_exact_on plus f g = true
is_exact_on minus f g = true
is_exact_on times f g = is_constant f || is_constant g
is_exact_on over f g = is_divisor g
is_exact_on remainder f g = is_divisor g

module _ (line : ℕ) where
  -- each operation in an expression is exact, and it has no calls and no elements; hidden variables are numbered from h
  abbrev pub is_exact : Expression → (h : ℕ) → Bool
  is_exact (number v at) h = true
  is_exact (variable i at) h = true
  is_exact (unknown at) h = true
  is_exact (call es at) h = false
  is_exact (element is at) h = false
  is_exact (stepped direction moment i sign at) h = true
  is_exact (grouped at e) h = is_exact e h
  is_exact (negative at e) h = is_exact e h
  is_exact (positive at e) h = is_exact e h
  is_exact (inverse at e) h = is_exact e h
  is_exact (joined o sign e f) h =
      let a = numbered Mathematical line (elaborated Mathematical line e h) in
      let b = numbered Mathematical line (elaborated Mathematical line f a.next) in
      is_exact e h && (is_exact f a.next && is_exact_on o a.form b.form)
  is_exact (compared rel sign e f) h = is_exact e h && is_exact f (numbered Mathematical line (elaborated Mathematical line e h)).next
  is_exact (both c d) h = is_exact c h && is_exact d (elaborated Mathematical line c h).next
  is_exact (either c d) h = is_exact c h && is_exact d (elaborated Mathematical line c h).next
  is_exact (chosen sign c e f) h =
      let a = elaborated Mathematical line c h in
      let b = numbered Mathematical line (elaborated Mathematical line e a.next) in
      is_exact c h && (is_exact e a.next && is_exact f b.next)

  -- each of some expressions
  abbrev pub are_exact : Expressions → (h : ℕ) → Bool
  are_exact none h = true
  are_exact (more e es) h = is_exact e h && are_exact es (elaborated Mathematical line e h).next

-- the values that an exact expression may have are all that its result may be behind its prelude, in the state that the prelude leaves
abbrev pub ValuesAreExact : Type 0
ValuesAreExact = (line : ℕ) (e : Expression) (n h : ℕ) → n ≤ h → IsTrue (is_over n e) → IsTrue (steps_apart e)
    → IsTrue (is_exact line e h) → (x w : State) (z : ℤ)
    → AllLeave (elaborated Mathematical line e h).prelude x w → MayResult Mathematical (elaborated Mathematical line e h).result w z
    → (y : State) × May Mathematical e x z y × Agree h y w
