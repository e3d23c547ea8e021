-- Expressions of C as what the core has: a prelude, and a form, a condition, or any number.
use Rattle.std.specs.Prelude.{ℕ, nat_le, suc, ℤ, pos, negsuc, ◌-ℤ◌, int_div, int_rem, nat_abs, Bool, true, false, List, [], ◌∷◌, ◌++◌}
use Rattle.std.specs.Prelude.{if◌then◌else◌}
use Rattle.std.specs.Prelude.{◌||◌, ◌&&◌}
use Rattle.std.specs.Ordering.{int_eq}
use Rattle.lang_tree.specs.declared.form.Form.{Form}
use Rattle.lang_tree.specs.declared.cond.Rel.{Rel}
use Rattle.lang_tree.specs.declared.cond.Rel.TheVariants.{Eq, Ne, Le, Ge}
use Rattle.lang_tree.specs.declared.check.CheckKind.{CheckKind}
use Rattle.lang_tree.specs.declared.check.CheckKind.TheVariants.{Divisor, Index, Range}
use Rattle.lang_tree.specs.Tree.{Condition}
use Rattle.lang_tree.specs.Tree.{Deed, havocs, wheres, checks}
use Rattle.lang_tree.specs.Tree as tree
use Rattle.base_integers.specs.declared.integers.Width.{Width}
use Rattle.base_integers.specs.declared.integers.Integers.{Integers}
use Rattle.base_integers.specs.declared.integers.Integers.TheVariants.{Mathematical, Machine}
use Rattle.base_integers.specs.Integers.{greatest}
use Rattle.source_tree.specs.Expressions.{Operation, plus, minus, times, over, remainder}
use Rattle.source_tree.specs.Expressions.{Expression, Expressions, number, variable, unknown, call, element, grouped, negative, positive}
use Rattle.source_tree.specs.Expressions.{stepped, inverse, joined, compared, both, either, chosen, none, more}
use Rattle.source_tree.specs.Expressions.{Extent, endless, elements, Subscripts, no_subscript, subscript}
use Rattle.source_tree.specs.Expressions.{Direction, up, down, Moment, before, behind}
use Rattle.source_tree.specs.Values.{step_by}
use Rattle.source_core.specs.Forms as form
use Rattle.source_core.specs.Forms.{constant_form, variable_form, opposite, scaled, is_constant}
use Rattle.source_core.specs.Preludes.{all_under}

-- what an expression is: a form, a condition (then it is 1 or 0), or any number
pub data Result : Type 0 where
  a_form : Form → Result
  a_truth : Condition → Result
  any : Result

-- a result behind its prelude, and the next hidden variable that is not taken
pub record Elaborated : Type 0 where
  pub prelude : List Deed
  pub result : Result
  pub next : ℕ

-- an operand as a number: a form behind its prelude
pub record Numbered : Type 0 where
  pub prelude : List Deed
  pub form : Form
  pub next : ℕ

-- an operand as a condition behind its prelude
pub record Tested : Type 0 where
  pub prelude : List Deed
  pub condition : Condition
  pub next : ℕ

-- a prelude alone
pub record Evaluated : Type 0 where
  pub prelude : List Deed
  pub next : ℕ

-- f is in this relation to g
abbrev pub related : Rel → Form → Form → Condition
related rel f g = tree.compare rel (form.minus f g)

-- the variable is f where c is true, and g where it is false
abbrev pub selects : Condition → ℕ → Form → Form → Condition
selects c h f g = tree.either (tree.both c (related Eq (variable_form h) f)) (tree.both (tree.negation c) (related Eq (variable_form h) g))

-- the variable q is the quotient of f by the number c, truncated towards 0, by the sign and the size of what is left
abbrev pub divides : Form → ℤ → ℕ → Condition
divides f c q =
    let rest = form.minus f (scaled c (variable_form q)) in
    tree.either
    (tree.both (tree.both (related Ge f (constant_form (pos 0))) (related Ge rest (constant_form (pos 0))))
    (related Le rest (constant_form (pos (nat_abs c) -ℤ pos 1))))
    (tree.both (tree.both (related Le f (constant_form (negsuc 0))) (related Le rest (constant_form (pos 0))))
    (related Ge rest (constant_form (pos 1 -ℤ pos (nat_abs c)))))

-- a form is an index within this extent
abbrev pub is_index : Extent → Form → Condition
is_index endless f = related Le (constant_form (pos 0)) f
is_index (elements size) f = tree.both (related Le (constant_form (pos 0)) f) (related Le f (constant_form (pos size -ℤ pos 1)))

-- a number is one of the integers of this width
abbrev pub has : Width → ℤ → Bool
has width (pos v) = nat_le v (greatest width)
has width (negsuc v) = nat_le v (greatest width)

-- a form is one of the integers of this width
abbrev pub is_held : Width → Form → Condition
is_held width f =
    tree.both (related Le (constant_form (negsuc (greatest width))) f) (related Le f (constant_form (pos (greatest width))))

-- a condition that is never true
abbrev pub never : Condition
never = tree.compare Ne (constant_form (pos 0))

-- unless the least integer of this width is divided by -1, a quotient is one of them
abbrev pub is_divided : Width → Form → Form → Condition
is_divided width f g =
    tree.negation (tree.both (related Eq f (constant_form (negsuc (greatest width)))) (related Eq g (constant_form (negsuc 0))))

-- this number is 1 or -1
abbrev pub is_unit : ℤ → Bool
is_unit c = int_eq c (pos 1) || int_eq c (negsuc 0)

-- a result as a condition: a number is true where it isn't 0, and any value may be either
abbrev pub as_condition : Result → Condition
as_condition (a_form f) = tree.compare Ne f
as_condition (a_truth c) = c
as_condition any = tree.free

-- a result as a condition, behind the same prelude
abbrev pub tested : Elaborated → Tested
tested e = record { prelude = e.prelude; condition = as_condition e.result; next = e.next }

-- a form behind a prelude
abbrev pub form_behind : List Deed → ℕ → Form → Elaborated
form_behind ds h f = record { prelude = ds; result = a_form f; next = h }

-- a form is constant, and not 0
abbrev pub is_divisor : Form → Bool
is_divisor g = is_constant g && (if int_eq g.constant (pos 0) then false else true)

-- when the result of an operation on two forms is one of the integers of this width. Of a product of two forms nothing is known. A
-- remainder
-- is taken by a quotient, which has to be one, too
abbrev pub operation_held : Width → Operation → (f g result : Form) → Condition
operation_held width plus f g r = is_held width r
operation_held width minus f g r = is_held width r
operation_held width times f g r = if is_constant f || is_constant g then is_held width r else never
operation_held width over f g r = if is_divisor g then is_held width r else is_divided width f g
operation_held width remainder f g r =
    if is_divisor g then (if int_eq g.constant (negsuc 0) then is_held width (opposite f) else is_held width r) else is_divided width f g

-- the value of a step behind it: that of the variable, or what the variable had before
abbrev pub step_form : Direction → Moment → (var : ℕ) → Form
step_form direction before i = variable_form i
step_form up behind i = form.minus (variable_form i) (constant_form (pos 1))
step_form down behind i = form.plus (variable_form i) (constant_form (pos 1))

-- the form of a result that is one
abbrev pub form_in : Result → Form
form_in (a_form f) = f
form_in (a_truth c) = constant_form (pos 0)
form_in any = constant_form (pos 0)

module _ (line : ℕ) where
  -- a check of this kind at this place
  abbrev pub checked : CheckKind → ℕ → Condition → Deed
  checked kind at c = checks (record { kind = kind; at = at }) c line

  -- a hidden variable is the quotient of a form by a number that is not 0
  abbrev pub quotient_behind : List Deed → ℕ → Form → ℤ → List Deed
  quotient_behind ds h f c = ds ++ havocs h line ∷ wheres (divides f c h) line ∷ []

  -- a quotient by a number that is not 0: exact by 1 and -1 and of a constant, else that of a hidden variable
  abbrev pub quotient_by : List Deed → ℕ → Form → ℤ → Elaborated
  quotient_by ds h f c =
      if is_unit c then form_behind ds h (scaled c f)
      else (if is_constant f then form_behind ds h (constant_form (int_div f.constant c))
      else form_behind (quotient_behind ds h f c) (suc h) (variable_form h))

  -- a remainder by a number that is not 0: exact by 1 and -1 and of a constant, else what the hidden quotient leaves of the form
  abbrev pub remainder_by : List Deed → ℕ → Form → ℤ → Elaborated
  remainder_by ds h f c =
      if is_unit c then form_behind ds h (constant_form (pos 0))
      else (if is_constant f then form_behind ds h (constant_form (int_rem f.constant c))
      else form_behind (quotient_behind ds h f c) (suc h) (form.minus f (scaled c (variable_form h))))

  -- an index, and a check behind it that it is within its extent
  abbrev pub index_behind : Extent → (bracket : ℕ) → Numbered → Evaluated
  index_behind extent bracket i = record {
    prelude = i.prelude ++ checked Index bracket (is_index extent i.form) ∷ [];
    next = i.next;
  }

  -- one of two numbers by a condition, as the value of a hidden variable; the checks of each stand under the condition
  abbrev pub choice : Tested → Numbered → Numbered → Elaborated
  choice c f g = form_behind
      (c.prelude ++ (all_under c.condition f.prelude ++ (all_under (tree.negation c.condition) g.prelude
      ++ (havocs g.next line ∷ wheres (selects c.condition g.next f.form g.form) line ∷ [])))) (suc g.next) (variable_form g.next)

module _ (integers : Integers) (line : ℕ) where
  -- a variable that took any value has one of the integers
  abbrev pub held : (var : ℕ) → List Deed
  held var = elim integers [ Mathematical ↦ [] | Machine width ↦ wheres (is_held width (variable_form var)) line ∷ [] ]

  -- an operation at this place, with a check behind it that its result is one of the integers
  abbrev pub ranged : (place : ℕ) → (Width → Form → Condition) → Elaborated → Elaborated
  ranged place holds e = elim integers [
    | Mathematical ↦ e
    | Machine width ↦ record {
      prelude = e.prelude ++ checked line Range place (holds width (form_in e.result)) ∷ [];
      result = e.result;
      next = e.next;
    }
  ]

  -- a number of the text, with a check where it is none of the integers
  abbrev pub number_at : (value : ℤ) → (at : ℕ) → ℕ → Elaborated
  number_at v at h = elim integers [
    | Mathematical ↦ form_behind [] h (constant_form v)
    | Machine width ↦
        (if has width v then form_behind [] h (constant_form v)
        else form_behind (checked line Range at (is_held width (constant_form v)) ∷ []) h (constant_form v))
  ]

  -- a result as a number: a truth is 1 or 0, and any value is that of a hidden variable
  abbrev pub as_number : List Deed → ℕ → Result → Numbered
  as_number ds h (a_form f) = record { prelude = ds; form = f; next = h }
  as_number ds h (a_truth c) = record {
    prelude = ds ++ havocs h line ∷ wheres (selects c h (constant_form (pos 1)) (constant_form (pos 0))) line ∷ [];
    form = variable_form h;
    next = suc h;
  }
  as_number ds h any = record { prelude = ds ++ havocs h line ∷ held h; form = variable_form h; next = suc h }

  -- a result as a number, behind its prelude
  abbrev pub numbered : Elaborated → Numbered
  numbered e = as_number e.prelude e.next e.result

  -- any value, behind a prelude, as that of a hidden variable
  abbrev pub havocked : List Deed → ℕ → Elaborated
  havocked ds h = form_behind (ds ++ havocs h line ∷ held h) (suc h) (variable_form h)

  -- a product: a multiple where one side is constant, and otherwise any number
  abbrev pub product : List Deed → ℕ → Form → Form → Elaborated
  product ds h f g =
      if is_constant f then form_behind ds h (scaled f.constant g)
      else (if is_constant g then form_behind ds h (scaled g.constant f) else havocked ds h)

  -- any number, behind a check that the divisor is not 0
  abbrev pub unless_zero : List Deed → ℕ → (sign : ℕ) → Form → Elaborated
  unless_zero ds h sign g = havocked (ds ++ checked line Divisor sign (related Ne g (constant_form (pos 0))) ∷ []) h

  -- an operation on two forms behind their preludes
  abbrev pub operated : Operation → (sign : ℕ) → List Deed → ℕ → Form → Form → Elaborated
  operated plus sign ds h f g = form_behind ds h (form.plus f g)
  operated minus sign ds h f g = form_behind ds h (form.minus f g)
  operated times sign ds h f g = product ds h f g
  operated over sign ds h f g = if is_divisor g then quotient_by line ds h f g.constant else unless_zero ds h sign g
  operated remainder sign ds h f g = if is_divisor g then remainder_by line ds h f g.constant else unless_zero ds h sign g

  -- with a check behind it that the result is one of the integers
  abbrev pub operation_on : Operation → (sign : ℕ) → List Deed → ℕ → Form → Form → Elaborated
  operation_on o sign ds h f g = ranged sign (λ width r. operation_held width o f g r) (operated o sign ds h f g)

  -- a step of a variable: the operation with its check, and the variable takes its result
  abbrev pub step_behind : Direction → Moment → (var sign : ℕ) → ℕ → Elaborated
  step_behind direction moment i sign h =
      let a = operation_on (step_by direction) sign [] h (variable_form i) (constant_form (pos 1)) in
      form_behind (a.prelude ++ tree.sets i (form_in a.result) line ∷ []) a.next (step_form direction moment i)

  abbrev mutual
    -- hidden variables are taken in order from h, operands read from the left, each with all of its prelude before the next
    pub elaborated : Expression → ℕ → Elaborated
    elaborated (number v at) h = number_at v at h
    elaborated (variable i at) h = form_behind [] h (variable_form i)
    elaborated (unknown at) h = record { prelude = []; result = any; next = h }
    elaborated (call es at) h = record { prelude = (evaluated es h).prelude; result = any; next = (evaluated es h).next }
    elaborated (element is at) h = record { prelude = (indexed is h).prelude; result = any; next = (indexed is h).next }
    elaborated (stepped direction moment i sign at) h = step_behind direction moment i sign h
    elaborated (grouped at e) h = elaborated e h
    elaborated (negative at e) h =
        let a = numbered (elaborated e h) in ranged at is_held (form_behind a.prelude a.next (opposite a.form))
    elaborated (positive at e) h = let a = numbered (elaborated e h) in form_behind a.prelude a.next a.form
    elaborated (inverse at e) h = let a = tested (elaborated e h) in record {
      prelude = a.prelude;
      result = a_truth (tree.negation a.condition);
      next = a.next;
    }
    elaborated (joined o sign e f) h =
        let a = numbered (elaborated e h) in
        let b = numbered (elaborated f a.next) in
        operation_on o sign (a.prelude ++ b.prelude) b.next a.form b.form
    elaborated (compared rel sign e f) h =
        let a = numbered (elaborated e h) in
        let b = numbered (elaborated f a.next) in
        record { prelude = a.prelude ++ b.prelude; result = a_truth (related rel a.form b.form); next = b.next }
    elaborated (both c d) h =
        let a = tested (elaborated c h) in
        let b = tested (elaborated d a.next) in
        record {
          prelude = a.prelude ++ all_under a.condition b.prelude;
          result = a_truth (tree.both a.condition b.condition);
          next = b.next;
        }
    elaborated (either c d) h =
        let a = tested (elaborated c h) in
        let b = tested (elaborated d a.next) in
        record {
          prelude = a.prelude ++ all_under (tree.negation a.condition) b.prelude;
          result = a_truth (tree.either a.condition b.condition);
          next = b.next;
        }
    elaborated (chosen sign c e f) h =
        let a = tested (elaborated c h) in
        let b = numbered (elaborated e a.next) in
        let d = numbered (elaborated f b.next) in
        choice line a b d

    -- arguments are evaluated, and their values not used
    pub evaluated : Expressions → ℕ → Evaluated
    evaluated none h = record { prelude = []; next = h }
    evaluated (more e es) h =
        let a = elaborated e h in
        let b = evaluated es a.next in
        record { prelude = a.prelude ++ b.prelude; next = b.next }

    -- indexes from the left, each checked behind its own prelude
    pub indexed : Subscripts → ℕ → Evaluated
    indexed no_subscript h = record { prelude = []; next = h }
    indexed (subscript extent bracket e is) h =
        let i = index_behind line extent bracket (numbered (elaborated e h)) in
        let b = indexed is i.next in
        record { prelude = i.prelude ++ b.prelude; next = b.next }
