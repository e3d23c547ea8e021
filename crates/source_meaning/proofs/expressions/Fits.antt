-- All numbers of what is read are in their ranges.
use Rattle.std.proofs.Common.{◌≡◌, ℕ, zero, suc, ℤ, pos, Bool, true, false, List, [], ◌∷◌, ◌++◌, IsTrue, refl, sym}
use Rattle.std.proofs.Common.{subst, replicate, map, Option, Some, None, Ok}
use Rattle.std.specs.Prelude.{◌&&◌, ◌*ℤ◌, negsuc}
use Rattle.std.specs.List.{list_all}
use Rattle.std.proofs.lemmas.List.{append-nil}
use Rattle.std.proofs.lemmas.Bool.{and_from, and_parts}
use Rattle.lang_tree.specs.Numbers.{are_numbers}
use Rattle.lang_tree.specs.Limits.{has_numbers}
use Rattle.lang_tree.specs.Tree.{Condition, Deed, sets, havocs, wheres, checks}
use Rattle.lang_tree.specs.Tree as core
use Rattle.source_grammar.specs.Tokens as g
use Rattle.source_grammar.specs.Grammar.{Expr, Arguments, MoreArguments, no_arguments, arguments, last_argument, next_argument}
use Rattle.source_grammar.specs.Grammar.{last_subscript, next_subscript, Value as Listed, one_value, braced, Values, no_values, values}
use Rattle.source_grammar.specs.Grammar.{MoreValues, last_value, last_comma, next_value}
use Rattle.source_grammar.specs.Grammar as tree
use Rattle.source_tree.specs.Expressions.{Expression, Expressions, number, element, negative, more}
use Rattle.source_tree.specs.Expressions.{Extent, Subscripts, no_subscript, subscript, Direction, up, down, Moment, before}
use Rattle.source_tree.specs.Expressions.{behind as after}
use Rattle.source_tree.specs.Expressions.{joined, compared, chosen, plus, minus, times, over, remainder}
use Rattle.source_core.specs.Forms.{constant_form, variable_form, sums}
use Rattle.source_core.specs.Forms as form
use Rattle.source_core.specs.Preludes.{under, all_under}
use Rattle.source_core.specs.Elaborated.{Result as Value, a_form, a_truth, any, Elaborated, selects, tested, as_number, numbered}
use Rattle.source_core.specs.Elaborated.{held, is_held, step_form, step_behind, elaborated, evaluated, indexed, index_behind}
use Rattle.source_core.specs.Fits.{is_comparable, condition_fits, deed_fits, deeds_fit, result_fits, fits, numbered_fits, tested_fits}
use Rattle.source_core.proofs.expressions.Stepping.{moved}
use Rattle.source_meaning.specs.declared.fault.FunctionFault.TheVariants.{BigNumber}
use Rattle.source_meaning.specs.Results.{◌>>=◌}
use Rattle.source_meaning.specs.Names.{Thing, State, thing_of, stepped_of, array_of, as_called, passable}
use Rattle.source_meaning.specs.Names as names
use Rattle.source_meaning.specs.Expressions.{first_of, rel_of, ranged, as_condition, behind, behind_number, operated, joins_conditions}
use Rattle.source_meaning.specs.Expressions.{side, right_of, direction_of}
use Rattle.source_meaning.specs.Expressions.{behind_side, prefixed, operand, read, read_subscripts, read_arguments, read_more}
use Rattle.source_meaning.specs.Expressions.{is_array_name, subscript_count, read_value, read_values, read_more_values}
use Rattle.source_meaning.proofs.results.Values.{OnValue, on_bind, on_provided}
use Rattle.source_meaning.proofs.expressions.Over.{anything, either_has}
use Rattle.base_integers.specs.declared.integers.Integers.{Integers}
use Rattle.base_integers.specs.declared.integers.Integers.TheVariants.{Mathematical, Machine}
use Rattle.base_integers.specs.declared.integers.Width.{Width}
use Rattle.base_integers.specs.declared.integers.Width.TheVariants.{Bits8, Bits16, Bits32}
use Rattle.base_integers.specs.Integers.{greatest}

-- ---- deeds
-- what each of two lists passes, both one behind the other pass
pub all_then : {A : Type 0} (f : A → Bool) (xs ys : List A) → IsTrue (list_all f xs) → IsTrue (list_all f ys)
    → IsTrue (list_all f (xs ++ ys))
all_then f [] ys h k = k
all_then f (x ∷ xs) ys h k = let p = and_parts (f x) (list_all f xs) h in
    and_from (f x) (list_all f (xs ++ ys)) p.0 (all_then f xs ys p.1 k)

under_fits : (c : Condition) (d : Deed) → IsTrue (condition_fits c) → IsTrue (deed_fits d) → IsTrue (deed_fits (under c d))
under_fits c (sets var f line) h k = k
under_fits c (havocs var line) h k = k
under_fits c (wheres e line) h k = k
under_fits c (checks about e line) h k = and_from (condition_fits c) (condition_fits e) h k

all_under_fit : (c : Condition) (ds : List Deed) → IsTrue (condition_fits c) → IsTrue (deeds_fit ds) → IsTrue (deeds_fit (all_under c ds))
all_under_fit c [] h k = refl
all_under_fit c (d ∷ ds) h k = let p = and_parts (deed_fits d) (deeds_fit ds) k in
    and_from (deed_fits (under c d)) (deeds_fit (all_under c ds)) (under_fits c d h p.0) (all_under_fit c ds h p.1)

-- ---- hidden variables
unit_numbers : (i : ℕ) → IsTrue (are_numbers (replicate i (pos 0) ++ (pos 1 ∷ [])))
unit_numbers zero = refl
unit_numbers (suc i) = unit_numbers i

-- a variable has numbers in their ranges
pub variable_numbers : (i : ℕ) → IsTrue (has_numbers (variable_form i))
variable_numbers i = and_from (are_numbers (replicate i (pos 0) ++ (pos 1 ∷ []))) true (unit_numbers i) refl

sums_none : (xs : List ℤ) → sums xs [] ≡ xs
sums_none [] = refl
sums_none (x ∷ xs) = refl

less_numbers : (i : ℕ) → IsTrue (are_numbers (sums (replicate i (pos 0) ++ (pos 1 ∷ [])) []))
less_numbers i = subst (λ xs. IsTrue (are_numbers xs)) (sym (sums_none (replicate i (pos 0) ++ (pos 1 ∷ [])))) (unit_numbers i)

-- so has a variable less 1, or less 0, compared with 0
less_one : (i : ℕ) → IsTrue (is_comparable (form.minus (variable_form i) (constant_form (pos 1))))
less_one i = and_from (has_numbers (form.minus (variable_form i) (constant_form (pos 1)))) true
    (and_from (are_numbers (sums (replicate i (pos 0) ++ (pos 1 ∷ [])) [])) true (less_numbers i) refl) refl

less_none : (i : ℕ) → IsTrue (is_comparable (form.minus (variable_form i) (constant_form (pos 0))))
less_none i = and_from (has_numbers (form.minus (variable_form i) (constant_form (pos 0)))) true
    (and_from (are_numbers (sums (replicate i (pos 0) ++ (pos 1 ∷ [])) [])) true (less_numbers i) refl) refl

opposite_numbers : (i : ℕ) → IsTrue (are_numbers (map (λ x. negsuc 0 *ℤ x) (replicate i (pos 0) ++ (pos 1 ∷ []))))
opposite_numbers zero = refl
opposite_numbers (suc i) = opposite_numbers i

-- what a variable is compared with where it is one of the integers of a width
least_fits : (width : Width) (i : ℕ) → IsTrue (is_comparable (form.minus (constant_form (negsuc (greatest width))) (variable_form i)))
least_fits width i = by width where
  all : List ℤ
  all = map (λ x. negsuc 0 *ℤ x) (replicate i (pos 0) ++ (pos 1 ∷ []))

  by : (width : Width) → IsTrue (is_comparable (form.minus (constant_form (negsuc (greatest width))) (variable_form i)))
  by Bits8 = and_from (are_numbers all && true) true (and_from (are_numbers all) true (opposite_numbers i) refl) refl
  by Bits16 = and_from (are_numbers all && true) true (and_from (are_numbers all) true (opposite_numbers i) refl) refl
  by Bits32 = and_from (are_numbers all && true) true (and_from (are_numbers all) true (opposite_numbers i) refl) refl

greatest_fits : (width : Width) (i : ℕ) → IsTrue (is_comparable (form.minus (variable_form i) (constant_form (pos (greatest width)))))
greatest_fits width i = by width where
  all : List ℤ
  all = sums (replicate i (pos 0) ++ (pos 1 ∷ [])) []

  by : (width : Width) → IsTrue (is_comparable (form.minus (variable_form i) (constant_form (pos (greatest width)))))
  by Bits8 = and_from (are_numbers all && true) true (and_from (are_numbers all) true (less_numbers i) refl) refl
  by Bits16 = and_from (are_numbers all && true) true (and_from (are_numbers all) true (less_numbers i) refl) refl
  by Bits32 = and_from (are_numbers all && true) true (and_from (are_numbers all) true (less_numbers i) refl) refl

-- a variable that took any of the integers has numbers in their ranges
pub held_fits : (integers : Integers) (line i : ℕ) → IsTrue (deeds_fit (held integers line i))
held_fits Mathematical line i = refl
held_fits (Machine width) line i =
    let low = is_comparable (form.minus (constant_form (negsuc (greatest width))) (variable_form i)) in
    let high = is_comparable (form.minus (variable_form i) (constant_form (pos (greatest width)))) in
    and_from (low && high) true (and_from low high (least_fits width i) (greatest_fits width i)) refl

-- ---- steps
-- the form that a step gives a variable has numbers in their ranges
moved_numbers : (direction : Direction) (i : ℕ) → IsTrue (has_numbers (moved direction i))
moved_numbers up i = and_from (are_numbers (sums (replicate i (pos 0) ++ (pos 1 ∷ [])) [])) true (less_numbers i) refl
moved_numbers down i = and_from (are_numbers (sums (replicate i (pos 0) ++ (pos 1 ∷ [])) [])) true (less_numbers i) refl

-- so has the form of its value
step_form_numbers : (direction : Direction) (moment : Moment) (i : ℕ) → IsTrue (has_numbers (step_form direction moment i))
step_form_numbers direction before i = variable_numbers i
step_form_numbers up after i = moved_numbers down i
step_form_numbers down after i = moved_numbers up i

-- what the new value is compared with where it has to be one of the integers of a width
moved_held : (width : Width) (direction : Direction) (i : ℕ) → IsTrue (condition_fits (is_held width (moved direction i)))
moved_held width direction i = by width direction where
  unit : List ℤ
  unit = replicate i (pos 0) ++ (pos 1 ∷ [])

  low : List ℤ
  low = map (λ x. negsuc 0 *ℤ x) (sums unit [])

  high : List ℤ
  high = sums (sums unit []) []

  low_numbers : IsTrue (are_numbers low)
  low_numbers = subst (λ xs. IsTrue (are_numbers (map (λ x. negsuc 0 *ℤ x) xs))) (sym (sums_none unit)) (opposite_numbers i)

  high_numbers : IsTrue (are_numbers high)
  high_numbers = subst (λ xs. IsTrue (are_numbers xs)) (sym (sums_none (sums unit []))) (less_numbers i)

  both : IsTrue ((are_numbers low && true) && true && ((are_numbers high && true) && true))
  both = and_from ((are_numbers low && true) && true) ((are_numbers high && true) && true)
      (and_from (are_numbers low && true) true (and_from (are_numbers low) true low_numbers refl) refl)
      (and_from (are_numbers high && true) true (and_from (are_numbers high) true high_numbers refl) refl)

  by : (width : Width) (direction : Direction) → IsTrue (condition_fits (is_held width (moved direction i)))
  by Bits8 up = both
  by Bits8 down = both
  by Bits16 up = both
  by Bits16 down = both
  by Bits32 up = both
  by Bits32 down = both

-- all numbers of a step are in their ranges
step_fits : (integers : Integers) (line : ℕ) (direction : Direction) (moment : Moment) (i sign h : ℕ)
    → IsTrue (fits (step_behind integers line direction moment i sign h))
step_fits integers line direction moment i sign h =
    and_from (deeds_fit (step_behind integers line direction moment i sign h).prelude) (has_numbers (step_form direction moment i))
    (deeds integers direction) (step_form_numbers direction moment i)
  where
    deeds : (integers : Integers) (direction : Direction)
        → IsTrue (deeds_fit (step_behind integers line direction moment i sign h).prelude)
    deeds Mathematical up = and_from (has_numbers (moved up i)) true (moved_numbers up i) refl
    deeds Mathematical down = and_from (has_numbers (moved down i)) true (moved_numbers down i) refl
    deeds (Machine width) up = and_from (condition_fits (is_held width (moved up i))) (has_numbers (moved up i) && true)
        (moved_held width up i) (and_from (has_numbers (moved up i)) true (moved_numbers up i) refl)
    deeds (Machine width) down = and_from (condition_fits (is_held width (moved down i))) (has_numbers (moved down i) && true)
        (moved_held width down i) (and_from (has_numbers (moved down i)) true (moved_numbers down i) refl)

-- ---- numbers
-- a result in range is one as a number
number_fits : (integers : Integers) (line : ℕ) (ds : List Deed) (h : ℕ) (r : Value) → IsTrue (deeds_fit ds) → IsTrue (result_fits r)
    → IsTrue (numbered_fits (as_number integers line ds h r))
number_fits integers line ds h (a_form f) p q = and_from (deeds_fit ds) (has_numbers f) p q
number_fits integers line ds h (a_truth c) p q =
    let one = constant_form (pos 1) in
    let zero = constant_form (pos 0) in
    let last = havocs h line ∷ wheres (selects c h one zero) line ∷ [] in
    let u = is_comparable (form.minus (variable_form h) one) in
    let v = is_comparable (form.minus (variable_form h) zero) in
    let w : IsTrue (condition_fits (selects c h one zero)) =
    and_from (condition_fits c && u) (condition_fits c && v) (and_from (condition_fits c) u q (less_one h))
    (and_from (condition_fits c) v q (less_none h)) in
    and_from (deeds_fit (ds ++ last)) (has_numbers (variable_form h))
    (all_then deed_fits ds last p (and_from (condition_fits (selects c h one zero)) true w refl)) (variable_numbers h)
number_fits integers line ds h any p q = and_from (deeds_fit (ds ++ havocs h line ∷ held integers line h)) (has_numbers (variable_form h))
    (all_then deed_fits ds (havocs h line ∷ held integers line h) p (held_fits integers line h)) (variable_numbers h)

-- so is the result of an expression
pub numbered_fit : (integers : Integers) (line : ℕ) (e : Elaborated) → IsTrue (fits e) → IsTrue (numbered_fits (numbered integers line e))
numbered_fit integers line e h = let p = and_parts (deeds_fit e.prelude) (result_fits e.result) h in
    number_fits integers line e.prelude e.next e.result p.0 p.1

-- the prelude of a result in range is in range
pub prelude_fits : (e : Elaborated) → IsTrue (fits e) → IsTrue (deeds_fit e.prelude)
prelude_fits e h = (and_parts (deeds_fit e.prelude) (result_fits e.result) h).0

-- ---- expressions
module _ (integers : Integers) (line : ℕ) where
  -- what an expression is in the core has numbers in their ranges
  abbrev pub InRange : (h : ℕ) → Expression → Type 0
  InRange h e = IsTrue (fits (elaborated integers line e h))

  -- so has what it is as a condition, where it has to be one
  abbrev SideInRange : Bool → (h : ℕ) → Expression → Type 0
  SideInRange true h e = IsTrue (tested_fits (tested (elaborated integers line e h)))
  SideInRange false h e = Unit {0}

  -- an expression whose numbers are asked for has them in their ranges
  pub ranged_fits : (sign h : ℕ) (e : Expression) → OnValue (InRange h) (ranged integers line sign h e)
  ranged_fits sign h e = on_provided (InRange h) (fits (elaborated integers line e h)) (BigNumber sign) e (λ t. t)

  -- which is told of it, whatever is made of it
  ranged_told : (sign h : ℕ) (e : Expression) → OnValue (λ x. InRange h e) (ranged integers line sign h e)
  ranged_told sign h e = on_provided (λ x. InRange h e) (fits (elaborated integers line e h)) (BigNumber sign) e (λ t. t)

  -- so has one that is to be a condition
  pub condition_in_range : (first h : ℕ) (e : Expression)
      → OnValue (λ x. IsTrue (tested_fits (tested (elaborated integers line x h)))) (as_condition integers line first h e)
  condition_in_range first h e = on_provided (λ x. IsTrue (tested_fits (tested (elaborated integers line x h))))
      (tested_fits (tested (elaborated integers line e h))) (BigNumber first) e (λ t. t)

  side_in_range : (b : Bool) (first h : ℕ) (e : Expression) → OnValue (SideInRange b h) (side integers line b first h e)
  side_in_range true first h e = condition_in_range first h e
  side_in_range false first h e = tt

  -- conditions that are joined, the deeds of the second under a condition
  conditions_fit : (ds es : List Deed) (c d u : Condition) → IsTrue (deeds_fit ds && condition_fits c)
      → IsTrue (deeds_fit es && condition_fits d) → IsTrue (condition_fits u)
      → IsTrue (deeds_fit (ds ++ all_under u es) && (condition_fits c && condition_fits d))
  conditions_fit ds es c d u h k l =
      let p = and_parts (deeds_fit ds) (condition_fits c) h in
      let q = and_parts (deeds_fit es) (condition_fits d) k in
      and_from (deeds_fit (ds ++ all_under u es)) (condition_fits c && condition_fits d)
      (all_then deed_fits ds (all_under u es) p.0 (all_under_fit u es l q.0)) (and_from (condition_fits c) (condition_fits d) p.1 q.1)

  operated_fits : (o : g.Op) (sign h : ℕ) (x y : Expression) → SideInRange (joins_conditions integers line o) h x
      → SideInRange (joins_conditions integers line o) (behind_side integers line (joins_conditions integers line o) x h) y
      → OnValue (InRange h) (operated integers line o sign h x y)
  operated_fits g.or_op sign h x y p q =
      let a = tested (elaborated integers line x h) in
      let b = tested (elaborated integers line y a.next) in
      conditions_fit a.prelude b.prelude a.condition b.condition (core.negation a.condition) p q
      (and_parts (deeds_fit a.prelude) (condition_fits a.condition) p).1
  operated_fits g.and_op sign h x y p q =
      let a = tested (elaborated integers line x h) in
      let b = tested (elaborated integers line y a.next) in
      conditions_fit a.prelude b.prelude a.condition b.condition a.condition p q
      (and_parts (deeds_fit a.prelude) (condition_fits a.condition) p).1
  operated_fits (g.compare_op r) sign h x y p q = ranged_fits sign h (compared (rel_of r) sign x y)
  operated_fits g.plus_op sign h x y p q = ranged_fits sign h (joined plus sign x y)
  operated_fits g.minus_op sign h x y p q = ranged_fits sign h (joined minus sign x y)
  operated_fits g.times_op sign h x y p q = ranged_fits sign h (joined times sign x y)
  operated_fits g.over_op sign h x y p q = ranged_fits sign h (joined over sign x y)
  operated_fits g.remainder_op sign h x y p q = ranged_fits sign h (joined remainder sign x y)

  prefixed_fits : (p : g.Prefix) (sign first h : ℕ) (x : Expression) → InRange h x
      → OnValue (InRange h) (prefixed integers line p sign first h x)
  prefixed_fits g.negative sign first h x k = ranged_fits sign h (negative sign x)
  prefixed_fits g.positive sign first h x k = numbered_fit integers line (elaborated integers line x h) k
  prefixed_fits g.negation sign first h x k =
      on_bind (λ x. IsTrue (tested_fits (tested (elaborated integers line x h)))) (InRange h) (as_condition integers line first h x) _
      (condition_in_range first h x) (λ x t. t)

  operand_fits : (at h : ℕ) (o : Option Thing) → OnValue (InRange h) (operand integers line at h o)
  operand_fits at h None = tt
  operand_fits at h (Some (names.variable i)) = variable_numbers i
  operand_fits at h (Some (names.array extents)) = tt
  operand_fits at h (Some (names.constant v)) = ranged_fits at h (number v at)

  -- the prelude of expressions that are evaluated has numbers in their ranges
  abbrev pub AllInRange : (h : ℕ) → Expressions → Type 0
  AllInRange h xs = IsTrue (deeds_fit (evaluated integers line xs h).prelude)

  -- so has that of indexes
  abbrev IndexesInRange : (h : ℕ) → Subscripts → Type 0
  IndexesInRange h ys = IsTrue (deeds_fit (indexed integers line ys h).prelude)

  -- an expression, and others behind it
  one_more_fits : (h : ℕ) (x : Expression) (xs : Expressions) → InRange h x → AllInRange (behind integers line x h) xs
      → AllInRange h (more x xs)
  one_more_fits h x xs k l =
      all_then deed_fits (elaborated integers line x h).prelude (evaluated integers line xs (behind integers line x h)).prelude
      (prelude_fits (elaborated integers line x h) k) l

  -- an index in range, with its check, and others behind it
  index_fits : (h : ℕ) (x : Extent) (b a : ℕ) (i : Expression) (ys : Subscripts) → InRange h (element (subscript x b i no_subscript) a)
      → IndexesInRange (behind_number integers line i h) ys → IndexesInRange h (subscript x b i ys)
  index_fits h x b a i ys k l =
      let v = numbered integers line (elaborated integers line i h) in
      let c = index_behind line x b v in
      all_then deed_fits c.prelude (indexed integers line ys v.next).prelude
      (subst (λ ds. IsTrue (deeds_fit ds)) (append-nil c.prelude) (and_parts (deeds_fit (c.prelude ++ [])) true k).0) l

  module _ (st : State) where
    -- an argument that is read, and those behind it
    argument_fits : (e : Expr) (es : MoreArguments) (h : ℕ) → OnValue (InRange h) (read integers line st e h)
        → ((k : ℕ) → OnValue (AllInRange k) (read_more integers line st es k)) → OnValue (AllInRange h)
        (read integers line st e h >>= λ x. read_more integers line st es (behind integers line x h) >>= λ xs. Ok (more x xs))
    argument_fits e es h r q = on_bind (InRange h) (AllInRange h) (read integers line st e h) _ r
        (λ x k. on_bind (AllInRange (behind integers line x h)) (AllInRange h)
        (read_more integers line st es (behind integers line x h)) _
        (q (behind integers line x h)) (λ xs l. one_more_fits h x xs k l))

    mutual
      -- the expression that is read
      pub read_fits : (e : Expr) (h : ℕ) → OnValue (λ x. IsTrue (fits (elaborated integers line x h))) (read integers line st e h)
      read_fits (tree.number v a) h = ranged_fits a h (number (pos v) a)
      read_fits (tree.variable x a) h = operand_fits a h (thing_of x st)
      read_fits (tree.element x a is) h =
          on_bind (λ extents. Unit {0}) (InRange h) (array_of x a (subscript_count is) st) _
          (anything (array_of x a (subscript_count is) st))
          (λ extents u. on_bind (λ ys. IsTrue (deeds_fit (indexed integers line ys h).prelude)) (InRange h)
          (read_subscripts integers line st a extents is h) _ (subscripts_fit a extents is h)
          (λ ys k. and_from (deeds_fit (indexed integers line ys h).prelude) true k refl))
      read_fits (tree.stepped_behind x a d b) h =
          on_bind (λ i. Unit {0}) (InRange h) (stepped_of x a b st) _ (anything (stepped_of x a b st))
          (λ i u. step_fits integers line (direction_of d) after i b h)
      read_fits (tree.stepped_before d a x b) h =
          on_bind (λ i. Unit {0}) (InRange h) (stepped_of x b a st) _ (anything (stepped_of x b a st))
          (λ i u. step_fits integers line (direction_of d) before i a h)
      read_fits (tree.call x a b es c) h = on_bind (λ y. Unit {0}) (λ x. IsTrue (fits (elaborated integers line x h)))
          (as_called a (thing_of x st) a) _
          (anything (as_called a (thing_of x st) a))
          (λ y u. on_bind (λ xs. IsTrue (deeds_fit (evaluated integers line xs h).prelude))
          (λ x. IsTrue (fits (elaborated integers line x h)))
          (read_arguments integers line st es h) _ (arguments_fit es h)
          (λ xs k. and_from (deeds_fit (evaluated integers line xs h).prelude) true k refl))
      read_fits (tree.free a b c) h = refl
      read_fits (tree.grouped a e b) h =
          on_bind (λ x. IsTrue (fits (elaborated integers line x h))) (λ x. IsTrue (fits (elaborated integers line x h)))
          (read integers line st e h) _ (read_fits e h) (λ x k. k)
      read_fits (tree.prefixed p a e) h =
          on_bind (λ x. IsTrue (fits (elaborated integers line x h))) (λ x. IsTrue (fits (elaborated integers line x h)))
          (read integers line st e h) _ (read_fits e h) (λ x k. prefixed_fits p a (first_of e) h x k)
      read_fits (tree.joined e o a f) h =
          let P : Expression → Type 0 = λ x. IsTrue (fits (elaborated integers line x h)) in
          let b = joins_conditions integers line o in
          on_bind (λ x. Unit {0}) P (read integers line st e h) _ (anything (read integers line st e h))
          (λ x u. on_bind (SideInRange b h) P (side integers line b (first_of e) h x) _ (side_in_range b (first_of e) h x)
          (λ x p. on_bind (λ y. Unit {0}) P (read integers line (right_of b st) f (behind_side integers line b x h)) _
          (anything (read integers line (right_of b st) f (behind_side integers line b x h)))
          (λ y u. on_bind (SideInRange b (behind_side integers line b x h)) P
          (side integers line b (first_of f) (behind_side integers line b x h) y) _
          (side_in_range b (first_of f) (behind_side integers line b x h) y)
          (λ y q. operated_fits o a h x y p q))))
      read_fits (tree.chosen c a e b f) h =
          let P : Expression → Type 0 = λ x. IsTrue (fits (elaborated integers line x h)) in
          on_bind (λ x. Unit {0}) P (read integers line st c h) _ (anything (read integers line st c h))
          (λ x u. on_bind (λ x. Unit {0}) P (as_condition integers line (first_of c) h x) _
          (anything (as_condition integers line (first_of c) h x))
          (λ x u. on_bind (λ y. Unit {0}) P (read integers line (passable st) e (behind integers line x h)) _
          (anything (read integers line (passable st) e (behind integers line x h)))
          (λ y u. on_bind (λ z. Unit {0}) P
          (read integers line (passable st) f (behind_number integers line y (behind integers line x h))) _
          (anything (read integers line (passable st) f (behind_number integers line y (behind integers line x h))))
          (λ z u. ranged_fits a h (chosen a x y z)))))

      -- the indexes that are read
      subscripts_fit : (a : ℕ) (extents : List Extent) (is : tree.Subscripts) (h : ℕ)
          → OnValue (λ ys. IsTrue (deeds_fit (indexed integers line ys h).prelude)) (read_subscripts integers line st a extents is h)
      subscripts_fit a [] is h = tt
      subscripts_fit a (x ∷ xs) (last_subscript b e c) h =
          on_bind (λ i. Unit {0}) (IndexesInRange h) (read integers line st e h) _ (anything (read integers line st e h))
          (λ i u. on_bind (λ y. InRange h (element (subscript x b i no_subscript) a)) (IndexesInRange h)
          (ranged integers line b h (element (subscript x b i no_subscript) a)) _
          (ranged_told b h (element (subscript x b i no_subscript) a)) (λ y t. index_fits h x b a i no_subscript t refl))
      subscripts_fit a (x ∷ xs) (next_subscript b e c is) h =
          on_bind (λ i. Unit {0}) (IndexesInRange h) (read integers line st e h) _ (anything (read integers line st e h))
          (λ i u. on_bind (λ y. InRange h (element (subscript x b i no_subscript) a)) (IndexesInRange h)
          (ranged integers line b h (element (subscript x b i no_subscript) a)) _
          (ranged_told b h (element (subscript x b i no_subscript) a))
          (λ y t. on_bind (IndexesInRange (behind_number integers line i h)) (IndexesInRange h)
          (read_subscripts integers line st a xs is (behind_number integers line i h)) _
          (subscripts_fit a xs is (behind_number integers line i h)) (λ ys l. index_fits h x b a i ys t l)))

      -- the arguments that are read
      pub arguments_fit : (es : Arguments) (h : ℕ)
          → OnValue (λ xs. IsTrue (deeds_fit (evaluated integers line xs h).prelude)) (read_arguments integers line st es h)
      arguments_fit no_arguments h = refl
      arguments_fit (arguments e es) h =
          either_has (AllInRange h) (is_array_name st e) _ _ (more_fit es h) (argument_fits e es h (read_fits e h) (λ k. more_fit es k))

      -- and those behind the first
      pub more_fit : (es : MoreArguments) (h : ℕ)
          → OnValue (λ xs. IsTrue (deeds_fit (evaluated integers line xs h).prelude)) (read_more integers line st es h)
      more_fit last_argument h = refl
      more_fit (next_argument a e es) h =
          either_has (AllInRange h) (is_array_name st e) _ _ (more_fit es h) (argument_fits e es h (read_fits e h) (λ k. more_fit es k))

    mutual
      -- a value that is read
      value_fits : (v : Listed) (h : ℕ) → OnValue (λ x. IsTrue (fits (elaborated integers line x h))) (read_value integers line st v h)
      value_fits (one_value e) h = read_fits e h
      value_fits (braced a vs b) h = on_bind (AllInRange h) (InRange h) (read_values integers line st vs h) _ (values_fit vs h)
          (λ xs k. and_from (deeds_fit (evaluated integers line xs h).prelude) true k refl)

      -- the values that are read
      pub values_fit : (vs : Values) (h : ℕ)
          → OnValue (λ xs. IsTrue (deeds_fit (evaluated integers line xs h).prelude)) (read_values integers line st vs h)
      values_fit no_values h = refl
      values_fit (values v vs) h = on_bind (InRange h) (AllInRange h) (read_value integers line st v h) _ (value_fits v h)
          (λ x k. on_bind (AllInRange (behind integers line x h)) (AllInRange h)
          (read_more_values integers line st vs (behind integers line x h)) _
          (more_values_fit vs (behind integers line x h)) (λ xs l. one_more_fits h x xs k l))

      -- and those behind the first
      more_values_fit : (vs : MoreValues) (h : ℕ)
          → OnValue (λ xs. IsTrue (deeds_fit (evaluated integers line xs h).prelude)) (read_more_values integers line st vs h)
      more_values_fit last_value h = refl
      more_values_fit (last_comma a) h = refl
      more_values_fit (next_value a v vs) h = on_bind (InRange h) (AllInRange h) (read_value integers line st v h) _ (value_fits v h)
          (λ x k. on_bind (AllInRange (behind integers line x h)) (AllInRange h)
          (read_more_values integers line st vs (behind integers line x h)) _
          (more_values_fit vs (behind integers line x h)) (λ xs l. one_more_fits h x xs k l))
