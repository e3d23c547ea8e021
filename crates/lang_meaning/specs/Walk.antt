-- What a program's tree means: names, kinds and limits, in the order of a text's faults.
use Rattle.std.specs.Prelude.{if◌then◌else◌, ◌++◌, Bool, true, false, nat_lt, nat_eq, ℕ, suc, ℤ, pos, negsuc, List, [], ◌∷◌, length, take}
use Rattle.std.specs.Prelude.{Option, Some, None, Result, Ok, Err}
use Rattle.std.specs.Prelude.{min, ◌+◌}
use Rattle.std.specs.List.{list_any}
use Rattle.lang_grammar.specs.Grammar.{Relation, equal, unequal, less, at_most, greater, at_least, Op, or_op, and_op, compare_op, plus_op}
use Rattle.lang_grammar.specs.Grammar.{minus_op, times_op}
use Rattle.lang_grammar.specs.Grammar.{Prefix, negative, positive, negation, Change, replaces, adds, subtracts, Direction, up, down, Expr}
use Rattle.lang_grammar.specs.Grammar.{number, variable, free}
use Rattle.lang_grammar.specs.Grammar.{grouped, prefixed, joined, Declarator, bare, given, Declarators, declares, declares_more, Core}
use Rattle.lang_grammar.specs.Grammar.{empty, block, if_alone}
use Rattle.lang_grammar.specs.Grammar.{if_else, repeat, repeat_after, repeat_for, jumps, demands, updates, Update, set, step_after}
use Rattle.lang_grammar.specs.Grammar.{step_before, ForFirst, no_first}
use Rattle.lang_grammar.specs.Grammar.{declared_first, updated_first, ForTest, no_test, given_test, ForLast, no_last, updated_last, Jump}
use Rattle.lang_grammar.specs.Grammar.{breaks, continues, Demand, assumes, asserts}
use Rattle.lang_grammar.specs.Grammar.{Sub, labelled, plain, Items, no_items, label, declaration, item, Program, program}
use Rattle.lang_tree.specs.declared.change.Change as tree_change
use Rattle.lang_tree.specs.declared.change.Change.TheVariants as change
use Rattle.lang_tree.specs.declared.form.Form.{Form}
use Rattle.lang_tree.specs.declared.cond.Rel.{Rel}
use Rattle.lang_tree.specs.declared.cond.Rel.TheVariants as rel
use Rattle.lang_tree.specs.declared.check.CheckKind.TheVariants as check_kind
use Rattle.lang_tree.specs.Numbers.{is_number}
use Rattle.lang_tree.specs.Tree as tree
use Rattle.lang_tree.specs.Tree.{Condition, Statement, Statements, nil, cons, leaf_count}
use Rattle.lang_meaning.specs.declared.fault.ParseFault.{ParseFault}
use Rattle.lang_meaning.specs.declared.fault.ParseFault.TheVariants.{UnknownName, NameTwice, NotAffine, NondetHere, BigNumber, NoVariables}
use Rattle.lang_meaning.specs.declared.fault.ParseFault.TheVariants.{OutsideLoop}
use Rattle.lang_meaning.specs.declared.fault.ParseFault.TheVariants as fault
use Rattle.lang_meaning.specs.declared.fault.Limit.TheVariants.{Variables, Leaves}
use Rattle.lang_meaning.specs.declared.fault.Limit.TheVariants as limit
use Rattle.base_limits.specs.declared.limits.TheConstants.{MOST_STATEMENTS}
use Rattle.lang_meaning.specs.Results.{◌>>=◌}
use Rattle.lang_meaning.specs.Names.{place_of}
use Rattle.lang_meaning.specs.Forms.{constant_form, variable_form, plus, minus, scaled, is_constant, is_comparable}
use Rattle.lang_tree.specs.declared.limits.TheConstants.{MOST_VARIABLES}

-- What an expression is: a number with the place of its first token, a truth value, or `nondet()` at its place.
pub data Value : Type 0 where
  a_form : Form → ℕ → Value
  a_truth : Condition → Value
  a_nondet : ℕ → Value

-- What has been met: the variables so far, those that are known here by their numbers, the labels so far, and the number of nodes.
pub record State : Type 0 where
  pub names : List (List ℕ)
  pub known : List ℕ
  pub labels : List (List ℕ)
  pub count : ℕ

abbrev pub start_state : State
start_state = record { names = []; known = []; labels = []; count = 0 }

-- the nodes of one list and then those of another
abbrev pub followed_by : Statements → Statements → Statements
followed_by nil ms = ms
followed_by (cons n ns) ms = cons n (followed_by ns ms)

abbrev pub one : Statement → Statements
one n = cons n nil

-- one node more, which begins at this place
abbrev pub counted : ℕ → State → Result State ParseFault
counted a st = if nat_lt st.count MOST_STATEMENTS then Ok (record st { count = suc st.count }) else Err (fault.Limit a limit.Statements)

-- a label
abbrev pub labelled_by : List ℕ → ℕ → State → Result State ParseFault
labelled_by x a st = elim (place_of x st.labels) [
  | Some i ↦ Err (NameTwice a)
  | None ↦ counted a
      (record st { labels = st.labels ++ x ∷ [] })
]

-- the number of a variable that is known
abbrev pub number_if_known : ℕ → List ℕ → Option ℕ → Result ℕ ParseFault
number_if_known a known None = Err (UnknownName a)
number_if_known a known (Some i) = if list_any (λ j. nat_eq j i) known then Ok i else Err (UnknownName a)

abbrev pub known_number : List ℕ → ℕ → State → Result ℕ ParseFault
known_number x a st = number_if_known a st.known (place_of x st.names)

-- a number from a value, for the sign at this place
abbrev pub number_of : ℕ → Value → Result Form ParseFault
number_of sign (a_form f first) = Ok f
number_of sign (a_truth c) = Err (NotAffine sign)
number_of sign (a_nondet a) = Err (NondetHere a)

-- a condition from a value
abbrev pub as_condition : Value → Result Condition ParseFault
as_condition (a_form f first) = if is_comparable f then Ok (tree.compare rel.Ne f) else Err (BigNumber first)
as_condition (a_truth c) = Ok c
as_condition (a_nondet a) = Ok tree.free

-- a number in its range
abbrev pub ranged_number : ℕ → ℤ → Result ℤ ParseFault
ranged_number a z = if is_number z then Ok z else Err (BigNumber a)

abbrev pub ranged_numbers : ℕ → List ℤ → Result (List ℤ) ParseFault
ranged_numbers a [] = Ok []
ranged_numbers a (z ∷ zs) = ranged_number a z >>= λ y. ranged_numbers a zs >>= λ ys. Ok (y ∷ ys)

-- a form whose numbers are in their range
abbrev pub ranged : ℕ → Form → Result Form ParseFault
ranged a f = ranged_numbers a f.coeffs >>= λ cs. ranged_number a f.constant >>= λ c. Ok (record { coeffs = cs; constant = c })

-- the place of a number's first token
abbrev pub first_of : ℕ → Value → ℕ
first_of a (a_form f first) = first
first_of a (a_truth c) = a
first_of a (a_nondet b) = b

abbrev pub two_numbers : ℕ → Value → Value → Result (Form × Form) ParseFault
two_numbers a v w = number_of a v >>= λ f. number_of a w >>= λ g. Ok (f, g)

abbrev pub two_conditions : Value → Value → Result (Condition × Condition) ParseFault
two_conditions v w = as_condition v >>= λ c. as_condition w >>= λ d. Ok (c, d)

abbrev pub rel_of : Relation → Rel
rel_of equal = rel.Eq
rel_of unequal = rel.Ne
rel_of less = rel.Lt
rel_of at_most = rel.Le
rel_of greater = rel.Gt
rel_of at_least = rel.Ge

-- the difference of two numbers is related to 0
abbrev pub compared : Relation → ℕ → Form → Form → Result Value ParseFault
compared r a f g = ranged a (minus f g) >>= λ h. if is_comparable h then Ok (a_truth (tree.compare (rel_of r) h)) else Err (BigNumber a)

-- a product of which one side is constant
abbrev pub product : ℕ → Form → Form → Result Form ParseFault
product a f g = if is_constant f then ranged a (scaled f.constant g) else (if is_constant g then ranged a (scaled g.constant f) else Err
    (NotAffine a))

-- what a sign makes of its sides
abbrev pub combined : Op → ℕ → Value → Value → Result Value ParseFault
combined or_op a v w = two_conditions v w >>= λ p. Ok (a_truth (tree.either p.0 p.1))
combined and_op a v w = two_conditions v w >>= λ p. Ok (a_truth (tree.both p.0 p.1))
combined (compare_op r) a v w = two_numbers a v w >>= λ p. compared r a p.0 p.1
combined plus_op a v w = two_numbers a v w >>= λ p. ranged a (plus p.0 p.1) >>= λ f. Ok (a_form f (first_of a v))
combined minus_op a v w = two_numbers a v w >>= λ p. ranged a (minus p.0 p.1) >>= λ f. Ok (a_form f (first_of a v))
combined times_op a v w = two_numbers a v w >>= λ p. product a p.0 p.1 >>= λ f. Ok (a_form f (first_of a v))

-- what a sign before a value makes of it
abbrev pub prefix_value : Prefix → ℕ → Value → Result Value ParseFault
prefix_value negative a v = number_of a v >>= λ f. ranged a (scaled (negsuc 0) f) >>= λ g. Ok (a_form g a)
prefix_value positive a v = number_of a v >>= λ f. Ok (a_form f a)
prefix_value negation a v = as_condition v >>= λ c. Ok (a_truth (tree.negation c))

-- a value in parentheses
abbrev pub regarded : ℕ → Value → Value
regarded a (a_form f first) = a_form f a
regarded a (a_truth c) = a_truth c
regarded a (a_nondet b) = a_nondet b

-- the condition of the statement that begins at this place, its leaves counted last
abbrev pub few_leaves : ℕ → Condition → Result Condition ParseFault
few_leaves a c = if nat_lt 64 (leaf_count c) then Err (fault.Limit a Leaves) else Ok c

abbrev pub tested : ℕ → Value → Result Condition ParseFault
tested a v = as_condition v >>= λ c. few_leaves a c

-- the right side of `=` at this place: a form, or any value
abbrev pub right_side : ℕ → Value → Result (Option Form) ParseFault
right_side sign (a_form f first) = Ok (Some f)
right_side sign (a_truth c) = Err (NotAffine sign)
right_side sign (a_nondet b) = Ok None

-- a variable takes a form's value, or any
abbrev pub assignment : ℕ → Option Form → ℕ → Statement
assignment i (Some f) line = tree.set i f line
assignment i None line = tree.havoc i line

-- the same as the change of a `for`
abbrev pub changed : ℕ → Option Form → ℕ → tree_change.Change
changed i (Some f) line = change.Set i f line
changed i None line = change.Havoc i line

-- a change as statements
abbrev pub change_nodes : tree_change.Change → Statements
change_nodes change.Unchanged = nil
change_nodes (change.Set i f line) = one (tree.set i f line)
change_nodes (change.Havoc i line) = one (tree.havoc i line)

-- what the variable i takes by an assignment, in forms over so many variables
abbrev pub assigned : ℕ → Change → ℕ → ℕ → Value → Result (Option Form) ParseFault
assigned width replaces i sign v = right_side sign v
assigned width adds i sign v = number_of sign v >>= λ f. ranged sign (plus (variable_form width i (pos 0)) f) >>= λ g. Ok (Some g)
assigned width subtracts i sign v = number_of sign v >>= λ f. ranged sign (minus (variable_form width i (pos 0)) f) >>= λ g. Ok (Some g)

-- the variable i with 1 more or less
abbrev pub stepped : ℕ → Direction → ℕ → Form
stepped width up i = variable_form width i (pos 1)
stepped width down i = variable_form width i (negsuc 0)

-- the condition of a `for` without one: 0 is at most 0
abbrev pub always : ℕ → Condition
always width = tree.compare rel.Le (constant_form width (pos 0))

abbrev pub jump_kind : Jump → tree.Jump
jump_kind breaks = tree.breaks
jump_kind continues = tree.continues

-- a `break` or a `continue` at this place, which has to stand in a loop's body
abbrev pub jumped : Bool → ℕ → State → Result State ParseFault
jumped true a st = counted a st
jumped false a st = Err (OutsideLoop a)

-- the nodes of an `assume` or `assert` at this place: one, or two
abbrev pub counted_for : Demand → ℕ → State → Result State ParseFault
counted_for assumes a st = counted a st
counted_for asserts a st = counted a st >>= λ now. counted a now

-- what an `assume` or `assert` at this place is: the run goes on only where its condition may be true; before that an `assert` is checked
abbrev pub demanded : (ℕ → ℕ) → Demand → ℕ → Condition → Statements
demanded line assumes a x = one (tree.assume x (line a))
demanded line asserts a x = cons (tree.check (record { kind = check_kind.Assert; at = a }) x (line a)) (one (tree.only_where x (line a)))

-- a variable is declared, with what it takes
abbrev pub declared_by : (ℕ → ℕ) → List ℕ → ℕ → Option Form → State → Result (State × Statement) ParseFault
declared_by line x a o st = elim (place_of x st.names) [
  | Some i ↦ Err (NameTwice a)
  | None ↦ if nat_lt (length st.names) MOST_VARIABLES
      then (counted a (record st { names = st.names ++ x ∷ []; known = st.known ++ length st.names ∷ [] })
      >>= λ now. Ok (now, assignment (length st.names) o (line a)))
      else Err (fault.Limit a Variables)
]

-- the names that were known at the beginning of a block are known at its end
abbrev pub closed : ℕ → State → State
closed k st = record st { known = take k st.known }

module _ (line : ℕ → ℕ) (width : ℕ) where
  -- the node of `++` or `--`
  abbrev pub step_node : Direction → ℕ → ℕ → Statements
  step_node g i a = one (tree.set i (stepped width g i) (line a))

  -- the same as the change of a `for`
  abbrev pub step_change : Direction → ℕ → ℕ → tree_change.Change
  step_change g i a = change.Set i (stepped width g i) (line a)

  -- the left side before the right one, and both before the sign
  abbrev pub walk_expr : State → Expr → Result Value ParseFault
  walk_expr st (number n a) = ranged a (constant_form width (pos n)) >>= λ f. Ok (a_form f a)
  walk_expr st (variable x a) = known_number x a st >>= λ i. Ok (a_form (variable_form width i (pos 0)) a)
  walk_expr st (free a b c) = Ok (a_nondet a)
  walk_expr st (grouped a e b) = walk_expr st e >>= λ v. Ok (regarded a v)
  walk_expr st (prefixed p a e) = walk_expr st e >>= λ v. prefix_value p a v
  walk_expr st (joined e o a f) = walk_expr st e >>= λ v. walk_expr st f >>= λ w. combined o a v w

  -- the initialiser before the name
  abbrev pub walk_declarator : Declarator → State → Result (State × Statement) ParseFault
  walk_declarator (bare x a) st = declared_by line x a None st
  walk_declarator (given x a b e) st = walk_expr st e >>= λ v. right_side b v >>= λ o. declared_by line x a o st

  abbrev pub walk_declarators : Declarators → State → Result (State × Statements) ParseFault
  walk_declarators (declares x c) st = walk_declarator x st >>= λ r. Ok (r.0, one r.1)
  walk_declarators (declares_more x c xs) st = walk_declarator x st >>= λ r. walk_declarators xs r.0 >>= λ q. Ok (q.0, cons r.1 q.1)

  -- what an assignment or a step does
  abbrev pub walk_update : Update → State → Result (State × tree_change.Change) ParseFault
  walk_update (set x a g b e) st =
      known_number x a st >>= λ i. counted a st >>= λ now. walk_expr now e >>= λ v. assigned width g i b v
      >>= λ o. Ok (now, changed i o (line a))
  walk_update (step_after x a g b) st = known_number x a st >>= λ i. counted a st >>= λ now. Ok (now, step_change g i a)
  walk_update (step_before g a x b) st = counted a st >>= λ now. known_number x b now >>= λ i. Ok (now, step_change g i a)

  -- the nodes that stand before a `for`
  abbrev pub walk_first : ForFirst → State → Result (State × Statements) ParseFault
  walk_first (no_first a) st = Ok (st, nil)
  walk_first (declared_first a xs) st = walk_declarators xs st
  walk_first (updated_first u a) st = walk_update u st >>= λ r. Ok (r.0, change_nodes r.1)

  -- the condition of the `for` at this place
  abbrev pub walk_test : ℕ → ForTest → State → Result Condition ParseFault
  walk_test a (no_test b) st = Ok (always width)
  walk_test a (given_test e b) st = walk_expr st e >>= λ v. tested a v

  -- the change of a `for`
  abbrev pub walk_last : ForLast → State → Result (State × tree_change.Change) ParseFault
  walk_last (no_last a) st = Ok (st, change.Unchanged)
  walk_last (updated_last u a) st = walk_update u st

  abbrev mutual
    -- the nodes of a statement, and what has been met after it; `inside` says whether it stands in a loop's body
    pub walk_core : (inside : Bool) → Core → State → Result (State × Statements) ParseFault
    walk_core inside (empty a) st = Ok (st, nil)
    walk_core inside (block a is b) st = walk_items inside is st >>= λ r. Ok (closed (length st.known) r.0, r.1)
    walk_core inside (if_alone a b e c s) st =
        walk_expr st e >>= λ v. tested a v >>= λ x. counted a st >>= λ now. walk_sub inside s now
        >>= λ r. Ok (r.0, one (tree.branch x r.1 nil (line a)))
    walk_core inside (if_else a b e c s d t) st =
        walk_expr st e >>= λ v. tested a v >>= λ x. counted a st >>= λ now. walk_sub inside s now >>= λ r. walk_sub inside t r.0
        >>= λ q. Ok (
          q.0,
          one (tree.branch x r.1 q.1 (line a)),
        )
    walk_core inside (repeat a b e c s) st =
        walk_expr st e >>= λ v. tested a v >>= λ x. counted a st >>= λ now. walk_sub true s now >>= λ r. Ok (
          r.0,
          one (tree.loop (tree.while_loop []) x r.1 (line a)),
        )
    walk_core inside (repeat_after a s b c e d i) st =
        counted a st >>= λ now. walk_sub true s now >>= λ r. walk_expr r.0 e >>= λ v. tested a v >>= λ x. Ok (
          r.0,
          one (tree.loop (tree.do_loop []) x r.1 (line a)),
        )
    walk_core inside (repeat_for a b f t l s) st =
        walk_first f st >>= λ r. walk_test a t r.0 >>= λ x. counted a r.0 >>= λ now. walk_last l now >>= λ u. walk_sub true s u.0
        >>= λ q. Ok (
          closed (length st.known) q.0,
          followed_by r.1 (one (tree.loop (tree.for_loop [] (tree.change_deeds u.1)) x q.1 (line a))),
        )
    walk_core inside (jumps j a b) st = jumped inside a st >>= λ now. Ok (now, one (tree.jump (jump_kind j) (line a)))
    walk_core inside (demands k a b e c d) st = counted_for k a st >>= λ now. walk_expr now e >>= λ v. tested a v
        >>= λ x. Ok (now, demanded line k a x)
    walk_core inside (updates u c) st = walk_update u st >>= λ r. Ok (r.0, change_nodes r.1)

    pub walk_sub : (inside : Bool) → Sub → State → Result (State × Statements) ParseFault
    walk_sub inside (labelled x a b s) st = labelled_by x a st >>= λ now. walk_sub inside s now
        >>= λ r. Ok (r.0, cons (tree.label x (line a)) r.1)
    walk_sub inside (plain c) st = walk_core inside c st

    pub walk_items : (inside : Bool) → Items → State → Result (State × Statements) ParseFault
    walk_items inside no_items st = Ok (st, nil)
    walk_items inside (label x a b is) st = labelled_by x a st >>= λ now. walk_items inside is now
        >>= λ r. Ok (r.0, cons (tree.label x (line a)) r.1)
    walk_items inside (declaration a xs is) st = walk_declarators xs st >>= λ r. walk_items inside is r.0
        >>= λ q. Ok (q.0, followed_by r.1 q.1)
    walk_items inside (item c is) st = walk_core inside c st >>= λ r. walk_items inside is r.0 >>= λ q. Ok (q.0, followed_by r.1 q.1)

-- how many variables are declared
abbrev pub declared_in : Declarators → ℕ
declared_in (declares x c) = 1
declared_in (declares_more x c xs) = suc (declared_in xs)

abbrev pub declared_before : ForFirst → ℕ
declared_before (no_first a) = 0
declared_before (declared_first a xs) = declared_in xs
declared_before (updated_first u a) = 0

abbrev mutual
  pub declared_core : Core → ℕ
  declared_core (empty a) = 0
  declared_core (block a is b) = declared_items is
  declared_core (if_alone a b e c s) = declared_sub s
  declared_core (if_else a b e c s d t) = declared_sub s + declared_sub t
  declared_core (repeat a b e c s) = declared_sub s
  declared_core (repeat_after a s b c e d i) = declared_sub s
  declared_core (repeat_for a b f t l s) = declared_before f + declared_sub s
  declared_core (jumps j a b) = 0
  declared_core (demands k a b e c d) = 0
  declared_core (updates u c) = 0

  pub declared_sub : Sub → ℕ
  declared_sub (labelled x a b s) = declared_sub s
  declared_sub (plain c) = declared_core c

  pub declared_items : Items → ℕ
  declared_items no_items = 0
  declared_items (label x a b is) = declared_items is
  declared_items (declaration a xs is) = declared_in xs + declared_items is
  declared_items (item c is) = declared_core c + declared_items is

-- A form has one coefficient for each variable of the program; past the greatest number of variables there is a fault, whatever the forms.
abbrev pub width_of : Program → ℕ
width_of (program a b c ps d e is r f g) = min MOST_VARIABLES (declared_items is)

-- the variables and nodes of a program, of which there has to be a variable
abbrev pub program_of : State × Statements → Result (List (List ℕ) × Statements) ParseFault
program_of (st, ns) = elim st.names [ [] ↦ Err NoVariables | x ∷ xs ↦ Ok (x ∷ xs, ns) ]

-- what a program means, or its first fault
abbrev pub walk : (ℕ → ℕ) → Program → Result (List (List ℕ) × Statements) ParseFault
walk line (program a b c ps d e is r f g) = walk_items line (min MOST_VARIABLES (declared_items is)) false is start_state
    >>= λ r. program_of r
