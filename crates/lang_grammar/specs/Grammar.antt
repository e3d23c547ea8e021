-- The language: trees, how each is spelled, and which trees the rules on grouping allow.
use Rattle.std.specs.Prelude.{◌≡◌, ◌≤◌, ◌++◌, ℕ, suc, List, [], ◌∷◌}

-- how two numbers are compared
pub data Relation : Type 0 where
  equal : Relation
  unequal : Relation
  less : Relation
  at_most : Relation
  greater : Relation
  at_least : Relation

-- the signs that stand between two sides
pub data Op : Type 0 where
  or_op : Op
  and_op : Op
  compare_op : Relation → Op
  plus_op : Op
  minus_op : Op
  times_op : Op

-- the signs that stand before one
pub data Prefix : Type 0 where
  negative : Prefix
  positive : Prefix
  negation : Prefix

-- what an assignment does: `=`, `+=`, `-=`
pub data Change : Type 0 where
  replaces : Change
  adds : Change
  subtracts : Change

-- `++` and `--`
pub data Direction : Type 0 where
  up : Direction
  down : Direction

-- `break` and `continue`
pub data Jump : Type 0 where
  breaks : Jump
  continues : Jump

-- `assume` and `assert`
pub data Demand : Type 0 where
  assumes : Demand
  asserts : Demand

-- What a token is. The words that stand for one thing are one kind; `other_word` is a reserved word or a
-- sign that stands nowhere.
pub data Kind : Type 0 where
  a_name : List ℕ → Kind
  a_number : ℕ → Kind
  infix_sign : Op → Kind
  bang : Kind
  left_paren : Kind
  right_paren : Kind
  left_brace : Kind
  right_brace : Kind
  comma : Kind
  semicolon : Kind
  colon : Kind
  change_sign : Change → Kind
  step_sign : Direction → Kind
  int_word : Kind
  main_word : Kind
  void_word : Kind
  if_word : Kind
  else_word : Kind
  while_word : Kind
  do_word : Kind
  for_word : Kind
  jump_word : Jump → Kind
  return_word : Kind
  demand_word : Demand → Kind
  nondet_word : Kind
  other_word : Kind
  the_end : Kind

-- a token of a kind at a place
pub data Token : Type 0 where
  token : Kind → ℕ → Token

-- the token of a sign that stands before one side
abbrev pub sign_of : Prefix → Kind
sign_of negative = infix_sign minus_op
sign_of positive = infix_sign plus_op
sign_of negation = bang

-- how tightly a comparison holds its sides
abbrev pub relation_level : Relation → ℕ
relation_level equal = 2
relation_level unequal = 2
relation_level less = 3
relation_level at_most = 3
relation_level greater = 3
relation_level at_least = 3

-- how tightly a sign holds its sides
abbrev pub level : Op → ℕ
level or_op = 0
level and_op = 1
level (compare_op r) = relation_level r
level plus_op = 4
level minus_op = 4
level times_op = 5

-- An expression. Here and below each ℕ that isn't a number's value is the place of a token, in the order of the text.
pub data Expr : Type 0 where
  number : ℕ → ℕ → Expr
  variable : List ℕ → ℕ → Expr
  free : ℕ → ℕ → ℕ → Expr
  grouped : ℕ → Expr → ℕ → Expr
  prefixed : Prefix → ℕ → Expr → Expr
  joined : Expr → Op → ℕ → Expr → Expr

-- how an expression is spelled
abbrev pub spell_expr : Expr → List Token
spell_expr (number n a) = token (a_number n) a ∷ []
spell_expr (variable x a) = token (a_name x) a ∷ []
spell_expr (free a b c) = token nondet_word a ∷ token left_paren b ∷ token right_paren c ∷ []
spell_expr (grouped a e b) = token left_paren a ∷ (spell_expr e ++ token right_paren b ∷ [])
spell_expr (prefixed p a e) = token (sign_of p) a ∷ spell_expr e
spell_expr (joined e o a f) = spell_expr e ++ token (infix_sign o) a ∷ spell_expr f

-- The tree groups as the levels say: no sign above holds looser than l, repeated ones group to the left.
abbrev pub Groups : ℕ → Expr → Type 0
Groups l (number n a) = Unit {0}
Groups l (variable x a) = Unit {0}
Groups l (free a b c) = Unit {0}
Groups l (grouped a e b) = Groups 0 e
Groups l (prefixed p a e) = Groups 6 e
Groups l (joined e o a f) = (l ≤ level o) × Groups (level o) e × Groups (suc (level o)) f

-- a name that is declared, with `=` and an initialiser or without
pub data Declarator : Type 0 where
  bare : List ℕ → ℕ → Declarator
  given : List ℕ → ℕ → ℕ → Expr → Declarator

-- declarators with a comma between them and a `;` at the end
pub data Declarators : Type 0 where
  declares : Declarator → ℕ → Declarators
  declares_more : Declarator → ℕ → Declarators → Declarators

-- how a declarator is spelled
abbrev pub spell_declarator : Declarator → List Token
spell_declarator (bare x a) = token (a_name x) a ∷ []
spell_declarator (given x a b e) = token (a_name x) a ∷ token (change_sign replaces) b ∷ spell_expr e

-- how declarators are spelled
abbrev pub spell_declarators : Declarators → List Token
spell_declarators (declares x a) = spell_declarator x ++ token semicolon a ∷ []
spell_declarators (declares_more x a xs) = spell_declarator x ++ token comma a ∷ spell_declarators xs

-- an initialiser groups as it must
abbrev pub GoodDeclarator : Declarator → Type 0
GoodDeclarator (bare x a) = Unit {0}
GoodDeclarator (given x a b e) = Groups 0 e

-- each initialiser groups as it must
abbrev pub GoodDeclarators : Declarators → Type 0
GoodDeclarators (declares x a) = GoodDeclarator x
GoodDeclarators (declares_more x a xs) = GoodDeclarator x × GoodDeclarators xs

-- an assignment, or a step of a variable with the sign behind it or before it
pub data Update : Type 0 where
  set : List ℕ → ℕ → Change → ℕ → Expr → Update
  step_after : List ℕ → ℕ → Direction → ℕ → Update
  step_before : Direction → ℕ → List ℕ → ℕ → Update

-- the head of a `for`: its first part with the `;`, its condition with the `;`, its change with the `)`
pub data ForFirst : Type 0 where
  no_first : ℕ → ForFirst
  declared_first : ℕ → Declarators → ForFirst
  updated_first : Update → ℕ → ForFirst

-- the condition of a `for`, or none
pub data ForTest : Type 0 where
  no_test : ℕ → ForTest
  given_test : Expr → ℕ → ForTest

-- the change of a `for`, or none
pub data ForLast : Type 0 where
  no_last : ℕ → ForLast
  updated_last : Update → ℕ → ForLast

-- how an assignment or a step is spelled
abbrev pub spell_update : Update → List Token
spell_update (set x a g b e) = token (a_name x) a ∷ token (change_sign g) b ∷ spell_expr e
spell_update (step_after x a g b) = token (a_name x) a ∷ token (step_sign g) b ∷ []
spell_update (step_before g a x b) = token (step_sign g) a ∷ token (a_name x) b ∷ []

-- how the first part of a `for`'s head is spelled
abbrev pub spell_first : ForFirst → List Token
spell_first (no_first a) = token semicolon a ∷ []
spell_first (declared_first a xs) = token int_word a ∷ spell_declarators xs
spell_first (updated_first u a) = spell_update u ++ token semicolon a ∷ []

-- how the condition of a `for`'s head is spelled
abbrev pub spell_test : ForTest → List Token
spell_test (no_test a) = token semicolon a ∷ []
spell_test (given_test e a) = spell_expr e ++ token semicolon a ∷ []

-- how the change of a `for`'s head is spelled
abbrev pub spell_last : ForLast → List Token
spell_last (no_last a) = token right_paren a ∷ []
spell_last (updated_last u a) = spell_update u ++ token right_paren a ∷ []

-- the expression of an assignment groups as it must
abbrev pub GoodUpdate : Update → Type 0
GoodUpdate (set x a g b e) = Groups 0 e
GoodUpdate (step_after x a g b) = Unit {0}
GoodUpdate (step_before g a x b) = Unit {0}

-- the expressions of the first part of a `for`'s head group as they must
abbrev pub GoodFirst : ForFirst → Type 0
GoodFirst (no_first a) = Unit {0}
GoodFirst (declared_first a xs) = GoodDeclarators xs
GoodFirst (updated_first u a) = GoodUpdate u

-- the condition of a `for`'s head groups as it must
abbrev pub GoodTest : ForTest → Type 0
GoodTest (no_test a) = Unit {0}
GoodTest (given_test e a) = Groups 0 e

-- the expression of the change of a `for`'s head groups as it must
abbrev pub GoodLast : ForLast → Type 0
GoodLast (no_last a) = Unit {0}
GoodLast (updated_last u a) = GoodUpdate u

-- Statements: `repeat` is a `while`, `repeat_after` a `do`.
mutual
  -- a statement without labels
  pub data Core : Type 0 where
    empty : ℕ → Core
    block : ℕ → Items → ℕ → Core
    if_alone : ℕ → ℕ → Expr → ℕ → Sub → Core
    if_else : ℕ → ℕ → Expr → ℕ → Sub → ℕ → Sub → Core
    repeat : ℕ → ℕ → Expr → ℕ → Sub → Core
    repeat_after : ℕ → Sub → ℕ → ℕ → Expr → ℕ → ℕ → Core
    repeat_for : ℕ → ℕ → ForFirst → ForTest → ForLast → Sub → Core
    jumps : Jump → ℕ → ℕ → Core
    demands : Demand → ℕ → ℕ → Expr → ℕ → ℕ → Core
    updates : Update → ℕ → Core

  -- a statement under another one, with its labels
  pub data Sub : Type 0 where
    labelled : List ℕ → ℕ → ℕ → Sub → Sub
    plain : Core → Sub

  -- the statements, labels and declarations of a block
  pub data Items : Type 0 where
    no_items : Items
    label : List ℕ → ℕ → ℕ → Items → Items
    declaration : ℕ → Declarators → Items → Items
    item : Core → Items → Items

abbrev mutual
  -- how a statement without labels is spelled
  pub spell_core : Core → List Token
  spell_core (empty a) = token semicolon a ∷ []
  spell_core (block a is b) = token left_brace a ∷ (spell_items is ++ token right_brace b ∷ [])
  spell_core (if_alone a b e c s) = token if_word a ∷ token left_paren b ∷ (spell_expr e ++ token right_paren c ∷ spell_sub s)
  spell_core (if_else a b e c s d t) =
      token if_word a ∷ token left_paren b ∷ (spell_expr e ++ token right_paren c ∷ (spell_sub s ++ token else_word d ∷ spell_sub t))
  spell_core (repeat a b e c s) = token while_word a ∷ token left_paren b ∷ (spell_expr e ++ token right_paren c ∷ spell_sub s)
  spell_core (repeat_after a s b c e d i) =
      token do_word a ∷ (spell_sub s ++ token while_word b ∷ token left_paren c
      ∷ (spell_expr e ++ token right_paren d ∷ token semicolon i ∷ []))
  spell_core (repeat_for a b f t l s) = token for_word a ∷ token left_paren b
      ∷ (spell_first f ++ (spell_test t ++ (spell_last l ++ spell_sub s)))
  spell_core (jumps j a b) = token (jump_word j) a ∷ token semicolon b ∷ []
  spell_core (demands k a b e c d) =
      token (demand_word k) a ∷ token left_paren b ∷ (spell_expr e ++ token right_paren c ∷ token semicolon d ∷ [])
  spell_core (updates u c) = spell_update u ++ token semicolon c ∷ []

  -- how a statement with its labels is spelled
  pub spell_sub : Sub → List Token
  spell_sub (labelled x a b s) = token (a_name x) a ∷ token colon b ∷ spell_sub s
  spell_sub (plain c) = spell_core c

  -- how the statements of a block are spelled
  pub spell_items : Items → List Token
  spell_items no_items = []
  spell_items (label x a b is) = token (a_name x) a ∷ token colon b ∷ spell_items is
  spell_items (declaration a xs is) = token int_word a ∷ (spell_declarators xs ++ spell_items is)
  spell_items (item c is) = spell_core c ++ spell_items is

-- Whether an `if` at the very end has no `else`.
pub data Ending : Type 0 where
  shut : Ending
  waiting : Ending

abbrev mutual
  -- whether a statement without labels ends with such an `if`
  pub ending_core : Core → Ending
  ending_core (empty a) = shut
  ending_core (block a is b) = shut
  ending_core (if_alone a b e c s) = waiting
  ending_core (if_else a b e c s d t) = ending_sub t
  ending_core (repeat a b e c s) = ending_sub s
  ending_core (repeat_after a s b c e d i) = shut
  ending_core (repeat_for a b f t l s) = ending_sub s
  ending_core (jumps j a b) = shut
  ending_core (demands k a b e c d) = shut
  ending_core (updates u c) = shut

  -- whether a statement with its labels ends with such an `if`
  pub ending_sub : Sub → Ending
  ending_sub (labelled x a b s) = ending_sub s
  ending_sub (plain c) = ending_core c

-- Expressions group as they must, and each `else` belongs to the nearest `if` that has none.
abbrev mutual
  -- a statement without labels is good
  pub GoodCore : Core → Type 0
  GoodCore (empty a) = Unit {0}
  GoodCore (block a is b) = GoodItems is
  GoodCore (if_alone a b e c s) = Groups 0 e × GoodSub s
  GoodCore (if_else a b e c s d t) = Groups 0 e × GoodSub s × (ending_sub s ≡ shut) × GoodSub t
  GoodCore (repeat a b e c s) = Groups 0 e × GoodSub s
  GoodCore (repeat_after a s b c e d i) = GoodSub s × Groups 0 e
  GoodCore (repeat_for a b f t l s) = GoodFirst f × GoodTest t × GoodLast l × GoodSub s
  GoodCore (jumps j a b) = Unit {0}
  GoodCore (demands k a b e c d) = Groups 0 e
  GoodCore (updates u c) = GoodUpdate u

  -- a statement with its labels is good
  pub GoodSub : Sub → Type 0
  GoodSub (labelled x a b s) = GoodSub s
  GoodSub (plain c) = GoodCore c

  -- the statements of a block are good
  pub GoodItems : Items → Type 0
  GoodItems no_items = Unit {0}
  GoodItems (label x a b is) = GoodItems is
  GoodItems (declaration a xs is) = GoodDeclarators xs × GoodItems is
  GoodItems (item c is) = GoodCore c × GoodItems is

-- what stands between the parentheses of `main`
pub data Parameters : Type 0 where
  nothing : Parameters
  void_at : ℕ → Parameters

-- how `main` ends: with `return`, maybe a `-`, a number and `;`, or without
pub data Return : Type 0 where
  no_return : Return
  returns : ℕ → ℕ → ℕ → ℕ → Return
  returns_minus : ℕ → ℕ → ℕ → ℕ → ℕ → Return

-- how the parameters of `main` are spelled
abbrev pub spell_parameters : Parameters → List Token
spell_parameters nothing = []
spell_parameters (void_at a) = token void_word a ∷ []

-- how the end of `main` is spelled
abbrev pub spell_return : Return → List Token
spell_return no_return = []
spell_return (returns a n b c) = token return_word a ∷ token (a_number n) b ∷ token semicolon c ∷ []
spell_return (returns_minus a b n c d) = token return_word a ∷ token (infix_sign minus_op) b ∷ token (a_number n) c ∷ token semicolon d ∷ []

-- `int main ( .. ) { .. }` and the end of the text
pub data Program : Type 0 where
  program : ℕ → ℕ → ℕ → Parameters → ℕ → ℕ → Items → Return → ℕ → ℕ → Program

-- how a program is spelled
abbrev pub spell : Program → List Token
spell (program a b c ps d e is r f g) =
    token int_word a ∷ token main_word b ∷ token left_paren c ∷ (spell_parameters ps
    ++ token right_paren d ∷ token left_brace e ∷ (spell_items is ++ (spell_return r ++ token right_brace f ∷ token the_end g ∷ [])))

-- the statements of the program are good
abbrev pub Good : Program → Type 0
Good (program a b c ps d e is r f g) = GoodItems is

-- The tokens read as this program.
pub record Reads (tokens : List Token) (p : Program) : Type 0 where
  pub spelled : spell p ≡ tokens
  pub good : Good p

-- The tokens begin a sentence of the grammar.
abbrev pub Begins : List Token → Type 0
Begins front = (p : Program) × (rest : List Token) × Reads (front ++ rest) p

-- The tokens before this one begin a sentence, and with it they begin none.
abbrev pub IsUnexpected : List Token → Token → Type 0
IsUnexpected front t = Begins front × (Begins (front ++ t ∷ []) → ⊥)
