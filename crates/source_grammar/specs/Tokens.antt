-- Tokens: what each is to the grammar of a function, and how tightly signs hold.
use Rattle.std.specs.Prelude.{ℕ, ℤ, List, Option}

-- how two numbers are compared
pub data Relation : Type 0 where
  equal : Relation
  unequal : Relation
  less : Relation
  at_most : Relation
  greater : Relation
  at_least : Relation

-- the signs that stand between two sides
pub data Op : Type 0 where
  or_op : Op
  and_op : Op
  compare_op : Relation → Op
  plus_op : Op
  minus_op : Op
  times_op : Op
  over_op : Op
  remainder_op : Op

-- the signs that stand before one
pub data Prefix : Type 0 where
  negative : Prefix
  positive : Prefix
  negation : Prefix

-- what an assignment does: `=`, `+=`, `-=`, `*=`, `/=`, `%=`
pub data Change : Type 0 where
  replaces : Change
  adds : Change
  subtracts : Change
  multiplies : Change
  divides : Change
  remains : Change

-- `++` and `--`
pub data Direction : Type 0 where
  up : Direction
  down : Direction

-- `break` and `continue`
pub data Jump : Type 0 where
  breaks : Jump
  continues : Jump

-- `assume` and `assert`
pub data Demand : Type 0 where
  assumes : Demand
  asserts : Demand

-- a name as it stands in the text, and the number that it stands for there where it is a constant
pub record Name : Type 0 where
  pub text : List ℕ
  pub value : Option ℤ

-- What a token is. The words that stand for one thing are one kind; `other_sign` is whatever stands nowhere in a function.
pub data Kind : Type 0 where
  a_name : Name → Kind
  a_number : ℕ → Kind
  infix_sign : Op → Kind
  bang : Kind
  question : Kind
  colon : Kind
  left_paren : Kind
  right_paren : Kind
  left_brace : Kind
  right_brace : Kind
  left_bracket : Kind
  right_bracket : Kind
  comma : Kind
  semicolon : Kind
  change_sign : Change → Kind
  step_sign : Direction → Kind
  int_word : Kind
  void_word : Kind
  main_word : Kind
  storage_word : Kind
  const_word : Kind
  if_word : Kind
  else_word : Kind
  while_word : Kind
  do_word : Kind
  for_word : Kind
  jump_word : Jump → Kind
  return_word : Kind
  demand_word : Demand → Kind
  nondet_word : Kind
  other_sign : Kind

-- a token of a kind at a place
pub data Token : Type 0 where
  token : Kind → ℕ → Token

-- the token of a sign that stands before one side
abbrev pub sign_of : Prefix → Kind
sign_of negative = infix_sign minus_op
sign_of positive = infix_sign plus_op
sign_of negation = bang

-- how tightly a comparison holds its sides
abbrev pub relation_level : Relation → ℕ
relation_level equal = 3
relation_level unequal = 3
relation_level less = 4
relation_level at_most = 4
relation_level greater = 4
relation_level at_least = 4

-- how tightly a sign holds its sides; the loosest of all is `? :`, with 0
abbrev pub level : Op → ℕ
level or_op = 1
level and_op = 2
level (compare_op r) = relation_level r
level plus_op = 5
level minus_op = 5
level times_op = 6
level over_op = 6
level remainder_op = 6
