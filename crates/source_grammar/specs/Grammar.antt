-- One function of a C file: trees, how each is spelled, and which trees the rules on grouping allow. Those of expressions and changes are
-- in `Expressions.antt`, and named from here too.
use Rattle.std.specs.Prelude.{◌≡◌, ◌++◌, ℕ, List, [], ◌∷◌}
use Rattle.source_grammar.specs.Tokens.{times_op, replaces, Jump, Demand, Name, a_name, a_number, infix_sign, colon, left_paren}
use Rattle.source_grammar.specs.Tokens.{right_paren, left_brace, right_brace, left_bracket, right_bracket, comma, semicolon, change_sign}
use Rattle.source_grammar.specs.Tokens.{int_word, void_word, main_word, storage_word, const_word, if_word, else_word, while_word, do_word}
use Rattle.source_grammar.specs.Tokens.{for_word, jump_word, return_word, demand_word, Token, token}
pub use Rattle.source_grammar.specs.Expressions.{Expr, number, variable, element, call, stepped_behind, stepped_before, free, grouped}
pub use Rattle.source_grammar.specs.Expressions.{prefixed, joined, chosen, Arguments, no_arguments, arguments, MoreArguments, last_argument}
pub use Rattle.source_grammar.specs.Expressions.{next_argument, Subscripts, last_subscript, next_subscript, spell_expr, spell_arguments}
pub use Rattle.source_grammar.specs.Expressions.{spell_more_arguments, spell_subscripts, Groups, GoodArguments, GoodMoreArguments}
pub use Rattle.source_grammar.specs.Expressions.{GoodSubscripts, Optional, absent, present, spell_optional, GoodOptional, Index, no_index}
pub use Rattle.source_grammar.specs.Expressions.{index, spell_index, GoodIndex, Place, place, spell_place, GoodPlace, Effect, assigns}
pub use Rattle.source_grammar.specs.Expressions.{steps, spell_effect, GoodEffect, Update, update, step_before, spell_update, GoodUpdate}
pub use Rattle.source_grammar.specs.Expressions.{MoreUpdates, last_update, next_update, spell_more_updates, GoodMoreUpdates, Updates}
pub use Rattle.source_grammar.specs.Expressions.{no_updates, some_updates, spell_updates, GoodUpdates}

-- how many elements an array has: a number, or the name of a constant
pub data Size : Type 0 where
  number_size : ℕ → ℕ → Size
  name_size : Name → ℕ → Size

-- how that is spelled
abbrev pub spell_size : Size → List Token
spell_size (number_size n a) = token (a_number n) a ∷ []
spell_size (name_size x a) = token (a_name x) a ∷ []

-- the brackets of an array with its sizes
pub data Sizes : Type 0 where
  last_size : ℕ → Size → ℕ → Sizes
  next_size : ℕ → Size → ℕ → Sizes → Sizes

-- how they are spelled
abbrev pub spell_sizes : Sizes → List Token
spell_sizes (last_size a s b) = token left_bracket a ∷ (spell_size s ++ token right_bracket b ∷ [])
spell_sizes (next_size a s b ss) = token left_bracket a ∷ (spell_size s ++ token right_bracket b ∷ spell_sizes ss)

-- The values of an array: expressions, and lists of values in braces.
mutual
  -- one of them
  pub data Value : Type 0 where
    one_value : Expr → Value
    braced : ℕ → Values → ℕ → Value

  -- what stands between the braces
  pub data Values : Type 0 where
    no_values : Values
    values : Value → MoreValues → Values

  -- the values behind the first, each with the comma before it; a comma may stand behind the last
  pub data MoreValues : Type 0 where
    last_value : MoreValues
    last_comma : ℕ → MoreValues
    next_value : ℕ → Value → MoreValues → MoreValues

abbrev mutual
  -- how a value is spelled
  pub spell_value : Value → List Token
  spell_value (one_value e) = spell_expr e
  spell_value (braced a vs b) = token left_brace a ∷ (spell_values vs ++ token right_brace b ∷ [])

  -- how values are spelled
  pub spell_values : Values → List Token
  spell_values no_values = []
  spell_values (values v vs) = spell_value v ++ spell_more_values vs

  -- how the values behind the first are spelled
  pub spell_more_values : MoreValues → List Token
  spell_more_values last_value = []
  spell_more_values (last_comma a) = token comma a ∷ []
  spell_more_values (next_value a v vs) = token comma a ∷ (spell_value v ++ spell_more_values vs)

abbrev mutual
  -- the expressions of a value group as they must
  pub GoodValue : Value → Type 0
  GoodValue (one_value e) = Groups 0 e
  GoodValue (braced a vs b) = GoodValues vs

  -- those of values do
  pub GoodValues : Values → Type 0
  GoodValues no_values = Unit {0}
  GoodValues (values v vs) = GoodValue v × GoodMoreValues vs

  -- those of the values behind the first do
  pub GoodMoreValues : MoreValues → Type 0
  GoodMoreValues last_value = Unit {0}
  GoodMoreValues (last_comma a) = Unit {0}
  GoodMoreValues (next_value a v vs) = GoodValue v × GoodMoreValues vs

-- what stands behind a name that is declared: nothing, `=` and a value, or the brackets of an array with its sizes, with its values behind
-- them or not
pub data Initialiser : Type 0 where
  bare : Initialiser
  given : ℕ → Expr → Initialiser
  sized : Sizes → Initialiser
  filled : Sizes → ℕ → ℕ → Values → ℕ → Initialiser

-- how that is spelled
abbrev pub spell_initialiser : Initialiser → List Token
spell_initialiser bare = []
spell_initialiser (given a e) = token (change_sign replaces) a ∷ spell_expr e
spell_initialiser (sized ss) = spell_sizes ss
spell_initialiser (filled ss a b vs c) =
    spell_sizes ss ++ token (change_sign replaces) a ∷ token left_brace b ∷ (spell_values vs ++ token right_brace c ∷ [])

-- its expressions group as they must
abbrev pub GoodInitialiser : Initialiser → Type 0
GoodInitialiser bare = Unit {0}
GoodInitialiser (given a e) = Groups 0 e
GoodInitialiser (sized ss) = Unit {0}
GoodInitialiser (filled ss a b vs c) = GoodValues vs

-- a name that is declared
pub data Declarator : Type 0 where
  declarator : Name → ℕ → Initialiser → Declarator

-- how a declarator is spelled
abbrev pub spell_declarator : Declarator → List Token
spell_declarator (declarator x a i) = token (a_name x) a ∷ spell_initialiser i

-- its value groups as it must
abbrev pub GoodDeclarator : Declarator → Type 0
GoodDeclarator (declarator x a i) = GoodInitialiser i

-- the declarators behind the first, each with the comma before it
pub data MoreDeclarators : Type 0 where
  last_declarator : MoreDeclarators
  next_declarator : ℕ → Declarator → MoreDeclarators → MoreDeclarators

-- how they are spelled
abbrev pub spell_more_declarators : MoreDeclarators → List Token
spell_more_declarators last_declarator = []
spell_more_declarators (next_declarator a x xs) = token comma a ∷ (spell_declarator x ++ spell_more_declarators xs)

-- their values group as they must
abbrev pub GoodMoreDeclarators : MoreDeclarators → Type 0
GoodMoreDeclarators last_declarator = Unit {0}
GoodMoreDeclarators (next_declarator a x xs) = GoodDeclarator x × GoodMoreDeclarators xs

-- declarators with a comma between them
pub data Declarators : Type 0 where
  declares : Declarator → MoreDeclarators → Declarators

-- how declarators are spelled
abbrev pub spell_declarators : Declarators → List Token
spell_declarators (declares x xs) = spell_declarator x ++ spell_more_declarators xs

-- each value groups as it must
abbrev pub GoodDeclarators : Declarators → Type 0
GoodDeclarators (declares x xs) = GoodDeclarator x × GoodMoreDeclarators xs

-- what stands before the names of a declaration: `int`, or `const int`
pub data IntType : Type 0 where
  plain_int : ℕ → IntType
  const_int : ℕ → ℕ → IntType

-- how that is spelled
abbrev pub spell_type : IntType → List Token
spell_type (plain_int a) = token int_word a ∷ []
spell_type (const_int a b) = token const_word a ∷ token int_word b ∷ []

-- the first part of a `for`'s head
pub data ForFirst : Type 0 where
  declared_first : IntType → Declarators → ForFirst
  updated_first : Updates → ForFirst

-- how it is spelled
abbrev pub spell_first : ForFirst → List Token
spell_first (declared_first t xs) = spell_type t ++ spell_declarators xs
spell_first (updated_first us) = spell_updates us

-- its expressions group as they must
abbrev pub GoodFirst : ForFirst → Type 0
GoodFirst (declared_first t xs) = GoodDeclarators xs
GoodFirst (updated_first us) = GoodUpdates us

-- Statements: `repeat` is a `while`, `repeat_after` a `do`.
mutual
  -- a statement without labels
  pub data Core : Type 0 where
    empty : ℕ → Core
    block : ℕ → Items → ℕ → Core
    if_alone : ℕ → ℕ → Expr → ℕ → Sub → Core
    if_else : ℕ → ℕ → Expr → ℕ → Sub → ℕ → Sub → Core
    repeat : ℕ → ℕ → Expr → ℕ → Sub → Core
    repeat_after : ℕ → Sub → ℕ → ℕ → Expr → ℕ → ℕ → Core
    repeat_for : ℕ → ℕ → ForFirst → ℕ → Optional → ℕ → Updates → ℕ → Sub → Core
    jumps : Jump → ℕ → ℕ → Core
    returns : ℕ → Optional → ℕ → Core
    demands : Demand → ℕ → ℕ → Expr → ℕ → ℕ → Core
    calls : Name → ℕ → ℕ → Arguments → ℕ → ℕ → Core
    updates : Update → ℕ → Core

  -- a statement under another one, with its labels
  pub data Sub : Type 0 where
    labelled : Name → ℕ → ℕ → Sub → Sub
    plain : Core → Sub

  -- the statements, labels and declarations of a block
  pub data Items : Type 0 where
    no_items : Items
    label : Name → ℕ → ℕ → Items → Items
    declaration : IntType → Declarators → ℕ → Items → Items
    item : Core → Items → Items

abbrev mutual
  -- how a statement without labels is spelled
  pub spell_core : Core → List Token
  spell_core (empty a) = token semicolon a ∷ []
  spell_core (block a is b) = token left_brace a ∷ (spell_items is ++ token right_brace b ∷ [])
  spell_core (if_alone a b e c s) = token if_word a ∷ token left_paren b ∷ (spell_expr e ++ token right_paren c ∷ spell_sub s)
  spell_core (if_else a b e c s d t) =
      token if_word a ∷ token left_paren b ∷ (spell_expr e ++ token right_paren c ∷ (spell_sub s ++ token else_word d ∷ spell_sub t))
  spell_core (repeat a b e c s) = token while_word a ∷ token left_paren b ∷ (spell_expr e ++ token right_paren c ∷ spell_sub s)
  spell_core (repeat_after a s b c e d i) =
      token do_word a ∷ (spell_sub s ++ token while_word b ∷ token left_paren c
      ∷ (spell_expr e ++ token right_paren d ∷ token semicolon i ∷ []))
  spell_core (repeat_for a b f c t d us i s) = token for_word a ∷ token left_paren b ∷ (spell_first f ++ token semicolon c
      ∷ (spell_optional t ++ token semicolon d ∷ (spell_updates us ++ token right_paren i ∷ spell_sub s)))
  spell_core (jumps j a b) = token (jump_word j) a ∷ token semicolon b ∷ []
  spell_core (returns a t b) = token return_word a ∷ (spell_optional t ++ token semicolon b ∷ [])
  spell_core (demands k a b e c d) =
      token (demand_word k) a ∷ token left_paren b ∷ (spell_expr e ++ token right_paren c ∷ token semicolon d ∷ [])
  spell_core (calls x a b es c d) =
      token (a_name x) a ∷ token left_paren b ∷ (spell_arguments es ++ token right_paren c ∷ token semicolon d ∷ [])
  spell_core (updates u c) = spell_update u ++ token semicolon c ∷ []

  -- how a statement with its labels is spelled
  pub spell_sub : Sub → List Token
  spell_sub (labelled x a b s) = token (a_name x) a ∷ token colon b ∷ spell_sub s
  spell_sub (plain c) = spell_core c

  -- how the statements of a block are spelled
  pub spell_items : Items → List Token
  spell_items no_items = []
  spell_items (label x a b is) = token (a_name x) a ∷ token colon b ∷ spell_items is
  spell_items (declaration t xs b is) = spell_type t ++ (spell_declarators xs ++ token semicolon b ∷ spell_items is)
  spell_items (item c is) = spell_core c ++ spell_items is

-- Whether an `if` at the very end has no `else`.
pub data Ending : Type 0 where
  shut : Ending
  waiting : Ending

abbrev mutual
  -- whether a statement without labels ends with such an `if`
  pub ending_core : Core → Ending
  ending_core (empty a) = shut
  ending_core (block a is b) = shut
  ending_core (if_alone a b e c s) = waiting
  ending_core (if_else a b e c s d t) = ending_sub t
  ending_core (repeat a b e c s) = ending_sub s
  ending_core (repeat_after a s b c e d i) = shut
  ending_core (repeat_for a b f c t d us i s) = ending_sub s
  ending_core (jumps j a b) = shut
  ending_core (returns a t b) = shut
  ending_core (demands k a b e c d) = shut
  ending_core (calls x a b es c d) = shut
  ending_core (updates u c) = shut

  -- whether a statement with its labels ends with such an `if`
  pub ending_sub : Sub → Ending
  ending_sub (labelled x a b s) = ending_sub s
  ending_sub (plain c) = ending_core c

-- Expressions group as they must, and each `else` belongs to the nearest `if` that has none.
abbrev mutual
  -- a statement without labels is good
  pub GoodCore : Core → Type 0
  GoodCore (empty a) = Unit {0}
  GoodCore (block a is b) = GoodItems is
  GoodCore (if_alone a b e c s) = Groups 0 e × GoodSub s
  GoodCore (if_else a b e c s d t) = Groups 0 e × GoodSub s × (ending_sub s ≡ shut) × GoodSub t
  GoodCore (repeat a b e c s) = Groups 0 e × GoodSub s
  GoodCore (repeat_after a s b c e d i) = GoodSub s × Groups 0 e
  GoodCore (repeat_for a b f c t d us i s) = GoodFirst f × GoodOptional t × GoodUpdates us × GoodSub s
  GoodCore (jumps j a b) = Unit {0}
  GoodCore (returns a t b) = GoodOptional t
  GoodCore (demands k a b e c d) = Groups 0 e
  GoodCore (calls x a b es c d) = GoodArguments es
  GoodCore (updates u c) = GoodUpdate u

  -- a statement with its labels is good
  pub GoodSub : Sub → Type 0
  GoodSub (labelled x a b s) = GoodSub s
  GoodSub (plain c) = GoodCore c

  -- the statements of a block are good
  pub GoodItems : Items → Type 0
  GoodItems no_items = Unit {0}
  GoodItems (label x a b is) = GoodItems is
  GoodItems (declaration t xs b is) = GoodDeclarators xs × GoodItems is
  GoodItems (item c is) = GoodCore c × GoodItems is

-- what stands before a function's name: `static`, `inline` and `extern`, and its type
pub data Specifiers : Type 0 where
  gives_int : ℕ → Specifiers
  gives_void : ℕ → Specifiers
  storage : ℕ → Specifiers → Specifiers

-- how that is spelled
abbrev pub spell_specifiers : Specifiers → List Token
spell_specifiers (gives_int a) = token int_word a ∷ []
spell_specifiers (gives_void a) = token void_word a ∷ []
spell_specifiers (storage a ss) = token storage_word a ∷ spell_specifiers ss

-- a function's name
pub data FunctionName : Type 0 where
  called : Name → ℕ → FunctionName
  called_main : ℕ → FunctionName

-- how it is spelled
abbrev pub spell_function_name : FunctionName → List Token
spell_function_name (called x a) = token (a_name x) a ∷ []
spell_function_name (called_main a) = token main_word a ∷ []

-- the brackets of an array that is a parameter; the first may be empty
pub data Bounds : Type 0 where
  sized_bounds : Sizes → Bounds
  open_bound : ℕ → ℕ → Bounds
  open_bounds : ℕ → ℕ → Sizes → Bounds

-- how they are spelled
abbrev pub spell_bounds : Bounds → List Token
spell_bounds (sized_bounds ss) = spell_sizes ss
spell_bounds (open_bound a b) = token left_bracket a ∷ token right_bracket b ∷ []
spell_bounds (open_bounds a b ss) = token left_bracket a ∷ token right_bracket b ∷ spell_sizes ss

-- a parameter: a number, or an array by a pointer or with brackets
pub data Parameter : Type 0 where
  number_parameter : IntType → Name → ℕ → Parameter
  pointer_parameter : IntType → ℕ → Name → ℕ → Parameter
  array_parameter : IntType → Name → ℕ → Bounds → Parameter

-- how it is spelled
abbrev pub spell_parameter : Parameter → List Token
spell_parameter (number_parameter t x a) = spell_type t ++ token (a_name x) a ∷ []
spell_parameter (pointer_parameter t a x b) = spell_type t ++ token (infix_sign times_op) a ∷ token (a_name x) b ∷ []
spell_parameter (array_parameter t x a bs) = spell_type t ++ token (a_name x) a ∷ spell_bounds bs

-- the parameters behind the first, each with the comma before it
pub data MoreParameters : Type 0 where
  last_parameter : MoreParameters
  next_parameter : ℕ → Parameter → MoreParameters → MoreParameters

-- how they are spelled
abbrev pub spell_more_parameters : MoreParameters → List Token
spell_more_parameters last_parameter = []
spell_more_parameters (next_parameter a p ps) = token comma a ∷ (spell_parameter p ++ spell_more_parameters ps)

-- what stands between the parentheses of a function
pub data Parameters : Type 0 where
  no_parameters : Parameters
  void_parameters : ℕ → Parameters
  some_parameters : Parameter → MoreParameters → Parameters

-- how it is spelled
abbrev pub spell_parameters : Parameters → List Token
spell_parameters no_parameters = []
spell_parameters (void_parameters a) = token void_word a ∷ []
spell_parameters (some_parameters p ps) = spell_parameter p ++ spell_more_parameters ps

-- a function: what stands before its name, its name, its parameters in parentheses, and its body in braces
pub data Function : Type 0 where
  function : Specifiers → FunctionName → ℕ → Parameters → ℕ → ℕ → Items → ℕ → Function

-- how a function is spelled
abbrev pub spell : Function → List Token
spell (function ss n a ps b c is d) = spell_specifiers ss ++ (spell_function_name n ++ token left_paren a ∷ (spell_parameters ps
    ++ token right_paren b ∷ token left_brace c ∷ (spell_items is ++ token right_brace d ∷ [])))

-- the statements of a function are good
abbrev pub Good : Function → Type 0
Good (function ss n a ps b c is d) = GoodItems is

-- The tokens read as this function.
pub record Reads (tokens : List Token) (f : Function) : Type 0 where
  pub spelled : spell f ≡ tokens
  pub good : Good f

-- The tokens begin a function.
abbrev pub Begins : List Token → Type 0
Begins front = (f : Function) × (rest : List Token) × Reads (front ++ rest) f

-- The tokens before this one begin a function, and with it they begin none.
abbrev pub IsUnexpected : List Token → Token → Type 0
IsUnexpected front t = Begins front × (Begins (front ++ t ∷ []) → ⊥)
