-- A tree at other places is spelled by the tokens at those places, and is good where it was.
use Rattle.std.proofs.Common.{◌≡◌, ◌∙◌, ◌++◌, ℕ, suc, List, [], ◌∷◌, refl, ap, ap₂, sym}
use Rattle.std.proofs.lemmas.List.{map-append}
use Rattle.source_grammar.specs.Tokens.{a_name, a_number, infix_sign, question, colon, left_paren, right_paren, left_brace, right_brace}
use Rattle.source_grammar.specs.Tokens.{left_bracket, right_bracket, comma, semicolon, change_sign, step_sign, int_word, void_word}
use Rattle.source_grammar.specs.Tokens.{main_word, storage_word, const_word, if_word, else_word, while_word, do_word, for_word, jump_word}
use Rattle.source_grammar.specs.Tokens.{return_word}
use Rattle.source_grammar.specs.Tokens.{demand_word, nondet_word, Token, token, sign_of, level, replaces, times_op}
use Rattle.source_grammar.specs.Expressions.{Expr, Arguments, MoreArguments, Optional, Index, Place, Effect, Update, MoreUpdates, Updates}
use Rattle.source_grammar.specs.Grammar.{Initialiser, Declarator, MoreDeclarators, Declarators, ForFirst, Core, Sub, Items, Specifiers}
use Rattle.source_grammar.specs.Expressions.{number, variable, element, call, free, grouped}
use Rattle.source_grammar.specs.Grammar.{FunctionName, MoreParameters, Parameters, Function}
use Rattle.source_grammar.specs.Expressions.{prefixed, joined, chosen, no_arguments, arguments, last_argument, next_argument, absent}
use Rattle.source_grammar.specs.Expressions.{present}
use Rattle.source_grammar.specs.Expressions.{no_index, index, place, assigns, steps, update, step_before, last_update, next_update}
use Rattle.source_grammar.specs.Expressions.{no_updates}
use Rattle.source_grammar.specs.Expressions.{some_updates}
use Rattle.source_grammar.specs.Grammar.{bare, given, sized, declarator, last_declarator, next_declarator, declares}
use Rattle.source_grammar.specs.Grammar.{declared_first, updated_first, empty, block, if_alone, if_else, repeat, repeat_after, repeat_for}
use Rattle.source_grammar.specs.Grammar.{jumps, returns, demands, calls, updates, labelled, plain, no_items, label, declaration, item}
use Rattle.source_grammar.specs.Grammar.{gives_int, gives_void, storage, called, called_main, last_parameter, next_parameter, no_parameters}
use Rattle.source_grammar.specs.Expressions.{stepped_behind, stepped_before, Subscripts, last_subscript, next_subscript}
use Rattle.source_grammar.specs.Grammar.{Size, number_size}
use Rattle.source_grammar.specs.Grammar.{name_size, Sizes, last_size, next_size, Value, one_value, braced, Values, no_values, values}
use Rattle.source_grammar.specs.Grammar.{MoreValues, last_value, last_comma, next_value, filled, IntType, plain_int, const_int, Bounds}
use Rattle.source_grammar.specs.Grammar.{sized_bounds, open_bound, open_bounds, Parameter, number_parameter, pointer_parameter}
use Rattle.source_grammar.specs.Grammar.{array_parameter}
use Rattle.source_grammar.specs.Grammar.{spell_subscripts, spell_size, spell_sizes, spell_value, spell_values, spell_more_values}
use Rattle.source_grammar.specs.Grammar.{spell_type, spell_bounds, spell_parameter, GoodSubscripts, GoodValue, GoodValues, GoodMoreValues}
use Rattle.source_grammar.specs.Grammar.{void_parameters, some_parameters, function, spell_expr, spell_arguments, spell_more_arguments}
use Rattle.source_grammar.specs.Expressions.{spell_optional, spell_index, spell_place, spell_effect, spell_update, spell_more_updates}
use Rattle.source_grammar.specs.Expressions.{spell_updates}
use Rattle.source_grammar.specs.Grammar.{spell_initialiser, spell_declarator, spell_more_declarators, spell_declarators}
use Rattle.source_grammar.specs.Grammar.{spell_first, spell_core, spell_sub, spell_items, spell_specifiers, spell_function_name}
use Rattle.source_grammar.specs.Grammar.{spell_more_parameters, spell_parameters, spell, Groups, GoodArguments, GoodMoreArguments}
use Rattle.source_grammar.specs.Expressions.{GoodOptional, GoodIndex, GoodPlace, GoodEffect, GoodUpdate, GoodMoreUpdates, GoodUpdates}
use Rattle.source_grammar.specs.Grammar.{GoodInitialiser, GoodDeclarator, GoodMoreDeclarators, GoodDeclarators, GoodFirst, GoodCore}
use Rattle.source_grammar.specs.Grammar.{GoodSub, GoodItems, Good, ending_core, ending_sub, Reads}
use Rattle.acsl_shift.specs.Moves.{move, moved}
use Rattle.acsl_shift.proofs.moves.Trees.{move_expr, move_arguments, move_more_arguments, move_optional, move_index, move_place}
use Rattle.acsl_shift.proofs.moves.Trees.{move_effect, move_update, move_more_updates, move_updates, move_initialiser, move_declarator}
use Rattle.acsl_shift.proofs.moves.Trees.{move_more_declarators, move_declarators, move_first, move_core, move_sub, move_items}
use Rattle.acsl_shift.proofs.moves.Trees.{move_specifiers, move_function_name, move_more_parameters, move_parameters, move_function}
use Rattle.acsl_shift.proofs.moves.Trees.{move_subscripts, move_size, move_sizes, move_value, move_values, move_more_values, move_type}
use Rattle.acsl_shift.proofs.moves.Trees.{move_bounds, move_parameter}

-- tokens, and the same at other places
pub record Moved (to : ℕ → ℕ) (tokens now : List Token) : Type 0 where
  -- they are those tokens
  pub same : now ≡ moved to tokens

module _ (to : ℕ → ℕ) where
  -- no tokens
  none : Moved to [] []
  none = record { same = refl }

  -- a token before others
  behind : {ys now : List Token} (t : Token) → Moved to ys now → Moved to (t ∷ ys) (move to t ∷ now)
  behind t e = record { same = ap (λ x. move to t ∷ x) e.same }

  -- tokens before others
  after : {xs now ys then : List Token} → Moved to xs now → Moved to ys then → Moved to (xs ++ ys) (now ++ then)
  after {xs = xs} {ys = ys} e f = record { same = ap₂ (λ x y. x ++ y) e.same f.same ∙ sym (map-append (move to) xs ys) }

  -- ---- spelling
  mutual
    -- an expression
    pub spelled_expr : (x : Expr) → Moved to (spell_expr x) (spell_expr (move_expr to x))
    spelled_expr (number n a) = behind (token (a_number n) a) none
    spelled_expr (variable x a) = behind (token (a_name x) a) none
    spelled_expr (element x a is) = behind (token (a_name x) a) (spelled_subscripts is)
    spelled_expr (call x a b es c) =
        behind (token (a_name x) a) (behind (token left_paren b) (after (spelled_arguments es) (behind (token right_paren c) none)))
    spelled_expr (stepped_behind x a g b) = behind (token (a_name x) a) (behind (token (step_sign g) b) none)
    spelled_expr (stepped_before g a x b) = behind (token (step_sign g) a) (behind (token (a_name x) b) none)
    spelled_expr (free a b c) = behind (token nondet_word a) (behind (token left_paren b) (behind (token right_paren c) none))
    spelled_expr (grouped a e b) = behind (token left_paren a) (after (spelled_expr e) (behind (token right_paren b) none))
    spelled_expr (prefixed p a e) = behind (token (sign_of p) a) (spelled_expr e)
    spelled_expr (joined e o a f) = after (spelled_expr e) (behind (token (infix_sign o) a) (spelled_expr f))
    spelled_expr (chosen c a e b f) =
        after (spelled_expr c) (behind (token question a) (after (spelled_expr e) (behind (token colon b) (spelled_expr f))))

    -- arguments
    spelled_arguments : (x : Arguments) → Moved to (spell_arguments x) (spell_arguments (move_arguments to x))
    spelled_arguments no_arguments = none
    spelled_arguments (arguments e es) = after (spelled_expr e) (spelled_more_arguments es)

    -- the arguments behind the first
    spelled_more_arguments : (x : MoreArguments) → Moved to (spell_more_arguments x) (spell_more_arguments (move_more_arguments to x))
    spelled_more_arguments last_argument = none
    spelled_more_arguments (next_argument a e es) = behind (token comma a) (after (spelled_expr e) (spelled_more_arguments es))

    -- the brackets of an element
    spelled_subscripts : (x : Subscripts) → Moved to (spell_subscripts x) (spell_subscripts (move_subscripts to x))
    spelled_subscripts (last_subscript a e b) =
        behind (token left_bracket a) (after (spelled_expr e) (behind (token right_bracket b) none))
    spelled_subscripts (next_subscript a e b is) =
        behind (token left_bracket a) (after (spelled_expr e) (behind (token right_bracket b) (spelled_subscripts is)))

  -- an expression that may be absent
  spelled_optional : (x : Optional) → Moved to (spell_optional x) (spell_optional (move_optional to x))
  spelled_optional absent = none
  spelled_optional (present e) = spelled_expr e

  -- the brackets of an element or none
  spelled_index : (x : Index) → Moved to (spell_index x) (spell_index (move_index to x))
  spelled_index no_index = none
  spelled_index (index is) = spelled_subscripts is

  -- a variable or an element that is changed
  spelled_place : (x : Place) → Moved to (spell_place x) (spell_place (move_place to x))
  spelled_place (place x a i) = behind (token (a_name x) a) (spelled_index i)

  -- what is done to it
  spelled_effect : (x : Effect) → Moved to (spell_effect x) (spell_effect (move_effect to x))
  spelled_effect (assigns g a e) = behind (token (change_sign g) a) (spelled_expr e)
  spelled_effect (steps g a) = behind (token (step_sign g) a) none

  -- a change
  pub spelled_update : (x : Update) → Moved to (spell_update x) (spell_update (move_update to x))
  spelled_update (update p f) = after (spelled_place p) (spelled_effect f)
  spelled_update (step_before g a p) = behind (token (step_sign g) a) (spelled_place p)

  -- the changes behind the first
  spelled_more_updates : (x : MoreUpdates) → Moved to (spell_more_updates x) (spell_more_updates (move_more_updates to x))
  spelled_more_updates last_update = none
  spelled_more_updates (next_update a u us) = behind (token comma a) (after (spelled_update u) (spelled_more_updates us))

  -- changes in order
  spelled_updates : (x : Updates) → Moved to (spell_updates x) (spell_updates (move_updates to x))
  spelled_updates no_updates = none
  spelled_updates (some_updates u us) = after (spelled_update u) (spelled_more_updates us)

  -- a size
  spelled_size : (x : Size) → Moved to (spell_size x) (spell_size (move_size to x))
  spelled_size (number_size n a) = behind (token (a_number n) a) none
  spelled_size (name_size x a) = behind (token (a_name x) a) none

  -- the sizes of an array
  spelled_sizes : (x : Sizes) → Moved to (spell_sizes x) (spell_sizes (move_sizes to x))
  spelled_sizes (last_size a s b) = behind (token left_bracket a) (after (spelled_size s) (behind (token right_bracket b) none))
  spelled_sizes (next_size a s b ss) =
      behind (token left_bracket a) (after (spelled_size s) (behind (token right_bracket b) (spelled_sizes ss)))

  mutual
    -- a value of an array
    spelled_value : (x : Value) → Moved to (spell_value x) (spell_value (move_value to x))
    spelled_value (one_value e) = spelled_expr e
    spelled_value (braced a vs b) = behind (token left_brace a) (after (spelled_values vs) (behind (token right_brace b) none))

    -- values
    spelled_values : (x : Values) → Moved to (spell_values x) (spell_values (move_values to x))
    spelled_values no_values = none
    spelled_values (values v vs) = after (spelled_value v) (spelled_more_values vs)

    -- the values behind the first
    spelled_more_values : (x : MoreValues) → Moved to (spell_more_values x) (spell_more_values (move_more_values to x))
    spelled_more_values last_value = none
    spelled_more_values (last_comma a) = behind (token comma a) none
    spelled_more_values (next_value a v vs) = behind (token comma a) (after (spelled_value v) (spelled_more_values vs))

  -- what stands behind a declared name
  spelled_initialiser : (x : Initialiser) → Moved to (spell_initialiser x) (spell_initialiser (move_initialiser to x))
  spelled_initialiser bare = none
  spelled_initialiser (given a e) = behind (token (change_sign replaces) a) (spelled_expr e)
  spelled_initialiser (sized ss) = spelled_sizes ss
  spelled_initialiser (filled ss a b vs c) = after (spelled_sizes ss) (behind (token (change_sign replaces) a)
      (behind (token left_brace b) (after (spelled_values vs) (behind (token right_brace c) none))))

  -- a name that is declared
  pub spelled_declarator : (x : Declarator) → Moved to (spell_declarator x) (spell_declarator (move_declarator to x))
  spelled_declarator (declarator x a i) = behind (token (a_name x) a) (spelled_initialiser i)

  -- the names behind the first
  spelled_more_declarators : (x : MoreDeclarators) → Moved to (spell_more_declarators x)
      (spell_more_declarators (move_more_declarators to x))
  spelled_more_declarators last_declarator = none
  spelled_more_declarators (next_declarator a x xs) = behind (token comma a) (after (spelled_declarator x) (spelled_more_declarators xs))

  -- names that are declared
  spelled_declarators : (x : Declarators) → Moved to (spell_declarators x) (spell_declarators (move_declarators to x))
  spelled_declarators (declares x xs) = after (spelled_declarator x) (spelled_more_declarators xs)

  -- what stands before the names of a declaration
  spelled_type : (x : IntType) → Moved to (spell_type x) (spell_type (move_type to x))
  spelled_type (plain_int a) = behind (token int_word a) none
  spelled_type (const_int a b) = behind (token const_word a) (behind (token int_word b) none)

  -- the first part of a `for`'s head
  spelled_first : (x : ForFirst) → Moved to (spell_first x) (spell_first (move_first to x))
  spelled_first (declared_first t xs) = after (spelled_type t) (spelled_declarators xs)
  spelled_first (updated_first us) = spelled_updates us

  mutual
    -- a statement without labels
    spelled_core : (x : Core) → Moved to (spell_core x) (spell_core (move_core to x))
    spelled_core (empty a) = behind (token semicolon a) none
    spelled_core (block a is b) = behind (token left_brace a) (after (spelled_items is) (behind (token right_brace b) none))
    spelled_core (if_alone a b e c s) =
        behind (token if_word a) (behind (token left_paren b) (after (spelled_expr e) (behind (token right_paren c) (spelled_sub s))))
    spelled_core (if_else a b e c s d t) = behind (token if_word a)
        (behind (token left_paren b) (after (spelled_expr e)
        (behind (token right_paren c) (after (spelled_sub s) (behind (token else_word d) (spelled_sub t))))))
    spelled_core (repeat a b e c s) =
        behind (token while_word a) (behind (token left_paren b) (after (spelled_expr e) (behind (token right_paren c) (spelled_sub s))))
    spelled_core (repeat_after a s b c e d i) = behind (token do_word a)
        (after (spelled_sub s) (behind (token while_word b) (behind (token left_paren c)
        (after (spelled_expr e) (behind (token right_paren d) (behind (token semicolon i) none))))))
    spelled_core (repeat_for a b f c t d us i s) = behind (token for_word a)
        (behind (token left_paren b) (after (spelled_first f)
        (behind (token semicolon c) (after (spelled_optional t)
        (behind (token semicolon d) (after (spelled_updates us) (behind (token right_paren i) (spelled_sub s))))))))
    spelled_core (jumps j a b) = behind (token (jump_word j) a) (behind (token semicolon b) none)
    spelled_core (returns a t b) = behind (token return_word a) (after (spelled_optional t) (behind (token semicolon b) none))
    spelled_core (demands k a b e c d) = behind (token (demand_word k) a)
        (behind (token left_paren b) (after (spelled_expr e) (behind (token right_paren c) (behind (token semicolon d) none))))
    spelled_core (calls x a b es c d) = behind (token (a_name x) a)
        (behind (token left_paren b) (after (spelled_arguments es) (behind (token right_paren c) (behind (token semicolon d) none))))
    spelled_core (updates u c) = after (spelled_update u) (behind (token semicolon c) none)

    -- a statement with its labels
    spelled_sub : (x : Sub) → Moved to (spell_sub x) (spell_sub (move_sub to x))
    spelled_sub (labelled x a b s) = behind (token (a_name x) a) (behind (token colon b) (spelled_sub s))
    spelled_sub (plain c) = spelled_core c

    -- the statements of a block
    spelled_items : (x : Items) → Moved to (spell_items x) (spell_items (move_items to x))
    spelled_items no_items = none
    spelled_items (label x a b is) = behind (token (a_name x) a) (behind (token colon b) (spelled_items is))
    spelled_items (declaration t xs b is) =
        after (spelled_type t) (after (spelled_declarators xs) (behind (token semicolon b) (spelled_items is)))
    spelled_items (item c is) = after (spelled_core c) (spelled_items is)

  -- what stands before a function's name
  spelled_specifiers : (x : Specifiers) → Moved to (spell_specifiers x) (spell_specifiers (move_specifiers to x))
  spelled_specifiers (gives_int a) = behind (token int_word a) none
  spelled_specifiers (gives_void a) = behind (token void_word a) none
  spelled_specifiers (storage a ss) = behind (token storage_word a) (spelled_specifiers ss)

  -- a function's name
  spelled_function_name : (x : FunctionName) → Moved to (spell_function_name x) (spell_function_name (move_function_name to x))
  spelled_function_name (called x a) = behind (token (a_name x) a) none
  spelled_function_name (called_main a) = behind (token main_word a) none

  -- the brackets of a parameter
  spelled_bounds : (x : Bounds) → Moved to (spell_bounds x) (spell_bounds (move_bounds to x))
  spelled_bounds (sized_bounds ss) = spelled_sizes ss
  spelled_bounds (open_bound a b) = behind (token left_bracket a) (behind (token right_bracket b) none)
  spelled_bounds (open_bounds a b ss) = behind (token left_bracket a) (behind (token right_bracket b) (spelled_sizes ss))

  -- a parameter
  spelled_parameter : (x : Parameter) → Moved to (spell_parameter x) (spell_parameter (move_parameter to x))
  spelled_parameter (number_parameter t x a) = after (spelled_type t) (behind (token (a_name x) a) none)
  spelled_parameter (pointer_parameter t a x b) =
      after (spelled_type t) (behind (token (infix_sign times_op) a) (behind (token (a_name x) b) none))
  spelled_parameter (array_parameter t x a bs) = after (spelled_type t) (behind (token (a_name x) a) (spelled_bounds bs))

  -- the parameters behind the first
  spelled_more_parameters : (x : MoreParameters) → Moved to (spell_more_parameters x) (spell_more_parameters (move_more_parameters to x))
  spelled_more_parameters last_parameter = none
  spelled_more_parameters (next_parameter a p ps) = behind (token comma a) (after (spelled_parameter p) (spelled_more_parameters ps))

  -- parameters
  spelled_parameters : (x : Parameters) → Moved to (spell_parameters x) (spell_parameters (move_parameters to x))
  spelled_parameters no_parameters = none
  spelled_parameters (void_parameters a) = behind (token void_word a) none
  spelled_parameters (some_parameters p ps) = after (spelled_parameter p) (spelled_more_parameters ps)

  -- a function
  spelled_function : (x : Function) → Moved to (spell x) (spell (move_function to x))
  spelled_function (function ss n a ps b c is d) = after (spelled_specifiers ss)
      (after (spelled_function_name n) (behind (token left_paren a)
      (after (spelled_parameters ps) (behind (token right_paren b)
      (behind (token left_brace c) (after (spelled_items is) (behind (token right_brace d) none)))))))

  -- ---- grouping
  mutual
    -- an expression
    moved_groups : (l : ℕ) (x : Expr) → Groups l x → Groups l (move_expr to x)
    moved_groups l (number n a) h = tt
    moved_groups l (variable x a) h = tt
    moved_groups l (element x a is) h = good_subscripts is h
    moved_groups l (call x a b es c) h = good_arguments es h
    moved_groups l (stepped_behind x a g b) h = tt
    moved_groups l (stepped_before g a x b) h = tt
    moved_groups l (free a b c) h = tt
    moved_groups l (grouped a e b) h = moved_groups 0 e h
    moved_groups l (prefixed p a e) h = moved_groups 7 e h
    moved_groups l (joined e o a f) h = (h.0, moved_groups (level o) e h.1, moved_groups (suc (level o)) f h.2)
    moved_groups l (chosen c a e b f) h = (h.0, moved_groups 1 c h.1, moved_groups 0 e h.2, moved_groups 0 f h.3)

    -- arguments
    good_arguments : (x : Arguments) → GoodArguments x → GoodArguments (move_arguments to x)
    good_arguments no_arguments h = tt
    good_arguments (arguments e es) h = (moved_groups 0 e h.0, good_more_arguments es h.1)

    -- the arguments behind the first
    good_more_arguments : (x : MoreArguments) → GoodMoreArguments x → GoodMoreArguments (move_more_arguments to x)
    good_more_arguments last_argument h = tt
    good_more_arguments (next_argument a e es) h = (moved_groups 0 e h.0, good_more_arguments es h.1)

    -- the brackets of an element
    good_subscripts : (x : Subscripts) → GoodSubscripts x → GoodSubscripts (move_subscripts to x)
    good_subscripts (last_subscript a e b) h = moved_groups 0 e h
    good_subscripts (next_subscript a e b is) h = (moved_groups 0 e h.0, good_subscripts is h.1)

  -- an expression that may be absent
  good_optional : (x : Optional) → GoodOptional x → GoodOptional (move_optional to x)
  good_optional absent h = tt
  good_optional (present e) h = moved_groups 0 e h

  -- the brackets of an element or none
  good_index : (x : Index) → GoodIndex x → GoodIndex (move_index to x)
  good_index no_index h = tt
  good_index (index is) h = good_subscripts is h

  -- a variable or an element that is changed
  good_place : (x : Place) → GoodPlace x → GoodPlace (move_place to x)
  good_place (place x a i) h = good_index i h

  -- what is done to it
  good_effect : (x : Effect) → GoodEffect x → GoodEffect (move_effect to x)
  good_effect (assigns g a e) h = moved_groups 0 e h
  good_effect (steps g a) h = tt

  -- a change
  good_update : (x : Update) → GoodUpdate x → GoodUpdate (move_update to x)
  good_update (update p f) h = (good_place p h.0, good_effect f h.1)
  good_update (step_before g a p) h = good_place p h

  -- the changes behind the first
  good_more_updates : (x : MoreUpdates) → GoodMoreUpdates x → GoodMoreUpdates (move_more_updates to x)
  good_more_updates last_update h = tt
  good_more_updates (next_update a u us) h = (good_update u h.0, good_more_updates us h.1)

  -- changes in order
  good_updates : (x : Updates) → GoodUpdates x → GoodUpdates (move_updates to x)
  good_updates no_updates h = tt
  good_updates (some_updates u us) h = (good_update u h.0, good_more_updates us h.1)

  mutual
    -- a value of an array
    good_value : (x : Value) → GoodValue x → GoodValue (move_value to x)
    good_value (one_value e) h = moved_groups 0 e h
    good_value (braced a vs b) h = good_values vs h

    -- values
    good_values : (x : Values) → GoodValues x → GoodValues (move_values to x)
    good_values no_values h = tt
    good_values (values v vs) h = (good_value v h.0, good_more_values vs h.1)

    -- the values behind the first
    good_more_values : (x : MoreValues) → GoodMoreValues x → GoodMoreValues (move_more_values to x)
    good_more_values last_value h = tt
    good_more_values (last_comma a) h = tt
    good_more_values (next_value a v vs) h = (good_value v h.0, good_more_values vs h.1)

  -- what stands behind a declared name
  good_initialiser : (x : Initialiser) → GoodInitialiser x → GoodInitialiser (move_initialiser to x)
  good_initialiser bare h = tt
  good_initialiser (given a e) h = moved_groups 0 e h
  good_initialiser (sized ss) h = tt
  good_initialiser (filled ss a b vs c) h = good_values vs h

  -- a name that is declared
  good_declarator : (x : Declarator) → GoodDeclarator x → GoodDeclarator (move_declarator to x)
  good_declarator (declarator x a i) h = good_initialiser i h

  -- the names behind the first
  good_more_declarators : (x : MoreDeclarators) → GoodMoreDeclarators x → GoodMoreDeclarators (move_more_declarators to x)
  good_more_declarators last_declarator h = tt
  good_more_declarators (next_declarator a x xs) h = (good_declarator x h.0, good_more_declarators xs h.1)

  -- names that are declared
  good_declarators : (x : Declarators) → GoodDeclarators x → GoodDeclarators (move_declarators to x)
  good_declarators (declares x xs) h = (good_declarator x h.0, good_more_declarators xs h.1)

  -- the first part of a `for`'s head
  good_first : (x : ForFirst) → GoodFirst x → GoodFirst (move_first to x)
  good_first (declared_first t xs) h = good_declarators xs h
  good_first (updated_first us) h = good_updates us h

  mutual
    -- whether an `if` at the very end of a statement without labels has no `else`
    same_ending_core : (x : Core) → ending_core (move_core to x) ≡ ending_core x
    same_ending_core (empty a) = refl
    same_ending_core (block a is b) = refl
    same_ending_core (if_alone a b e c s) = refl
    same_ending_core (if_else a b e c s d t) = same_ending_sub t
    same_ending_core (repeat a b e c s) = same_ending_sub s
    same_ending_core (repeat_after a s b c e d i) = refl
    same_ending_core (repeat_for a b f c t d us i s) = same_ending_sub s
    same_ending_core (jumps j a b) = refl
    same_ending_core (returns a t b) = refl
    same_ending_core (demands k a b e c d) = refl
    same_ending_core (calls x a b es c d) = refl
    same_ending_core (updates u c) = refl

    -- whether an `if` at the very end of a statement with its labels has no `else`
    same_ending_sub : (x : Sub) → ending_sub (move_sub to x) ≡ ending_sub x
    same_ending_sub (labelled x a b s) = same_ending_sub s
    same_ending_sub (plain c) = same_ending_core c

  mutual
    -- a statement without labels
    good_core : (x : Core) → GoodCore x → GoodCore (move_core to x)
    good_core (empty a) h = tt
    good_core (block a is b) h = good_items is h
    good_core (if_alone a b e c s) h = (moved_groups 0 e h.0, good_sub s h.1)
    good_core (if_else a b e c s d t) h = (moved_groups 0 e h.0, good_sub s h.1, same_ending_sub s ∙ h.2, good_sub t h.3)
    good_core (repeat a b e c s) h = (moved_groups 0 e h.0, good_sub s h.1)
    good_core (repeat_after a s b c e d i) h = (good_sub s h.0, moved_groups 0 e h.1)
    good_core (repeat_for a b f c t d us i s) h = (good_first f h.0, good_optional t h.1, good_updates us h.2, good_sub s h.3)
    good_core (jumps j a b) h = tt
    good_core (returns a t b) h = good_optional t h
    good_core (demands k a b e c d) h = moved_groups 0 e h
    good_core (calls x a b es c d) h = good_arguments es h
    good_core (updates u c) h = good_update u h

    -- a statement with its labels
    good_sub : (x : Sub) → GoodSub x → GoodSub (move_sub to x)
    good_sub (labelled x a b s) h = good_sub s h
    good_sub (plain c) h = good_core c h

    -- the statements of a block
    good_items : (x : Items) → GoodItems x → GoodItems (move_items to x)
    good_items no_items h = tt
    good_items (label x a b is) h = good_items is h
    good_items (declaration t xs b is) h = (good_declarators xs h.0, good_items is h.1)
    good_items (item c is) h = (good_core c h.0, good_items is h.1)

  -- a function
  good_function : (f : Function) → Good f → Good (move_function to f)
  good_function (function ss n a ps b c is d) h = good_items is h

  -- Tokens at other places read as the tree at those places.
  pub moved_reads : (tokens : List Token) (f : Function) → Reads tokens f → Reads (moved to tokens) (move_function to f)
  moved_reads tokens f r =
      record { spelled = (spelled_function f).same ∙ ap (λ (x : List Token). moved to x) r.spelled; good = good_function f r.good }
