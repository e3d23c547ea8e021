-- How statements are spelled before other tokens. (proofs/spelled/Statements.antt: it is the spelling of the grammar with them behind it.)
use Rattle.std.specs.Prelude.{List, ◌∷◌, ◌++◌}
use Rattle.source_grammar.specs.Tokens.{a_name, left_paren, right_paren, left_brace, right_brace, colon, semicolon, int_word, if_word}
use Rattle.source_grammar.specs.Tokens.{else_word, while_word, do_word, for_word, jump_word, return_word, demand_word, void_word, comma}
use Rattle.source_grammar.specs.Tokens.{storage_word, const_word, infix_sign, times_op, left_bracket, right_bracket, Token, token}
use Rattle.source_grammar.specs.Grammar.{spell_expr, spell_arguments, Optional, absent, present, ForFirst, declared_first, updated_first}
use Rattle.source_grammar.specs.Grammar.{Core, Sub, Items, empty, block, if_alone, if_else, repeat, repeat_after, repeat_for, jumps}
use Rattle.source_grammar.specs.Grammar.{returns}
use Rattle.source_grammar.specs.Grammar.{demands, calls, updates, labelled, plain, no_items, label, declaration, item, Specifiers}
use Rattle.source_grammar.specs.Grammar.{gives_int}
use Rattle.source_grammar.specs.Grammar.{gives_void, storage, IntType, plain_int, const_int, Bounds, sized_bounds, open_bound, open_bounds}
use Rattle.source_grammar.specs.Grammar.{Parameter, number_parameter, pointer_parameter, array_parameter, MoreParameters, last_parameter}
use Rattle.source_grammar.specs.Grammar.{next_parameter, Parameters, no_parameters, void_parameters, some_parameters}
use Rattle.source_change.specs.Onto.{onto_update, onto_updates, onto_sizes, onto_declarators}

-- an expression that may be absent
abbrev pub onto_optional : Optional → List Token → List Token
onto_optional absent w = w
onto_optional (present e) w = spell_expr e ++ w

-- what stands before the names of a declaration
abbrev pub onto_type : IntType → List Token → List Token
onto_type (plain_int a) w = token int_word a ∷ w
onto_type (const_int a b) w = token const_word a ∷ token int_word b ∷ w

-- the first part of a `for`'s head
abbrev pub onto_first : ForFirst → List Token → List Token
onto_first (declared_first t xs) w = onto_type t (onto_declarators xs w)
onto_first (updated_first us) w = onto_updates us w

abbrev mutual
  -- a statement without labels
  pub onto_core : Core → List Token → List Token
  onto_core (empty a) w = token semicolon a ∷ w
  onto_core (block a is b) w = token left_brace a ∷ onto_items is (token right_brace b ∷ w)
  onto_core (if_alone a b e c s) w = token if_word a ∷ token left_paren b ∷ (spell_expr e ++ token right_paren c ∷ onto_sub s w)
  onto_core (if_else a b e c s d t) w =
      token if_word a ∷ token left_paren b ∷ (spell_expr e ++ token right_paren c ∷ onto_sub s (token else_word d ∷ onto_sub t w))
  onto_core (repeat a b e c s) w = token while_word a ∷ token left_paren b ∷ (spell_expr e ++ token right_paren c ∷ onto_sub s w)
  onto_core (repeat_after a s b c e d i) w =
      token do_word a ∷ onto_sub s (token while_word b ∷ token left_paren c
      ∷ (spell_expr e ++ token right_paren d ∷ token semicolon i ∷ w))
  onto_core (repeat_for a b f c t d us i s) w = token for_word a ∷ token left_paren b ∷ onto_first f (token semicolon c
      ∷ onto_optional t (token semicolon d ∷ onto_updates us (token right_paren i ∷ onto_sub s w)))
  onto_core (jumps j a b) w = token (jump_word j) a ∷ token semicolon b ∷ w
  onto_core (returns a t b) w = token return_word a ∷ onto_optional t (token semicolon b ∷ w)
  onto_core (demands k a b e c d) w =
      token (demand_word k) a ∷ token left_paren b ∷ (spell_expr e ++ token right_paren c ∷ token semicolon d ∷ w)
  onto_core (calls x a b es c d) w =
      token (a_name x) a ∷ token left_paren b ∷ (spell_arguments es ++ token right_paren c ∷ token semicolon d ∷ w)
  onto_core (updates u c) w = onto_update u (token semicolon c ∷ w)

  -- a statement with its labels
  pub onto_sub : Sub → List Token → List Token
  onto_sub (labelled x a b s) w = token (a_name x) a ∷ token colon b ∷ onto_sub s w
  onto_sub (plain c) w = onto_core c w

  -- the statements of a block
  pub onto_items : Items → List Token → List Token
  onto_items no_items w = w
  onto_items (label x a b is) w = token (a_name x) a ∷ token colon b ∷ onto_items is w
  onto_items (declaration t xs b is) w = onto_type t (onto_declarators xs (token semicolon b ∷ onto_items is w))
  onto_items (item c is) w = onto_core c (onto_items is w)

-- what stands before a function's name
abbrev pub onto_specifiers : Specifiers → List Token → List Token
onto_specifiers (gives_int a) w = token int_word a ∷ w
onto_specifiers (gives_void a) w = token void_word a ∷ w
onto_specifiers (storage a ss) w = token storage_word a ∷ onto_specifiers ss w

-- the brackets of an array that is a parameter
abbrev pub onto_bounds : Bounds → List Token → List Token
onto_bounds (sized_bounds ss) w = onto_sizes ss w
onto_bounds (open_bound a b) w = token left_bracket a ∷ token right_bracket b ∷ w
onto_bounds (open_bounds a b ss) w = token left_bracket a ∷ token right_bracket b ∷ onto_sizes ss w

-- a parameter
abbrev pub onto_parameter : Parameter → List Token → List Token
onto_parameter (number_parameter t x a) w = onto_type t (token (a_name x) a ∷ w)
onto_parameter (pointer_parameter t a x b) w = onto_type t (token (infix_sign times_op) a ∷ token (a_name x) b ∷ w)
onto_parameter (array_parameter t x a bs) w = onto_type t (token (a_name x) a ∷ onto_bounds bs w)

-- the parameters behind the first
abbrev pub onto_more_parameters : MoreParameters → List Token → List Token
onto_more_parameters last_parameter w = w
onto_more_parameters (next_parameter a p ps) w = token comma a ∷ onto_parameter p (onto_more_parameters ps w)

-- parameters
abbrev pub onto_parameters : Parameters → List Token → List Token
onto_parameters no_parameters w = w
onto_parameters (void_parameters a) w = token void_word a ∷ w
onto_parameters (some_parameters p ps) w = onto_parameter p (onto_more_parameters ps w)
