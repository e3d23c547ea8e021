-- The spelling of statements in the grammar, with other tokens behind it.
use Rattle.std.proofs.Common.{◌≡◌, ◌∙◌, ◌++◌, List, [], ◌∷◌, refl, ap, append_assoc}
use Rattle.source_grammar.specs.Tokens.{a_name, left_paren, right_paren, left_brace, right_brace, colon, semicolon, if_word}
use Rattle.source_grammar.specs.Tokens.{else_word, while_word, do_word, for_word, return_word, demand_word, comma, storage_word, infix_sign}
use Rattle.source_grammar.specs.Tokens.{times_op, left_bracket, right_bracket}
use Rattle.source_grammar.specs.Tokens.{Token, token}
use Rattle.source_grammar.specs.Grammar.{spell_expr, spell_arguments, Optional, absent, present, spell_optional, ForFirst, declared_first}
use Rattle.source_grammar.specs.Grammar.{updated_first, spell_first, Core, Sub, Items, empty, block, if_alone, if_else, repeat}
use Rattle.source_grammar.specs.Grammar.{repeat_after}
use Rattle.source_grammar.specs.Grammar.{repeat_for, jumps, returns, demands, calls, updates, labelled, plain, no_items, label, declaration}
use Rattle.source_grammar.specs.Grammar.{item, spell_core, spell_sub, spell_items, spell_updates, spell_update, spell_declarators}
use Rattle.source_grammar.specs.Grammar.{Specifiers}
use Rattle.source_grammar.specs.Grammar.{gives_int, gives_void, storage, spell_specifiers, MoreParameters, last_parameter, next_parameter}
use Rattle.source_grammar.specs.Grammar.{IntType, plain_int, const_int, spell_type, Bounds, sized_bounds, open_bound, open_bounds}
use Rattle.source_grammar.specs.Grammar.{spell_bounds, Parameter, number_parameter, pointer_parameter, array_parameter, spell_parameter}
use Rattle.source_grammar.specs.Grammar.{spell_more_parameters, Parameters, no_parameters, void_parameters, some_parameters}
use Rattle.source_grammar.specs.Grammar.{spell_parameters}
use Rattle.source_change.proofs.spelled.Changes.{update_onto, updates_onto, sizes_onto, declarators_onto}
use Rattle.source_change.specs.Onto.{onto_updates, onto_declarators}
use Rattle.source_statement.specs.Onto.{onto_optional, onto_first, onto_core, onto_sub, onto_items, onto_specifiers, onto_more_parameters}
use Rattle.source_statement.specs.Onto.{onto_type, onto_bounds, onto_parameter, onto_parameters}

-- an expression that may be absent
pub optional_onto : (t : Optional) (w : List Token) → spell_optional t ++ w ≡ onto_optional t w
optional_onto absent w = refl
optional_onto (present e) w = refl

-- what stands before the names of a declaration
pub type_onto : (t : IntType) (w : List Token) → spell_type t ++ w ≡ onto_type t w
type_onto (plain_int a) w = refl
type_onto (const_int a b) w = refl

-- the first part of a `for`'s head
pub first_onto : (f : ForFirst) (w : List Token) → spell_first f ++ w ≡ onto_first f w
first_onto (declared_first t xs) w = append_assoc (spell_type t) (spell_declarators xs) w ∙ type_onto t (spell_declarators xs ++ w)
    ∙ ap (onto_type t) (declarators_onto xs w)
first_onto (updated_first us) w = updates_onto us w

mutual
  -- a statement without labels
  pub core_onto : (c : Core) (w : List Token) → spell_core c ++ w ≡ onto_core c w
  core_onto (empty a) w = refl
  core_onto (block a is b) w = ap (λ ts. token left_brace a ∷ ts) (append_assoc (spell_items is) (token right_brace b ∷ []) w
      ∙ items_onto is (token right_brace b ∷ w))
  core_onto (if_alone a b e c s) w = ap (λ ts. token if_word a ∷ token left_paren b ∷ ts)
      (append_assoc (spell_expr e) (token right_paren c ∷ spell_sub s) w ∙ ap (λ ts. spell_expr e ++ token right_paren c ∷ ts)
      (sub_onto s w))
  core_onto (if_else a b e c s d t) w = ap (λ ts. token if_word a ∷ token left_paren b ∷ ts)
      (append_assoc (spell_expr e) (token right_paren c ∷ (spell_sub s ++ token else_word d ∷ spell_sub t)) w
      ∙ ap (λ ts. spell_expr e ++ token right_paren c ∷ ts) (append_assoc (spell_sub s) (token else_word d ∷ spell_sub t) w
      ∙ sub_onto s (token else_word d ∷ (spell_sub t ++ w)) ∙ ap (λ ts. onto_sub s (token else_word d ∷ ts)) (sub_onto t w)))
  core_onto (repeat a b e c s) w = ap (λ ts. token while_word a ∷ token left_paren b ∷ ts)
      (append_assoc (spell_expr e) (token right_paren c ∷ spell_sub s) w ∙ ap (λ ts. spell_expr e ++ token right_paren c ∷ ts)
      (sub_onto s w))
  core_onto (repeat_after a s b c e d i) w = ap (λ ts. token do_word a ∷ ts)
      (append_assoc (spell_sub s) (token while_word b ∷ token left_paren c ∷
      (spell_expr e ++ token right_paren d ∷ token semicolon i ∷ [])) w
      ∙ sub_onto s (token while_word b ∷ token left_paren c ∷ ((spell_expr e ++ token right_paren d ∷ token semicolon i ∷ []) ++ w))
      ∙ ap (λ ts. onto_sub s (token while_word b ∷ token left_paren c ∷ ts))
      (append_assoc (spell_expr e) (token right_paren d ∷ token semicolon i ∷ []) w))
  core_onto (repeat_for a b f c t d us i s) w = ap (λ ts. token for_word a ∷ token left_paren b ∷ ts)
      (append_assoc (spell_first f)
      (token semicolon c ∷ (spell_optional t ++ token semicolon d ∷ (spell_updates us ++ token right_paren i ∷ spell_sub s))) w
      ∙ first_onto f (token semicolon c ∷ ((spell_optional t ++ token semicolon d ∷
      (spell_updates us ++ token right_paren i ∷ spell_sub s)) ++ w))
      ∙ ap (λ ts. onto_first f (token semicolon c ∷ ts))
      (append_assoc (spell_optional t) (token semicolon d ∷ (spell_updates us ++ token right_paren i ∷ spell_sub s)) w
      ∙ optional_onto t (token semicolon d ∷ ((spell_updates us ++ token right_paren i ∷ spell_sub s) ++ w))
      ∙ ap (λ ts. onto_optional t (token semicolon d ∷ ts))
      (append_assoc (spell_updates us) (token right_paren i ∷ spell_sub s) w ∙ updates_onto us (token right_paren i ∷ (spell_sub s ++ w))
      ∙ ap (λ ts. onto_updates us (token right_paren i ∷ ts)) (sub_onto s w))))
  core_onto (jumps j a b) w = refl
  core_onto (returns a t b) w = ap (λ ts. token return_word a ∷ ts)
      (append_assoc (spell_optional t) (token semicolon b ∷ []) w ∙ optional_onto t (token semicolon b ∷ w))
  core_onto (demands k a b e c d) w = ap (λ ts. token (demand_word k) a ∷ token left_paren b ∷ ts)
      (append_assoc (spell_expr e) (token right_paren c ∷ token semicolon d ∷ []) w)
  core_onto (calls x a b es c d) w = ap (λ ts. token (a_name x) a ∷ token left_paren b ∷ ts)
      (append_assoc (spell_arguments es) (token right_paren c ∷ token semicolon d ∷ []) w)
  core_onto (updates u c) w = append_assoc (spell_update u) (token semicolon c ∷ []) w ∙ update_onto u (token semicolon c ∷ w)

  -- a statement with its labels
  pub sub_onto : (s : Sub) (w : List Token) → spell_sub s ++ w ≡ onto_sub s w
  sub_onto (labelled x a b s) w = ap (λ ts. token (a_name x) a ∷ token colon b ∷ ts) (sub_onto s w)
  sub_onto (plain c) w = core_onto c w

  -- the statements of a block
  pub items_onto : (is : Items) (w : List Token) → spell_items is ++ w ≡ onto_items is w
  items_onto no_items w = refl
  items_onto (label x a b is) w = ap (λ ts. token (a_name x) a ∷ token colon b ∷ ts) (items_onto is w)
  items_onto (declaration t xs b is) w = append_assoc (spell_type t) (spell_declarators xs ++ token semicolon b ∷ spell_items is) w
      ∙ type_onto t ((spell_declarators xs ++ token semicolon b ∷ spell_items is) ++ w)
      ∙ ap (onto_type t) (append_assoc (spell_declarators xs) (token semicolon b ∷ spell_items is) w
      ∙ declarators_onto xs (token semicolon b ∷ (spell_items is ++ w)) ∙ ap (λ ts. onto_declarators xs (token semicolon b ∷ ts))
      (items_onto is w))
  items_onto (item c is) w = append_assoc (spell_core c) (spell_items is) w ∙ core_onto c (spell_items is ++ w) ∙ ap (onto_core c)
      (items_onto is w)

-- what stands before a function's name
pub specifiers_onto : (ss : Specifiers) (w : List Token) → spell_specifiers ss ++ w ≡ onto_specifiers ss w
specifiers_onto (gives_int a) w = refl
specifiers_onto (gives_void a) w = refl
specifiers_onto (storage a ss) w = ap (λ ts. token storage_word a ∷ ts) (specifiers_onto ss w)

-- the brackets of an array that is a parameter
pub bounds_onto : (bs : Bounds) (w : List Token) → spell_bounds bs ++ w ≡ onto_bounds bs w
bounds_onto (sized_bounds ss) w = sizes_onto ss w
bounds_onto (open_bound a b) w = refl
bounds_onto (open_bounds a b ss) w = ap (λ ts. token left_bracket a ∷ token right_bracket b ∷ ts) (sizes_onto ss w)

-- a parameter
pub parameter_onto : (p : Parameter) (w : List Token) → spell_parameter p ++ w ≡ onto_parameter p w
parameter_onto (number_parameter t x a) w = append_assoc (spell_type t) (token (a_name x) a ∷ []) w ∙ type_onto t (token (a_name x) a ∷ w)
parameter_onto (pointer_parameter t a x b) w = append_assoc (spell_type t) (token (infix_sign times_op) a ∷ token (a_name x) b ∷ []) w
    ∙ type_onto t (token (infix_sign times_op) a ∷ token (a_name x) b ∷ w)
parameter_onto (array_parameter t x a bs) w = append_assoc (spell_type t) (token (a_name x) a ∷ spell_bounds bs) w
    ∙ type_onto t (token (a_name x) a ∷ (spell_bounds bs ++ w)) ∙ ap (λ ts. onto_type t (token (a_name x) a ∷ ts)) (bounds_onto bs w)

-- the parameters behind the first
pub more_parameters_onto : (ps : MoreParameters) (w : List Token) → spell_more_parameters ps ++ w ≡ onto_more_parameters ps w
more_parameters_onto last_parameter w = refl
more_parameters_onto (next_parameter a p ps) w = ap (λ ts. token comma a ∷ ts) (append_assoc (spell_parameter p)
    (spell_more_parameters ps) w ∙ parameter_onto p (spell_more_parameters ps ++ w) ∙ ap (onto_parameter p) (more_parameters_onto ps w))

-- parameters
pub parameters_onto : (ps : Parameters) (w : List Token) → spell_parameters ps ++ w ≡ onto_parameters ps w
parameters_onto no_parameters w = refl
parameters_onto (void_parameters a) w = refl
parameters_onto (some_parameters p ps) w = append_assoc (spell_parameter p) (spell_more_parameters ps) w
    ∙ parameter_onto p (spell_more_parameters ps ++ w) ∙ ap (onto_parameter p) (more_parameters_onto ps w)
