-- Each entry of the machine, read backwards.
use Rattle.std.proofs.Common.{◌≡◌, ◌∙◌, ◌++◌, inl, inr, ℕ, suc, List, [], ◌∷◌, Option, Some, None, refl, sym, ap, append_assoc}
use Rattle.lang_grammar.specs.Grammar.{plus_op, minus_op, Change, replaces, Direction, Kind, a_name, a_number, infix_sign, bang}
use Rattle.lang_grammar.specs.Grammar.{left_paren, right_paren, left_brace, right_brace, comma, semicolon, colon, change_sign, step_sign}
use Rattle.lang_grammar.specs.Grammar.{int_word, main_word}
use Rattle.lang_grammar.specs.Grammar.{do_word, for_word, jump_word, Update, spell_update, GoodUpdate, no_first, declared_first}
use Rattle.lang_grammar.specs.Grammar.{updated_first}
use Rattle.lang_grammar.specs.Grammar.{spell_first, no_test, given_test, spell_test, no_last, updated_last}
use Rattle.lang_grammar.specs.Grammar.{updates, void_word, if_word, else_word, while_word, return_word, demand_word, nondet_word, the_end}
use Rattle.lang_grammar.specs.Grammar.{Token, token, Expr}
use Rattle.lang_grammar.specs.Grammar.{spell_expr, Declarators, declares, declares_more, bare, given, spell_declarators}
use Rattle.lang_grammar.specs.Grammar.{empty, set, step_after, step_before, labelled, plain, no_items, label}
use Rattle.lang_grammar.specs.Grammar.{declaration, item, spell_core, spell_items, no_return}
use Rattle.lang_grammar.specs.Grammar.{returns, returns_minus, spell_return, nothing, void_at, spell_parameters, Program, program, Reads}
use Rattle.lang_grammar.specs.Machine.{Ender, until_paren, until_semicolon, until_declared, Place, in_sub, in_block, in_main, next, opening}
use Rattle.lang_grammar.specs.Machine.{closing}
use Rattle.lang_grammar.specs.Machine.{brace_opening, brace_closing, statement_end, main_name, int_type, text_end, Mark, Goal, operand}
use Rattle.lang_grammar.specs.Machine.{more, statement}
use Rattle.lang_grammar.specs.Machine.{ender_mark, mark_kind, do_end, header, header_first, header_test, header_last, updating}
use Rattle.lang_grammar.specs.Machine.{updating_entry, do_end_entry}
use Rattle.lang_grammar.specs.Machine.{header_entry, first_entry, test_entry, last_entry, after_name, maybe_else, condition, declarator}
use Rattle.lang_grammar.specs.Machine.{declared, some_name, parameters, returned, some_number, only, Entry, takes}
use Rattle.lang_grammar.specs.Machine.{skips, stops, declaration_entry, close_entry, return_entry, statement_entry}
use Rattle.lang_grammar.specs.Machine.{label_entry, name_entry, else_entry, condition_entry, declarator_entry, declared_entry}
use Rattle.lang_grammar.specs.Machine.{some_name_entry, parameters_entry}
use Rattle.lang_grammar.specs.Machine.{returned_entry, some_number_entry, only_entry, entry, step, run, start}
use Rattle.lang_grammar.proofs.grammar.Sound.{no_more, and_more, Ended}
use Rattle.lang_grammar.proofs.grammar.Sound.{just, minus, Holds}
use Rattle.lang_grammar.proofs.machine.BackPieces.{Back, ExprThen, expr_then, back_operand, back_more, OneCore, end_text, core_if}
use Rattle.lang_grammar.proofs.machine.BackPieces.{core_while, core_demand, core_do, core_for, core_jump, core_block}

-- ---- assignments and steps
abbrev UpdateThen : Ender → List Goal → List Token → Type 0
UpdateThen n gs w = (u : Update) × (y : List Token) × (v : List Token) × (w ≡ spell_update u ++ y) × GoodUpdate u × Ended n y v × Holds gs v

ended_by : (n : Ender) (c : ℕ) (w v : List Token) → w ≡ token (mark_kind (ender_mark n)) c ∷ v → Ended n w v
ended_by until_paren c w v q = (c, q)
ended_by until_semicolon c w v q = (c, q)
ended_by until_declared c w v q = (no_more c, q, tt)

before_then : (n : Ender) (a : ℕ) (s : Direction) (gs : List Goal) (w : List Token) → Holds (some_name ∷ only (ender_mark n) ∷ gs) w
    → UpdateThen n gs (token (step_sign s) a ∷ w)
before_then n a s gs w (x, b, v, q, (c, u, r, rest)) = (
  step_before s a x b,
  v,
  u,
  ap (λ y. token (step_sign s) a ∷ y) q,
  tt,
  ended_by n c v u r,
  rest,
)

after_then : (n : Ender) (a : ℕ) (s : Direction) (x : List ℕ) (b : ℕ) (gs : List Goal) (w : List Token) → Holds (only (ender_mark n) ∷ gs) w
    → UpdateThen n gs (token (a_name x) b ∷ token (step_sign s) a ∷ w)
after_then n a s x b gs w (c, v, q, rest) = (step_after x b s a, w, v, refl, tt, ended_by n c w v q, rest)

set_then : (n : Ender) (a : ℕ) (g : Change) (x : List ℕ) (b : ℕ) (gs : List Goal) (w : List Token) → ExprThen n gs w
    → UpdateThen n gs (token (a_name x) b ∷ token (change_sign g) a ∷ w)
set_then n a g x b gs w (e, u, v, q, k, m, rest) = (
  set x b g a e,
  u,
  v,
  ap (λ y. token (a_name x) b ∷ token (change_sign g) a ∷ y) q,
  k,
  m,
  rest,
)

core_updated : (gs : List Goal) (w : List Token) → UpdateThen until_semicolon gs w → OneCore gs w
core_updated gs w (u, y, v, q, k, (c, r), rest) = (updates u c, v, end_text (spell_update u) (token semicolon c) w y v q r, k, tt, rest)

in_place : (p : Place) (d : ℕ) (gs : List Goal) (w : List Token) → OneCore (next p d ++ gs) w → Holds (statement p d ∷ gs) w
in_place in_sub d gs w (c, v, q, g, cl, rest) = (plain c, v, q, g, cl, rest)
in_place in_block d gs w (c, v, q, g, cl, (is, b, u, r, k, rest)) = (
  item c is,
  b,
  u,
  q ∙ ap (λ x. spell_core c ++ x) r ∙ sym (append_assoc (spell_core c) (spell_items is) _),
  (g, k),
  rest,
)
in_place in_main d gs w (c, v, q, g, cl, (is, o, b, u, r, k, rest)) = (
  item c is,
  o,
  b,
  u,
  q ∙ ap (λ x. spell_core c ++ x) r ∙ sym (append_assoc (spell_core c) (spell_items is) _),
  (g, k),
  rest,
)

name_block : (x : List ℕ) (a d : ℕ) (gs : List Goal) (w : List Token) → Holds (after_name in_block d ∷ statement in_block d ∷ gs) w
    → Holds (statement in_block d ∷ gs) (token (a_name x) a ∷ w)
name_block x a d gs w (inl (b, v, q, (is, c, u, r, g, rest))) = (
  label x a b is,
  c,
  u,
  ap (λ y. token (a_name x) a ∷ y) (q ∙ ap (λ y. token colon b ∷ y) r),
  g,
  rest,
)
name_block x a d gs w (inr f) = in_place in_block d gs _ (f x a)

name_main : (x : List ℕ) (a d : ℕ) (gs : List Goal) (w : List Token) → Holds (after_name in_main d ∷ statement in_main d ∷ gs) w
    → Holds (statement in_main d ∷ gs) (token (a_name x) a ∷ w)
name_main x a d gs w (inl (b, v, q, (is, o, c, u, r, g, rest))) = (
  label x a b is,
  o,
  c,
  u,
  ap (λ y. token (a_name x) a ∷ y) (q ∙ ap (λ y. token colon b ∷ y) r),
  g,
  rest,
)
name_main x a d gs w (inr f) = in_place in_main d gs _ (f x a)

back_named : (p : Place) (x : List ℕ) (a d : ℕ) (gs : List Goal) (w : List Token) → Holds (after_name p d ∷ (next p d ++ gs)) w
    → Holds (statement p d ∷ gs) (token (a_name x) a ∷ w)
back_named in_sub x a d gs w h = h x a
back_named in_block x a d gs w h = name_block x a d gs w h
back_named in_main x a d gs w h = name_main x a d gs w h

declaration_block : (a d : ℕ) (gs : List Goal) (w : List Token) → Holds (declarator d ∷ statement in_block d ∷ gs) w
    → Holds (statement in_block d ∷ gs) (token int_word a ∷ w)
declaration_block a d gs w (xs, v, q, g, (is, b, u, r, k, rest)) = (
  declaration a xs is,
  b,
  u,
  ap (λ y. token int_word a ∷ y) (q ∙ ap (λ y. spell_declarators xs ++ y) r
      ∙ sym (append_assoc (spell_declarators xs) (spell_items is) _)),
  (g, k),
  rest,
)

declaration_main : (a d : ℕ) (gs : List Goal) (w : List Token) → Holds (declarator d ∷ statement in_main d ∷ gs) w
    → Holds (statement in_main d ∷ gs) (token int_word a ∷ w)
declaration_main a d gs w (xs, v, q, g, (is, o, b, u, r, k, rest)) = (
  declaration a xs is,
  o,
  b,
  u,
  ap (λ y. token int_word a ∷ y) (q ∙ ap (λ y. spell_declarators xs ++ y) r
      ∙ sym (append_assoc (spell_declarators xs) (spell_items is) _)),
  (g, k),
  rest,
)

back_declaration : (p : Place) (a d : ℕ) (gs : List Goal) (w : List Token) → Back (declaration_entry p d) (statement p d) gs int_word a w
back_declaration in_sub a d gs w = tt
back_declaration in_block a d gs w = λ h. declaration_block a d gs w h
back_declaration in_main a d gs w = λ h. declaration_main a d gs w h

back_close : (p : Place) (a d : ℕ) (gs : List Goal) (w : List Token) → Back (close_entry p) (statement p d) gs right_brace a w
back_close in_sub a d gs w = tt
back_close in_block a d gs w = λ h. (no_items, a, w, refl, tt, h)
back_close in_main a d gs w = λ h. (no_items, no_return, a, w, refl, tt, h)

return_main : (a d : ℕ) (gs : List Goal) (w : List Token) → Holds (returned ∷ only statement_end ∷ only brace_closing ∷ gs) w
    → Holds (statement in_main d ∷ gs) (token return_word a ∷ w)
return_main a d gs w (just n b, v, q, (c, u, r, (e, x, m, rest))) = (
  no_items,
  returns a n b c,
  e,
  x,
  ap (λ y. token return_word a ∷ y) (q ∙ ap (λ y. token (a_number n) b ∷ y) (r ∙ ap (λ y. token semicolon c ∷ y) m)),
  tt,
  rest,
)
return_main a d gs w (minus i n b, v, q, (c, u, r, (e, x, m, rest))) = (
  no_items,
  returns_minus a i n b c,
  e,
  x,
  ap (λ y. token return_word a ∷ y)
      (q ∙ ap (λ y. token (infix_sign minus_op) i ∷ token (a_number n) b ∷ y) (r ∙ ap (λ y. token semicolon c ∷ y) m)),
  tt,
  rest,
)

back_return : (p : Place) (a d : ℕ) (gs : List Goal) (w : List Token) → Back (return_entry p) (statement p d) gs return_word a w
back_return in_sub a d gs w = tt
back_return in_block a d gs w = tt
back_return in_main a d gs w = λ h. return_main a d gs w h

back_statement : (p : Place) (d : ℕ) (k : Kind) (gs : List Goal) (a : ℕ) (w : List Token)
    → Back (statement_entry p d k) (statement p d) gs k a w
back_statement p d (a_name x) gs a w = λ h. back_named p x a d gs w h
back_statement p d semicolon gs a w = λ h. in_place p d gs _ (empty a, w, refl, tt, tt, h)
back_statement p d left_brace gs a w = λ h. in_place p d gs _ (core_block a (suc d) (next p d ++ gs) w h)
back_statement p d right_brace gs a w = back_close p a d gs w
back_statement p d int_word gs a w = back_declaration p a d gs w
back_statement p d return_word gs a w = back_return p a d gs w
back_statement p d if_word gs a w = λ h. in_place p d gs _ (core_if a (suc d) (suc d) (suc d) (next p d ++ gs) w h)
back_statement p d while_word gs a w = λ h. in_place p d gs _ (core_while a (suc d) (suc d) (next p d ++ gs) w h)
back_statement p d do_word gs a w = λ h. in_place p d gs _ (core_do a (suc d) (next p d ++ gs) w h)
back_statement p d for_word gs a w = λ h. in_place p d gs _ (core_for a (suc d) (next p d ++ gs) w h)
back_statement p d (jump_word j) gs a w = λ h. in_place p d gs _ (core_jump a j (next p d ++ gs) w h)
back_statement p d (demand_word k) gs a w = λ h. in_place p d gs _ (core_demand k a d (next p d ++ gs) w h)
back_statement p d (step_sign s) gs a w = λ h. in_place p d gs _ (core_updated (next p d ++ gs) _
    (before_then until_semicolon a s (next p d ++ gs) w h))
back_statement p d _ gs a w = tt

-- a name that a statement begins with
abbrev NameThen : List Goal → List Token → Type 0
NameThen gs w = (x : List ℕ) (a : ℕ) → OneCore gs (token (a_name x) a ∷ w)

core_named : (p : Place) (d : ℕ) (gs : List Goal) (w : List Token) → NameThen gs w → Holds (after_name p d ∷ gs) w
core_named in_sub d gs w f = λ x a. sub_of d gs _ (f x a) where
  sub_of : (d : ℕ) (gs : List Goal) (w : List Token) → OneCore gs w → Holds (statement in_sub d ∷ gs) w
  sub_of d gs w (c, v, q, g, cl, rest) = (plain c, v, q, g, cl, rest)
core_named in_block d gs w f = inr f
core_named in_main d gs w f = inr f

set_named : (g : Change) (a : ℕ) (gs : List Goal) (w : List Token) → ExprThen until_semicolon gs w
    → NameThen gs (token (change_sign g) a ∷ w)
set_named g a gs w h = λ x b. core_updated gs _ (set_then until_semicolon a g x b gs w h)

step_named : (s : Direction) (a : ℕ) (gs : List Goal) (w : List Token) → Holds (only statement_end ∷ gs) w
    → NameThen gs (token (step_sign s) a ∷ w)
step_named s a gs w h = λ x b. core_updated gs _ (after_then until_semicolon a s x b gs w h)

back_label : (p : Place) (d : ℕ) (gs : List Goal) (a : ℕ) (w : List Token) → Back (label_entry p d) (after_name p d) gs colon a w
back_label in_sub d gs a w = λ h x b. (labelled x b a h.0, h.1, ap (λ y. token (a_name x) b ∷ token colon a ∷ y) h.2, h.3, h.4, h.5)
back_label in_block d gs a w = λ h. inl (a, w, refl, h)
back_label in_main d gs a w = λ h. inl (a, w, refl, h)

back_name : (p : Place) (d : ℕ) (k : Kind) (gs : List Goal) (a : ℕ) (w : List Token) → Back (name_entry p d k) (after_name p d) gs k a w
back_name p d colon gs a w = back_label p d gs a w
back_name p d (change_sign g) gs a w = λ h. core_named p d gs _ (set_named g a gs w (expr_then until_semicolon d d gs w h))
back_name p d (step_sign s) gs a w = λ h. core_named p d gs _ (step_named s a gs w h)
back_name p d _ gs a w = tt

back_else : (d : ℕ) (k : Kind) (gs : List Goal) (a : ℕ) (w : List Token) → Back (else_entry d k) (maybe_else d) gs k a w
back_else d else_word gs a w = λ h. inr (a, h.0, h.1, ap (λ x. token else_word a ∷ x) h.2, h.3, h.4, h.5)
back_else d _ gs a w = λ h. inl (refl, h)

condition_open : (d a : ℕ) (gs : List Goal) (w : List Token) → ExprThen until_paren gs w → Holds (condition d ∷ gs) (token left_paren a ∷ w)
condition_open d a gs w (e, u, v, q, g, (c, r), rest) = (
  a,
  e,
  c,
  v,
  ap (λ x. token left_paren a ∷ x) (q ∙ ap (λ x. spell_expr e ++ x) r),
  g,
  rest,
)

back_condition : (d : ℕ) (k : Kind) (gs : List Goal) (a : ℕ) (w : List Token) → Back (condition_entry d k) (condition d) gs k a w
back_condition d left_paren gs a w = λ h. condition_open d a gs w (expr_then until_paren d d gs w h)
back_condition d _ gs a w = tt

back_do_end : (d : ℕ) (k : Kind) (gs : List Goal) (a : ℕ) (w : List Token) → Back (do_end_entry d k) (do_end d) gs k a w
back_do_end d while_word gs a w = λ h. (
  a,
  h.0,
  h.1,
  h.2,
  h.6.0,
  h.6.1,
  ap (λ x. token while_word a ∷ x) (h.4 ∙ ap (λ x. token left_paren h.0 ∷ (spell_expr h.1 ++ token right_paren h.2 ∷ x)) h.6.2),
  h.5,
  h.6.3,
)
back_do_end d _ gs a w = tt

-- ---- the head of a `for`
first_updated : (d : ℕ) (gs : List Goal) (w : List Token) → UpdateThen until_semicolon gs w → Holds (header_first d ∷ gs) w
first_updated d gs w (u, y, v, q, k, (c, r), rest) = (
  updated_first u c,
  v,
  end_text (spell_update u) (token semicolon c) w y v q r,
  k,
  rest,
)

back_first : (d : ℕ) (k : Kind) (gs : List Goal) (a : ℕ) (w : List Token) → Back (first_entry d k) (header_first d) gs k a w
back_first d semicolon gs a w = λ h. (no_first a, w, refl, tt, h)
back_first d int_word gs a w = λ h. (declared_first a h.0, h.1, ap (λ x. token int_word a ∷ x) h.2, h.3, h.4)
back_first d (a_name x) gs a w = λ h. first_updated d gs _ (h x a)
back_first d (step_sign s) gs a w = λ h. first_updated d gs _ (before_then until_semicolon a s gs w h)
back_first d _ gs a w = tt

test_given : (d : ℕ) (gs : List Goal) (w : List Token) → Holds (operand d ∷ more until_semicolon d ∷ gs) w → Holds (header_test d ∷ gs) w
test_given d gs w h = as_test (expr_then until_semicolon d d gs w h) where
  as_test : ExprThen until_semicolon gs w → Holds (header_test d ∷ gs) w
  as_test (e, u, v, q, g, (c, r), rest) = (given_test e c, v, end_text (spell_expr e) (token semicolon c) w u v q r, g, rest)

back_test : (d : ℕ) (k : Kind) (gs : List Goal) (a : ℕ) (w : List Token) → Back (test_entry d k) (header_test d) gs k a w
back_test d semicolon gs a w = λ h. (no_test a, w, refl, tt, h)
back_test d (a_name x) gs a w = λ h. test_given d gs _ (back_operand d (a_name x) (more until_semicolon d ∷ gs) a w h)
back_test d (a_number n) gs a w = λ h. test_given d gs _ (back_operand d (a_number n) (more until_semicolon d ∷ gs) a w h)
back_test d (infix_sign plus_op) gs a w = λ h. test_given d gs _ (back_operand d (infix_sign plus_op) (more until_semicolon d ∷ gs) a w h)
back_test d (infix_sign minus_op) gs a w = λ h. test_given d gs _ (back_operand d (infix_sign minus_op) (more until_semicolon d ∷ gs) a w h)
back_test d bang gs a w = λ h. test_given d gs _ (back_operand d bang (more until_semicolon d ∷ gs) a w h)
back_test d left_paren gs a w = λ h. test_given d gs _ (back_operand d left_paren (more until_semicolon d ∷ gs) a w h)
back_test d nondet_word gs a w = λ h. test_given d gs _ (back_operand d nondet_word (more until_semicolon d ∷ gs) a w h)
back_test d _ gs a w = tt

last_updated : (d : ℕ) (gs : List Goal) (w : List Token) → UpdateThen until_paren gs w → Holds (header_last d ∷ gs) w
last_updated d gs w (u, y, v, q, k, (c, r), rest) = (
  updated_last u c,
  v,
  end_text (spell_update u) (token right_paren c) w y v q r,
  k,
  rest,
)

back_last : (d : ℕ) (k : Kind) (gs : List Goal) (a : ℕ) (w : List Token) → Back (last_entry d k) (header_last d) gs k a w
back_last d right_paren gs a w = λ h. (no_last a, w, refl, tt, h)
back_last d (a_name x) gs a w = λ h. last_updated d gs _ (h x a)
back_last d (step_sign s) gs a w = λ h. last_updated d gs _ (before_then until_paren a s gs w h)
back_last d _ gs a w = tt

header_open : (d a : ℕ) (gs : List Goal) (w : List Token) → Holds (header_first d ∷ header_test d ∷ header_last d ∷ gs) w
    → Holds (header d ∷ gs) (token left_paren a ∷ w)
header_open d a gs w (f, v, q, g, (t, u, r, h, (l, y, m, k, rest))) = (
  a,
  f,
  t,
  l,
  y,
  ap (λ x. token left_paren a ∷ x) (q ∙ ap (λ x. spell_first f ++ x) (r ∙ ap (λ x. spell_test t ++ x) m)),
  g,
  h,
  k,
  rest,
)

back_header : (d : ℕ) (k : Kind) (gs : List Goal) (a : ℕ) (w : List Token) → Back (header_entry d k) (header d) gs k a w
back_header d left_paren gs a w = λ h. header_open d a gs w h
back_header d _ gs a w = tt

back_updating : (n : Ender) (d : ℕ) (k : Kind) (gs : List Goal) (a : ℕ) (w : List Token)
    → Back (updating_entry n d k) (updating n d) gs k a w
back_updating n d (change_sign g) gs a w = λ h x b. set_then n a g x b gs w (expr_then n d d gs w h)
back_updating n d (step_sign s) gs a w = λ h x b. after_then n a s x b gs w h
back_updating n d _ gs a w = tt

back_declarator : (d : ℕ) (k : Kind) (gs : List Goal) (a : ℕ) (w : List Token) → Back (declarator_entry d k) (declarator d) gs k a w
back_declarator d (a_name x) gs a w = λ h. h x a
back_declarator d _ gs a w = tt

given_text : (x : List ℕ) (a b c : ℕ) (e : Expr) (w u v : List Token) → w ≡ spell_expr e ++ u → u ≡ token semicolon c ∷ v
    → token (a_name x) a ∷ token (change_sign replaces) b ∷ w ≡ spell_declarators (declares (given x a b e) c) ++ v
given_text x a b c e w u v h i = rw (h, i) (simp append_assoc refl)

more_text : (x : List ℕ) (a b c : ℕ) (e : Expr) (xs : Declarators) (w u v : List Token) → w ≡ spell_expr e ++ u
    → u ≡ token comma c ∷ (spell_declarators xs ++ v) → token (a_name x) a ∷ token (change_sign replaces) b ∷ w
    ≡ spell_declarators (declares_more (given x a b e) c xs) ++ v
more_text x a b c e xs w u v h i = rw (h, i) (simp append_assoc refl)

given_then : (d a : ℕ) (gs : List Goal) (w : List Token) → ExprThen until_declared gs w
    → Holds (declared d ∷ gs) (token (change_sign replaces) a ∷ w)
given_then d a gs w (e, u, v, q, g, (no_more c, r, k), rest) = λ x b. (
  declares (given x b a e) c,
  v,
  given_text x b a c e w u v q r,
  g,
  rest,
)
given_then d a gs w (e, u, v, q, g, (and_more c xs, r, k), rest) = λ x b.
    (declares_more (given x b a e) c xs, v, more_text x b a c e xs w u v q r, (g, k), rest)

bare_then : (d a : ℕ) (gs : List Goal) (w : List Token) → Holds (declarator d ∷ gs) w → Holds (declared d ∷ gs) (token comma a ∷ w)
bare_then d a gs w (xs, v, q, g, rest) = λ x b. (
  declares_more (bare x b) a xs,
  v,
  ap (λ y. token (a_name x) b ∷ token comma a ∷ y) q,
  (tt, g),
  rest,
)

back_declared : (d : ℕ) (k : Kind) (gs : List Goal) (a : ℕ) (w : List Token) → Back (declared_entry d k) (declared d) gs k a w
back_declared d (change_sign replaces) gs a w = λ h. given_then d a gs w (expr_then until_declared d d gs w h)
back_declared d comma gs a w = λ h. bare_then d a gs w h
back_declared d semicolon gs a w = λ h x b. (declares (bare x b) a, w, refl, tt, h)
back_declared d _ gs a w = tt

back_some_name : (k : Kind) (gs : List Goal) (a : ℕ) (w : List Token) → Back (some_name_entry k) some_name gs k a w
back_some_name (a_name x) gs a w = λ h. (x, a, w, refl, h)
back_some_name _ gs a w = tt

back_parameters : (k : Kind) (gs : List Goal) (a : ℕ) (w : List Token) → Back (parameters_entry k) parameters gs k a w
back_parameters void_word gs a w = λ h. (void_at a, h.0, h.1, ap (λ x. token void_word a ∷ x) h.2, h.3)
back_parameters right_paren gs a w = λ h. (nothing, a, w, refl, h)
back_parameters _ gs a w = tt

back_returned : (k : Kind) (gs : List Goal) (a : ℕ) (w : List Token) → Back (returned_entry k) returned gs k a w
back_returned (infix_sign minus_op) gs a w = λ h. (minus a h.0 h.1, h.2, ap (λ x. token (infix_sign minus_op) a ∷ x) h.3, h.4)
back_returned (a_number n) gs a w = λ h. (just n a, w, refl, h)
back_returned _ gs a w = tt

back_some_number : (k : Kind) (gs : List Goal) (a : ℕ) (w : List Token) → Back (some_number_entry k) some_number gs k a w
back_some_number (a_number n) gs a w = λ h. (n, a, w, refl, h)
back_some_number _ gs a w = tt

back_only : (m : Mark) (k : Kind) (gs : List Goal) (a : ℕ) (w : List Token) → Back (only_entry m k) (only m) gs k a w
back_only opening left_paren gs a w = λ h. (a, w, refl, h)
back_only closing right_paren gs a w = λ h. (a, w, refl, h)
back_only brace_opening left_brace gs a w = λ h. (a, w, refl, h)
back_only brace_closing right_brace gs a w = λ h. (a, w, refl, h)
back_only statement_end semicolon gs a w = λ h. (a, w, refl, h)
back_only main_name main_word gs a w = λ h. (a, w, refl, h)
back_only int_type int_word gs a w = λ h. (a, w, refl, h)
back_only text_end the_end gs a w = λ h. (a, w, refl, h)
back_only m _ gs a w = tt

back : (g : Goal) (k : Kind) (gs : List Goal) (a : ℕ) (w : List Token) → Back (entry g k) g gs k a w
back (operand d) k gs a w = back_operand d k gs a w
back (more n d) k gs a w = back_more n d k gs a w
back (statement p d) k gs a w = back_statement p d k gs a w
back (after_name p d) k gs a w = back_name p d k gs a w
back (maybe_else d) k gs a w = back_else d k gs a w
back (condition d) k gs a w = back_condition d k gs a w
back (do_end d) k gs a w = back_do_end d k gs a w
back (header d) k gs a w = back_header d k gs a w
back (header_first d) k gs a w = back_first d k gs a w
back (header_test d) k gs a w = back_test d k gs a w
back (header_last d) k gs a w = back_last d k gs a w
back (updating n d) k gs a w = back_updating n d k gs a w
back (declarator d) k gs a w = back_declarator d k gs a w
back (declared d) k gs a w = back_declared d k gs a w
back some_name k gs a w = back_some_name k gs a w
back parameters k gs a w = back_parameters k gs a w
back returned k gs a w = back_returned k gs a w
back some_number k gs a w = back_some_number k gs a w
back (only m) k gs a w = back_only m k gs a w

abbrev OnNext : Option (List Goal) → List Goal → Token → List Token → Type 0
OnNext None gs t w = Unit {0}
OnNext (Some next) gs t w = Holds next w → Holds gs (t ∷ w)

entry_back : (e : Entry) (g : Goal) (gs : List Goal) (k : Kind) (a : ℕ) (w : List Token) → Back e g gs k a w
    → OnNext (step gs k) gs (token k a) w → OnNext (elim e as (λ x. Option (List Goal))
    [ takes next ↦ Some (next ++ gs) | skips ↦ step gs k | stops ↦ None ]) (g ∷ gs) (token k a) w
entry_back (takes next) g gs k a w h i = h
entry_back skips g gs k a w h i = skip_back (step gs k) g gs (token k a) w h i where
  skip_back : (o : Option (List Goal)) (g : Goal) (gs : List Goal) (t : Token) (w : List Token)
      → (Holds gs (t ∷ w) → Holds (g ∷ gs) (t ∷ w)) → OnNext o gs t w → OnNext o (g ∷ gs) t w
  skip_back None g gs t w h i = tt
  skip_back (Some next) g gs t w h i = λ x. h (i x)
entry_back stops g gs k a w h i = tt

step_back : (gs : List Goal) (k : Kind) (a : ℕ) (w : List Token) → OnNext (step gs k) gs (token k a) w
step_back [] k a w = tt
step_back (g ∷ gs) k a w = entry_back (entry g k) g gs k a w (back g k gs a w) (step_back gs k a w)

run_back : (o : Option (List Goal)) (gs : List Goal) (t : Token) (w : List Token) → OnNext o gs t w
    → ((next : List Goal) → run next w ≡ Some [] → Holds next w) → elim o as (λ x. Option (List Goal))
    [ None ↦ None | Some next ↦ run next w ] ≡ Some [] → Holds gs (t ∷ w)
run_back None gs t w h f e = cc
run_back (Some next) gs t w h f e = h (f next e)

some_nil : (gs : List Goal) → ◌≡◌ {A = Option (List Goal)} (Some gs) (Some []) → Holds gs []
some_nil [] e = refl
some_nil (g ∷ gs) e = cc

-- a text with which the machine ends is spelled as the goals ask
pub holds : (w : List Token) (gs : List Goal) → run gs w ≡ Some [] → Holds gs w
holds [] gs e = some_nil gs e
holds (token k a ∷ w) gs e = run_back (step gs k) gs (token k a) w (step_back gs k a w) (λ next i. holds w next i) e

-- What is accepted reads as a program.
pub accepted_reads : (w : List Token) → run start w ≡ Some [] → (p : Program) × Reads w p
accepted_reads w e = found w (holds w start e) where
  found : (w : List Token) → Holds start w → (p : Program) × Reads w p
  found w (a, v0, q0, (b, v1, q1, (c, v2, q2, (ps, d, v3, q3, (e, v4, q4, (is, r, f, v5, q5, g, (h, v6, q6, n))))))) = (
    program a b c ps d e is r f h,
    record {
      spelled = sym (q0 ∙ ap (λ x. token int_word a ∷ x)
          (q1 ∙ ap (λ x. token main_word b ∷ x) (q2 ∙ ap (λ x. token left_paren c ∷ x)
          (q3 ∙ ap (λ x. spell_parameters ps ++ token right_paren d ∷ x) (q4
          ∙ ap (λ x. token left_brace e ∷ x) (q5 ∙ ap (λ x. spell_items is ++ (spell_return r ++ token right_brace f ∷ x))
          (q6 ∙ ap (λ x. token the_end h ∷ x) n)))))));
      good = g;
    },
  )
