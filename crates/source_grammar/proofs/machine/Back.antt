-- Each entry of the machine, read backwards: statements and functions.
use Rattle.std.proofs.Common.{◌≡◌, ◌∙◌, ◌++◌, inl, inr, ℕ, suc, List, [], ◌∷◌, Option, Some, None, refl, sym, ap, append_assoc, subst}
use Rattle.source_grammar.specs.Tokens.{Kind, a_name, left_paren, right_paren, left_brace, right_brace, left_bracket, semicolon, colon}
use Rattle.source_grammar.specs.Tokens.{change_sign, step_sign, int_word, if_word, else_word, while_word, do_word, for_word, jump_word}
use Rattle.source_grammar.specs.Tokens.{return_word, demand_word, Jump, Demand, Token, token, Name, const_word}
use Rattle.source_grammar.specs.Grammar.{Expr, spell_expr, Arguments, spell_arguments, Optional, spell_optional, no_index, spell_update}
use Rattle.source_grammar.specs.Grammar.{Updates, no_updates, spell_updates, Declarator, MoreDeclarators, declares, spell_declarator}
use Rattle.source_grammar.specs.Grammar.{spell_more_declarators, ForFirst, declared_first, updated_first, spell_first, Core, empty, block}
use Rattle.source_grammar.specs.Grammar.{if_alone, if_else, repeat, repeat_after, repeat_for, jumps, returns, demands, calls, updates, Sub}
use Rattle.source_grammar.specs.Grammar.{labelled, plain, Items, no_items, label, declaration, item, spell_core, spell_sub, spell_items}
use Rattle.source_grammar.specs.Grammar.{ending_core, ending_sub, GoodCore, Ending, shut, waiting, spell_specifiers, spell_function_name}
use Rattle.source_grammar.specs.Grammar.{spell_parameters, Function, function, Reads, IntType, const_int, plain_int, spell_declarators}
use Rattle.source_grammar.specs.Grammar.{spell_type}
use Rattle.source_grammar.specs.Machine.{Goal, operand, named, more, maybe_expr, maybe_arguments, more_arguments, indexing, effect}
use Rattle.source_grammar.specs.Machine.{changing, more_changes, maybe_changes, declaring, initialising, more_declarators, statement}
use Rattle.source_grammar.specs.Machine.{after_name, maybe_else, condition, do_end, header, header_first, header_rest, specifiers}
use Rattle.source_grammar.specs.Machine.{function_name, parameters, more_parameters, some_name, only, closing, statement_end, int_type}
use Rattle.source_grammar.specs.Machine.{Site, in_sub, in_block, next, Entry, takes, skips, stops, declaration_entry, close_entry}
use Rattle.source_grammar.specs.Machine.{statement_entry, label_entry, name_entry, else_entry, condition_entry, do_end_entry, header_entry}
use Rattle.source_grammar.specs.Machine.{first_entry, rest_entry, entry, step, run, start, bounding, const_entry, filling, maybe_size}
use Rattle.source_grammar.specs.Machine.{maybe_values, more_sizes, more_values, parameter_name, sizing, some_size, some_type}
use Rattle.source_grammar.proofs.grammar.Follow.{NotElse}
use Rattle.source_grammar.proofs.grammar.Sound.{Clear, Holds}
use Rattle.source_grammar.proofs.machine.BackPieces.{Back, ExprThen, back_changing, back_effect, back_indexing, back_maybe_arguments}
use Rattle.source_grammar.proofs.machine.BackPieces.{back_maybe_changes, back_maybe_expr, back_more, back_more_arguments, back_more_changes}
use Rattle.source_grammar.proofs.machine.BackPieces.{back_named, back_operand, end_text, expr_then, two_text}
use Rattle.source_grammar.proofs.machine.BackHead.{back_bounding, back_function_name, back_maybe_size, back_more_parameters}
use Rattle.source_grammar.proofs.machine.BackHead.{back_more_sizes, back_only, back_parameter_name, back_parameters, back_some_name}
use Rattle.source_grammar.proofs.machine.BackHead.{back_some_size, back_some_type, back_specifiers}
use Rattle.source_grammar.proofs.machine.BackDeclared.{back_declaring, back_filling, back_initialising, back_maybe_values}
use Rattle.source_grammar.proofs.machine.BackDeclared.{back_more_declarators, back_more_values, back_sizing}

-- the text is a statement without labels, and what these goals ask
abbrev OneCore : List Goal → List Token → Type 0
OneCore gs w = (c : Core) × (v : List Token) × (w ≡ spell_core c ++ v) × GoodCore c × Clear (ending_core c) v × Holds gs v

shut_before : (x : Ending) (i : ℕ) (v u : List Token) → v ≡ token else_word i ∷ u → Clear x v → x ≡ shut
shut_before shut i v u h k = refl
shut_before waiting i [] u h k = cc
shut_before waiting i (token l a ∷ v) u h k = let e : l ≡ else_word = cc in let m : NotElse else_word = subst (λ x. NotElse x) e k in cc

if_text : (a b c : ℕ) (e : Expr) (s : Sub) (w v u : List Token) → w ≡ token left_paren b ∷ (spell_expr e ++ token right_paren c ∷ v)
    → v ≡ spell_sub s ++ u → token if_word a ∷ w ≡ spell_core (if_alone a b e c s) ++ u
if_text a b c e s w v u h i = rw (h, i) (simp append_assoc refl)

while_text : (a b c : ℕ) (e : Expr) (s : Sub) (w v u : List Token) → w ≡ token left_paren b ∷ (spell_expr e ++ token right_paren c ∷ v)
    → v ≡ spell_sub s ++ u → token while_word a ∷ w ≡ spell_core (repeat a b e c s) ++ u
while_text a b c e s w v u h i = rw (h, i) (simp append_assoc refl)

else_text : (a b c j : ℕ) (e : Expr) (s t : Sub) (w v u z : List Token) → w ≡ token left_paren b ∷ (spell_expr e ++ token right_paren c ∷ v)
    → v ≡ spell_sub s ++ u → u ≡ token else_word j ∷ (spell_sub t ++ z) → token if_word a ∷ w ≡ spell_core (if_else a b e c s j t) ++ z
else_text a b c j e s t w v u z h i k = rw (h, i, k) (simp append_assoc refl)

demand_text : (k : Demand) (a b c d : ℕ) (e : Expr) (w v u : List Token)
    → w ≡ token left_paren b ∷ (spell_expr e ++ token right_paren c ∷ v)
    → v ≡ token semicolon d ∷ u → token (demand_word k) a ∷ w ≡ spell_core (demands k a b e c d) ++ u
demand_text k a b c d e w v u h i = rw (h, i) (simp append_assoc refl)

call_text : (x : Name) (a b c d : ℕ) (es : Arguments) (w v y u : List Token) → w ≡ spell_arguments es ++ v
    → v ≡ token right_paren c ∷ y → y ≡ token semicolon d ∷ u
    → token (a_name x) a ∷ token left_paren b ∷ w ≡ spell_core (calls x a b es c d) ++ u
call_text x a b c d es w v y u h i j = rw (h, i, j) (simp append_assoc refl)

return_text : (a b : ℕ) (t : Optional) (w v u : List Token) → w ≡ spell_optional t ++ v → v ≡ token semicolon b ∷ u
    → token return_word a ∷ w ≡ spell_core (returns a t b) ++ u
return_text a b t w v u h i = rw (h, i) (simp append_assoc refl)

do_text : (a b c i j : ℕ) (s : Sub) (e : Expr) (w v u : List Token) → w ≡ spell_sub s ++ v
    → v ≡ token while_word b ∷ token left_paren c ∷ (spell_expr e ++ token right_paren i ∷ token semicolon j ∷ u)
    → token do_word a ∷ w ≡ spell_core (repeat_after a s b c e i j) ++ u
do_text a b c i j s e w v u h k = rw (h, k) (simp append_assoc refl)

for_text : (a b c i j : ℕ) (f : ForFirst) (t : Optional) (us : Updates) (s : Sub) (w v u : List Token)
    → w ≡ token left_paren b ∷ (spell_first f ++ token semicolon c ∷ (spell_optional t ++ token semicolon i
    ∷ (spell_updates us ++ token right_paren j ∷ v))) → v ≡ spell_sub s ++ u
    → token for_word a ∷ w ≡ spell_core (repeat_for a b f c t i us j s) ++ u
for_text a b c i j f t us s w v u h k = rw (h, k) (simp append_assoc refl)

-- ---- statements without labels
core_if : (a i j d : ℕ) (gs : List Goal) (w : List Token) → Holds (condition i ∷ statement in_sub j ∷ maybe_else d ∷ gs) w
    → OneCore gs (token if_word a ∷ w)
core_if a i j d gs w (b, e, c, v, q, g, (s, u, r, k, cl, inl (m, rest))) =
    (if_alone a b e c s, u, if_text a b c e s w v u q r, (g, k), m, rest)
core_if a i j d gs w (b, e, c, v, q, g, (s, u, r, k, cl, inr (l, t, z, m, n, o, rest))) =
    (if_else a b e c s l t, z, else_text a b c l e s t w v u z q r m, (g, k, shut_before (ending_sub s) l u _ m cl, n), o, rest)

core_while : (a i j : ℕ) (gs : List Goal) (w : List Token) → Holds (condition i ∷ statement in_sub j ∷ gs) w
    → OneCore gs (token while_word a ∷ w)
core_while a i j gs w (b, e, c, v, q, g, (s, u, r, k, cl, rest)) = (repeat a b e c s, u, while_text a b c e s w v u q r, (g, k), cl, rest)

core_demand : (k : Demand) (a i : ℕ) (gs : List Goal) (w : List Token) → Holds (condition i ∷ only statement_end ∷ gs) w
    → OneCore gs (token (demand_word k) a ∷ w)
core_demand k a i gs w (b, e, c, v, q, g, (d, u, r, rest)) = (demands k a b e c d, u, demand_text k a b c d e w v u q r, g, tt, rest)

core_do : (a i : ℕ) (gs : List Goal) (w : List Token) → Holds (statement in_sub i ∷ do_end i ∷ gs) w → OneCore gs (token do_word a ∷ w)
core_do a i gs w (s, v, q, g, cl, (b, c, e, j, k, u, r, m, rest)) = (
  repeat_after a s b c e j k,
  u,
  do_text a b c j k s e w v u q r,
  (g, m),
  tt,
  rest,
)

core_for : (a i : ℕ) (gs : List Goal) (w : List Token) → Holds (header i ∷ statement in_sub i ∷ gs) w
    → OneCore gs (token for_word a ∷ w)
core_for a i gs w (b, f, c, t, l, us, j, v, q, g, h, k, (s, u, r, m, cl, rest)) =
    (repeat_for a b f c t l us j s, u, for_text a b c l j f t us s w v u q r, (g, h, k, m), cl, rest)

core_jump : (a : ℕ) (j : Jump) (gs : List Goal) (w : List Token) → Holds (only statement_end ∷ gs) w
    → OneCore gs (token (jump_word j) a ∷ w)
core_jump a j gs w (c, v, q, rest) = (jumps j a c, v, ap (λ y. token (jump_word j) a ∷ y) q, tt, tt, rest)

core_return : (a d : ℕ) (gs : List Goal) (w : List Token) → Holds (maybe_expr d ∷ only statement_end ∷ gs) w
    → OneCore gs (token return_word a ∷ w)
core_return a d gs w (t, v, q, g, (b, u, r, rest)) = (returns a t b, u, return_text a b t w v u q r, g, tt, rest)

core_block : (a i : ℕ) (gs : List Goal) (w : List Token) → Holds (statement in_block i ∷ gs) w → OneCore gs (token left_brace a ∷ w)
core_block a i gs w (is, b, v, q, g, rest) = (
  block a is b,
  v,
  ap (λ x. token left_brace a ∷ x) (q ∙ sym (append_assoc (spell_items is) (token right_brace b ∷ []) v)),
  g,
  tt,
  rest,
)

core_changed : (d : ℕ) (gs : List Goal) (w : List Token) → Holds (changing d ∷ only statement_end ∷ gs) w → OneCore gs w
core_changed d gs w (u, v, q, g, (c, y, r, rest)) =
    (updates u c, y, end_text (spell_update u) (token semicolon c) w v y q r, g, tt, rest)

in_place : (p : Site) (d : ℕ) (gs : List Goal) (w : List Token) → OneCore (next p d ++ gs) w → Holds (statement p d ∷ gs) w
in_place in_sub d gs w (c, v, q, g, cl, rest) = (plain c, v, q, g, cl, rest)
in_place in_block d gs w (c, v, q, g, cl, (is, b, u, r, k, rest)) = (
  item c is,
  b,
  u,
  q ∙ ap (λ x. spell_core c ++ x) r ∙ sym (append_assoc (spell_core c) (spell_items is) _),
  (g, k),
  rest,
)

name_block : (x : Name) (a d : ℕ) (gs : List Goal) (w : List Token) → Holds (after_name in_block d ∷ statement in_block d ∷ gs) w
    → Holds (statement in_block d ∷ gs) (token (a_name x) a ∷ w)
name_block x a d gs w (inl (b, v, q, (is, c, u, r, g, rest))) = (
  label x a b is,
  c,
  u,
  ap (λ y. token (a_name x) a ∷ y) (q ∙ ap (λ y. token colon b ∷ y) r),
  g,
  rest,
)
name_block x a d gs w (inr f) = in_place in_block d gs _ (f x a)

back_begun : (p : Site) (x : Name) (a d : ℕ) (gs : List Goal) (w : List Token) → Holds (after_name p d ∷ (next p d ++ gs)) w
    → Holds (statement p d ∷ gs) (token (a_name x) a ∷ w)
back_begun in_sub x a d gs w h = h x a
back_begun in_block x a d gs w h = name_block x a d gs w h

declaration_text : (t : IntType) (b c : ℕ) (x : Declarator) (xs : MoreDeclarators) (is : Items) (w v u y z : List Token)
    → w ≡ spell_declarator x ++ v → v ≡ spell_more_declarators xs ++ u → u ≡ token semicolon b ∷ y
    → y ≡ spell_items is ++ token right_brace c ∷ z
    → spell_type t ++ w ≡ spell_items (declaration t (declares x xs) b is) ++ token right_brace c ∷ z
declaration_text t b c x xs is w v u y z h i j k = rw (h, i, j, k) (simp append_assoc refl)

declaration_block : (t : IntType) (d : ℕ) (gs : List Goal) (w : List Token)
    → Holds (declaring d ∷ more_declarators d ∷ only statement_end ∷ statement in_block d ∷ gs) w
    → Holds (statement in_block d ∷ gs) (spell_type t ++ w)
declaration_block t d gs w (x, v, q, g, (xs, u, r, k, (b, y, s, (is, c, z, m, l, rest)))) = (
  declaration t (declares x xs) b is,
  c,
  z,
  declaration_text t b c x xs is w v u y z q r s m,
  ((g, k), l),
  rest,
)

back_declaration : (p : Site) (a d : ℕ) (gs : List Goal) (w : List Token) → Back (declaration_entry p d) (statement p d) gs int_word a w
back_declaration in_sub a d gs w = tt
back_declaration in_block a d gs w = λ h. declaration_block (plain_int a) d gs w h

const_block : (a d : ℕ) (gs : List Goal) (w : List Token)
    → Holds (only int_type ∷ declaring d ∷ more_declarators d ∷ only statement_end ∷ statement in_block d ∷ gs) w
    → Holds (statement in_block d ∷ gs) (token const_word a ∷ w)
const_block a d gs w (b, v, q, rest) =
    subst (λ x. Holds (statement in_block d ∷ gs) (token const_word a ∷ x)) (sym q) (declaration_block (const_int a b) d gs v rest)

back_const : (p : Site) (a d : ℕ) (gs : List Goal) (w : List Token) → Back (const_entry p d) (statement p d) gs const_word a w
back_const in_sub a d gs w = tt
back_const in_block a d gs w = λ h. const_block a d gs w h

back_close : (p : Site) (a d : ℕ) (gs : List Goal) (w : List Token) → Back (close_entry p) (statement p d) gs right_brace a w
back_close in_sub a d gs w = tt
back_close in_block a d gs w = λ h. (no_items, a, w, refl, tt, h)

back_statement : (p : Site) (d : ℕ) (k : Kind) (gs : List Goal) (a : ℕ) (w : List Token)
    → Back (statement_entry p d k) (statement p d) gs k a w
back_statement p d (a_name x) gs a w = λ h. back_begun p x a d gs w h
back_statement p d semicolon gs a w = λ h. in_place p d gs _ (empty a, w, refl, tt, tt, h)
back_statement p d left_brace gs a w = λ h. in_place p d gs _ (core_block a (suc d) (next p d ++ gs) w h)
back_statement p d right_brace gs a w = back_close p a d gs w
back_statement p d int_word gs a w = back_declaration p a d gs w
back_statement p d const_word gs a w = back_const p a d gs w
back_statement p d if_word gs a w = λ h. in_place p d gs _ (core_if a (suc d) (suc d) (suc d) (next p d ++ gs) w h)
back_statement p d while_word gs a w = λ h. in_place p d gs _ (core_while a (suc d) (suc d) (next p d ++ gs) w h)
back_statement p d do_word gs a w = λ h. in_place p d gs _ (core_do a (suc d) (next p d ++ gs) w h)
back_statement p d for_word gs a w = λ h. in_place p d gs _ (core_for a (suc d) (next p d ++ gs) w h)
back_statement p d (jump_word j) gs a w = λ h. in_place p d gs _ (core_jump a j (next p d ++ gs) w h)
back_statement p d return_word gs a w = λ h. in_place p d gs _ (core_return a d (next p d ++ gs) w h)
back_statement p d (demand_word k) gs a w = λ h. in_place p d gs _ (core_demand k a d (next p d ++ gs) w h)
back_statement p d (step_sign s) gs a w = λ h. in_place p d gs _ (core_changed d (next p d ++ gs) _
    (back_changing d (step_sign s) (only statement_end ∷ (next p d ++ gs)) a w h))
back_statement p d _ gs a w = tt

-- a name that a statement begins with
abbrev NameThen : List Goal → List Token → Type 0
NameThen gs w = (x : Name) (a : ℕ) → OneCore gs (token (a_name x) a ∷ w)

core_named : (p : Site) (d : ℕ) (gs : List Goal) (w : List Token) → NameThen gs w → Holds (after_name p d ∷ gs) w
core_named in_sub d gs w f = λ x a. sub_of d gs _ (f x a) where
  sub_of : (d : ℕ) (gs : List Goal) (w : List Token) → OneCore gs w → Holds (statement in_sub d ∷ gs) w
  sub_of d gs w (c, v, q, g, cl, rest) = (plain c, v, q, g, cl, rest)
core_named in_block d gs w f = inr f

change_named : (d : ℕ) (gs : List Goal) (w : List Token) → Holds (indexing d ∷ effect d ∷ only statement_end ∷ gs) w → NameThen gs w
change_named d gs w h x b = core_changed d gs _ (back_changing d (a_name x) (only statement_end ∷ gs) b w h)

call_named : (a d : ℕ) (gs : List Goal) (w : List Token) → Holds (maybe_arguments d ∷ only closing ∷ only statement_end ∷ gs) w
    → NameThen gs (token left_paren a ∷ w)
call_named a d gs w (es, v, q, g, (c, y, r, (i, u, s, rest))) x b =
    (calls x b a es c i, u, call_text x b a c i es w v y u q r s, g, tt, rest)

back_label : (p : Site) (d : ℕ) (gs : List Goal) (a : ℕ) (w : List Token) → Back (label_entry p d) (after_name p d) gs colon a w
back_label in_sub d gs a w = λ h x b. (labelled x b a h.0, h.1, ap (λ y. token (a_name x) b ∷ token colon a ∷ y) h.2, h.3, h.4, h.5)
back_label in_block d gs a w = λ h. inl (a, w, refl, h)

back_name : (p : Site) (d : ℕ) (k : Kind) (gs : List Goal) (a : ℕ) (w : List Token) → Back (name_entry p d k) (after_name p d) gs k a w
back_name p d colon gs a w = back_label p d gs a w
back_name p d left_paren gs a w = λ h. core_named p d gs _ (call_named a (suc d) gs w h)
back_name p d left_bracket gs a w = λ h. core_named p d gs _
    (change_named d gs _ (back_indexing d left_bracket (effect d ∷ only statement_end ∷ gs) a w h))
back_name p d (change_sign g) gs a w = λ h. core_named p d gs _ (change_named d gs _
    (no_index, token (change_sign g) a ∷ w, refl, tt, back_effect d (change_sign g) (only statement_end ∷ gs) a w h))
back_name p d (step_sign s) gs a w = λ h. core_named p d gs _ (change_named d gs _
    (no_index, token (step_sign s) a ∷ w, refl, tt, back_effect d (step_sign s) (only statement_end ∷ gs) a w h))
back_name p d _ gs a w = tt

back_else : (d : ℕ) (k : Kind) (gs : List Goal) (a : ℕ) (w : List Token) → Back (else_entry d k) (maybe_else d) gs k a w
back_else d else_word gs a w = λ h. inr (a, h.0, h.1, ap (λ x. token else_word a ∷ x) h.2, h.3, h.4, h.5)
back_else d _ gs a w = λ h. inl (refl, h)

condition_open : (d a : ℕ) (gs : List Goal) (w : List Token) → ExprThen (only closing ∷ gs) w
    → Holds (condition d ∷ gs) (token left_paren a ∷ w)
condition_open d a gs w (e, u, q, g, (c, v, r, rest)) = (
  a,
  e,
  c,
  v,
  ap (λ x. token left_paren a ∷ x) (q ∙ ap (λ x. spell_expr e ++ x) r),
  g,
  rest,
)

back_condition : (d : ℕ) (k : Kind) (gs : List Goal) (a : ℕ) (w : List Token) → Back (condition_entry d k) (condition d) gs k a w
back_condition d left_paren gs a w = λ h. condition_open d a gs w (expr_then d d (only closing ∷ gs) w h)
back_condition d _ gs a w = tt

back_do_end : (d : ℕ) (k : Kind) (gs : List Goal) (a : ℕ) (w : List Token) → Back (do_end_entry d k) (do_end d) gs k a w
back_do_end d while_word gs a w = λ h. (
  a,
  h.0,
  h.1,
  h.2,
  h.6.0,
  h.6.1,
  ap (λ x. token while_word a ∷ x) (h.4 ∙ ap (λ x. token left_paren h.0 ∷ (spell_expr h.1 ++ token right_paren h.2 ∷ x)) h.6.2),
  h.5,
  h.6.3,
)
back_do_end d _ gs a w = tt

-- ---- the head of a `for`
first_changes : (d : ℕ) (gs : List Goal) (w : List Token) → Holds (maybe_changes d ∷ gs) w → Holds (header_first d ∷ gs) w
first_changes d gs w (us, v, q, g, rest) = (updated_first us, v, q, g, rest)

first_declared : (t : IntType) (d : ℕ) (gs : List Goal) (w : List Token) → Holds (declaring d ∷ more_declarators d ∷ gs) w
    → Holds (header_first d ∷ gs) (spell_type t ++ w)
first_declared t d gs w (x, v, q, g, (xs, u, r, k, rest)) = (
  declared_first t (declares x xs),
  u,
  two_text (spell_type t) (spell_declarators (declares x xs)) _ w u refl
      (two_text (spell_declarator x) (spell_more_declarators xs) w v u q r),
  (g, k),
  rest,
)

first_const : (a d : ℕ) (gs : List Goal) (w : List Token) → Holds (only int_type ∷ declaring d ∷ more_declarators d ∷ gs) w
    → Holds (header_first d ∷ gs) (token const_word a ∷ w)
first_const a d gs w (b, v, q, rest) =
    subst (λ x. Holds (header_first d ∷ gs) (token const_word a ∷ x)) (sym q) (first_declared (const_int a b) d gs v rest)

back_first : (d : ℕ) (k : Kind) (gs : List Goal) (a : ℕ) (w : List Token) → Back (first_entry d k) (header_first d) gs k a w
back_first d int_word gs a w = λ h. first_declared (plain_int a) d gs w h
back_first d const_word gs a w = λ h. first_const a d gs w h
back_first d (a_name x) gs a w = λ h. first_changes d gs _ (back_maybe_changes d (a_name x) gs a w h)
back_first d (step_sign s) gs a w = λ h. first_changes d gs _ (back_maybe_changes d (step_sign s) gs a w h)
back_first d k gs a w = λ h. (updated_first no_updates, token k a ∷ w, refl, tt, h)

header_open : (d a : ℕ) (gs : List Goal) (w : List Token) → Holds (header_first d ∷ header_rest d ∷ gs) w
    → Holds (header d ∷ gs) (token left_paren a ∷ w)
header_open d a gs w (f, v, q, g, (c, t, i, us, j, u, r, k, l, rest)) =
    (a, f, c, t, i, us, j, u, ap (λ x. token left_paren a ∷ x) (q ∙ ap (λ x. spell_first f ++ x) r), g, k, l, rest)

back_header : (d : ℕ) (k : Kind) (gs : List Goal) (a : ℕ) (w : List Token) → Back (header_entry d k) (header d) gs k a w
back_header d left_paren gs a w = λ h. header_open d a gs w h
back_header d _ gs a w = tt

rest_text : (a i j : ℕ) (t : Optional) (us : Updates) (w v u y z : List Token) → w ≡ spell_optional t ++ v → v ≡ token semicolon i ∷ u
    → u ≡ spell_updates us ++ y → y ≡ token right_paren j ∷ z
    → token semicolon a ∷ w ≡ token semicolon a ∷ (spell_optional t ++ token semicolon i ∷ (spell_updates us ++ token right_paren j ∷ z))
rest_text a i j t us w v u y z h k l m = rw (h, k, l, m) refl

rest_open : (d a : ℕ) (gs : List Goal) (w : List Token)
    → Holds (maybe_expr d ∷ only statement_end ∷ maybe_changes d ∷ only closing ∷ gs) w
    → Holds (header_rest d ∷ gs) (token semicolon a ∷ w)
rest_open d a gs w (t, v, q, g, (i, u, r, (us, y, s, k, (j, z, m, rest)))) =
    (a, t, i, us, j, z, rest_text a i j t us w v u y z q r s m, g, k, rest)

back_rest : (d : ℕ) (k : Kind) (gs : List Goal) (a : ℕ) (w : List Token) → Back (rest_entry d k) (header_rest d) gs k a w
back_rest d semicolon gs a w = λ h. rest_open d a gs w h
back_rest d _ gs a w = tt

-- ---- each goal
back : (g : Goal) (k : Kind) (gs : List Goal) (a : ℕ) (w : List Token) → Back (entry g k) g gs k a w
back (operand d) k gs a w = back_operand d k gs a w
back (named d) k gs a w = back_named d k gs a w
back (more d) k gs a w = back_more d k gs a w
back (maybe_expr d) k gs a w = back_maybe_expr d k gs a w
back (maybe_arguments d) k gs a w = back_maybe_arguments d k gs a w
back (more_arguments d) k gs a w = back_more_arguments d k gs a w
back (indexing d) k gs a w = back_indexing d k gs a w
back (effect d) k gs a w = back_effect d k gs a w
back (changing d) k gs a w = back_changing d k gs a w
back (more_changes d) k gs a w = back_more_changes d k gs a w
back (maybe_changes d) k gs a w = back_maybe_changes d k gs a w
back (declaring d) k gs a w = back_declaring d k gs a w
back (initialising d) k gs a w = back_initialising d k gs a w
back (more_declarators d) k gs a w = back_more_declarators d k gs a w
back (sizing d) k gs a w = back_sizing d k gs a w
back (filling d) k gs a w = back_filling d k gs a w
back (maybe_values d) k gs a w = back_maybe_values d k gs a w
back (more_values d) k gs a w = back_more_values d k gs a w
back (statement p d) k gs a w = back_statement p d k gs a w
back (after_name p d) k gs a w = back_name p d k gs a w
back (maybe_else d) k gs a w = back_else d k gs a w
back (condition d) k gs a w = back_condition d k gs a w
back (do_end d) k gs a w = back_do_end d k gs a w
back (header d) k gs a w = back_header d k gs a w
back (header_first d) k gs a w = back_first d k gs a w
back (header_rest d) k gs a w = back_rest d k gs a w
back specifiers k gs a w = back_specifiers k gs a w
back function_name k gs a w = back_function_name k gs a w
back parameters k gs a w = back_parameters k gs a w
back more_parameters k gs a w = back_more_parameters k gs a w
back some_type k gs a w = back_some_type k gs a w
back parameter_name k gs a w = back_parameter_name k gs a w
back bounding k gs a w = back_bounding k gs a w
back more_sizes k gs a w = back_more_sizes k gs a w
back some_name k gs a w = back_some_name k gs a w
back some_size k gs a w = back_some_size k gs a w
back maybe_size k gs a w = back_maybe_size k gs a w
back (only m) k gs a w = back_only m k gs a w

abbrev OnNext : Option (List Goal) → List Goal → Token → List Token → Type 0
OnNext None gs t w = Unit {0}
OnNext (Some next) gs t w = Holds next w → Holds gs (t ∷ w)

entry_back : (e : Entry) (g : Goal) (gs : List Goal) (k : Kind) (a : ℕ) (w : List Token) → Back e g gs k a w
    → OnNext (step gs k) gs (token k a) w → OnNext (elim e as (λ x. Option (List Goal))
    [ takes next ↦ Some (next ++ gs) | skips ↦ step gs k | stops ↦ None ]) (g ∷ gs) (token k a) w
entry_back (takes next) g gs k a w h i = h
entry_back skips g gs k a w h i = skip_back (step gs k) g gs (token k a) w h i where
  skip_back : (o : Option (List Goal)) (g : Goal) (gs : List Goal) (t : Token) (w : List Token)
      → (Holds gs (t ∷ w) → Holds (g ∷ gs) (t ∷ w)) → OnNext o gs t w → OnNext o (g ∷ gs) t w
  skip_back None g gs t w h i = tt
  skip_back (Some next) g gs t w h i = λ x. h (i x)
entry_back stops g gs k a w h i = tt

step_back : (gs : List Goal) (k : Kind) (a : ℕ) (w : List Token) → OnNext (step gs k) gs (token k a) w
step_back [] k a w = tt
step_back (g ∷ gs) k a w = entry_back (entry g k) g gs k a w (back g k gs a w) (step_back gs k a w)

run_back : (o : Option (List Goal)) (gs : List Goal) (t : Token) (w : List Token) → OnNext o gs t w
    → ((next : List Goal) → run next w ≡ Some [] → Holds next w) → elim o as (λ x. Option (List Goal))
    [ None ↦ None | Some next ↦ run next w ] ≡ Some [] → Holds gs (t ∷ w)
run_back None gs t w h f e = cc
run_back (Some next) gs t w h f e = h (f next e)

some_nil : (gs : List Goal) → ◌≡◌ {A = Option (List Goal)} (Some gs) (Some []) → Holds gs []
some_nil [] e = refl
some_nil (g ∷ gs) e = cc

-- a text with which the machine ends is spelled as the goals ask
pub holds : (w : List Token) (gs : List Goal) → run gs w ≡ Some [] → Holds gs w
holds [] gs e = some_nil gs e
holds (token k a ∷ w) gs e = run_back (step gs k) gs (token k a) w (step_back gs k a w) (λ next i. holds w next i) e

-- What is accepted reads as a function.
pub accepted_reads : (w : List Token) → run start w ≡ Some [] → (f : Function) × Reads w f
accepted_reads w e = found w (holds w start e) where
  found : (w : List Token) → Holds start w → (f : Function) × Reads w f
  found w (ss, v0, q0, (n, v1, q1, (a, v2, q2, (ps, v3, q3, (b, v4, q4, (c, v5, q5, (is, d, v6, q6, g, r))))))) = (
    function ss n a ps b c is d,
    record {
      spelled = sym (q0 ∙ ap (λ x. spell_specifiers ss ++ x) (q1 ∙ ap (λ x. spell_function_name n ++ x)
          (q2 ∙ ap (λ x. token left_paren a ∷ x) (q3 ∙ ap (λ x. spell_parameters ps ++ x) (q4
          ∙ ap (λ x. token right_paren b ∷ x) (q5 ∙ ap (λ x. token left_brace c ∷ x)
          (q6 ∙ ap (λ x. spell_items is ++ token right_brace d ∷ x) r)))))));
      good = g;
    },
  )
