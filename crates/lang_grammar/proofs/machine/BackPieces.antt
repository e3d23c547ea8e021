-- Each entry of the machine, read backwards: expressions, and statements that begin with a word.
use Rattle.std.proofs.Common.{◌≡◌, ◌∙◌, ◌++◌, inl, inr, ℕ, suc, List, [], ◌∷◌, refl, sym, ap, append_assoc, subst}
use Rattle.lang_grammar.specs.Grammar.{Op, plus_op, minus_op, negative, positive, negation, Kind, a_name, a_number, infix_sign, bang}
use Rattle.lang_grammar.specs.Grammar.{left_paren, right_paren, left_brace, right_brace, comma, semicolon}
use Rattle.lang_grammar.specs.Grammar.{do_word, for_word, jump_word, Jump, Demand, ForFirst}
use Rattle.lang_grammar.specs.Grammar.{spell_first, ForTest, spell_test, ForLast, spell_last, repeat_after, repeat_for}
use Rattle.lang_grammar.specs.Grammar.{jumps, if_word, else_word, while_word, demand_word, nondet_word, Token, token, Groups, Expr}
use Rattle.lang_grammar.specs.Grammar.{number, variable, free, grouped, prefixed, spell_expr}
use Rattle.lang_grammar.specs.Grammar.{Core, block, if_alone, if_else, repeat, demands, Sub}
use Rattle.lang_grammar.specs.Grammar.{spell_core, spell_sub, spell_items, Ending, shut, waiting, ending_core, ending_sub, GoodCore}
use Rattle.lang_grammar.specs.Machine.{Ender, until_paren, until_semicolon, until_declared, in_sub, in_block, next}
use Rattle.lang_grammar.specs.Machine.{statement_end, Goal, operand, more, statement}
use Rattle.lang_grammar.specs.Machine.{do_end, header}
use Rattle.lang_grammar.specs.Machine.{maybe_else, condition, declarator, only, Entry, takes}
use Rattle.lang_grammar.specs.Machine.{skips, stops, prefix_entry, operand_entry, more_entry}
use Rattle.lang_grammar.proofs.grammar.Complete.{NotElse}
use Rattle.lang_grammar.proofs.grammar.Sound.{Links, ended, link, spell_links, GoodLinks, extend_all, spell_all, groups_all, any_level}
use Rattle.lang_grammar.proofs.grammar.Sound.{Clear, no_more, and_more, Ended}
use Rattle.lang_grammar.proofs.grammar.Sound.{Holds}

-- where a text after the token is spelled as the entry asks, it is so with the token as the goal asks
abbrev pub Back : Entry → Goal → List Goal → Kind → ℕ → List Token → Type 0
Back (takes next) g gs k a w = Holds (next ++ gs) w → Holds (g ∷ gs) (token k a ∷ w)
Back skips g gs k a w = Holds gs (token k a ∷ w) → Holds (g ∷ gs) (token k a ∷ w)
Back stops g gs k a w = Unit {0}

-- an operand and links are an expression
pub whole : (e : Expr) (ls : Links) (w u v : List Token) → w ≡ spell_expr e ++ u → u ≡ spell_links ls ++ v → Groups 6 e → GoodLinks ls
    → (w ≡ spell_expr (extend_all e ls) ++ v) × Groups 0 (extend_all e ls)
whole e ls w u v h i g k = (
  h ∙ ap (λ x. spell_expr e ++ x) i ∙ sym (append_assoc (spell_expr e) (spell_links ls) v)
      ∙ ap (λ x. x ++ v) (sym (spell_all e ls)),
  groups_all e ls (any_level 0 e g) k,
)

-- the text is an expression, what ends it, and what these goals ask
abbrev pub ExprThen : Ender → List Goal → List Token → Type 0
ExprThen n gs w = (e : Expr) × (u : List Token) × (v : List Token) × (w ≡ spell_expr e ++ u) × Groups 0 e × Ended n u v × Holds gs v

-- an operand and what goes on with it are an expression
pub expr_then : (n : Ender) (d c : ℕ) (gs : List Goal) (w : List Token) → Holds (operand d ∷ more n c ∷ gs) w → ExprThen n gs w
expr_then n d c gs w (e, x, q, g, (ls, u, v, r, k, m, rest)) = (
  extend_all e ls,
  u,
  v,
  (whole e ls w x u q r g k).0,
  (whole e ls w x u q r g k).1,
  m,
  rest,
)

back_prefix : (d : ℕ) (o : Op) (gs : List Goal) (a : ℕ) (w : List Token) → Back (prefix_entry o d) (operand d) gs (infix_sign o) a w
back_prefix d plus_op gs a w = λ h. (prefixed positive a h.0, h.1, ap (λ x. token (infix_sign plus_op) a ∷ x) h.2, h.3, h.4)
back_prefix d minus_op gs a w = λ h. (prefixed negative a h.0, h.1, ap (λ x. token (infix_sign minus_op) a ∷ x) h.2, h.3, h.4)
back_prefix d _ gs a w = tt

back_group : (a d : ℕ) (gs : List Goal) (w : List Token) → ExprThen until_paren gs w → Holds (operand d ∷ gs) (token left_paren a ∷ w)
back_group a d gs w (e, u, v, q, g, (b, r), rest) = (
  grouped a e b,
  v,
  ap (λ x. token left_paren a ∷ x) (q ∙ ap (λ x. spell_expr e ++ x) r ∙ sym (append_assoc (spell_expr e) (token right_paren b ∷ []) v)),
  g,
  rest,
)

-- the goal of an operand, read backwards
pub back_operand : (d : ℕ) (k : Kind) (gs : List Goal) (a : ℕ) (w : List Token) → Back (operand_entry d k) (operand d) gs k a w
back_operand d (a_name x) gs a w = λ h. (variable x a, w, refl, tt, h)
back_operand d (a_number n) gs a w = λ h. (number n a, w, refl, tt, h)
back_operand d (infix_sign o) gs a w = back_prefix d o gs a w
back_operand d bang gs a w = λ h. (prefixed negation a h.0, h.1, ap (λ x. token bang a ∷ x) h.2, h.3, h.4)
back_operand d left_paren gs a w = λ h. back_group a d gs w (expr_then until_paren (suc d) (suc d) gs w h)
back_operand d nondet_word gs a w = λ h. (
  free a h.0 h.3.0,
  h.3.1,
  ap (λ x. token nondet_word a ∷ x)
      (h.2 ∙ ap (λ x. token left_paren h.0 ∷ x) h.3.2),
  tt,
  h.3.3,
)
back_operand d _ gs a w = tt

back_link : (n : Ender) (d a : ℕ) (o : Op) (gs : List Goal) (w : List Token) → Holds (operand d ∷ more n d ∷ gs) w
    → Holds (more n d ∷ gs) (token (infix_sign o) a ∷ w)
back_link n d a o gs w (e, x, q, g, (ls, u, v, r, k, m, rest)) = (
  link o a e ls,
  u,
  v,
  ap (λ x. token (infix_sign o) a ∷ x) (q ∙ ap (λ x. spell_expr e ++ x) r ∙ sym (append_assoc (spell_expr e) (spell_links ls) _)),
  (g, k),
  m,
  rest,
)

back_comma : (d a : ℕ) (gs : List Goal) (w : List Token) → Holds (declarator d ∷ gs) w
    → Holds (more until_declared d ∷ gs) (token comma a ∷ w)
back_comma d a gs w (xs, v, q, g, rest) = (ended, token comma a ∷ w, v, refl, tt, (and_more a xs, ap (λ x. token comma a ∷ x) q, g), rest)

-- the goal of what may follow an operand, read backwards
pub back_more : (n : Ender) (d : ℕ) (k : Kind) (gs : List Goal) (a : ℕ) (w : List Token) → Back (more_entry n d k) (more n d) gs k a w
back_more n d (infix_sign o) gs a w = λ h. back_link n d a o gs w h
back_more until_paren d right_paren gs a w = λ h. (ended, token right_paren a ∷ w, w, refl, tt, (a, refl), h)
back_more until_semicolon d semicolon gs a w = λ h. (ended, token semicolon a ∷ w, w, refl, tt, (a, refl), h)
back_more until_declared d semicolon gs a w = λ h. (ended, token semicolon a ∷ w, w, refl, tt, (no_more a, refl, tt), h)
back_more until_declared d comma gs a w = λ h. back_comma d a gs w h
back_more n d _ gs a w = tt

-- the text is a statement without labels, and what these goals ask
abbrev pub OneCore : List Goal → List Token → Type 0
OneCore gs w = (c : Core) × (v : List Token) × (w ≡ spell_core c ++ v) × GoodCore c × Clear (ending_core c) v × Holds gs v

shut_before : (x : Ending) (i : ℕ) (v u : List Token) → v ≡ token else_word i ∷ u → Clear x v → x ≡ shut
shut_before shut i v u h k = refl
shut_before waiting i [] u h k = cc
shut_before waiting i (token l a ∷ v) u h k = let e : l ≡ else_word = cc in let m : NotElse else_word = subst (λ x. NotElse x) e k in cc

if_text : (a b c : ℕ) (e : Expr) (s : Sub) (w v u : List Token) → w ≡ token left_paren b ∷ (spell_expr e ++ token right_paren c ∷ v)
    → v ≡ spell_sub s ++ u → token if_word a ∷ w ≡ spell_core (if_alone a b e c s) ++ u
if_text a b c e s w v u h i = rw (h, i) (simp append_assoc refl)

while_text : (a b c : ℕ) (e : Expr) (s : Sub) (w v u : List Token) → w ≡ token left_paren b ∷ (spell_expr e ++ token right_paren c ∷ v)
    → v ≡ spell_sub s ++ u → token while_word a ∷ w ≡ spell_core (repeat a b e c s) ++ u
while_text a b c e s w v u h i = rw (h, i) (simp append_assoc refl)

else_text : (a b c j : ℕ) (e : Expr) (s t : Sub) (w v u z : List Token) → w ≡ token left_paren b ∷ (spell_expr e ++ token right_paren c ∷ v)
    → v ≡ spell_sub s ++ u → u ≡ token else_word j ∷ (spell_sub t ++ z) → token if_word a ∷ w ≡ spell_core (if_else a b e c s j t) ++ z
else_text a b c j e s t w v u z h i k = rw (h, i, k) (simp append_assoc refl)

demand_text : (k : Demand) (a b c d : ℕ) (e : Expr) (w v u : List Token)
    → w ≡ token left_paren b ∷ (spell_expr e ++ token right_paren c ∷ v)
    → v ≡ token semicolon d ∷ u → token (demand_word k) a ∷ w ≡ spell_core (demands k a b e c d) ++ u
demand_text k a b c d e w v u h i = rw (h, i) (simp append_assoc refl)

do_text : (a b c i j : ℕ) (s : Sub) (e : Expr) (w v u : List Token) → w ≡ spell_sub s ++ v
    → v ≡ token while_word b ∷ token left_paren c ∷ (spell_expr e ++ token right_paren i ∷ token semicolon j ∷ u)
    → token do_word a ∷ w ≡ spell_core (repeat_after a s b c e i j) ++ u
do_text a b c i j s e w v u h k = rw (h, k) (simp append_assoc refl)

for_text : (a b : ℕ) (f : ForFirst) (t : ForTest) (l : ForLast) (s : Sub) (w v u : List Token)
    → w ≡ token left_paren b ∷ (spell_first f ++ (spell_test t ++ (spell_last l ++ v))) → v ≡ spell_sub s ++ u
    → token for_word a ∷ w ≡ spell_core (repeat_for a b f t l s) ++ u
for_text a b f t l s w v u h k = rw (h, k) (simp append_assoc refl)

-- something and the token that ends it
pub end_text : (x : List Token) (t : Token) (w y v : List Token) → w ≡ x ++ y → y ≡ t ∷ v → w ≡ (x ++ t ∷ []) ++ v
end_text x t w y v h i = h ∙ ap (λ z. x ++ z) i ∙ sym (append_assoc x (t ∷ []) v)

-- an `if` is one statement
pub core_if : (a i j d : ℕ) (gs : List Goal) (w : List Token) → Holds (condition i ∷ statement in_sub j ∷ maybe_else d ∷ gs) w
    → OneCore gs (token if_word a ∷ w)
core_if a i j d gs w (b, e, c, v, q, g, (s, u, r, k, cl, inl (m, rest))) =
    (if_alone a b e c s, u, if_text a b c e s w v u q r, (g, k), m, rest)
core_if a i j d gs w (b, e, c, v, q, g, (s, u, r, k, cl, inr (l, t, z, m, n, o, rest))) =
    (if_else a b e c s l t, z, else_text a b c l e s t w v u z q r m, (g, k, shut_before (ending_sub s) l u _ m cl, n), o, rest)

-- a `while` is one statement
pub core_while : (a i j : ℕ) (gs : List Goal) (w : List Token) → Holds (condition i ∷ statement in_sub j ∷ gs) w
    → OneCore gs (token while_word a ∷ w)
core_while a i j gs w (b, e, c, v, q, g, (s, u, r, k, cl, rest)) = (repeat a b e c s, u, while_text a b c e s w v u q r, (g, k), cl, rest)

-- an `assume` or `assert` is one statement
pub core_demand : (k : Demand) (a i : ℕ) (gs : List Goal) (w : List Token) → Holds (condition i ∷ only statement_end ∷ gs) w
    → OneCore gs (token (demand_word k) a ∷ w)
core_demand k a i gs w (b, e, c, v, q, g, (d, u, r, rest)) = (demands k a b e c d, u, demand_text k a b c d e w v u q r, g, tt, rest)

-- a `do` is one statement
pub core_do : (a i : ℕ) (gs : List Goal) (w : List Token) → Holds (statement in_sub i ∷ do_end i ∷ gs) w → OneCore gs (token do_word a ∷ w)
core_do a i gs w (s, v, q, g, cl, (b, c, e, j, k, u, r, m, rest)) = (
  repeat_after a s b c e j k,
  u,
  do_text a b c j k s e w v u q r,
  (g, m),
  tt,
  rest,
)

-- a `for` is one statement
pub core_for : (a i : ℕ) (gs : List Goal) (w : List Token) → Holds (header i ∷ statement in_sub i ∷ gs) w
    → OneCore gs (token for_word a ∷ w)
core_for a i gs w (b, f, t, l, v, q, g, h, k, (s, u, r, m, cl, rest)) =
    (repeat_for a b f t l s, u, for_text a b f t l s w v u q r, (g, h, k, m), cl, rest)

-- a jump is one statement
pub core_jump : (a : ℕ) (j : Jump) (gs : List Goal) (w : List Token) → Holds (only statement_end ∷ gs) w
    → OneCore gs (token (jump_word j) a ∷ w)
core_jump a j gs w (c, v, q, rest) = (jumps j a c, v, ap (λ y. token (jump_word j) a ∷ y) q, tt, tt, rest)

-- a block is one statement
pub core_block : (a i : ℕ) (gs : List Goal) (w : List Token) → Holds (statement in_block i ∷ gs) w → OneCore gs (token left_brace a ∷ w)
core_block a i gs w (is, b, v, q, g, rest) = (
  block a is b,
  v,
  ap (λ x. token left_brace a ∷ x)
      (q ∙ sym (append_assoc (spell_items is) (token right_brace b ∷ []) v)),
  g,
  tt,
  rest,
)
