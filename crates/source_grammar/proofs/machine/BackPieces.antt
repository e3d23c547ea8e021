-- Each entry of the machine, read backwards: expressions and changes.
use Rattle.std.proofs.Common.{◌≡◌, ◌∙◌, ◌++◌, ℕ, suc, List, [], ◌∷◌, refl, sym, ap, append_assoc}
use Rattle.source_grammar.specs.Tokens.{Op, plus_op, minus_op, negative, positive, negation, Kind, a_name, a_number, infix_sign, bang}
use Rattle.source_grammar.specs.Tokens.{question, colon, left_paren, right_paren, left_bracket, right_bracket, comma, change_sign}
use Rattle.source_grammar.specs.Tokens.{step_sign, nondet_word, Token, token, Name}
use Rattle.source_grammar.specs.Grammar.{Groups, Expr, number, variable, element, call, free, grouped, prefixed, spell_expr, no_arguments}
use Rattle.source_grammar.specs.Grammar.{arguments, spell_arguments, last_argument, next_argument, spell_more_arguments, absent, present}
use Rattle.source_grammar.specs.Grammar.{no_index, index, spell_index, place, assigns, steps, spell_effect, update, step_before}
use Rattle.source_grammar.specs.Grammar.{spell_update, last_update, next_update, spell_more_updates, no_updates, some_updates}
use Rattle.source_grammar.specs.Grammar.{GoodSubscripts, Subscripts, last_subscript, next_subscript, spell_subscripts, stepped_before}
use Rattle.source_grammar.specs.Grammar.{stepped_behind}
use Rattle.source_grammar.specs.Machine.{Goal, operand, named, more, maybe_expr, maybe_arguments, more_arguments, indexing, effect}
use Rattle.source_grammar.specs.Machine.{changing, more_changes, maybe_changes, only, closing, Entry, takes, skips, stops, prefix_entry}
use Rattle.source_grammar.specs.Machine.{operand_entry, named_entry, more_entry, maybe_expr_entry, maybe_arguments_entry}
use Rattle.source_grammar.specs.Machine.{more_arguments_entry, indexing_entry, effect_entry, changing_entry, more_changes_entry}
use Rattle.source_grammar.specs.Machine.{maybe_changes_entry, bracket_closing, colon_mark}
use Rattle.source_grammar.proofs.grammar.Links.{Links, ended, link, choice, spell_links, extend_all, spell_all, groups_all, any_level}
use Rattle.source_grammar.proofs.grammar.Sound.{Holds}

-- where a text after the token is spelled as the entry asks, it is so with the token as the goal asks
abbrev pub Back : Entry → Goal → List Goal → Kind → ℕ → List Token → Type 0
Back (takes next) g gs k a w = Holds (next ++ gs) w → Holds (g ∷ gs) (token k a ∷ w)
Back skips g gs k a w = Holds gs (token k a ∷ w) → Holds (g ∷ gs) (token k a ∷ w)
Back stops g gs k a w = Unit {0}

-- something and the token that ends it
pub end_text : (x : List Token) (t : Token) (w y v : List Token) → w ≡ x ++ y → y ≡ t ∷ v → w ≡ (x ++ t ∷ []) ++ v
end_text x t w y v h i = h ∙ ap (λ z. x ++ z) i ∙ sym (append_assoc x (t ∷ []) v)

-- something and something more
pub two_text : (x y w u v : List Token) → w ≡ x ++ u → u ≡ y ++ v → w ≡ (x ++ y) ++ v
two_text x y w u v h i = h ∙ ap (λ z. x ++ z) i ∙ sym (append_assoc x y v)

-- an operand and links are an expression
whole : (e : Expr) (ls : Links) (w u v : List Token) → w ≡ spell_expr e ++ u → u ≡ spell_links ls ++ v
    → w ≡ spell_expr (extend_all e ls) ++ v
whole e ls w u v h i = two_text (spell_expr e) (spell_links ls) w u v h i ∙ ap (λ x. x ++ v) (sym (spell_all e ls))

-- the text is an expression, and what these goals ask
abbrev pub ExprThen : List Goal → List Token → Type 0
ExprThen gs w = (e : Expr) × (v : List Token) × (w ≡ spell_expr e ++ v) × Groups 0 e × Holds gs v

-- an operand and what goes on with it are an expression
pub expr_then : (d c : ℕ) (gs : List Goal) (w : List Token) → Holds (operand d ∷ more c ∷ gs) w → ExprThen gs w
expr_then d c gs w (e, x, q, g, (ls, v, r, k, rest)) =
    (extend_all e ls, v, whole e ls w x v q r, groups_all e ls (any_level 1 e g) k, rest)

back_prefix : (d : ℕ) (o : Op) (gs : List Goal) (a : ℕ) (w : List Token) → Back (prefix_entry o d) (operand d) gs (infix_sign o) a w
back_prefix d plus_op gs a w = λ h. (prefixed positive a h.0, h.1, ap (λ x. token (infix_sign plus_op) a ∷ x) h.2, h.3, h.4)
back_prefix d minus_op gs a w = λ h. (prefixed negative a h.0, h.1, ap (λ x. token (infix_sign minus_op) a ∷ x) h.2, h.3, h.4)
back_prefix d _ gs a w = tt

back_group : (a d : ℕ) (gs : List Goal) (w : List Token) → ExprThen (only closing ∷ gs) w → Holds (operand d ∷ gs) (token left_paren a ∷ w)
back_group a d gs w (e, u, q, g, (b, v, r, rest)) = (
  grouped a e b,
  v,
  ap (λ x. token left_paren a ∷ x) (end_text (spell_expr e) (token right_paren b) w u v q r),
  g,
  rest,
)

-- the goal of an operand, read backwards
pub back_operand : (d : ℕ) (k : Kind) (gs : List Goal) (a : ℕ) (w : List Token) → Back (operand_entry d k) (operand d) gs k a w
back_operand d (a_name x) gs a w = λ h. h x a
back_operand d (a_number n) gs a w = λ h. (number n a, w, refl, tt, h)
back_operand d (infix_sign o) gs a w = back_prefix d o gs a w
back_operand d bang gs a w = λ h. (prefixed negation a h.0, h.1, ap (λ x. token bang a ∷ x) h.2, h.3, h.4)
back_operand d left_paren gs a w = λ h. back_group a d gs w (expr_then (suc d) (suc d) (only closing ∷ gs) w h)
back_operand d (step_sign s) gs a w = λ h.
    (stepped_before s a h.0 h.1, h.2, ap (λ x. token (step_sign s) a ∷ x) h.3, tt, h.4)
back_operand d nondet_word gs a w = λ h. (
  free a h.0 h.3.0,
  h.3.1,
  ap (λ x. token nondet_word a ∷ x)
      (h.2 ∙ ap (λ x. token left_paren h.0 ∷ x) h.3.2),
  tt,
  h.3.3,
)
back_operand d _ gs a w = tt

named_call : (a d : ℕ) (gs : List Goal) (w : List Token) → Holds (maybe_arguments d ∷ only closing ∷ gs) w
    → (x : Name) (b : ℕ) → (e : Expr) × (v : List Token) × (token (a_name x) b ∷ token left_paren a ∷ w ≡ spell_expr e ++ v)
    × Groups 7 e × Holds gs v
named_call a d gs w (es, u, q, g, (c, v, r, rest)) x b = (
  call x b a es c,
  v,
  ap (λ y. token (a_name x) b ∷ token left_paren a ∷ y) (end_text (spell_arguments es) (token right_paren c) w u v q r),
  g,
  rest,
)

-- the text is the brackets of an element or a place, and what these goals ask
abbrev SubscriptsThen : List Goal → List Token → Type 0
SubscriptsThen gs w = (is : Subscripts) × (v : List Token) × (w ≡ spell_subscripts is ++ v) × GoodSubscripts is × Holds gs v

some_subscripts : (a d : ℕ) (gs : List Goal) (w : List Token) → ExprThen (only bracket_closing ∷ indexing d ∷ gs) w
    → SubscriptsThen gs (token left_bracket a ∷ w)
some_subscripts a d gs w (e, u, q, g, (c, y, r, (no_index, v, s, k, rest))) = (
  last_subscript a e c,
  v,
  ap (λ x. token left_bracket a ∷ x)
      (two_text (spell_expr e) (token right_bracket c ∷ []) w u v q (r ∙ ap (λ x. token right_bracket c ∷ x) s)),
  g,
  rest,
)
some_subscripts a d gs w (e, u, q, g, (c, y, r, (index is, v, s, k, rest))) = (
  next_subscript a e c is,
  v,
  ap (λ x. token left_bracket a ∷ x)
      (two_text (spell_expr e) (token right_bracket c ∷ spell_subscripts is) w u v q (r ∙ ap (λ x. token right_bracket c ∷ x) s)),
  (g, k),
  rest,
)

-- brackets, read backwards
pub bracketed : (a d : ℕ) (gs : List Goal) (w : List Token)
    → Holds (operand (suc d) ∷ more (suc d) ∷ only bracket_closing ∷ indexing d ∷ gs) w → SubscriptsThen gs (token left_bracket a ∷ w)
bracketed a d gs w h = some_subscripts a d gs w (expr_then (suc d) (suc d) (only bracket_closing ∷ indexing d ∷ gs) w h)

named_element : (gs : List Goal) (w : List Token) → SubscriptsThen gs w → (x : Name) (b : ℕ) → (e : Expr) × (v : List Token)
    × (token (a_name x) b ∷ w ≡ spell_expr e ++ v) × Groups 7 e × Holds gs v
named_element gs w (is, v, q, g, rest) x b = (element x b is, v, ap (λ y. token (a_name x) b ∷ y) q, g, rest)

-- the goal of what may follow the name of an operand, read backwards
pub back_named : (d : ℕ) (k : Kind) (gs : List Goal) (a : ℕ) (w : List Token) → Back (named_entry d k) (named d) gs k a w
back_named d left_paren gs a w = λ h. named_call a (suc d) gs w h
back_named d left_bracket gs a w = λ h. named_element gs _ (bracketed a d gs w h)
back_named d (step_sign s) gs a w = λ h x b. (stepped_behind x b s a, w, refl, tt, h)
back_named d k gs a w = λ h x b. (variable x b, token k a ∷ w, refl, tt, h)

back_link : (d a : ℕ) (o : Op) (gs : List Goal) (w : List Token) → Holds (operand d ∷ more d ∷ gs) w
    → Holds (more d ∷ gs) (token (infix_sign o) a ∷ w)
back_link d a o gs w (e, u, q, g, (ls, v, r, k, rest)) = (
  link o a e ls,
  v,
  ap (λ x. token (infix_sign o) a ∷ x) (two_text (spell_expr e) (spell_links ls) w u v q r),
  (g, k),
  rest,
)

choice_text : (e f : Expr) (b : ℕ) (w u y v : List Token) → w ≡ spell_expr e ++ u → u ≡ token colon b ∷ y → y ≡ spell_expr f ++ v
    → w ≡ (spell_expr e ++ token colon b ∷ spell_expr f) ++ v
choice_text e f b w u y v h i j = two_text (spell_expr e) (token colon b ∷ spell_expr f) w u v h (i ∙ ap (λ x. token colon b ∷ x) j)

back_choice : (d a : ℕ) (gs : List Goal) (w : List Token) → ExprThen (only colon_mark ∷ operand (suc d) ∷ more (suc d) ∷ gs) w
    → Holds (more d ∷ gs) (token question a ∷ w)
back_choice d a gs w (e, u, q, g, (b, y, r, rest)) = on (expr_then (suc d) (suc d) gs y rest) where
  on : ExprThen gs y → Holds (more d ∷ gs) (token question a ∷ w)
  on (f, v, s, k, rest) = (choice a e b f, v, ap (λ x. token question a ∷ x) (choice_text e f b w u y v q r s), (g, k), rest)

-- the goal of what may follow an operand, read backwards
pub back_more : (d : ℕ) (k : Kind) (gs : List Goal) (a : ℕ) (w : List Token) → Back (more_entry d k) (more d) gs k a w
back_more d (infix_sign o) gs a w = λ h. back_link d a o gs w h
back_more d question gs a w = λ h. back_choice d a gs w
    (expr_then (suc d) (suc d) (only colon_mark ∷ operand (suc d) ∷ more (suc d) ∷ gs) w h)
back_more d k gs a w = λ h. (ended, token k a ∷ w, refl, tt, h)

one_expr : (d : ℕ) (gs : List Goal) (w : List Token) → Holds (operand d ∷ more d ∷ gs) w → Holds (maybe_expr d ∷ gs) w
one_expr d gs w h = on (expr_then d d gs w h) where
  on : ExprThen gs w → Holds (maybe_expr d ∷ gs) w
  on (e, v, q, g, rest) = (present e, v, q, g, rest)

-- the goal of an expression that may be absent, read backwards
pub back_maybe_expr : (d : ℕ) (k : Kind) (gs : List Goal) (a : ℕ) (w : List Token) → Back (maybe_expr_entry d k) (maybe_expr d) gs k a w
back_maybe_expr d (a_name x) gs a w = λ h. one_expr d gs _ (back_operand d (a_name x) (more d ∷ gs) a w h)
back_maybe_expr d (a_number n) gs a w = λ h. one_expr d gs _ (back_operand d (a_number n) (more d ∷ gs) a w h)
back_maybe_expr d (infix_sign plus_op) gs a w = λ h. one_expr d gs _ (back_operand d (infix_sign plus_op) (more d ∷ gs) a w h)
back_maybe_expr d (infix_sign minus_op) gs a w = λ h. one_expr d gs _ (back_operand d (infix_sign minus_op) (more d ∷ gs) a w h)
back_maybe_expr d bang gs a w = λ h. one_expr d gs _ (back_operand d bang (more d ∷ gs) a w h)
back_maybe_expr d left_paren gs a w = λ h. one_expr d gs _ (back_operand d left_paren (more d ∷ gs) a w h)
back_maybe_expr d (step_sign s) gs a w = λ h. one_expr d gs _ (back_operand d (step_sign s) (more d ∷ gs) a w h)
back_maybe_expr d nondet_word gs a w = λ h. one_expr d gs _ (back_operand d nondet_word (more d ∷ gs) a w h)
back_maybe_expr d k gs a w = λ h. (absent, token k a ∷ w, refl, tt, h)

some_arguments : (d : ℕ) (gs : List Goal) (w : List Token) → Holds (operand d ∷ more d ∷ more_arguments d ∷ gs) w
    → Holds (maybe_arguments d ∷ gs) w
some_arguments d gs w h = on (expr_then d d (more_arguments d ∷ gs) w h) where
  on : ExprThen (more_arguments d ∷ gs) w → Holds (maybe_arguments d ∷ gs) w
  on (e, u, q, g, (es, v, r, k, rest)) =
      (arguments e es, v, two_text (spell_expr e) (spell_more_arguments es) w u v q r, (g, k), rest)

-- the goal of arguments, read backwards
pub back_maybe_arguments : (d : ℕ) (k : Kind) (gs : List Goal) (a : ℕ) (w : List Token)
    → Back (maybe_arguments_entry d k) (maybe_arguments d) gs k a w
back_maybe_arguments d (a_name x) gs a w =
    λ h. some_arguments d gs _ (back_operand d (a_name x) (more d ∷ more_arguments d ∷ gs) a w h)
back_maybe_arguments d (a_number n) gs a w =
    λ h. some_arguments d gs _ (back_operand d (a_number n) (more d ∷ more_arguments d ∷ gs) a w h)
back_maybe_arguments d (infix_sign plus_op) gs a w =
    λ h. some_arguments d gs _ (back_operand d (infix_sign plus_op) (more d ∷ more_arguments d ∷ gs) a w h)
back_maybe_arguments d (infix_sign minus_op) gs a w =
    λ h. some_arguments d gs _ (back_operand d (infix_sign minus_op) (more d ∷ more_arguments d ∷ gs) a w h)
back_maybe_arguments d bang gs a w = λ h. some_arguments d gs _ (back_operand d bang (more d ∷ more_arguments d ∷ gs) a w h)
back_maybe_arguments d left_paren gs a w =
    λ h. some_arguments d gs _ (back_operand d left_paren (more d ∷ more_arguments d ∷ gs) a w h)
back_maybe_arguments d (step_sign s) gs a w =
    λ h. some_arguments d gs _ (back_operand d (step_sign s) (more d ∷ more_arguments d ∷ gs) a w h)
back_maybe_arguments d nondet_word gs a w =
    λ h. some_arguments d gs _ (back_operand d nondet_word (more d ∷ more_arguments d ∷ gs) a w h)
back_maybe_arguments d k gs a w = λ h. (no_arguments, token k a ∷ w, refl, tt, h)

one_more_argument : (d a : ℕ) (gs : List Goal) (w : List Token) → ExprThen (more_arguments d ∷ gs) w
    → Holds (more_arguments d ∷ gs) (token comma a ∷ w)
one_more_argument d a gs w (e, u, q, g, (es, v, r, k, rest)) = (
  next_argument a e es,
  v,
  ap (λ x. token comma a ∷ x) (two_text (spell_expr e) (spell_more_arguments es) w u v q r),
  (g, k),
  rest,
)

-- the goal of what follows an argument, read backwards
pub back_more_arguments : (d : ℕ) (k : Kind) (gs : List Goal) (a : ℕ) (w : List Token)
    → Back (more_arguments_entry d k) (more_arguments d) gs k a w
back_more_arguments d comma gs a w = λ h. one_more_argument d a gs w (expr_then d d (more_arguments d ∷ gs) w h)
back_more_arguments d k gs a w = λ h. (last_argument, token k a ∷ w, refl, tt, h)

-- ---- changes
one_index : (d : ℕ) (gs : List Goal) (w : List Token) → SubscriptsThen gs w → Holds (indexing d ∷ gs) w
one_index d gs w (is, v, q, g, rest) = (index is, v, q, g, rest)

-- the goal of the brackets of a place, read backwards
pub back_indexing : (d : ℕ) (k : Kind) (gs : List Goal) (a : ℕ) (w : List Token) → Back (indexing_entry d k) (indexing d) gs k a w
back_indexing d left_bracket gs a w = λ h. one_index d gs _ (bracketed a d gs w h)
back_indexing d k gs a w = λ h. (no_index, token k a ∷ w, refl, tt, h)

-- the goal of what is done to a place, read backwards
pub back_effect : (d : ℕ) (k : Kind) (gs : List Goal) (a : ℕ) (w : List Token) → Back (effect_entry d k) (effect d) gs k a w
back_effect d (change_sign g) gs a w = λ h. on (expr_then d d gs w h) where
  on : ExprThen gs w → Holds (effect d ∷ gs) (token (change_sign g) a ∷ w)
  on (e, v, q, i, rest) = (assigns g a e, v, ap (λ x. token (change_sign g) a ∷ x) q, i, rest)
back_effect d (step_sign g) gs a w = λ h. (steps g a, w, refl, tt, h)
back_effect d _ gs a w = tt

-- the goal of a change, read backwards
pub back_changing : (d : ℕ) (k : Kind) (gs : List Goal) (a : ℕ) (w : List Token) → Back (changing_entry d k) (changing d) gs k a w
back_changing d (a_name x) gs a w = λ h. (
  update (place x a h.0) h.4.0,
  h.4.1,
  ap (λ y. token (a_name x) a ∷ y) (two_text (spell_index h.0) (spell_effect h.4.0) w h.1 h.4.1 h.2 h.4.2),
  (h.3, h.4.3),
  h.4.4,
)
back_changing d (step_sign g) gs a w = λ h. (
  step_before g a (place h.0 h.1 h.4.0),
  h.4.1,
  ap (λ y. token (step_sign g) a ∷ y) (h.3 ∙ ap (λ y. token (a_name h.0) h.1 ∷ y) h.4.2),
  h.4.3,
  h.4.4,
)
back_changing d _ gs a w = tt

-- the goal of what follows a change, read backwards
pub back_more_changes : (d : ℕ) (k : Kind) (gs : List Goal) (a : ℕ) (w : List Token)
    → Back (more_changes_entry d k) (more_changes d) gs k a w
back_more_changes d comma gs a w = λ h. (
  next_update a h.0 h.4.0,
  h.4.1,
  ap (λ y. token comma a ∷ y) (two_text (spell_update h.0) (spell_more_updates h.4.0) w h.1 h.4.1 h.2 h.4.2),
  (h.3, h.4.3),
  h.4.4,
)
back_more_changes d k gs a w = λ h. (last_update, token k a ∷ w, refl, tt, h)

some_changes : (d : ℕ) (gs : List Goal) (w : List Token) → Holds (changing d ∷ more_changes d ∷ gs) w → Holds (maybe_changes d ∷ gs) w
some_changes d gs w (u, x, q, g, (us, v, r, k, rest)) =
    (some_updates u us, v, two_text (spell_update u) (spell_more_updates us) w x v q r, (g, k), rest)

-- the goal of changes, read backwards
pub back_maybe_changes : (d : ℕ) (k : Kind) (gs : List Goal) (a : ℕ) (w : List Token)
    → Back (maybe_changes_entry d k) (maybe_changes d) gs k a w
back_maybe_changes d (a_name x) gs a w = λ h. some_changes d gs _ (back_changing d (a_name x) (more_changes d ∷ gs) a w h)
back_maybe_changes d (step_sign g) gs a w = λ h. some_changes d gs _ (back_changing d (step_sign g) (more_changes d ∷ gs) a w h)
back_maybe_changes d k gs a w = λ h. (no_updates, token k a ∷ w, refl, tt, h)
