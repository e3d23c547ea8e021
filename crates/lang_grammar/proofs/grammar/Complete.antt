-- The machine takes the spelling of each good tree.
use Rattle.std.proofs.Common.{◌≡◌, ◌∙◌, ◌++◌, ℕ, suc, List, [], ◌∷◌, Option, Some, None, refl, ap, append_assoc}
use Rattle.lang_grammar.specs.Grammar.{else_word, negative, positive, negation, Kind, Token, token, Expr, number, variable, free, grouped}
use Rattle.lang_grammar.specs.Grammar.{prefixed, joined}
use Rattle.lang_grammar.specs.Grammar.{spell_expr, bare, given, Declarators, declares, declares_more, spell_declarators, Core, empty, block}
use Rattle.lang_grammar.specs.Grammar.{if_alone, if_else}
use Rattle.lang_grammar.specs.Grammar.{set, step_after, step_before, ForFirst, no_first, declared_first, updated_first, ForTest, no_test}
use Rattle.lang_grammar.specs.Grammar.{given_test}
use Rattle.lang_grammar.specs.Grammar.{ForLast, no_last, updated_last, spell_first, spell_test, spell_last}
use Rattle.lang_grammar.specs.Grammar.{repeat, repeat_after, repeat_for, jumps, demands, updates, Sub, labelled, plain, Items, no_items}
use Rattle.lang_grammar.specs.Grammar.{label, declaration, item, spell_core}
use Rattle.lang_grammar.specs.Grammar.{spell_sub, spell_items, shut, ending_core, ending_sub, GoodCore, GoodSub, GoodItems, Return}
use Rattle.lang_grammar.specs.Grammar.{no_return, returns, while_word, left_paren}
use Rattle.lang_grammar.specs.Grammar.{returns_minus, spell_return, nothing, void_at, Program, program, spell, Good, right_brace}
use Rattle.lang_grammar.specs.Grammar.{right_paren, comma, semicolon}
use Rattle.lang_grammar.specs.Machine.{do_end, header_first, header_test, header_last, until_paren, until_semicolon, Ender, until_declared}
use Rattle.lang_grammar.specs.Machine.{Place, in_sub, in_block, in_main, next, Goal, operand, more, statement, maybe_else, declarator, only}
use Rattle.lang_grammar.specs.Machine.{statement_end, text_end, skips, else_entry, step, run, start}

-- the machine takes an expression where an operand has to come
pub expr_run : (e : Expr) (n : Ender) (d c : ℕ) (gs : List Goal) (w : List Token)
    → run (operand d ∷ more n c ∷ gs) (spell_expr e ++ w) ≡ run (more n c ∷ gs) w
expr_run (number m a) n d c gs w = refl
expr_run (variable x a) n d c gs w = refl
expr_run (free i j k) n d c gs w = refl
expr_run (grouped a e b) n d c gs w = rw append_assoc (expr_run e _ (suc d) (suc d) (more n c ∷ gs) (token right_paren b ∷ w))
expr_run (prefixed negative a e) n d c gs w = expr_run e n (suc d) c gs w
expr_run (prefixed positive a e) n d c gs w = expr_run e n (suc d) c gs w
expr_run (prefixed negation a e) n d c gs w = expr_run e n (suc d) c gs w
expr_run (joined e o a f) n d c gs w = rw append_assoc (expr_run e n d c gs _ ∙ expr_run f n c c gs w)

-- the machine takes declarators where one has to come
pub declarators_run : (xs : Declarators) (d : ℕ) (gs : List Goal) (w : List Token)
    → run (declarator d ∷ gs) (spell_declarators xs ++ w) ≡ run gs w
declarators_run (declares (bare x a) c) d gs w = refl
declarators_run (declares (given x a b e) c) d gs w = rw append_assoc (expr_run e until_declared d d gs (token semicolon c ∷ w))
declarators_run (declares_more (bare x a) c xs) d gs w = declarators_run xs d gs w
declarators_run (declares_more (given x a b e) c xs) d gs w = rw append_assoc
    (expr_run e until_declared d d gs (token comma c ∷ (spell_declarators xs ++ w)) ∙ declarators_run xs d gs w)

-- ---- the head of a `for`
first_run : (f : ForFirst) (d : ℕ) (gs : List Goal) (w : List Token) → run (header_first d ∷ gs) (spell_first f ++ w) ≡ run gs w
first_run (no_first a) d gs w = refl
first_run (declared_first a xs) d gs w = declarators_run xs d gs w
first_run (updated_first (set x a g b e) c) d gs w = rw append_assoc (expr_run e until_semicolon d d gs (token semicolon c ∷ w))
first_run (updated_first (step_after x a g b) c) d gs w = refl
first_run (updated_first (step_before g a x b) c) d gs w = refl

-- An expression is taken as by an operand and what follows it.
test_expr_run : (e : Expr) (d : ℕ) (gs : List Goal) (w : List Token) →
    run (header_test d ∷ gs) (spell_expr e ++ w) ≡ run (more until_semicolon d ∷ gs) w
test_expr_run (number m a) d gs w = refl
test_expr_run (variable x a) d gs w = refl
test_expr_run (free i j k) d gs w = refl
test_expr_run (grouped a e b) d gs w = rw append_assoc (expr_run e _ (suc d) (suc d) (more until_semicolon d ∷ gs)
    (token right_paren b ∷ w))
test_expr_run (prefixed negative a e) d gs w = expr_run e until_semicolon (suc d) d gs w
test_expr_run (prefixed positive a e) d gs w = expr_run e until_semicolon (suc d) d gs w
test_expr_run (prefixed negation a e) d gs w = expr_run e until_semicolon (suc d) d gs w
test_expr_run (joined e o a f) d gs w = rw append_assoc (test_expr_run e d gs _ ∙ expr_run f until_semicolon d d gs w)

test_run : (t : ForTest) (d : ℕ) (gs : List Goal) (w : List Token) → run (header_test d ∷ gs) (spell_test t ++ w) ≡ run gs w
test_run (no_test a) d gs w = refl
test_run (given_test e a) d gs w = rw append_assoc (test_expr_run e d gs (token semicolon a ∷ w))

last_run : (l : ForLast) (d : ℕ) (gs : List Goal) (w : List Token) → run (header_last d ∷ gs) (spell_last l ++ w) ≡ run gs w
last_run (no_last a) d gs w = refl
last_run (updated_last (set x a g b e) c) d gs w = rw append_assoc (expr_run e until_paren d d gs (token right_paren c ∷ w))
last_run (updated_last (step_after x a g b) c) d gs w = refl
last_run (updated_last (step_before g a x b) c) d gs w = refl

-- the `if`s at the end that may still take an `else`
abbrev mutual
  -- the goals of a statement's open `if`s
  pub pending_core : ℕ → Core → List Goal
  pending_core d (empty a) = []
  pending_core d (block a is b) = []
  pending_core d (if_alone a b e c s) = pending_sub (suc d) s ++ maybe_else (suc d) ∷ []
  pending_core d (if_else a b e c s i t) = pending_sub (suc d) t
  pending_core d (repeat a b e c s) = pending_sub (suc d) s
  pending_core d (repeat_after a s b c e i j) = []
  pending_core d (repeat_for a b f t l s) = pending_sub (suc d) s
  pending_core d (jumps j a b) = []
  pending_core d (demands k a b e c i) = []
  pending_core d (updates u c) = []

  -- the goals of the open `if`s of a statement with its labels
  pub pending_sub : ℕ → Sub → List Goal
  pending_sub d (labelled x a b s) = pending_sub d s
  pending_sub d (plain c) = pending_core d c

mutual
  none_core : (d : ℕ) (c : Core) → ending_core c ≡ shut → pending_core d c ≡ []
  none_core d (empty a) h = refl
  none_core d (block a is b) h = refl
  none_core d (if_alone a b e c s) h = cc
  none_core d (if_else a b e c s i t) h = none_sub (suc d) t h
  none_core d (repeat a b e c s) h = none_sub (suc d) s h
  none_core d (repeat_for a b f t l s) h = none_sub (suc d) s h
  none_core d _ h = refl

  -- a statement with its labels that ends with no open `if` has no such goal
  pub none_sub : (d : ℕ) (s : Sub) → ending_sub s ≡ shut → pending_sub d s ≡ []
  none_sub d (labelled x a b s) h = none_sub d s h
  none_sub d (plain c) h = none_core d c h

-- the token is no `else`
abbrev pub NotElse : Kind → Type 0
NotElse k = else_entry 0 k ≡ skips

pass_one : (d : ℕ) (k : Kind) (gs : List Goal) → NotElse k → step (maybe_else d ∷ gs) k ≡ step gs k
pass_one d else_word gs h = cc
pass_one d _ gs h = refl

mutual
  -- a token other than `else` passes the open `if`s of a statement
  pub pass_core : (d : ℕ) (c : Core) (gs : List Goal) (k : Kind) → NotElse k → step (pending_core d c ++ gs) k ≡ step gs k
  pass_core d (empty a) gs k h = refl
  pass_core d (block a is b) gs k h = refl
  pass_core d (if_alone a b e c s) gs k h = rw append_assoc (pass_sub (suc d) s (maybe_else (suc d) ∷ gs) k h ∙ pass_one (suc d) k gs h)
  pass_core d (if_else a b e c s i t) gs k h = pass_sub (suc d) t gs k h
  pass_core d (repeat a b e c s) gs k h = pass_sub (suc d) s gs k h
  pass_core d (repeat_for a b f t l s) gs k h = pass_sub (suc d) s gs k h
  pass_core d _ gs k h = refl

  -- a token other than `else` passes the open `if`s of a statement with its labels
  pub pass_sub : (d : ℕ) (s : Sub) (gs : List Goal) (k : Kind) → NotElse k → step (pending_sub d s ++ gs) k ≡ step gs k
  pass_sub d (labelled x a b s) gs k h = pass_sub d s gs k h
  pass_sub d (plain c) gs k h = pass_core d c gs k h

-- The text goes on, and not with `else`.
abbrev pub GoesOn : List Token → Type 0
GoesOn [] = ⊥
GoesOn (token k a ∷ ts) = NotElse k

pass_run : (d : ℕ) (c : Core) (gs : List Goal) (w : List Token) → GoesOn w → run (pending_core d c ++ gs) w ≡ run gs w
pass_run d c gs [] h = absurd h
pass_run d c gs (token k a ∷ ts) h = ap (λ (o : Option (List Goal)). elim o as (λ x. Option (List Goal))
    [ None ↦ None | Some next ↦ run next ts ]) (pass_core d c gs k h)

pass_sub_run : (d : ℕ) (s : Sub) (gs : List Goal) (w : List Token) → GoesOn w → run (pending_sub d s ++ gs) w ≡ run gs w
pass_sub_run d s gs [] h = absurd h
pass_sub_run d s gs (token k a ∷ ts) h = ap (λ (o : Option (List Goal)). elim o as (λ x. Option (List Goal))
    [ None ↦ None | Some next ↦ run next ts ]) (pass_sub d s gs k h)

-- no statement begins with `else`
pub core_head : (c : Core) (w : List Token) → GoesOn (spell_core c ++ w)
core_head (updates (set x a g b e) c) w = refl
core_head (updates (step_after x a g b) c) w = refl
core_head (updates (step_before g a x b) c) w = refl
core_head _ w = refl

-- statements before a text that doesn't go on with `else` don't begin with it
pub items_head : (is : Items) (w : List Token) → GoesOn w → GoesOn (spell_items is ++ w)
items_head no_items w h = h
items_head (label x b c is) w h = refl
items_head (declaration a xs is) w h = refl
items_head (item c is) w h = rw append_assoc (core_head c _)

-- where several statements may stand
abbrev pub IsMany : Place → Type 0
IsMany in_sub = ⊥
IsMany in_block = Unit {0}
IsMany in_main = Unit {0}

mutual
  core_run : (c : Core) (p : Place) (d : ℕ) (gs : List Goal) (w : List Token) → GoodCore c
      → run (statement p d ∷ gs) (spell_core c ++ w) ≡ run (pending_core d c ++ (next p d ++ gs)) w
  core_run (empty a) p d gs w g = refl
  core_run (block a is b) p d gs w g = rw append_assoc (items_run is in_block tt (suc d) (next p d ++ gs) (token right_brace b ∷ w) g refl)
  core_run (if_alone a b e c s) p d gs w g = simp append_assoc (expr_run e _ (suc d) (suc d)
      (statement in_sub (suc d) ∷ maybe_else (suc d) ∷ (next p d ++ gs)) (token right_paren c ∷ (spell_sub s ++ w))
      ∙ sub_run s (suc d) (maybe_else (suc d) ∷ (next p d ++ gs)) w g.1)
  core_run (if_else a b e c s i t) p d gs w g = simp append_assoc (expr_run e _ (suc d) (suc d)
      (statement in_sub (suc d) ∷ maybe_else (suc d) ∷ (next p d ++ gs)) _ ∙ sub_run s (suc d) (maybe_else (suc d) ∷ (next p d ++ gs)) _ g.1
      ∙ rw (none_sub (suc d) s g.2) (sub_run t (suc d) (next p d ++ gs) w g.3))
  core_run (repeat a b e c s) p d gs w g = simp append_assoc (expr_run e _ (suc d) (suc d) (statement in_sub (suc d) ∷ (next p d ++ gs)) _
      ∙ sub_run s (suc d) (next p d ++ gs) w g.1)
  core_run (repeat_after a s b c e i j) p d gs w g = ap (λ (x : List Token). run
      (statement in_sub (suc d) ∷ do_end (suc d) ∷ (next p d ++ gs)) x)
      (append_assoc (spell_sub s) (token while_word b ∷ token left_paren c ∷ (spell_expr e ++ token right_paren i ∷ token semicolon j ∷ []))
      w ∙ ap (λ x. spell_sub s ++ token while_word b ∷ token left_paren c ∷ x)
      (append_assoc (spell_expr e) (token right_paren i ∷ token semicolon j ∷ []) w))
      ∙ sub_run s (suc d) (do_end (suc d) ∷ (next p d ++ gs)) (token while_word b ∷ token left_paren c
      ∷ (spell_expr e ++ token right_paren i ∷ token semicolon j ∷ w)) g.0
      ∙ pass_sub_run (suc d) s (do_end (suc d) ∷ (next p d ++ gs)) (token while_word b ∷ token left_paren c
      ∷ (spell_expr e ++ token right_paren i ∷ token semicolon j ∷ w)) refl
      ∙ expr_run e until_paren (suc d) (suc d) (only statement_end ∷ (next p d ++ gs)) (token right_paren i ∷ token semicolon j ∷ w)
  core_run (repeat_for a b f t l s) p d gs w g = simp append_assoc (first_run f (suc d)
      (header_test (suc d) ∷ header_last (suc d) ∷ statement in_sub (suc d) ∷ (next p d ++ gs)) _
      ∙ test_run t (suc d) (header_last (suc d) ∷ statement in_sub (suc d) ∷ (next p d ++ gs)) _
      ∙ last_run l (suc d) (statement in_sub (suc d) ∷ (next p d ++ gs)) _ ∙ sub_run s (suc d) (next p d ++ gs) w g.3)
  core_run (jumps j a b) p d gs w g = refl
  core_run (demands k a b e c i) p d gs w g = simp append_assoc (expr_run e _ d d (only statement_end ∷ (next p d ++ gs)) _)
  core_run (updates (set x a g b e) c) p d gs w h = rw append_assoc (expr_run e _ d d (next p d ++ gs) _)
  core_run (updates (step_after x a g b) c) p d gs w h = refl
  core_run (updates (step_before g a x b) c) p d gs w h = refl

  sub_run : (s : Sub) (d : ℕ) (gs : List Goal) (w : List Token) → GoodSub s
      → run (statement in_sub d ∷ gs) (spell_sub s ++ w) ≡ run (pending_sub d s ++ gs) w
  sub_run (labelled x a b s) d gs w g = sub_run s d gs w g
  sub_run (plain c) d gs w g = core_run c in_sub d gs w g

  items_run : (is : Items) (p : Place) → IsMany p → (d : ℕ) (gs : List Goal) (w : List Token) → GoodItems is → GoesOn w
      → run (statement p d ∷ gs) (spell_items is ++ w) ≡ run (statement p d ∷ gs) w
  items_run no_items p m d gs w g h = refl
  items_run (label x b c is) in_block m d gs w g h = items_run is in_block m d gs w g h
  items_run (label x b c is) in_main m d gs w g h = items_run is in_main m d gs w g h
  items_run (declaration a xs is) in_block m d gs w g h = rw append_assoc
      (declarators_run xs d (statement in_block d ∷ gs) _ ∙ items_run is in_block m d gs w g.1 h)
  items_run (declaration a xs is) in_main m d gs w g h = rw append_assoc
      (declarators_run xs d (statement in_main d ∷ gs) _ ∙ items_run is in_main m d gs w g.1 h)
  items_run (item c is) in_block m d gs w g h = rw append_assoc (core_run c in_block d gs _ g.0
      ∙ pass_run d c (statement in_block d ∷ gs) _ (items_head is w h) ∙ items_run is in_block m d gs w g.1 h)
  items_run (item c is) in_main m d gs w g h = rw append_assoc (core_run c in_main d gs _ g.0
      ∙ pass_run d c (statement in_main d ∷ gs) _ (items_head is w h) ∙ items_run is in_main m d gs w g.1 h)
  items_run (label x b c is) in_sub m d gs w g h = absurd m
  items_run (declaration a xs is) in_sub m d gs w g h = absurd m
  items_run (item c is) in_sub m d gs w g h = absurd m

-- the end of `main` doesn't begin with `else`
pub return_head : (r : Return) (f : ℕ) (w : List Token) → GoesOn (spell_return r ++ token right_brace f ∷ w)
return_head no_return f w = refl
return_head (returns a n b c) f w = refl
return_head (returns_minus a b n c d) f w = refl

return_run : (r : Return) (f : ℕ) (gs : List Goal) (w : List Token) → run (statement in_main 0 ∷ gs)
    (spell_return r ++ token right_brace f ∷ w) ≡ run gs w
return_run no_return f gs w = refl
return_run (returns a n b c) f gs w = refl
return_run (returns_minus a b n c d) f gs w = refl

-- Each program's spelling is accepted.
pub accepted : (p : Program) → Good p → run start (spell p) ≡ Some []
accepted (program a b c nothing d e is r f i) g = items_run is in_main tt 0 (only text_end ∷ []) (spell_return r ++ token right_brace f ∷ _)
    g (return_head r f _) ∙ return_run r f (only text_end ∷ []) _
accepted (program a b c (void_at x) d e is r f i) g = items_run is in_main tt 0 (only text_end ∷ [])
    (spell_return r ++ token right_brace f ∷ _) g (return_head r f _) ∙ return_run r f (only text_end ∷ []) _
