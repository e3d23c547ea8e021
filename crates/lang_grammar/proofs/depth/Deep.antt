-- The machine counts what is open as the trees do.
use Rattle.std.proofs.Common.{◌≡◌, ◌∙◌, ◌++◌, ℕ, suc, List, [], ◌∷◌, Option, Some, None, refl, sym, ap, ap₂, append_assoc, arith}
use Rattle.lang_grammar.specs.Grammar.{level, else_word, negative, positive, negation, Kind, Token, token, Groups, Expr, number, variable}
use Rattle.lang_grammar.specs.Grammar.{free, grouped, prefixed}
use Rattle.lang_grammar.specs.Grammar.{joined, spell_expr, Declarators, declares, declares_more, bare, given, spell_declarators}
use Rattle.lang_grammar.specs.Grammar.{GoodDeclarators, Core, empty}
use Rattle.lang_grammar.specs.Grammar.{set, step_after, step_before, ForFirst, no_first, declared_first, updated_first, spell_first}
use Rattle.lang_grammar.specs.Grammar.{GoodFirst, ForTest}
use Rattle.lang_grammar.specs.Grammar.{no_test, given_test, spell_test, GoodTest, ForLast, no_last, updated_last, spell_last, GoodLast}
use Rattle.lang_grammar.specs.Grammar.{block, if_alone, if_else, repeat, repeat_after, repeat_for, jumps, demands, updates, Sub, labelled}
use Rattle.lang_grammar.specs.Grammar.{plain, Items, no_items, label}
use Rattle.lang_grammar.specs.Grammar.{declaration, item, spell_core, spell_sub, spell_items, GoodCore, GoodSub, GoodItems, Return}
use Rattle.lang_grammar.specs.Grammar.{no_return, returns}
use Rattle.lang_grammar.specs.Grammar.{returns_minus, spell_return, nothing, void_at, Program, program, spell, Good, right_brace}
use Rattle.lang_grammar.specs.Grammar.{right_paren, comma, semicolon}
use Rattle.lang_grammar.specs.Grammar.{the_end, while_word, left_paren}
use Rattle.lang_grammar.specs.Machine.{Ender, until_paren, until_semicolon, until_declared, Place, in_sub, in_block, in_main, next, Goal}
use Rattle.lang_grammar.specs.Machine.{operand, more, statement}
use Rattle.lang_grammar.specs.Machine.{do_end, header_first, header_test, header_last, maybe_else, declarator, only, statement_end}
use Rattle.lang_grammar.specs.Machine.{text_end, start}
use Rattle.lang_grammar.specs.Depth.{opens_expr, opens_first, opens_test, opens_last, opens_declarators, opens_core, opens_sub, opens_items}
use Rattle.lang_grammar.specs.Depth.{opens_return, opens}
use Rattle.lang_grammar.specs.Verdicts.{opened, trace}
use Rattle.lang_grammar.proofs.grammar.Complete.{pending_core, pending_sub, none_sub, NotElse, pass_core, pass_sub, GoesOn, items_head}
use Rattle.lang_grammar.proofs.grammar.Complete.{IsMany, return_head}
use Rattle.lang_grammar.proofs.grammar.Sound.{below_six}

closing : (gs : List Goal) (x : List Token) (t : Token) (w : List Token) (o r : List (Option ℕ)) (d : ℕ)
    → trace gs (x ++ t ∷ w) ≡ o ++ None ∷ r → Some d ∷ trace gs ((x ++ t ∷ []) ++ w) ≡ Some d ∷ ((o ++ None ∷ []) ++ r)
closing gs x t w o r d h = ap (λ (y : List Token). Some d ∷ trace gs y) (append_assoc x (t ∷ []) w) ∙ ap (λ y. Some d ∷ y) h
    ∙ ap (λ y. Some d ∷ y) (sym (append_assoc o (None ∷ []) r))

-- a token that opens a construct, one that opens none, and what follows
abbrev pub two : ℕ → List (Option ℕ) → List (Option ℕ)
two d x = Some d ∷ None ∷ x

shape_two : (gs : List Goal) (x : List Token) (t : Token) (y w : List Token) (o p r : List (Option ℕ)) (d : ℕ)
    → trace gs (x ++ t ∷ (y ++ w)) ≡ o ++ None ∷ (p ++ r) → two d (trace gs ((x ++ t ∷ y) ++ w)) ≡ two d ((o ++ None ∷ p) ++ r)
shape_two gs x t y w o p r d h = ap (two d) (ap (λ (v : List Token). trace gs v) (append_assoc x (t ∷ y) w) ∙ h
    ∙ sym (append_assoc o (None ∷ p) r))

shape_three : (gs : List Goal) (x : List Token) (t : Token) (y : List Token) (u : Token) (z w : List Token) (o p q r : List (Option ℕ))
    (d : ℕ) → trace gs (x ++ t ∷ (y ++ u ∷ (z ++ w))) ≡ o ++ None ∷ (p ++ None ∷ (q ++ r))
    → two d (trace gs ((x ++ t ∷ (y ++ u ∷ z)) ++ w)) ≡ two d ((o ++ None ∷ (p ++ None ∷ q)) ++ r)
shape_three gs x t y u z w o p q r d h = shape_two gs x t (y ++ u ∷ z) w o (p ++ None ∷ q) r d
    (ap (λ (v : List Token). trace gs (x ++ t ∷ v)) (append_assoc y (u ∷ z) w) ∙ h
    ∙ ap (λ v. o ++ None ∷ v) (sym (append_assoc p (None ∷ q) r)))

shape_do : (gs : List Goal) (x : List Token) (t u : Token) (y : List Token) (v q : Token) (w : List Token) (o p r : List (Option ℕ)) (d : ℕ)
    → trace gs (x ++ t ∷ u ∷ (y ++ v ∷ q ∷ w)) ≡ o ++ None ∷ None ∷ (p ++ None ∷ None ∷ r)
    → Some d ∷ trace gs ((x ++ t ∷ u ∷ (y ++ v ∷ q ∷ [])) ++ w) ≡ Some d ∷ ((o ++ None ∷ None ∷ (p ++ None ∷ None ∷ [])) ++ r)
shape_do gs x t u y v q w o p r d h = ap (λ z. Some d ∷ z) (ap (λ (z : List Token). trace gs z)
    (append_assoc x (t ∷ u ∷ (y ++ v ∷ q ∷ [])) w ∙ ap (λ z. x ++ t ∷ u ∷ z) (append_assoc y (v ∷ q ∷ []) w)) ∙ h
    ∙ sym (append_assoc o (None ∷ None ∷ (p ++ None ∷ None ∷ [])) r ∙ ap (λ z. o ++ None ∷ None ∷ z) (append_assoc p (None ∷ None ∷ []) r)))

shape_for : (gs : List Goal) (x y z v w : List Token) (o p q t r : List (Option ℕ)) (d : ℕ)
    → trace gs (x ++ (y ++ (z ++ (v ++ w)))) ≡ o ++ (p ++ (q ++ (t ++ r)))
    → two d (trace gs ((x ++ (y ++ (z ++ v))) ++ w)) ≡ two d ((o ++ (p ++ (q ++ t))) ++ r)
shape_for gs x y z v w o p q t r d h = ap (two d) (ap (λ (m : List Token). trace gs m)
    (append_assoc x (y ++ (z ++ v)) w ∙ ap (λ m. x ++ m) (append_assoc y (z ++ v) w ∙ ap (λ m. y ++ m) (append_assoc z v w))) ∙ h
    ∙ sym (append_assoc o (p ++ (q ++ t)) r ∙ ap (λ m. o ++ m) (append_assoc p (q ++ t) r ∙ ap (λ m. p ++ m) (append_assoc q t r))))

shape_set : (gs : List Goal) (x : List Token) (t : Token) (w : List Token) (o r : List (Option ℕ)) → trace gs (x ++ t ∷ w) ≡ o ++ None ∷ r
    → None ∷ None ∷ trace gs ((x ++ t ∷ []) ++ w) ≡ None ∷ None ∷ ((o ++ None ∷ []) ++ r)
shape_set gs x t w o r h = ap (λ (y : List Token). None ∷ None ∷ trace gs y) (append_assoc x (t ∷ []) w) ∙ ap (λ y. None ∷ None ∷ y) h
    ∙ ap (λ y. None ∷ None ∷ y) (sym (append_assoc o (None ∷ []) r))

shape_item : (gs : List Goal) (x y w : List Token) (o p r : List (Option ℕ)) → trace gs (x ++ (y ++ w)) ≡ o ++ (p ++ r)
    → trace gs ((x ++ y) ++ w) ≡ (o ++ p) ++ r
shape_item gs x y w o p r h = ap (λ (v : List Token). trace gs v) (append_assoc x y w) ∙ h ∙ sym (append_assoc o p r)

mutual
  operand_trace : (e : Expr) (d : ℕ) (gs : List Goal) (w : List Token) → Groups 6 e
      → trace (operand d ∷ gs) (spell_expr e ++ w) ≡ opens_expr d e ++ trace gs w
  operand_trace (number m a) d gs w g = refl
  operand_trace (variable x a) d gs w g = refl
  operand_trace (free i j k) d gs w g = refl
  operand_trace (grouped a e b) d gs w g = closing (operand (suc d) ∷ more until_paren (suc d) ∷ gs) (spell_expr e) (token right_paren b) w
      (opens_expr (suc d) e) (trace gs w) d (expr_trace e until_paren 0 (suc d) gs (token right_paren b ∷ w) g)
  operand_trace (prefixed negative a e) d gs w g = ap (λ x. Some d ∷ x) (operand_trace e (suc d) gs w g)
  operand_trace (prefixed positive a e) d gs w g = ap (λ x. Some d ∷ x) (operand_trace e (suc d) gs w g)
  operand_trace (prefixed negation a e) d gs w g = ap (λ x. Some d ∷ x) (operand_trace e (suc d) gs w g)
  operand_trace (joined e o a f) d gs w g = absurd (omega (arith, g.0, below_six o))

  -- the machine counts what an expression's tokens open as the tree does
  pub expr_trace : (e : Expr) (n : Ender) (l d : ℕ) (gs : List Goal) (w : List Token) → Groups l e
      → trace (operand d ∷ more n d ∷ gs) (spell_expr e ++ w) ≡ opens_expr d e ++ trace (more n d ∷ gs) w
  expr_trace (number m a) n l d gs w g = refl
  expr_trace (variable x a) n l d gs w g = refl
  expr_trace (free i j k) n l d gs w g = refl
  expr_trace (grouped a e b) n l d gs w g = closing (operand (suc d) ∷ more until_paren (suc d) ∷ more n d ∷ gs) (spell_expr e)
      (token right_paren b) w (opens_expr (suc d) e) (trace (more n d ∷ gs) w) d
      (expr_trace e until_paren 0 (suc d) (more n d ∷ gs) (token right_paren b ∷ w) g)
  expr_trace (prefixed negative a e) n l d gs w g = ap (λ x. Some d ∷ x) (operand_trace e (suc d) (more n d ∷ gs) w g)
  expr_trace (prefixed positive a e) n l d gs w g = ap (λ x. Some d ∷ x) (operand_trace e (suc d) (more n d ∷ gs) w g)
  expr_trace (prefixed negation a e) n l d gs w g = ap (λ x. Some d ∷ x) (operand_trace e (suc d) (more n d ∷ gs) w g)
  expr_trace (joined e o a f) n l d gs w g = simp append_assoc (expr_trace e n (level o) d gs _ g.1
      ∙ ap (λ x. opens_expr d e ++ None ∷ x) (expr_trace f n (suc (level o)) d gs w g.2))

shape_given : (gs : List Goal) (x : List Token) (t : Token) (y w : List Token) (o p r : List (Option ℕ))
    → trace gs (x ++ t ∷ (y ++ w)) ≡ o ++ None ∷ (p ++ r) → None ∷ None ∷ trace gs ((x ++ t ∷ y) ++ w)
    ≡ None ∷ None ∷ ((o ++ None ∷ p) ++ r)
shape_given gs x t y w o p r h = ap (λ z. None ∷ None ∷ z) (ap (λ (v : List Token). trace gs v) (append_assoc x (t ∷ y) w) ∙ h
    ∙ sym (append_assoc o (None ∷ p) r))

shape_demand : (gs : List Goal) (x : List Token) (t u : Token) (w : List Token) (o r : List (Option ℕ))
    → trace gs (x ++ t ∷ u ∷ w) ≡ o ++ None ∷ None ∷ r → None ∷ None ∷ trace gs ((x ++ t ∷ u ∷ []) ++ w)
    ≡ None ∷ None ∷ ((o ++ None ∷ None ∷ []) ++ r)
shape_demand gs x t u w o r h = ap (λ z. None ∷ None ∷ z) (ap (λ (v : List Token). trace gs v) (append_assoc x (t ∷ u ∷ []) w) ∙ h
    ∙ sym (append_assoc o (None ∷ None ∷ []) r))

declarators_trace : (xs : Declarators) (d : ℕ) (gs : List Goal) (w : List Token) → GoodDeclarators xs
    → trace (declarator d ∷ gs) (spell_declarators xs ++ w) ≡ opens_declarators d xs ++ trace gs w
declarators_trace (declares (bare x a) c) d gs w g = refl
declarators_trace (declares (given x a b e) c) d gs w g = shape_set (operand d ∷ more until_declared d ∷ gs) (spell_expr e)
    (token semicolon c) w (opens_expr d e) (trace gs w) (expr_trace e until_declared 0 d gs (token semicolon c ∷ w) g)
declarators_trace (declares_more (bare x a) c xs) d gs w g = ap (λ z. None ∷ None ∷ z) (declarators_trace xs d gs w g.1)
declarators_trace (declares_more (given x a b e) c xs) d gs w g = shape_given (operand d ∷ more until_declared d ∷ gs) (spell_expr e)
    (token comma c) (spell_declarators xs) w (opens_expr d e) (opens_declarators d xs) (trace gs w)
    (expr_trace e until_declared 0 d gs (token comma c ∷ (spell_declarators xs ++ w)) g.0
    ∙ ap (λ z. opens_expr d e ++ None ∷ z) (declarators_trace xs d gs w g.1))

-- ---- the head of a `for`
shape_end : (gs : List Goal) (x : List Token) (t : Token) (w : List Token) (o r : List (Option ℕ)) → trace gs (x ++ t ∷ w) ≡ o ++ None ∷ r
    → trace gs ((x ++ t ∷ []) ++ w) ≡ (o ++ None ∷ []) ++ r
shape_end gs x t w o r h = ap (λ (y : List Token). trace gs y) (append_assoc x (t ∷ []) w) ∙ h ∙ sym (append_assoc o (None ∷ []) r)

first_trace : (f : ForFirst) (d : ℕ) (gs : List Goal) (w : List Token) → GoodFirst f
    → trace (header_first d ∷ gs) (spell_first f ++ w) ≡ opens_first d f ++ trace gs w
first_trace (no_first a) d gs w g = refl
first_trace (declared_first a xs) d gs w g = ap (λ z. None ∷ z) (declarators_trace xs d gs w g)
first_trace (updated_first (set x a h b e) c) d gs w g = shape_set (operand d ∷ more until_semicolon d ∷ gs) (spell_expr e)
    (token semicolon c) w (opens_expr d e) (trace gs w) (expr_trace e until_semicolon 0 d gs (token semicolon c ∷ w) g)
first_trace (updated_first (step_after x a h b) c) d gs w g = refl
first_trace (updated_first (step_before h a x b) c) d gs w g = refl

-- An expression is taken as by an operand and what follows it.
test_same : (e : Expr) (d : ℕ) (gs : List Goal) (w : List Token) → trace (header_test d ∷ gs) (spell_expr e ++ w)
    ≡ trace (operand d ∷ more until_semicolon d ∷ gs) (spell_expr e ++ w)
test_same (number m a) d gs w = refl
test_same (variable x a) d gs w = refl
test_same (free i j k) d gs w = refl
test_same (grouped a e b) d gs w = refl
test_same (prefixed negative a e) d gs w = refl
test_same (prefixed positive a e) d gs w = refl
test_same (prefixed negation a e) d gs w = refl
test_same (joined e o a f) d gs w = rw append_assoc (test_same e d gs _)

test_trace : (t : ForTest) (d : ℕ) (gs : List Goal) (w : List Token) → GoodTest t
    → trace (header_test d ∷ gs) (spell_test t ++ w) ≡ opens_test d t ++ trace gs w
test_trace (no_test a) d gs w g = refl
test_trace (given_test e a) d gs w g = shape_end (header_test d ∷ gs) (spell_expr e) (token semicolon a) w (opens_expr d e) (trace gs w)
    (test_same e d gs (token semicolon a ∷ w) ∙ expr_trace e until_semicolon 0 d gs (token semicolon a ∷ w) g)

last_trace : (l : ForLast) (d : ℕ) (gs : List Goal) (w : List Token) → GoodLast l
    → trace (header_last d ∷ gs) (spell_last l ++ w) ≡ opens_last d l ++ trace gs w
last_trace (no_last a) d gs w g = refl
last_trace (updated_last (set x a h b e) c) d gs w g = shape_set (operand d ∷ more until_paren d ∷ gs) (spell_expr e) (token right_paren c)
    w (opens_expr d e) (trace gs w) (expr_trace e until_paren 0 d gs (token right_paren c ∷ w) g)
last_trace (updated_last (step_after x a h b) c) d gs w g = refl
last_trace (updated_last (step_before h a x b) c) d gs w g = refl

opened_one : (d : ℕ) (k : Kind) (gs : List Goal) → NotElse k → opened (maybe_else d ∷ gs) k ≡ opened gs k
opened_one d else_word gs h = cc
opened_one d _ gs h = refl

mutual
  opened_core_pass : (d : ℕ) (c : Core) (gs : List Goal) (k : Kind) → NotElse k → opened (pending_core d c ++ gs) k ≡ opened gs k
  opened_core_pass d (empty a) gs k h = refl
  opened_core_pass d (block a is b) gs k h = refl
  opened_core_pass d (if_alone a b e c s) gs k h = rw append_assoc (opened_sub_pass (suc d) s (maybe_else (suc d) ∷ gs) k h
      ∙ opened_one (suc d) k gs h)
  opened_core_pass d (if_else a b e c s i t) gs k h = opened_sub_pass (suc d) t gs k h
  opened_core_pass d (repeat a b e c s) gs k h = opened_sub_pass (suc d) s gs k h
  opened_core_pass d (repeat_for a b f t l s) gs k h = opened_sub_pass (suc d) s gs k h
  opened_core_pass d _ gs k h = refl

  opened_sub_pass : (d : ℕ) (s : Sub) (gs : List Goal) (k : Kind) → NotElse k → opened (pending_sub d s ++ gs) k ≡ opened gs k
  opened_sub_pass d (labelled x a b s) gs k h = opened_sub_pass d s gs k h
  opened_sub_pass d (plain c) gs k h = opened_core_pass d c gs k h

pass_trace : (d : ℕ) (c : Core) (gs : List Goal) (w : List Token) → GoesOn w → trace (pending_core d c ++ gs) w ≡ trace gs w
pass_trace d c gs [] h = absurd h
pass_trace d c gs (token k a ∷ ts) h = ap₂ (λ (x : Option ℕ) (o : Option (List Goal)). x
    ∷ elim o as (λ x. List (Option ℕ)) [ None ↦ [] | Some next ↦ trace next ts ]) (opened_core_pass d c gs k h) (pass_core d c gs k h)

pass_sub_trace : (d : ℕ) (s : Sub) (gs : List Goal) (w : List Token) → GoesOn w → trace (pending_sub d s ++ gs) w ≡ trace gs w
pass_sub_trace d s gs [] h = absurd h
pass_sub_trace d s gs (token k a ∷ ts) h = ap₂ (λ (x : Option ℕ) (o : Option (List Goal)). x
    ∷ elim o as (λ x. List (Option ℕ)) [ None ↦ [] | Some next ↦ trace next ts ]) (opened_sub_pass d s gs k h) (pass_sub d s gs k h)

mutual
  core_trace : (c : Core) (p : Place) (d : ℕ) (gs : List Goal) (w : List Token) → GoodCore c
      → trace (statement p d ∷ gs) (spell_core c ++ w) ≡ opens_core d c ++ trace (pending_core d c ++ (next p d ++ gs)) w
  core_trace (empty a) p d gs w g = refl
  core_trace (block a is b) p d gs w g = closing (statement in_block (suc d) ∷ (next p d ++ gs)) (spell_items is) (token right_brace b) w
      (opens_items (suc d) is) (trace (next p d ++ gs) w) d (items_trace is in_block tt (suc d) (next p d ++ gs) (token right_brace b ∷ w) g
      refl)
  core_trace (if_alone a b e c s) p d gs w g = shape_two (operand (suc d) ∷ more until_paren (suc d) ∷ statement in_sub (suc d)
      ∷ maybe_else (suc d) ∷ (next p d ++ gs)) (spell_expr e) (token right_paren c) (spell_sub s) w (opens_expr (suc d) e)
      (opens_sub (suc d) s) _ d (expr_trace e until_paren 0 (suc d) (statement in_sub (suc d) ∷ maybe_else (suc d) ∷ (next p d ++ gs))
      (token right_paren c ∷ (spell_sub s ++ w)) g.0 ∙ ap (λ x. opens_expr (suc d) e ++ None ∷ x)
      (sub_trace s (suc d) (maybe_else (suc d) ∷ (next p d ++ gs)) w g.1
      ∙ ap (λ (x : List Goal). opens_sub (suc d) s ++ trace x w) (sym (append_assoc (pending_sub (suc d) s) (maybe_else (suc d) ∷ [])
      (next p d ++ gs)))))
  core_trace (if_else a b e c s i t) p d gs w g = shape_three (operand (suc d) ∷ more until_paren (suc d) ∷ statement in_sub (suc d)
      ∷ maybe_else (suc d) ∷ (next p d ++ gs)) (spell_expr e) (token right_paren c) (spell_sub s) (token else_word i) (spell_sub t) w
      (opens_expr (suc d) e) (opens_sub (suc d) s) (opens_sub (suc d) t) _ d
      (expr_trace e until_paren 0 (suc d) (statement in_sub (suc d) ∷ maybe_else (suc d) ∷ (next p d ++ gs))
      (token right_paren c ∷ (spell_sub s ++ token else_word i ∷ (spell_sub t ++ w))) g.0
      ∙ ap (λ x. opens_expr (suc d) e ++ None ∷ x) (sub_trace s (suc d) (maybe_else (suc d) ∷ (next p d ++ gs))
      (token else_word i ∷ (spell_sub t ++ w)) g.1 ∙ ap (λ (x : List Goal). opens_sub (suc d) s
      ++ trace (x ++ maybe_else (suc d) ∷ (next p d ++ gs)) (token else_word i ∷ (spell_sub t ++ w))) (none_sub (suc d) s g.2)
      ∙ ap (λ x. opens_sub (suc d) s ++ None ∷ x) (sub_trace t (suc d) (next p d ++ gs) w g.3)))
  core_trace (repeat a b e c s) p d gs w g = shape_two (operand (suc d) ∷ more until_paren (suc d) ∷ statement in_sub (suc d)
      ∷ (next p d ++ gs)) (spell_expr e) (token right_paren c) (spell_sub s) w (opens_expr (suc d) e) (opens_sub (suc d) s) _ d
      (expr_trace e until_paren 0 (suc d) (statement in_sub (suc d) ∷ (next p d ++ gs)) (token right_paren c ∷ (spell_sub s ++ w)) g.0
      ∙ ap (λ x. opens_expr (suc d) e ++ None ∷ x) (sub_trace s (suc d) (next p d ++ gs) w g.1))
  core_trace (demands k a b e c i) p d gs w g = shape_demand (operand d ∷ more until_paren d ∷ only statement_end ∷ (next p d ++ gs))
      (spell_expr e) (token right_paren c) (token semicolon i) w (opens_expr d e) (trace (next p d ++ gs) w)
      (expr_trace e until_paren 0 d (only statement_end ∷ (next p d ++ gs)) (token right_paren c ∷ token semicolon i ∷ w) g)
  core_trace (repeat_after a s b c e i j) p d gs w g = shape_do (statement in_sub (suc d) ∷ do_end (suc d) ∷ (next p d ++ gs)) (spell_sub s)
      (token while_word b) (token left_paren c) (spell_expr e) (token right_paren i) (token semicolon j) w (opens_sub (suc d) s)
      (opens_expr (suc d) e) (trace (next p d ++ gs) w) d (sub_trace s (suc d) (do_end (suc d) ∷ (next p d ++ gs))
      (token while_word b ∷ token left_paren c ∷ (spell_expr e ++ token right_paren i ∷ token semicolon j ∷ w)) g.0
      ∙ ap (λ x. opens_sub (suc d) s ++ x) (pass_sub_trace (suc d) s (do_end (suc d) ∷ (next p d ++ gs))
      (token while_word b ∷ token left_paren c ∷ (spell_expr e ++ token right_paren i ∷ token semicolon j ∷ w)) refl
      ∙ ap (λ x. None ∷ None ∷ x) (expr_trace e until_paren 0 (suc d) (only statement_end ∷ (next p d ++ gs))
      (token right_paren i ∷ token semicolon j ∷ w) g.1)))
  core_trace (repeat_for a b f t l s) p d gs w g = shape_for (header_first (suc d) ∷ header_test (suc d) ∷ header_last (suc d)
      ∷ statement in_sub (suc d) ∷ (next p d ++ gs)) (spell_first f) (spell_test t) (spell_last l) (spell_sub s) w (opens_first (suc d) f)
      (opens_test (suc d) t) (opens_last (suc d) l) (opens_sub (suc d) s) _ d
      (first_trace f (suc d) (header_test (suc d) ∷ header_last (suc d) ∷ statement in_sub (suc d) ∷ (next p d ++ gs))
      (spell_test t ++ (spell_last l ++ (spell_sub s ++ w))) g.0 ∙ ap (λ x. opens_first (suc d) f ++ x)
      (test_trace t (suc d) (header_last (suc d) ∷ statement in_sub (suc d) ∷ (next p d ++ gs)) (spell_last l ++ (spell_sub s ++ w)) g.1
      ∙ ap (λ x. opens_test (suc d) t ++ x) (last_trace l (suc d) (statement in_sub (suc d) ∷ (next p d ++ gs)) (spell_sub s ++ w) g.2
      ∙ ap (λ x. opens_last (suc d) l ++ x) (sub_trace s (suc d) (next p d ++ gs) w g.3))))
  core_trace (jumps j a b) p d gs w g = refl
  core_trace (updates (set x a h b e) c) p d gs w g = shape_set (operand d ∷ more until_semicolon d ∷ (next p d ++ gs)) (spell_expr e)
      (token semicolon c) w (opens_expr d e) (trace (next p d ++ gs) w)
      (expr_trace e until_semicolon 0 d (next p d ++ gs) (token semicolon c ∷ w) g)
  core_trace (updates (step_after x a h b) c) p d gs w g = refl
  core_trace (updates (step_before h a x b) c) p d gs w g = refl

  sub_trace : (s : Sub) (d : ℕ) (gs : List Goal) (w : List Token) → GoodSub s
      → trace (statement in_sub d ∷ gs) (spell_sub s ++ w) ≡ opens_sub d s ++ trace (pending_sub d s ++ gs) w
  sub_trace (labelled x a b s) d gs w g = ap (λ x. None ∷ None ∷ x) (sub_trace s d gs w g)
  sub_trace (plain c) d gs w g = core_trace c in_sub d gs w g

  items_trace : (is : Items) (p : Place) → IsMany p → (d : ℕ) (gs : List Goal) (w : List Token) → GoodItems is → GoesOn w
      → trace (statement p d ∷ gs) (spell_items is ++ w) ≡ opens_items d is ++ trace (statement p d ∷ gs) w
  items_trace no_items p m d gs w g h = refl
  items_trace (label x b c is) in_block m d gs w g h = ap (λ x. None ∷ None ∷ x) (items_trace is in_block m d gs w g h)
  items_trace (label x b c is) in_main m d gs w g h = ap (λ x. None ∷ None ∷ x) (items_trace is in_main m d gs w g h)
  items_trace (declaration a xs is) in_block m d gs w g h = ap (λ z. None ∷ z)
      (shape_item (declarator d ∷ statement in_block d ∷ gs) (spell_declarators xs) (spell_items is) w (opens_declarators d xs)
      (opens_items d is) (trace (statement in_block d ∷ gs) w) (declarators_trace xs d (statement in_block d ∷ gs) _ g.0
      ∙ ap (λ x. opens_declarators d xs ++ x) (items_trace is in_block m d gs w g.1 h)))
  items_trace (declaration a xs is) in_main m d gs w g h = ap (λ z. None ∷ z)
      (shape_item (declarator d ∷ statement in_main d ∷ gs) (spell_declarators xs) (spell_items is) w (opens_declarators d xs)
      (opens_items d is) (trace (statement in_main d ∷ gs) w) (declarators_trace xs d (statement in_main d ∷ gs) _ g.0
      ∙ ap (λ x. opens_declarators d xs ++ x) (items_trace is in_main m d gs w g.1 h)))
  items_trace (item c is) in_block m d gs w g h = shape_item (statement in_block d ∷ gs) (spell_core c) (spell_items is) w (opens_core d c)
      (opens_items d is) (trace (statement in_block d ∷ gs) w) (core_trace c in_block d gs _ g.0
      ∙ ap (λ x. opens_core d c ++ x) (pass_trace d c (statement in_block d ∷ gs) _ (items_head is w h)
      ∙ items_trace is in_block m d gs w g.1 h))
  items_trace (item c is) in_main m d gs w g h = shape_item (statement in_main d ∷ gs) (spell_core c) (spell_items is) w (opens_core d c)
      (opens_items d is) (trace (statement in_main d ∷ gs) w) (core_trace c in_main d gs _ g.0
      ∙ ap (λ x. opens_core d c ++ x) (pass_trace d c (statement in_main d ∷ gs) _ (items_head is w h)
      ∙ items_trace is in_main m d gs w g.1 h))
  items_trace (label x b c is) in_sub m d gs w g h = absurd m
  items_trace (declaration a xs is) in_sub m d gs w g h = absurd m
  items_trace (item c is) in_sub m d gs w g h = absurd m

return_trace : (r : Return) (f i : ℕ) → trace (statement in_main 0 ∷ only text_end ∷ [])
    (spell_return r ++ token right_brace f ∷ token the_end i ∷ []) ≡ opens_return r ++ None ∷ None ∷ []
return_trace no_return f i = refl
return_trace (returns a n b c) f i = refl
return_trace (returns_minus a b n c d) f i = refl

abbrev after_head : List (Option ℕ) → List (Option ℕ)
after_head x = None ∷ None ∷ None ∷ x

-- Each program's tokens open what the machine says.
pub traced : (p : Program) → Good p → trace start (spell p) ≡ opens p
traced (program a b c nothing d e is r f i) g = ap (λ x. after_head (None ∷ None ∷ x))
    (items_trace is in_main tt 0 (only text_end ∷ []) _ g (return_head r f _) ∙ ap (λ x. opens_items 0 is ++ x) (return_trace r f i))
traced (program a b c (void_at v) d e is r f i) g = ap (λ x. after_head (None ∷ None ∷ None ∷ x))
    (items_trace is in_main tt 0 (only text_end ∷ []) _ g (return_head r f _) ∙ ap (λ x. opens_items 0 is ++ x) (return_trace r f i))
