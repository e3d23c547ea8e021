-- A text has at most one function.
use Rattle.std.proofs.Common.{◌≡◌, ◌∙◌, ◌++◌, ℕ, List, [], ◌∷◌, refl, sym, ap, ap₂, append_assoc, subst}
use Rattle.source_grammar.specs.Tokens.{Kind, a_name, left_paren, right_paren, left_brace, right_brace, colon, semicolon, int_word, if_word}
use Rattle.source_grammar.specs.Tokens.{else_word, while_word, do_word, for_word, return_word, demand_word, Demand, Token, token, Name}
use Rattle.source_grammar.specs.Tokens.{const_word}
use Rattle.source_grammar.specs.Grammar.{Groups, Expr, spell_expr, Arguments, spell_arguments, Optional, spell_optional, no_index, index}
use Rattle.source_grammar.specs.Grammar.{place, assigns, steps, Update, update, step_before, spell_update, Updates, spell_updates}
use Rattle.source_grammar.specs.Grammar.{Declarators, spell_declarators, ForFirst, spell_first, Core, empty, block, if_alone, if_else}
use Rattle.source_grammar.specs.Grammar.{repeat, repeat_after, repeat_for, jumps, returns, demands, calls, updates, Sub, labelled, plain}
use Rattle.source_grammar.specs.Grammar.{Items, no_items, label, declaration, item, spell_core, spell_sub, spell_items, Ending, shut}
use Rattle.source_grammar.specs.Grammar.{waiting, ending_core, ending_sub, GoodCore, GoodSub, GoodItems, Specifiers, FunctionName}
use Rattle.source_grammar.specs.Grammar.{Parameters, Function, function, spell, Good, Reads, IntType, const_int, last_subscript}
use Rattle.source_grammar.specs.Grammar.{next_subscript, plain_int, spell_type}
use Rattle.source_grammar.proofs.machine.Goes.{First}
use Rattle.source_grammar.proofs.grammar.Follow.{NotElse, core_first}
use Rattle.source_grammar.proofs.grammar.Sound.{Clear}
use Rattle.source_grammar.proofs.grammar.Unique.{expr_once, arguments_once, tail_of, head_of, place_of}
use Rattle.source_grammar.proofs.grammar.OncePieces.{optional_once, update_once, updates_once}
use Rattle.source_grammar.proofs.grammar.OnceDeclared.{type_once, declarators_once, first_once}
use Rattle.source_grammar.proofs.grammar.OnceHead.{specifiers_once, name_once, parameters_once}

-- two conditions in parentheses are the same, and so is what follows them
pub record Cond (a b : ℕ) (e : Expr) (c a2 b2 : ℕ) (f : Expr) (c2 : ℕ) (y z : List Token) : Type 0 where
  -- their first tokens stand at the same place
  pub one : a ≡ a2
  -- so do their second tokens
  pub two : b ≡ b2
  -- the expressions are the same
  pub same : e ≡ f
  -- the tokens behind the expressions stand at the same place
  pub three : c ≡ c2
  -- what follows is the same
  pub rest : y ≡ z

-- a word, `(`, an expression and `)`
pub cond_once : (k : Kind) (a b : ℕ) (e : Expr) (c a2 b2 : ℕ) (f : Expr) (c2 : ℕ) (y z w x : List Token) → Groups 0 e → Groups 0 f
    → token k a ∷ token left_paren b ∷ ((spell_expr e ++ token right_paren c ∷ y) ++ w)
    ≡ token k a2 ∷ token left_paren b2 ∷ ((spell_expr f ++ token right_paren c2 ∷ z) ++ x) → Cond a b e c a2 b2 f c2 (y ++ w) (z ++ x)
cond_once k a b e c a2 b2 f c2 y z w x g h q =
    let p = tail_of _ _ _ _ q in
    let r = expr_once e f (token right_paren c ∷ (y ++ w)) (token right_paren c2 ∷ (z ++ x)) g h tt tt
    (sym (append_assoc (spell_expr e) (token right_paren c ∷ y) w) ∙ tail_of _ _ _ _ p
    ∙ append_assoc (spell_expr f) (token right_paren c2 ∷ z) x) in
    record {
      one = place_of k a a2 (head_of _ _ _ _ q);
      two = place_of left_paren b b2 (head_of _ _ _ _ p);
      same = r.0;
      three = place_of right_paren c c2 (head_of _ _ _ _ r.1);
      rest = tail_of _ _ _ _ r.1;
    }

-- what goes on with no `else` may stand after any statement
goes_clear : (x : Ending) (w : List Token) → First NotElse w → Clear x w
goes_clear shut w h = tt
goes_clear waiting [] h = absurd h
goes_clear waiting (token k a ∷ w) h = h

-- a text with no `else` may stand after any statement
any_clear : (x : Ending) (w : List Token) → Clear waiting w → Clear x w
any_clear shut w h = tt
any_clear waiting w h = h

-- after a statement that takes no `else` any text may stand
shut_clear : (x : Ending) (w : List Token) → x ≡ shut → Clear x w
shut_clear shut w h = tt
shut_clear waiting w h = cc

-- where no `else` may stand the text doesn't begin with one
not_else : (w y : List Token) (i : ℕ) → Clear waiting w → w ≡ token else_word i ∷ y → ⊥
not_else [] y i h e = cc
not_else (token k a ∷ w) y i h e = let j : k ≡ else_word = cc in let m : NotElse else_word = subst (λ x. NotElse x) j h in cc

-- statements before a text that doesn't go on with `else` don't begin with it
items_first : (is : Items) (w : List Token) → First NotElse w → First NotElse (spell_items is ++ w)
items_first no_items w h = h
items_first (label x b c is) w h = refl
items_first (declaration (plain_int a) xs b is) w h = refl
items_first (declaration (const_int a c) xs b is) w h = refl
items_first (item c is) w h = rw append_assoc (core_first c _)

-- no change begins with a name and a colon
label_update : (x : Name) (a b : ℕ) (y z : List Token) (u : Update) → token (a_name x) a ∷ token colon b ∷ y ≡ spell_update u ++ z → ⊥
label_update x a b y z (update (place v c no_index) (assigns g d e)) q = cc
label_update x a b y z (update (place v c no_index) (steps g d)) q = cc
label_update x a b y z (update (place v c (index (last_subscript d e i))) f) q = cc
label_update x a b y z (update (place v c (index (next_subscript d e i is))) f) q = cc
label_update x a b y z (step_before h i p) q = cc

-- no statement begins with a name and a colon
label_core : (x : Name) (a b : ℕ) (y z : List Token) (c : Core) → token (a_name x) a ∷ token colon b ∷ y ≡ spell_core c ++ z → ⊥
label_core x a b y z (updates u d) q = label_update x a b y (token semicolon d ∷ z) u
    (q ∙ append_assoc (spell_update u) (token semicolon d ∷ []) z)
label_core x a b y z _ q = cc

-- no change begins with a name and `(`
call_update : (x : Name) (a b : ℕ) (y z : List Token) (u : Update) → token (a_name x) a ∷ token left_paren b ∷ y ≡ spell_update u ++ z → ⊥
call_update x a b y z (update (place v c no_index) (assigns g d e)) q = cc
call_update x a b y z (update (place v c no_index) (steps g d)) q = cc
call_update x a b y z (update (place v c (index (last_subscript d e i))) f) q = cc
call_update x a b y z (update (place v c (index (next_subscript d e i is))) f) q = cc
call_update x a b y z (step_before h i p) q = cc

-- no statement begins with `int`
int_core : (a : ℕ) (y z : List Token) (c : Core) → token int_word a ∷ y ≡ spell_core c ++ z → ⊥
int_core a y z (updates (update (place v b i) f) d) q = cc
int_core a y z (updates (step_before h i p) d) q = cc
int_core a y z _ q = cc

-- nor with `const`
const_core : (a : ℕ) (y z : List Token) (c : Core) → token const_word a ∷ y ≡ spell_core c ++ z → ⊥
const_core a y z (updates (update (place v b i) f) d) q = cc
const_core a y z (updates (step_before h i p) d) q = cc
const_core a y z _ q = cc

-- no statement begins as a declaration
type_core : (t : IntType) (y z : List Token) (c : Core) → spell_type t ++ y ≡ spell_core c ++ z → ⊥
type_core (plain_int a) y z c q = int_core a y z c q
type_core (const_int a b) y z c q = const_core a _ z c q

-- no statement begins with `}`
brace_core : (a : ℕ) (y z : List Token) (c : Core) → token right_brace a ∷ y ≡ spell_core c ++ z → ⊥
brace_core a y z (updates (update (place v b i) f) d) q = cc
brace_core a y z (updates (step_before h i p) d) q = cc
brace_core a y z _ q = cc

-- ---- trees that are determined by their parts
if_alone_same : (a b : ℕ) (f : Expr) (c : ℕ) (s : Sub) (a2 b2 : ℕ) (f2 : Expr) (c2 : ℕ) (s2 : Sub) → a ≡ a2 → b ≡ b2 → f ≡ f2 → c ≡ c2
    → s ≡ s2 → if_alone a b f c s ≡ if_alone a2 b2 f2 c2 s2
if_alone_same a b f c s a2 b2 f2 c2 s2 h i j k l = cc

if_else_same : (a b : ℕ) (f : Expr) (c : ℕ) (s : Sub) (i : ℕ) (t : Sub) (a2 b2 : ℕ) (f2 : Expr) (c2 : ℕ) (s2 : Sub) (j : ℕ) (u : Sub)
    → a ≡ a2 → b ≡ b2 → f ≡ f2 → c ≡ c2 → s ≡ s2 → token else_word i ≡ token else_word j → t ≡ u
    → if_else a b f c s i t ≡ if_else a2 b2 f2 c2 s2 j u
if_else_same a b f c s i t a2 b2 f2 c2 s2 j u h k l m n o p = cc

repeat_same : (a b : ℕ) (f : Expr) (c : ℕ) (s : Sub) (a2 b2 : ℕ) (f2 : Expr) (c2 : ℕ) (s2 : Sub) → a ≡ a2 → b ≡ b2 → f ≡ f2 → c ≡ c2
    → s ≡ s2 → repeat a b f c s ≡ repeat a2 b2 f2 c2 s2
repeat_same a b f c s a2 b2 f2 c2 s2 h i j k l = cc

repeat_after_same : (a : ℕ) (s : Sub) (b c : ℕ) (f : Expr) (d i a2 : ℕ) (s2 : Sub) (b2 c2 : ℕ) (f2 : Expr) (d2 i2 : ℕ)
    → token do_word a ≡ token do_word a2 → s ≡ s2 → b ≡ b2 → c ≡ c2 → f ≡ f2 → d ≡ d2 → token semicolon i ≡ token semicolon i2
    → repeat_after a s b c f d i ≡ repeat_after a2 s2 b2 c2 f2 d2 i2
repeat_after_same a s b c f d i a2 s2 b2 c2 f2 d2 i2 h j k l m n o = cc

repeat_for_same : (a b : ℕ) (f : ForFirst) (c : ℕ) (t : Optional) (d : ℕ) (us : Updates) (i : ℕ) (s : Sub) (a2 b2 : ℕ) (f2 : ForFirst)
    (c2 : ℕ) (t2 : Optional) (d2 : ℕ) (us2 : Updates) (i2 : ℕ) (s2 : Sub) → token for_word a ≡ token for_word a2
    → token left_paren b ≡ token left_paren b2 → f ≡ f2 → token semicolon c ≡ token semicolon c2 → t ≡ t2
    → token semicolon d ≡ token semicolon d2 → us ≡ us2 → token right_paren i ≡ token right_paren i2 → s ≡ s2
    → repeat_for a b f c t d us i s ≡ repeat_for a2 b2 f2 c2 t2 d2 us2 i2 s2
repeat_for_same a b f c t d us i s a2 b2 f2 c2 t2 d2 us2 i2 s2 h j k l m n o p q = cc

returns_same : (a : ℕ) (t : Optional) (b a2 : ℕ) (t2 : Optional) (b2 : ℕ) → token return_word a ≡ token return_word a2 → t ≡ t2
    → token semicolon b ≡ token semicolon b2 → returns a t b ≡ returns a2 t2 b2
returns_same a t b a2 t2 b2 h i j = cc

demands_same : (y : Demand) (a b : ℕ) (f : Expr) (c d : ℕ) (y2 : Demand) (a2 b2 : ℕ) (f2 : Expr) (c2 d2 : ℕ)
    → token (demand_word y) a ≡ token (demand_word y2) a2 → b ≡ b2 → f ≡ f2 → c ≡ c2 → token semicolon d ≡ token semicolon d2
    → demands y a b f c d ≡ demands y2 a2 b2 f2 c2 d2
demands_same y a b f c d y2 a2 b2 f2 c2 d2 h i j k l = cc

calls_same : (x : Name) (a b : ℕ) (es : Arguments) (c d : ℕ) (x2 : Name) (a2 b2 : ℕ) (es2 : Arguments) (c2 d2 : ℕ)
    → token (a_name x) a ≡ token (a_name x2) a2 → token left_paren b ≡ token left_paren b2 → es ≡ es2
    → token right_paren c ≡ token right_paren c2 → token semicolon d ≡ token semicolon d2
    → calls x a b es c d ≡ calls x2 a2 b2 es2 c2 d2
calls_same x a b es c d x2 a2 b2 es2 c2 d2 h i j k l = cc

block_same : (a : ℕ) (is : Items) (b a2 : ℕ) (js : Items) (b2 : ℕ) → token left_brace a ≡ token left_brace a2 → is ≡ js
    → token right_brace b ≡ token right_brace b2 → block a is b ≡ block a2 js b2
block_same a is b a2 js b2 h i j = cc

labelled_same : (v : Name) (a b : ℕ) (s : Sub) (v2 : Name) (a2 b2 : ℕ) (t : Sub) → token (a_name v) a ≡ token (a_name v2) a2
    → token colon b ≡ token colon b2 → s ≡ t → labelled v a b s ≡ labelled v2 a2 b2 t
labelled_same v a b s v2 a2 b2 t h i j = cc

label_same : (v : Name) (a b : ℕ) (s : Items) (v2 : Name) (a2 b2 : ℕ) (t : Items) → token (a_name v) a ≡ token (a_name v2) a2
    → token colon b ≡ token colon b2 → s ≡ t → label v a b s ≡ label v2 a2 b2 t
label_same v a b s v2 a2 b2 t h i j = cc

declaration_same : (a : IntType) (xs : Declarators) (b : ℕ) (is : Items) (a2 : IntType) (ys : Declarators) (b2 : ℕ) (js : Items)
    → a ≡ a2 → xs ≡ ys → token semicolon b ≡ token semicolon b2 → is ≡ js
    → declaration a xs b is ≡ declaration a2 ys b2 js
declaration_same a xs b is a2 ys b2 js h i j k = cc

-- the end of a `do`
abbrev do_tail : ℕ → ℕ → Expr → ℕ → ℕ → List Token
do_tail b c f d i = token while_word b ∷ token left_paren c ∷ (spell_expr f ++ token right_paren d ∷ token semicolon i ∷ [])

-- the rest of a `for`, from its first `;`, from its second, and from its `)`
abbrev after_last : ℕ → Sub → List Token
after_last i s = token right_paren i ∷ spell_sub s

abbrev after_test : ℕ → Updates → ℕ → Sub → List Token
after_test d us i s = token semicolon d ∷ (spell_updates us ++ after_last i s)

abbrev after_first : ℕ → Optional → ℕ → Updates → ℕ → Sub → List Token
after_first c t d us i s = token semicolon c ∷ (spell_optional t ++ after_test d us i s)

-- a declaration and the statements behind it, from its first name on
abbrev declared_text : Declarators → ℕ → Items → List Token
declared_text xs b is = spell_declarators xs ++ token semicolon b ∷ spell_items is

mutual
  -- a statement without labels, before a text that may follow it
  pub core_once : (c d : Core) (w x : List Token) → GoodCore c → GoodCore d → Clear (ending_core c) w → Clear (ending_core d) x
      → spell_core c ++ w ≡ spell_core d ++ x → (c ≡ d) × (w ≡ x)
  core_once (empty a) (empty b) w x g h m n e = ((cc), (cc))
  core_once (block a is b) (block c js d) w x g h m n e =
      let r = items_once is js b d w x g h
      (sym (append_assoc (spell_items is) (token right_brace b ∷ []) w) ∙ tail_of _ _ _ _ e
      ∙ append_assoc (spell_items js) (token right_brace d ∷ []) x) in
      (block_same a is b c js d (head_of _ _ _ _ e) r.0 (head_of _ _ _ _ r.1), tail_of _ _ _ _ r.1)
  core_once (if_alone a b f c s) (if_alone a2 b2 f2 c2 s2) w x g h m n e =
      let r = cond_once if_word a b f c a2 b2 f2 c2 (spell_sub s) (spell_sub s2) w x g.0 h.0 e in
      let q = sub_once s s2 w x g.1 h.1 (any_clear (ending_sub s) w m) (any_clear (ending_sub s2) x n) r.rest in
      (if_alone_same a b f c s a2 b2 f2 c2 s2 r.one r.two r.same r.three q.0, q.1)
  core_once (if_alone a b f c s) (if_else a2 b2 f2 c2 s2 i t) w x g h m n e =
      let r = cond_once if_word a b f c a2 b2 f2 c2 (spell_sub s) (spell_sub s2 ++ token else_word i ∷ spell_sub t) w x g.0 h.0 e in
      let q = sub_once s s2 w (token else_word i ∷ (spell_sub t ++ x)) g.1 h.1 (any_clear (ending_sub s) w m)
      (shut_clear (ending_sub s2) _ h.2) (r.rest ∙ append_assoc (spell_sub s2) (token else_word i ∷ spell_sub t) x) in
      absurd (not_else w _ i m q.1)
  core_once (if_else a b f c s i t) (if_alone a2 b2 f2 c2 s2) w x g h m n e =
      let r = cond_once if_word a b f c a2 b2 f2 c2 (spell_sub s ++ token else_word i ∷ spell_sub t) (spell_sub s2) w x g.0 h.0 e in
      let q = sub_once s s2 (token else_word i ∷ (spell_sub t ++ w)) x g.1 h.1 (shut_clear (ending_sub s) _ g.2)
      (any_clear (ending_sub s2) x n) (sym (append_assoc (spell_sub s) (token else_word i ∷ spell_sub t) w) ∙ r.rest) in
      absurd (not_else x _ i n (sym q.1))
  core_once (if_else a b f c s i t) (if_else a2 b2 f2 c2 s2 j u) w x g h m n e =
      let r = cond_once if_word a b f c a2 b2 f2 c2 (spell_sub s ++ token else_word i ∷ spell_sub t)
      (spell_sub s2 ++ token else_word j ∷ spell_sub u) w x g.0 h.0 e in
      let q = sub_once s s2 (token else_word i ∷ (spell_sub t ++ w)) (token else_word j ∷ (spell_sub u ++ x)) g.1 h.1
      (shut_clear (ending_sub s) _ g.2) (shut_clear (ending_sub s2) _ h.2)
      (sym (append_assoc (spell_sub s) (token else_word i ∷ spell_sub t) w) ∙ r.rest
      ∙ append_assoc (spell_sub s2) (token else_word j ∷ spell_sub u) x) in
      let y = sub_once t u w x g.3 h.3 m n (tail_of _ _ _ _ q.1) in
      (if_else_same a b f c s i t a2 b2 f2 c2 s2 j u r.one r.two r.same r.three q.0 (head_of _ _ _ _ q.1) y.0, y.1)
  core_once (repeat a b f c s) (repeat a2 b2 f2 c2 s2) w x g h m n e =
      let r = cond_once while_word a b f c a2 b2 f2 c2 (spell_sub s) (spell_sub s2) w x g.0 h.0 e in
      let q = sub_once s s2 w x g.1 h.1 m n r.rest in
      (repeat_same a b f c s a2 b2 f2 c2 s2 r.one r.two r.same r.three q.0, q.1)
  core_once (repeat_after a s b c f d i) (repeat_after a2 s2 b2 c2 f2 d2 i2) w x g h m n e =
      let r = sub_once s s2 (do_tail b c f d i ++ w) (do_tail b2 c2 f2 d2 i2 ++ x) g.0 h.0 (goes_clear (ending_sub s) _ refl)
      (goes_clear (ending_sub s2) _ refl) (sym (append_assoc (spell_sub s) (do_tail b c f d i) w)
      ∙ tail_of _ _ _ _ e ∙ append_assoc (spell_sub s2) (do_tail b2 c2 f2 d2 i2) x) in
      let q = cond_once while_word b c f d b2 c2 f2 d2 (token semicolon i ∷ []) (token semicolon i2 ∷ []) w x g.1 h.1 r.1 in (
        repeat_after_same a s b c f d i a2 s2 b2 c2 f2 d2 i2 (head_of _ _ _ _ e) r.0 q.one q.two q.same q.three (head_of _ _ _ _ q.rest),
        tail_of _ _ _ _ q.rest,
      )
  core_once (repeat_for a b f c t d us i s) (repeat_for a2 b2 f2 c2 t2 d2 us2 i2 s2) w x g h m n e =
      let k = tail_of _ _ _ _ e in
      let r = first_once f f2 (after_first c t d us i s ++ w) (after_first c2 t2 d2 us2 i2 s2 ++ x) g.0 h.0 tt tt
      (sym (append_assoc (spell_first f) (after_first c t d us i s) w) ∙ tail_of _ _ _ _ k
      ∙ append_assoc (spell_first f2) (after_first c2 t2 d2 us2 i2 s2) x) in
      let q = optional_once t t2 (after_test d us i s ++ w) (after_test d2 us2 i2 s2 ++ x) g.1 h.1 tt tt
      (sym (append_assoc (spell_optional t) (after_test d us i s) w) ∙ tail_of _ _ _ _ r.1
      ∙ append_assoc (spell_optional t2) (after_test d2 us2 i2 s2) x) in
      let o = updates_once us us2 (after_last i s ++ w) (after_last i2 s2 ++ x) g.2 h.2 tt tt
      (sym (append_assoc (spell_updates us) (after_last i s) w) ∙ tail_of _ _ _ _ q.1
      ∙ append_assoc (spell_updates us2) (after_last i2 s2) x) in
      let y = sub_once s s2 w x g.3 h.3 m n (tail_of _ _ _ _ o.1) in (
        repeat_for_same a b f c t d us i s a2 b2 f2 c2 t2 d2 us2 i2 s2 (head_of _ _ _ _ e) (head_of _ _ _ _ k) r.0 (head_of _ _ _ _ r.1)
            q.0 (head_of _ _ _ _ q.1) o.0 (head_of _ _ _ _ o.1) y.0,
        y.1,
      )
  core_once (jumps y a b) (jumps y2 a2 b2) w x g h m n e = ((cc), (cc))
  core_once (returns a t b) (returns a2 t2 b2) w x g h m n e =
      let r = optional_once t t2 (token semicolon b ∷ w) (token semicolon b2 ∷ x) g h tt tt
      (sym (append_assoc (spell_optional t) (token semicolon b ∷ []) w) ∙ tail_of _ _ _ _ e
      ∙ append_assoc (spell_optional t2) (token semicolon b2 ∷ []) x) in
      (returns_same a t b a2 t2 b2 (head_of _ _ _ _ e) r.0 (head_of _ _ _ _ r.1), tail_of _ _ _ _ r.1)
  core_once (demands y a b f c d) (demands y2 a2 b2 f2 c2 d2) w x g h m n e =
      let k : token (demand_word y) a ≡ token (demand_word y2) a2 = head_of _ _ _ _ e in
      let r = cond_once (demand_word y) a b f c a2 b2 f2 c2 (token semicolon d ∷ []) (token semicolon d2 ∷ []) w x g h (cc) in
      (demands_same y a b f c d y2 a2 b2 f2 c2 d2 k r.two r.same r.three (head_of _ _ _ _ r.rest), tail_of _ _ _ _ r.rest)
  core_once (calls y a b es c d) (calls y2 a2 b2 es2 c2 d2) w x g h m n e =
      let k = tail_of _ _ _ _ e in
      let r = arguments_once es es2 (token right_paren c ∷ token semicolon d ∷ w) (token right_paren c2 ∷ token semicolon d2 ∷ x) g h tt tt
      (sym (append_assoc (spell_arguments es) (token right_paren c ∷ token semicolon d ∷ []) w) ∙ tail_of _ _ _ _ k
      ∙ append_assoc (spell_arguments es2) (token right_paren c2 ∷ token semicolon d2 ∷ []) x) in
      let q = tail_of _ _ _ _ r.1 in (
        calls_same y a b es c d y2 a2 b2 es2 c2 d2 (head_of _ _ _ _ e) (head_of _ _ _ _ k) r.0 (head_of _ _ _ _ r.1) (head_of _ _ _ _ q),
        tail_of _ _ _ _ q,
      )
  core_once (updates u c) (updates v d) w x g h m n e =
      let r = update_once u v (token semicolon c ∷ w) (token semicolon d ∷ x) g h tt tt
      (sym (append_assoc (spell_update u) (token semicolon c ∷ []) w) ∙ e ∙ append_assoc (spell_update v) (token semicolon d ∷ []) x) in
      (ap₂ updates r.0 (place_of semicolon c d (head_of _ _ _ _ r.1)), tail_of _ _ _ _ r.1)
  core_once (calls y a b es c d) (updates u z) w x g h m n e = absurd (call_update y a b _ (token semicolon z ∷ x) u
      (e ∙ append_assoc (spell_update u) (token semicolon z ∷ []) x))
  core_once (updates u z) (calls y a b es c d) w x g h m n e = absurd (call_update y a b _ (token semicolon z ∷ w) u
      (sym e ∙ append_assoc (spell_update u) (token semicolon z ∷ []) w))
  core_once _ (updates (update (place v a y) b) z) w x g h m n e = cc
  core_once _ (updates (step_before y a v) z) w x g h m n e = cc
  core_once (updates (update (place v a y) b) z) _ w x g h m n e = cc
  core_once (updates (step_before y a v) z) _ w x g h m n e = cc
  core_once _ _ w x g h m n e = cc

  -- a statement with its labels, before a text that may follow it
  pub sub_once : (s t : Sub) (w x : List Token) → GoodSub s → GoodSub t → Clear (ending_sub s) w → Clear (ending_sub t) x
      → spell_sub s ++ w ≡ spell_sub t ++ x → (s ≡ t) × (w ≡ x)
  sub_once (labelled v a b s) (labelled v2 a2 b2 t) w x g h m n e =
      let k = tail_of _ _ _ _ e in
      let q = sub_once s t w x g h m n (tail_of _ _ _ _ k) in
      (labelled_same v a b s v2 a2 b2 t (head_of _ _ _ _ e) (head_of _ _ _ _ k) q.0, q.1)
  sub_once (labelled v a b s) (plain c) w x g h m n e = absurd (label_core v a b _ x c e)
  sub_once (plain c) (labelled v a b s) w x g h m n e = absurd (label_core v a b _ w c (sym e))
  sub_once (plain c) (plain d) w x g h m n e = let q = core_once c d w x g h m n e in (ap plain q.0, q.1)

  -- the statements of a block, before its `}`
  pub items_once : (is js : Items) (a b : ℕ) (w x : List Token) → GoodItems is → GoodItems js
      → spell_items is ++ token right_brace a ∷ w ≡ spell_items js ++ token right_brace b ∷ x
      → (is ≡ js) × (token right_brace a ∷ w ≡ token right_brace b ∷ x)
  items_once no_items no_items a b w x g h e = (refl, e)
  items_once no_items (label v i j js) a b w x g h e = cc
  items_once (label v i j is) no_items a b w x g h e = cc
  items_once no_items (declaration (plain_int i) xs j js) a b w x g h e = cc
  items_once no_items (declaration (const_int i l) xs j js) a b w x g h e = cc
  items_once (declaration (plain_int i) xs j is) no_items a b w x g h e = cc
  items_once (declaration (const_int i l) xs j is) no_items a b w x g h e = cc
  items_once no_items (item c js) a b w x g h e = absurd (brace_core a w (spell_items js ++ token right_brace b ∷ x) c
      (e ∙ append_assoc (spell_core c) (spell_items js) (token right_brace b ∷ x)))
  items_once (item c is) no_items a b w x g h e = absurd (brace_core b x (spell_items is ++ token right_brace a ∷ w) c
      (sym e ∙ append_assoc (spell_core c) (spell_items is) (token right_brace a ∷ w)))
  items_once (label v i j is) (label v2 i2 j2 js) a b w x g h e =
      let k = tail_of _ _ _ _ e in
      let q = items_once is js a b w x g h (tail_of _ _ _ _ k) in
      (label_same v i j is v2 i2 j2 js (head_of _ _ _ _ e) (head_of _ _ _ _ k) q.0, q.1)
  items_once (label v i j is) (declaration (plain_int i2) xs j2 js) a b w x g h e = cc
  items_once (label v i j is) (declaration (const_int i2 l) xs j2 js) a b w x g h e = cc
  items_once (declaration (plain_int i2) xs j2 is) (label v i j js) a b w x g h e = cc
  items_once (declaration (const_int i2 l) xs j2 is) (label v i j js) a b w x g h e = cc
  items_once (declaration i xs j is) (declaration i2 ys j2 js) a b w x g h e =
      let t = type_once i i2 _ _ (sym (append_assoc (spell_type i) (declared_text xs j is) (token right_brace a ∷ w)) ∙ e
      ∙ append_assoc (spell_type i2) (declared_text ys j2 js) (token right_brace b ∷ x)) in
      let r = declarators_once xs ys (token semicolon j ∷ (spell_items is ++ token right_brace a ∷ w))
      (token semicolon j2 ∷ (spell_items js ++ token right_brace b ∷ x)) g.0 h.0 tt tt
      (sym (append_assoc (spell_declarators xs) (token semicolon j ∷ spell_items is) (token right_brace a ∷ w))
      ∙ t.1 ∙ append_assoc (spell_declarators ys) (token semicolon j2 ∷ spell_items js)
      (token right_brace b ∷ x)) in
      let q = items_once is js a b w x g.1 h.1 (tail_of _ _ _ _ r.1) in
      (declaration_same i xs j is i2 ys j2 js t.0 r.0 (head_of _ _ _ _ r.1) q.0, q.1)
  items_once (label v i j is) (item c js) a b w x g h e = absurd
      (label_core v i j _ (spell_items js ++ token right_brace b ∷ x) c
      (e ∙ append_assoc (spell_core c) (spell_items js) (token right_brace b ∷ x)))
  items_once (item c is) (label v i j js) a b w x g h e = absurd
      (label_core v i j _ (spell_items is ++ token right_brace a ∷ w) c
      (sym e ∙ append_assoc (spell_core c) (spell_items is) (token right_brace a ∷ w)))
  items_once (declaration i xs j is) (item c js) a b w x g h e =
      absurd (type_core i _ (spell_items js ++ token right_brace b ∷ x) c
      (sym (append_assoc (spell_type i) (declared_text xs j is) (token right_brace a ∷ w)) ∙ e
      ∙ append_assoc (spell_core c) (spell_items js) (token right_brace b ∷ x)))
  items_once (item c is) (declaration i xs j js) a b w x g h e =
      absurd (type_core i _ (spell_items is ++ token right_brace a ∷ w) c
      (sym (append_assoc (spell_type i) (declared_text xs j js) (token right_brace b ∷ x)) ∙ sym e
      ∙ append_assoc (spell_core c) (spell_items is) (token right_brace a ∷ w)))
  items_once (item c is) (item d js) a b w x g h e =
      let r = core_once c d (spell_items is ++ token right_brace a ∷ w) (spell_items js ++ token right_brace b ∷ x) g.0 h.0
      (goes_clear (ending_core c) _ (items_first is _ refl)) (goes_clear (ending_core d) _ (items_first js _ refl))
      (sym (append_assoc (spell_core c) (spell_items is) (token right_brace a ∷ w)) ∙ e
      ∙ append_assoc (spell_core d) (spell_items js) (token right_brace b ∷ x)) in
      let q = items_once is js a b w x g.1 h.1 r.1 in
      (ap₂ item r.0 q.0, q.1)

function_same : (s : Specifiers) (n : FunctionName) (a : ℕ) (ps : Parameters) (b c : ℕ) (is : Items) (d : ℕ) (s2 : Specifiers)
    (n2 : FunctionName) (a2 : ℕ) (qs : Parameters) (b2 c2 : ℕ) (js : Items) (d2 : ℕ) → s ≡ s2 → n ≡ n2
    → token left_paren a ≡ token left_paren a2 → ps ≡ qs → token right_paren b ≡ token right_paren b2
    → token left_brace c ≡ token left_brace c2 → is ≡ js → token right_brace d ≡ token right_brace d2
    → function s n a ps b c is d ≡ function s2 n2 a2 qs b2 c2 js d2
function_same s n a ps b c is d s2 n2 a2 qs b2 c2 js d2 h i j k l m o p = cc

function_once : (f g : Function) → Good f → Good g → spell f ≡ spell g → f ≡ g
function_once (function s n a ps b c is d) (function s2 n2 a2 qs b2 c2 js d2) g h e =
    let r = specifiers_once s s2 _ _ e in
    let t = name_once n n2 _ _ r.1 in
    let u = parameters_once ps qs _ _ tt tt (tail_of _ _ _ _ t.1) in
    let v = tail_of _ _ _ _ u.1 in
    let w = items_once is js d d2 [] [] g h (tail_of _ _ _ _ v) in
    function_same s n a ps b c is d s2 n2 a2 qs b2 c2 js d2 r.0 t.0 (head_of _ _ _ _ t.1) u.0 (head_of _ _ _ _ u.1) (head_of _ _ _ _ v) w.0
    (head_of _ _ _ _ w.1)

-- An expression is determined by its tokens.
pub expr_alone : (e f : Expr) → Groups 0 e → Groups 0 f → spell_expr e ≡ spell_expr f → e ≡ f
expr_alone e f g h q =
    (expr_once e f (token semicolon 0 ∷ []) (token semicolon 0 ∷ []) g h tt tt (ap (λ x. x ++ token semicolon 0 ∷ []) q)).0

-- The statements of a block are determined by their tokens.
pub items_alone : (is js : Items) → GoodItems is → GoodItems js → spell_items is ≡ spell_items js → is ≡ js
items_alone is js g h q = (items_once is js 0 0 [] [] g h (ap (λ x. x ++ token right_brace 0 ∷ []) q)).0

-- At most one function is read.
pub reads_once : (ts : List Token) (f g : Function) → Reads ts f → Reads ts g → f ≡ g
reads_once ts f g r s = function_once f g r.good s.good (r.spelled ∙ sym s.spelled)
