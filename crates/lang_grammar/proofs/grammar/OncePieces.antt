-- The pieces of statements and declarations have at most one reading.
use Rattle.std.proofs.Common.{◌≡◌, ◌∙◌, ◌++◌, ℕ, suc, List, [], ◌∷◌, refl, sym, ap, append_assoc, arith, subst}
use Rattle.lang_grammar.specs.Grammar.{Change, replaces, Kind, infix_sign, a_name, left_paren, right_brace, comma}
use Rattle.lang_grammar.specs.Grammar.{semicolon, colon, change_sign, int_word, else_word, return_word}
use Rattle.lang_grammar.specs.Grammar.{do_word, for_word}
use Rattle.lang_grammar.specs.Grammar.{ForFirst, ForTest}
use Rattle.lang_grammar.specs.Grammar.{ForLast, repeat_after, repeat_for, updates, Demand, demand_word}
use Rattle.lang_grammar.specs.Grammar.{Token, token, Groups, Expr, spell_expr, bare, given, Declarators, declares, declares_more}
use Rattle.lang_grammar.specs.Grammar.{spell_declarators}
use Rattle.lang_grammar.specs.Grammar.{GoodDeclarators, Core, if_alone, if_else, repeat, demands, set}
use Rattle.lang_grammar.specs.Grammar.{step_before, Sub, labelled}
use Rattle.lang_grammar.specs.Grammar.{Items, label, declaration, spell_core, Ending, shut, waiting}
use Rattle.lang_grammar.proofs.grammar.Complete.{NotElse, GoesOn}
use Rattle.lang_grammar.proofs.grammar.Sound.{Clear}
use Rattle.lang_grammar.proofs.grammar.Unique.{weight, IsEnd, unique, unique_expr, tail_of, head_of}

-- two conditions in parentheses are the same, and so is what follows them
pub record Cond (a b : ℕ) (e : Expr) (c a2 b2 : ℕ) (f : Expr) (c2 : ℕ) (y z : List Token) : Type 0 where
  -- their first tokens stand at the same place
  pub one : a ≡ a2
  -- so do their second tokens
  pub two : b ≡ b2
  -- the expressions are the same
  pub same : e ≡ f
  -- the tokens behind the expressions stand at the same place
  pub three : c ≡ c2
  -- what follows is the same
  pub rest : y ≡ z

-- a word, `(`, an expression and `)`
pub cond_once : (k : Kind) (a b : ℕ) (e : Expr) (c : ℕ) (k2 : Kind) (a2 b2 : ℕ) (f : Expr) (c2 : ℕ) (m : Kind) (y z w x : List Token)
    → IsEnd (token m 0) → Groups 0 e → Groups 0 f → token k a ∷ token k2 b ∷ ((spell_expr e ++ token m c ∷ y) ++ w)
    ≡ token k a2 ∷ token k2 b2 ∷ ((spell_expr f ++ token m c2 ∷ z) ++ x) → Cond a b e c a2 b2 f c2 (y ++ w) (z ++ x)
cond_once k a b e c k2 a2 b2 f c2 m y z w x n g h q =
    let i : (spell_expr e ++ token m c ∷ y) ++ w ≡ (spell_expr f ++ token m c2 ∷ z) ++ x = cc in
    let r = unique_expr (suc (weight e)) (unique (suc (weight e))) e f (token m c) (token m c2) (y ++ w) (z ++ x) (omega arith) g h
    (ends m c n) (ends m c2 n) (sym (append_assoc (spell_expr e) (token m c ∷ y) w) ∙ i
    ∙ append_assoc (spell_expr f) (token m c2 ∷ z) x) in
    let s : token m c ∷ (y ++ w) ≡ token m c2 ∷ (z ++ x) = r.1 in
    record { one = cc; two = cc; same = r.0; three = cc; rest = cc } where
      ends : (m : Kind) (c : ℕ) → IsEnd (token m 0) → IsEnd (token m c)
      ends (infix_sign o) c h = h
      ends _ c h = tt

-- what goes on with no `else` may stand after any statement
pub goes_clear : (x : Ending) (w : List Token) → GoesOn w → Clear x w
goes_clear shut w h = tt
goes_clear waiting [] h = absurd h
goes_clear waiting (token k a ∷ w) h = h

-- a text with no `else` may stand after any statement
pub any_clear : (x : Ending) (w : List Token) → Clear waiting w → Clear x w
any_clear shut w h = tt
any_clear waiting w h = h

-- after a statement that takes no `else` any text may stand
pub shut_clear : (x : Ending) (w : List Token) → x ≡ shut → Clear x w
shut_clear shut w h = tt
shut_clear waiting w h = cc

-- where no `else` may stand the text doesn't begin with one
pub not_else : (w y : List Token) (i : ℕ) → Clear waiting w → w ≡ token else_word i ∷ y → ⊥
not_else [] y i h e = cc
not_else (token k a ∷ w) y i h e = let j : k ≡ else_word = cc in let m : NotElse else_word = subst (λ x. NotElse x) j h in cc

-- no statement begins with a name and a colon
pub label_core : (x : List ℕ) (a b : ℕ) (y z : List Token) (c : Core) → token (a_name x) a ∷ token colon b ∷ y ≡ spell_core c ++ z → ⊥
label_core x a b y z (updates (step_before h i v j) k) e = cc
label_core x a b y z _ e = cc

-- no statement begins with `int`
pub int_core : (a : ℕ) (y z : List Token) (c : Core) → token int_word a ∷ y ≡ spell_core c ++ z → ⊥
int_core a y z (updates (step_before h i v j) k) e = cc
int_core a y z _ e = cc

-- the kinds of token that end items
abbrev pub Ends : Kind → Type 0
Ends right_brace = Unit {0}
Ends return_word = Unit {0}
Ends _ = ⊥

-- no statement begins with a token that ends items
pub end_core : (k : Kind) (a : ℕ) (y z : List Token) (c : Core) → Ends k → token k a ∷ y ≡ spell_core c ++ z → ⊥
end_core right_brace a y z (updates (step_before h i v j) k) n e = cc
end_core right_brace a y z _ n e = cc
end_core return_word a y z (updates (step_before h i v j) k) n e = cc
end_core return_word a y z _ n e = cc
end_core _ a y z c n e = absurd n

-- a token that ends items is no name
pub end_name : (k : Kind) (a b : ℕ) (x : List ℕ) (y z : List Token) → Ends k → token k a ∷ y ≡ token (a_name x) b ∷ z → ⊥
end_name right_brace a b x y z n e = cc
end_name return_word a b x y z n e = cc
end_name _ a b x y z n e = absurd n

-- a token that ends items is no `int`
pub end_int : (k : Kind) (a b : ℕ) (y z : List Token) → Ends k → token k a ∷ y ≡ token int_word b ∷ z → ⊥
end_int right_brace a b y z n e = cc
end_int return_word a b y z n e = cc
end_int _ a b y z n e = absurd n

-- after items a token that ends them goes on with no `else`
pub end_goes : (k : Kind) (a : ℕ) (w : List Token) → Ends k → GoesOn (token k a ∷ w)
end_goes right_brace a w n = refl
end_goes return_word a w n = refl
end_goes _ a w n = absurd n

-- an `if` without `else` is determined by its parts
pub if_alone_same : (a b : ℕ) (f : Expr) (c : ℕ) (s : Sub) (a2 b2 : ℕ) (f2 : Expr) (c2 : ℕ) (s2 : Sub) → a ≡ a2 → b ≡ b2 → f ≡ f2 → c ≡ c2
    → s ≡ s2 → if_alone a b f c s ≡ if_alone a2 b2 f2 c2 s2
if_alone_same a b f c s a2 b2 f2 c2 s2 h i j k l = cc

-- an `if` with `else` is determined by its parts
pub if_else_same : (a b : ℕ) (f : Expr) (c : ℕ) (s : Sub) (i : ℕ) (t : Sub) (a2 b2 : ℕ) (f2 : Expr) (c2 : ℕ) (s2 : Sub) (j : ℕ) (u : Sub)
    → a ≡ a2 → b ≡ b2 → f ≡ f2 → c ≡ c2 → s ≡ s2 → token else_word i ≡ token else_word j → t ≡ u
    → if_else a b f c s i t ≡ if_else a2 b2 f2 c2 s2 j u
if_else_same a b f c s i t a2 b2 f2 c2 s2 j u h k l m n o p = cc

-- a `while` is determined by its parts
pub repeat_same : (a b : ℕ) (f : Expr) (c : ℕ) (s : Sub) (a2 b2 : ℕ) (f2 : Expr) (c2 : ℕ) (s2 : Sub) → a ≡ a2 → b ≡ b2 → f ≡ f2 → c ≡ c2
    → s ≡ s2 → repeat a b f c s ≡ repeat a2 b2 f2 c2 s2
repeat_same a b f c s a2 b2 f2 c2 s2 h i j k l = cc

-- a `do` is determined by its parts
pub repeat_after_same : (a : ℕ) (s : Sub) (b c : ℕ) (f : Expr) (d i a2 : ℕ) (s2 : Sub) (b2 c2 : ℕ) (f2 : Expr) (d2 i2 : ℕ)
    → token do_word a ≡ token do_word a2 → s ≡ s2 → b ≡ b2 → c ≡ c2 → f ≡ f2 → d ≡ d2 → token semicolon i ≡ token semicolon i2
    → repeat_after a s b c f d i ≡ repeat_after a2 s2 b2 c2 f2 d2 i2
repeat_after_same a s b c f d i a2 s2 b2 c2 f2 d2 i2 h j k l m n o = cc

-- a `for` is determined by its parts
pub repeat_for_same : (a b : ℕ) (f : ForFirst) (t : ForTest) (l : ForLast) (s : Sub) (a2 b2 : ℕ) (f2 : ForFirst) (t2 : ForTest)
    (l2 : ForLast) (s2 : Sub) → token for_word a ≡ token for_word a2 → token left_paren b ≡ token left_paren b2 → f ≡ f2 → t ≡ t2 → l ≡ l2
    → s ≡ s2 → repeat_for a b f t l s ≡ repeat_for a2 b2 f2 t2 l2 s2
repeat_for_same a b f t l s a2 b2 f2 t2 l2 s2 h i j k m n = cc

-- an assignment is determined by its parts
pub set_same : (v : List ℕ) (a b : ℕ) (g : Change) (f : Expr) (v2 : List ℕ) (a2 b2 : ℕ) (g2 : Change) (f2 : Expr)
    → token (a_name v) a ≡ token (a_name v2) a2 → token (change_sign g) b ≡ token (change_sign g2) b2 → f ≡ f2
    → set v a g b f ≡ set v2 a2 g2 b2 f2
set_same v a b g f v2 a2 b2 g2 f2 h i j = cc

-- an `assume` or `assert` is determined by its parts
pub demands_same : (y : Demand) (a b : ℕ) (f : Expr) (c d : ℕ) (y2 : Demand) (a2 b2 : ℕ) (f2 : Expr) (c2 d2 : ℕ)
    → token (demand_word y) a ≡ token (demand_word y2) a2 → b ≡ b2 → f ≡ f2 → c ≡ c2 → d ≡ d2
    → demands y a b f c d ≡ demands y2 a2 b2 f2 c2 d2
demands_same y a b f c d y2 a2 b2 f2 c2 d2 h i j k l = cc

-- a labelled statement is determined by its label and the statement
pub labelled_same : (v : List ℕ) (a b : ℕ) (s : Sub) (v2 : List ℕ) (a2 b2 : ℕ) (t : Sub) → token (a_name v) a ≡ token (a_name v2) a2
    → token colon b ≡ token colon b2 → s ≡ t → labelled v a b s ≡ labelled v2 a2 b2 t
labelled_same v a b s v2 a2 b2 t h i j = cc

-- a label among items is determined by the label and the items after it
pub label_same : (v : List ℕ) (a b : ℕ) (s : Items) (v2 : List ℕ) (a2 b2 : ℕ) (t : Items) → token (a_name v) a ≡ token (a_name v2) a2
    → token colon b ≡ token colon b2 → s ≡ t → label v a b s ≡ label v2 a2 b2 t
label_same v a b s v2 a2 b2 t h i j = cc

-- a declaration among items is determined by its declarators and the items after it
pub declaration_same : (a b : ℕ) (xs ys : Declarators) (is js : Items) → token int_word a ≡ token int_word b → xs ≡ ys → is ≡ js
    → declaration a xs is ≡ declaration b ys js
declaration_same a b xs ys is js h i j = cc

record Given (x : List ℕ) (a b : ℕ) (e : Expr) (y : List ℕ) (c d : ℕ) (f : Expr) (t s : Token) (u v : List Token) : Type 0 where
  -- the names are the same
  pub name : x ≡ y
  -- they stand at the same place
  pub one : a ≡ c
  -- so do the signs behind them
  pub two : b ≡ d
  -- the expressions are the same
  pub same : e ≡ f
  -- the next token is the same, and so is what follows it
  pub rest : t ∷ u ≡ s ∷ v

given_once : (x : List ℕ) (a b : ℕ) (e : Expr) (y : List ℕ) (c d : ℕ) (f : Expr) (t s : Token) (u v : List Token) → IsEnd t → IsEnd s
    → Groups 0 e → Groups 0 f → token (a_name x) a ∷ token (change_sign replaces) b ∷ (spell_expr e ++ t ∷ u)
    ≡ token (a_name y) c ∷ token (change_sign replaces) d ∷ (spell_expr f ++ s ∷ v) → Given x a b e y c d f t s u v
given_once x a b e y c d f t s u v m n g h q =
    let r = unique_expr (suc (weight e)) (unique (suc (weight e))) e f t s u v (omega arith) g h m n
    (tail_of _ _ _ _ (tail_of _ _ _ _ q)) in
    record { name = cc; one = cc; two = cc; same = r.0; rest = r.1 }

given_same : (x : List ℕ) (a b : ℕ) (e : Expr) (y : List ℕ) (c d : ℕ) (f : Expr) → x ≡ y → a ≡ c → b ≡ d → e ≡ f
    → given x a b e ≡ given y c d f
given_same x a b e y c d f h i j k = cc

given_texts : (x : List ℕ) (a b : ℕ) (e : Expr) (t : Token) (u w : List Token)
    → (token (a_name x) a ∷ token (change_sign replaces) b ∷ (spell_expr e ++ t ∷ u)) ++ w
    ≡ token (a_name x) a ∷ token (change_sign replaces) b ∷ (spell_expr e ++ t ∷ (u ++ w))
given_texts x a b e t u w = ap (λ (z : List Token). token (a_name x) a ∷ token (change_sign replaces) b ∷ z)
    (append_assoc (spell_expr e) (t ∷ u) w)

given_texts_2 : (x : List ℕ) (a b : ℕ) (e : Expr) (t : Token) (u w : List Token)
    → ((token (a_name x) a ∷ token (change_sign replaces) b ∷ spell_expr e) ++ t ∷ u) ++ w
    ≡ token (a_name x) a ∷ token (change_sign replaces) b ∷ (spell_expr e ++ t ∷ (u ++ w))
given_texts_2 x a b e t u w = given_texts x a b e t u w

-- declarators have at most one reading, and what follows them is the same
pub declarators_once : (xs ys : Declarators) (w x : List Token) → GoodDeclarators xs → GoodDeclarators ys
    → spell_declarators xs ++ w ≡ spell_declarators ys ++ x → (xs ≡ ys) × (w ≡ x)
declarators_once (declares (bare v a) c) (declares (bare v2 a2) c2) w x g h e = ((cc), (cc))
declarators_once (declares (given v a b f) c) (declares (given v2 a2 b2 f2) c2) w x g h e =
    let r = given_once v a b f v2 a2 b2 f2 (token semicolon c) (token semicolon c2) w x tt tt g h
    (sym (given_texts_2 v a b f (token semicolon c) [] w) ∙ e ∙ given_texts_2 v2 a2 b2 f2 (token semicolon c2) [] x) in
    let k = given_same v a b f v2 a2 b2 f2 r.name r.one r.two r.same in
    let q : token semicolon c ≡ token semicolon c2 = head_of _ _ _ _ r.rest in
    ((cc), tail_of _ _ _ _ r.rest)
declarators_once (declares_more (bare v a) c xs) (declares_more (bare v2 a2) c2 ys) w x g h e =
    let r = declarators_once xs ys w x g.1 h.1 (tail_of _ _ _ _ (tail_of _ _ _ _ e)) in
    let k : xs ≡ ys = r.0 in
    ((cc), r.1)
declarators_once (declares_more (given v a b f) c xs) (declares_more (given v2 a2 b2 f2) c2 ys) w x g h e =
    let r = given_once v a b f v2 a2 b2 f2 (token comma c) (token comma c2) (spell_declarators xs ++ w) (spell_declarators ys ++ x) tt tt
    g.0 h.0 (sym (given_texts_2 v a b f (token comma c) (spell_declarators xs) w) ∙ e
    ∙ given_texts_2 v2 a2 b2 f2 (token comma c2) (spell_declarators ys) x) in
    let k = given_same v a b f v2 a2 b2 f2 r.name r.one r.two r.same in
    let q : token comma c ≡ token comma c2 = head_of _ _ _ _ r.rest in
    let m = declarators_once xs ys w x g.1 h.1 (tail_of _ _ _ _ r.rest) in
    let n : xs ≡ ys = m.0 in
    ((cc), m.1)
declarators_once (declares (given v a b f) c) (declares_more (given v2 a2 b2 f2) c2 ys) w x g h e =
    let r = given_once v a b f v2 a2 b2 f2 (token semicolon c) (token comma c2) w (spell_declarators ys ++ x) tt tt g h.0
    (sym (given_texts_2 v a b f (token semicolon c) [] w) ∙ e ∙ given_texts_2 v2 a2 b2 f2 (token comma c2) (spell_declarators ys)
    x) in
    let q : token semicolon c ≡ token comma c2 = head_of _ _ _ _ r.rest in
    cc
declarators_once (declares_more (given v a b f) c xs) (declares (given v2 a2 b2 f2) c2) w x g h e =
    let r = given_once v a b f v2 a2 b2 f2 (token comma c) (token semicolon c2) (spell_declarators xs ++ w) x tt tt g.0 h
    (sym (given_texts_2 v a b f (token comma c) (spell_declarators xs) w) ∙ e
    ∙ given_texts_2 v2 a2 b2 f2 (token semicolon c2) [] x) in
    let q : token comma c ≡ token semicolon c2 = head_of _ _ _ _ r.rest in
    cc
declarators_once (declares (bare v a) c) (declares (given v2 a2 b2 f2) c2) w x g h e = cc
declarators_once (declares (bare v a) c) (declares_more (bare v2 a2) c2 ys) w x g h e = cc
declarators_once (declares (bare v a) c) (declares_more (given v2 a2 b2 f2) c2 ys) w x g h e = cc
declarators_once (declares (given v a b f) c) (declares (bare v2 a2) c2) w x g h e = cc
declarators_once (declares (given v a b f) c) (declares_more (bare v2 a2) c2 ys) w x g h e = cc
declarators_once (declares_more (bare v a) c xs) (declares (bare v2 a2) c2) w x g h e = cc
declarators_once (declares_more (bare v a) c xs) (declares (given v2 a2 b2 f2) c2) w x g h e = cc
declarators_once (declares_more (bare v a) c xs) (declares_more (given v2 a2 b2 f2) c2 ys) w x g h e = cc
declarators_once (declares_more (given v a b f) c xs) (declares (bare v2 a2) c2) w x g h e = cc
declarators_once (declares_more (given v a b f) c xs) (declares_more (bare v2 a2) c2 ys) w x g h e = cc
