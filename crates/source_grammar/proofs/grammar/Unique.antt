-- A text has at most one expression, before a token that may follow one.
use Rattle.std.proofs.Common.{◌≡◌, ◌∙◌, ◌++◌, ◌+◌, ◌<◌, ℕ, zero, suc, List, [], ◌∷◌, refl, sym, ap, ap₂, append_assoc, arith, subst}
use Rattle.source_grammar.specs.Tokens.{Kind, level, Op, negative, positive, negation, a_name, infix_sign, question, colon, left_paren}
use Rattle.source_grammar.specs.Tokens.{right_paren, left_bracket, right_bracket, comma, semicolon, Token, token, Name, step_sign}
use Rattle.source_grammar.specs.Grammar.{Groups, Expr, number, variable, element, call, free, grouped, prefixed, joined, chosen, spell_expr}
use Rattle.source_grammar.specs.Grammar.{Arguments, no_arguments, arguments, spell_arguments, GoodArguments, MoreArguments, last_argument}
use Rattle.source_grammar.specs.Grammar.{next_argument, spell_more_arguments, GoodMoreArguments, GoodSubscripts, Subscripts, last_subscript}
use Rattle.source_grammar.specs.Grammar.{next_subscript, spell_subscripts, stepped_before, stepped_behind}
use Rattle.source_grammar.proofs.machine.Goes.{First}
use Rattle.source_grammar.proofs.grammar.Follow.{AfterExpr, AfterOperand, AfterList, StartsExpr, expr_operand, list_expr, expr_first}
use Rattle.source_grammar.proofs.grammar.Follow.{NoBracket, operand_no_bracket}
use Rattle.source_grammar.proofs.grammar.TakenPieces.{below_seven, above_zero}
use Rattle.source_grammar.proofs.grammar.Links.{Links, ended, link, choice, spell_links, GoodLinks, extend_all}
use Rattle.source_grammar.proofs.grammar.Flat.{after, first, links, AllAbove, links_above, again, spell_flat, first_good}

-- the number of operands of an expression, with one for each pair of parentheses or brackets, each sign before an operand, and so on
abbrev mutual
  -- of an expression
  pub weight : Expr → ℕ
  weight (number n a) = 1
  weight (variable x a) = 1
  weight (element x i is) = suc (subscripts_weight is)
  weight (call x i j es k) = suc (arguments_weight es)
  weight (stepped_behind x i g j) = 1
  weight (stepped_before g i x j) = 1
  weight (free i j k) = 1
  weight (grouped i e j) = suc (weight e)
  weight (prefixed p i e) = suc (weight e)
  weight (joined e o a f) = weight e + weight f
  weight (chosen c a e b f) = weight c + suc (weight e + weight f)

  -- of arguments
  pub arguments_weight : Arguments → ℕ
  arguments_weight no_arguments = 0
  arguments_weight (arguments e es) = suc (weight e + more_weight es)

  -- of the arguments behind the first
  pub more_weight : MoreArguments → ℕ
  more_weight last_argument = 0
  more_weight (next_argument a e es) = suc (weight e + more_weight es)

  -- of the brackets of an element
  pub subscripts_weight : Subscripts → ℕ
  subscripts_weight (last_subscript a e b) = weight e
  subscripts_weight (next_subscript a e b is) = weight e + subscripts_weight is

abbrev links_weight : Links → ℕ
links_weight ended = 0
links_weight (link o a u ls) = weight u + links_weight ls
links_weight (choice a e b f) = suc (weight e + weight f)

after_weight : (l : ℕ) (ls ms : Links) → AllAbove l ls → links_weight (after ls ms) ≡ links_weight ls + links_weight ms
after_weight l ended ms h = omega arith
after_weight l (link o a u ls) ms h = omega (arith, after_weight l ls ms h.1)
after_weight l (choice a e b f) ms h = absurd h

flat_weight : (l : ℕ) (e : Expr) → Groups l e → weight (first e) + links_weight (links e) ≡ weight e
flat_weight l (joined e o a f) g = omega (
  arith,
  flat_weight (level o) e g.1,
  flat_weight (suc (level o)) f g.2,
  after_weight (level o) (links e) (link o a (first f) (links f)) (links_above (level o) e (above_zero o) g.1),
)
flat_weight l (chosen c a e b f) g = omega (
  arith,
  flat_weight 1 c g.1,
  after_weight 1 (links c) (choice a e b f) (links_above 1 c (omega arith) g.1),
)
flat_weight l _ g = omega arith

after_good : (l : ℕ) (ls ms : Links) → AllAbove l ls → GoodLinks ls → GoodLinks ms → GoodLinks (after ls ms)
after_good l ended ms b h i = i
after_good l (link o a u ls) ms b h i = (h.0, after_good l ls ms b.1 h.1 i)
after_good l (choice a e c f) ms b h i = absurd b

links_good : (l : ℕ) (e : Expr) → Groups l e → GoodLinks (links e)
links_good l (joined e o a f) g = after_good (level o) (links e) (link o a (first f) (links f))
    (links_above (level o) e (above_zero o) g.1) (links_good (level o) e g.1)
    (first_good (suc (level o)) f g.2, links_good (suc (level o)) f g.2)
links_good l (chosen c a e b f) g = after_good 1 (links c) (choice a e b f) (links_above 1 c (omega arith) g.1) (links_good 1 c g.1)
    (g.2, g.3)
links_good l _ g = tt

-- equal lists have equal rests
pub tail_of : (t s : Token) (xs ys : List Token) → t ∷ xs ≡ s ∷ ys → xs ≡ ys
tail_of t s xs ys e = cc

-- equal lists have equal first tokens
pub head_of : (t s : Token) (xs ys : List Token) → t ∷ xs ≡ s ∷ ys → t ≡ s
head_of t s xs ys e = cc

-- tokens of one kind stand at one place where they are the same
pub place_of : (k : Kind) (a b : ℕ) → token k a ≡ token k b → a ≡ b
place_of k a b e = cc

-- the first token of a list that begins with one of these kinds is of one
pub first_at : (kinds : Kind → Type 0) (w : List Token) (k : Kind) (a : ℕ) (y : List Token) → First kinds w → w ≡ token k a ∷ y → kinds k
first_at kinds w k a y h e = subst (First kinds) e h

-- what may follow a list begins no expression
pub list_starts : (w y : List Token) → First AfterList w → w ≡ y → First StartsExpr y → ⊥
list_starts w y h e i = on y (subst (First AfterList) e h) i where
  on : (y : List Token) → First AfterList y → First StartsExpr y → ⊥
  on [] h i = h
  on (token semicolon a ∷ y) h i = i
  on (token right_paren a ∷ y) h i = i
  on (token _ a ∷ y) h i = h

-- after an argument there may be what may follow an expression
pub more_arguments_first : (es : MoreArguments) (w : List Token) → First AfterList w → First AfterExpr (spell_more_arguments es ++ w)
more_arguments_first last_argument [] h = absurd h
more_arguments_first last_argument (token k a ∷ w) h = list_expr k h
more_arguments_first (next_argument a e es) w h = tt

-- what does not go on with `[` is no brackets
pub no_bracket : (is : Subscripts) (w y : List Token) → First NoBracket w → w ≡ spell_subscripts is ++ y → ⊥
no_bracket (last_subscript a e b) w y h q = first_at NoBracket w left_bracket a _ h q
no_bracket (next_subscript a e b is) w y h q = first_at NoBracket w left_bracket a _ h q

-- brackets are nothing that begins otherwise
bracket_first : (is : Subscripts) (w : List Token) (k : Kind) (a : ℕ) (y : List Token) → NoBracket k
    → spell_subscripts is ++ w ≡ token k a ∷ y → ⊥
bracket_first is w k a y h q = no_bracket is (token k a ∷ y) w h (sym q)

-- what may follow an operand is no `[`
operand_first : (w : List Token) → First AfterOperand w → First NoBracket w
operand_first [] h = h
operand_first (token k a ∷ w) h = operand_no_bracket k h

links_first : (ls : Links) (w : List Token) → First AfterExpr w → First AfterOperand (spell_links ls ++ w)
links_first ended [] h = absurd h
links_first ended (token k a ∷ w) h = expr_operand k h
links_first (link o a u ls) w h = tt
links_first (choice a e b f) w h = tt

-- ---- trees that are determined by their parts
next_same : (a b : ℕ) (e f : Expr) (es fs : MoreArguments) → token comma a ≡ token comma b → e ≡ f → es ≡ fs
    → next_argument a e es ≡ next_argument b f fs
next_same a b e f es fs h i j = cc

element_same : (x : Name) (a : ℕ) (is : Subscripts) (y : Name) (b : ℕ) (js : Subscripts) → token (a_name x) a ≡ token (a_name y) b → is ≡ js
    → element x a is ≡ element y b js
element_same x a is y b js h i = cc

last_same : (a : ℕ) (e : Expr) (b a2 : ℕ) (f : Expr) (b2 : ℕ) → token left_bracket a ≡ token left_bracket a2 → e ≡ f
    → token right_bracket b ≡ token right_bracket b2 → last_subscript a e b ≡ last_subscript a2 f b2
last_same a e b a2 f b2 h i j = cc

more_same : (a : ℕ) (e : Expr) (b : ℕ) (is : Subscripts) (a2 : ℕ) (f : Expr) (b2 : ℕ) (js : Subscripts)
    → token left_bracket a ≡ token left_bracket a2 → e ≡ f → token right_bracket b ≡ token right_bracket b2 → is ≡ js
    → next_subscript a e b is ≡ next_subscript a2 f b2 js
more_same a e b is a2 f b2 js h i j k = cc

call_same : (x : Name) (a b : ℕ) (es : Arguments) (c : ℕ) (y : Name) (a2 b2 : ℕ) (fs : Arguments) (c2 : ℕ)
    → token (a_name x) a ≡ token (a_name y) a2 → token left_paren b ≡ token left_paren b2 → es ≡ fs
    → token right_paren c ≡ token right_paren c2 → call x a b es c ≡ call y a2 b2 fs c2
call_same x a b es c y a2 b2 fs c2 h i j k = cc

grouped_same : (a : ℕ) (e : Expr) (b a2 : ℕ) (f : Expr) (b2 : ℕ) → token left_paren a ≡ token left_paren a2 → e ≡ f
    → token right_paren b ≡ token right_paren b2 → grouped a e b ≡ grouped a2 f b2
grouped_same a e b a2 f b2 h i j = cc

link_same : (o p : Op) (a b : ℕ) (u v : Expr) (ls ms : Links) → token (infix_sign o) a ≡ token (infix_sign p) b → u ≡ v → ls ≡ ms
    → link o a u ls ≡ link p b v ms
link_same o p a b u v ls ms h i j = cc

choice_same : (a : ℕ) (e : Expr) (b : ℕ) (f : Expr) (a2 : ℕ) (e2 : Expr) (b2 : ℕ) (f2 : Expr)
    → token question a ≡ token question a2 → e ≡ e2 → token colon b ≡ token colon b2 → f ≡ f2 → choice a e b f ≡ choice a2 e2 b2 f2
choice_same a e b f a2 e2 b2 f2 h i j k = cc

-- expressions of less weight are the same where their spellings are
abbrev pub ExprUnique : ℕ → Type 0
ExprUnique n = (e f : Expr) (w x : List Token) → weight e < n → Groups 0 e → Groups 0 f → First AfterExpr w → First AfterExpr x
    → spell_expr e ++ w ≡ spell_expr f ++ x → (e ≡ f) × (w ≡ x)

module _ (n : ℕ) (un : ExprUnique n) where
  -- the arguments behind the first
  pub more_arguments_unique : (es fs : MoreArguments) (w x : List Token) → more_weight es < n → GoodMoreArguments es → GoodMoreArguments fs
      → First AfterList w → First AfterList x → spell_more_arguments es ++ w ≡ spell_more_arguments fs ++ x → (es ≡ fs) × (w ≡ x)
  more_arguments_unique last_argument last_argument w x b g h i j q = (refl, q)
  more_arguments_unique last_argument (next_argument a f fs) w x b g h i j q = absurd (first_at AfterList w comma a _ i q)
  more_arguments_unique (next_argument a e es) last_argument w x b g h i j q = absurd (first_at AfterList x comma a _ j (sym q))
  more_arguments_unique (next_argument a e es) (next_argument c f fs) w x b g h i j q =
      let r = un e f (spell_more_arguments es ++ w) (spell_more_arguments fs ++ x) (omega (arith, b)) g.0 h.0 (more_arguments_first es w i)
      (more_arguments_first fs x j) (sym (append_assoc (spell_expr e) (spell_more_arguments es) w) ∙ tail_of _ _ _ _ q
      ∙ append_assoc (spell_expr f) (spell_more_arguments fs) x) in
      let s = more_arguments_unique es fs w x (omega (arith, b)) g.1 h.1 i j r.1 in
      (next_same a c e f es fs (head_of _ _ _ _ q) r.0 s.0, s.1)

  -- arguments
  pub arguments_unique : (es fs : Arguments) (w x : List Token) → arguments_weight es < n → GoodArguments es → GoodArguments fs
      → First AfterList w → First AfterList x → spell_arguments es ++ w ≡ spell_arguments fs ++ x → (es ≡ fs) × (w ≡ x)
  arguments_unique no_arguments no_arguments w x b g h i j q = (refl, q)
  arguments_unique no_arguments (arguments f fs) w x b g h i j q = absurd (list_starts w _ i
      (q ∙ append_assoc (spell_expr f) (spell_more_arguments fs) x) (expr_first f _))
  arguments_unique (arguments e es) no_arguments w x b g h i j q = absurd (list_starts x _ j
      (sym q ∙ append_assoc (spell_expr e) (spell_more_arguments es) w) (expr_first e _))
  arguments_unique (arguments e es) (arguments f fs) w x b g h i j q =
      let r = un e f (spell_more_arguments es ++ w) (spell_more_arguments fs ++ x) (omega (arith, b)) g.0 h.0 (more_arguments_first es w i)
      (more_arguments_first fs x j) (sym (append_assoc (spell_expr e) (spell_more_arguments es) w) ∙ q
      ∙ append_assoc (spell_expr f) (spell_more_arguments fs) x) in
      let s = more_arguments_unique es fs w x (omega (arith, b)) g.1 h.1 i j r.1 in
      (ap₂ arguments r.0 s.0, s.1)

  -- an expression, the token that ends it, and others
  expr_ended : (e f : Expr) (k : Kind) (a b : ℕ) (y z w x : List Token) → weight e < n → Groups 0 e → Groups 0 f → AfterExpr k
      → (spell_expr e ++ token k a ∷ y) ++ w ≡ (spell_expr f ++ token k b ∷ z) ++ x
      → (e ≡ f) × (token k a ∷ (y ++ w) ≡ token k b ∷ (z ++ x))
  expr_ended e f k a b y z w x l g h i q = un e f (token k a ∷ (y ++ w)) (token k b ∷ (z ++ x)) l g h i i
      (sym (append_assoc (spell_expr e) (token k a ∷ y) w) ∙ q ∙ append_assoc (spell_expr f) (token k b ∷ z) x)

  -- the brackets of an element
  pub subscripts_unique : (is js : Subscripts) (w x : List Token) → subscripts_weight is < n → GoodSubscripts is → GoodSubscripts js
      → First NoBracket w → First NoBracket x → spell_subscripts is ++ w ≡ spell_subscripts js ++ x → (is ≡ js) × (w ≡ x)
  subscripts_unique (last_subscript a e b) (last_subscript c f d) w x l g h i j q =
      let r = expr_ended e f right_bracket b d [] [] w x (omega (arith, l)) g h tt (tail_of _ _ _ _ q) in
      (last_same a e b c f d (head_of _ _ _ _ q) r.0 (head_of _ _ _ _ r.1), tail_of _ _ _ _ r.1)
  subscripts_unique (last_subscript a e b) (next_subscript c f d js) w x l g h i j q =
      let r = expr_ended e f right_bracket b d [] (spell_subscripts js) w x (omega (arith, l)) g h.0 tt (tail_of _ _ _ _ q) in
      absurd (no_bracket js w x i (tail_of _ _ _ _ r.1))
  subscripts_unique (next_subscript a e b is) (last_subscript c f d) w x l g h i j q =
      let r = expr_ended e f right_bracket b d (spell_subscripts is) [] w x (omega (arith, l)) g.0 h tt (tail_of _ _ _ _ q) in
      absurd (no_bracket is x w j (sym (tail_of _ _ _ _ r.1)))
  subscripts_unique (next_subscript a e b is) (next_subscript c f d js) w x l g h i j q =
      let r = expr_ended e f right_bracket b d (spell_subscripts is) (spell_subscripts js) w x (omega (arith, l)) g.0 h.0 tt
      (tail_of _ _ _ _ q) in
      let s = subscripts_unique is js w x (omega (arith, l)) g.1 h.1 i j (tail_of _ _ _ _ r.1) in
      (more_same a e b is c f d js (head_of _ _ _ _ q) r.0 (head_of _ _ _ _ r.1) s.0, s.1)

  -- an operand
  operand_unique : (u v : Expr) (w x : List Token) → weight u < suc n → Groups 7 u → Groups 7 v → First AfterOperand w
      → First AfterOperand x → spell_expr u ++ w ≡ spell_expr v ++ x → (u ≡ v) × (w ≡ x)
  operand_unique (joined u o a y) v w x b g h i j q = absurd (omega (arith, g.0, below_seven o))
  operand_unique (chosen c a u d y) v w x b g h i j q = absurd (omega (arith, g.0))
  operand_unique _ (joined v o a y) w x b g h i j q = absurd (omega (arith, h.0, below_seven o))
  operand_unique _ (chosen c a v d y) w x b g h i j q = absurd (omega (arith, h.0))
  operand_unique (number m a) (number l c) w x b g h i j q = ((cc), (cc))
  operand_unique (variable y a) (variable z c) w x b g h i j q = ((cc), (cc))
  operand_unique (free a c d) (free k l m) w x b g h i j q = ((cc), (cc))
  operand_unique (stepped_behind y a d c) (stepped_behind z k m l) w x b g h i j q = ((cc), (cc))
  operand_unique (stepped_before d a y c) (stepped_before m k z l) w x b g h i j q = ((cc), (cc))
  operand_unique (variable y a) (element z c js) w x b g h i j q =
      absurd (no_bracket js w x (operand_first w i) (tail_of _ _ _ _ q))
  operand_unique (element z c is) (variable y a) w x b g h i j q =
      absurd (no_bracket is x w (operand_first x j) (tail_of _ _ _ _ (sym q)))
  operand_unique (variable y a) (stepped_behind z c d k) w x b g h i j q =
      absurd (first_at AfterOperand w (step_sign d) k _ i (tail_of _ _ _ _ q))
  operand_unique (stepped_behind z c d k) (variable y a) w x b g h i j q =
      absurd (first_at AfterOperand x (step_sign d) k _ j (tail_of _ _ _ _ (sym q)))
  operand_unique (element y a is) (call z c d f k) w x b g h i j q = absurd (bracket_first is w left_paren d _ tt (tail_of _ _ _ _ q))
  operand_unique (call z c d f k) (element y a is) w x b g h i j q =
      absurd (bracket_first is x left_paren d _ tt (tail_of _ _ _ _ (sym q)))
  operand_unique (element y a is) (stepped_behind z c d k) w x b g h i j q =
      absurd (bracket_first is w (step_sign d) k _ tt (tail_of _ _ _ _ q))
  operand_unique (stepped_behind z c d k) (element y a is) w x b g h i j q =
      absurd (bracket_first is x (step_sign d) k _ tt (tail_of _ _ _ _ (sym q)))
  operand_unique (variable y a) (call z c d f k) w x b g h i j q =
      absurd (first_at AfterOperand w left_paren d _ i (tail_of _ _ _ _ q))
  operand_unique (call z c d f k) (variable y a) w x b g h i j q =
      absurd (first_at AfterOperand x left_paren d _ j (tail_of _ _ _ _ (sym q)))
  operand_unique (element y a is) (element z k js) w x b g h i j q =
      let r = subscripts_unique is js w x (omega (arith, b)) g h (operand_first w i) (operand_first x j) (tail_of _ _ _ _ q) in
      (element_same y a is z k js (head_of _ _ _ _ q) r.0, r.1)
  operand_unique (call y a c es d) (call z k l fs m) w x b g h i j q =
      let p = tail_of _ _ _ _ q in
      let r = arguments_unique es fs (token right_paren d ∷ w) (token right_paren m ∷ x) (omega (arith, b)) g h tt tt
      (sym (append_assoc (spell_arguments es) (token right_paren d ∷ []) w) ∙ tail_of _ _ _ _ p
      ∙ append_assoc (spell_arguments fs) (token right_paren m ∷ []) x) in
      (call_same y a c es d z k l fs m (head_of _ _ _ _ q) (head_of _ _ _ _ p) r.0 (head_of _ _ _ _ r.1), tail_of _ _ _ _ r.1)
  operand_unique (grouped a e c) (grouped d f k) w x b g h i j q =
      let r = expr_ended e f right_paren c k [] [] w x (omega (arith, b)) g h tt (tail_of _ _ _ _ q) in
      (grouped_same a e c d f k (head_of _ _ _ _ q) r.0 (head_of _ _ _ _ r.1), tail_of _ _ _ _ r.1)
  operand_unique (prefixed negative a u) (prefixed negative c v) w x b g h i j q =
      let r = operand_unique u v w x (omega (arith, b)) g h i j (tail_of _ _ _ _ q) in
      (ap₂ (prefixed negative) (place_of _ a c (head_of _ _ _ _ q)) r.0, r.1)
  operand_unique (prefixed positive a u) (prefixed positive c v) w x b g h i j q =
      let r = operand_unique u v w x (omega (arith, b)) g h i j (tail_of _ _ _ _ q) in
      (ap₂ (prefixed positive) (place_of _ a c (head_of _ _ _ _ q)) r.0, r.1)
  operand_unique (prefixed negation a u) (prefixed negation c v) w x b g h i j q =
      let r = operand_unique u v w x (omega (arith, b)) g h i j (tail_of _ _ _ _ q) in
      (ap₂ (prefixed negation) (place_of _ a c (head_of _ _ _ _ q)) r.0, r.1)
  operand_unique _ (prefixed negative c v) w x b g h i j q = cc
  operand_unique _ (prefixed positive c v) w x b g h i j q = cc
  operand_unique _ (prefixed negation c v) w x b g h i j q = cc
  operand_unique (prefixed negative a u) _ w x b g h i j q = cc
  operand_unique (prefixed positive a u) _ w x b g h i j q = cc
  operand_unique (prefixed negation a u) _ w x b g h i j q = cc
  operand_unique _ _ w x b g h i j q = cc

  -- the signs and operands behind one
  links_unique : (ls ms : Links) (w x : List Token) → links_weight ls < suc n → GoodLinks ls → GoodLinks ms → First AfterExpr w
      → First AfterExpr x → spell_links ls ++ w ≡ spell_links ms ++ x → (ls ≡ ms) × (w ≡ x)
  links_unique ended ended w x b g h i j q = (refl, q)
  links_unique ended (link o a u ms) w x b g h i j q = absurd (first_at AfterExpr w (infix_sign o) a _ i q)
  links_unique ended (choice a e c f) w x b g h i j q = absurd (first_at AfterExpr w question a _ i q)
  links_unique (link o a u ls) ended w x b g h i j q = absurd (first_at AfterExpr x (infix_sign o) a _ j (sym q))
  links_unique (choice a e c f) ended w x b g h i j q = absurd (first_at AfterExpr x question a _ j (sym q))
  links_unique (link o a u ls) (choice d e c f) w x b g h i j q = cc
  links_unique (choice d e c f) (link o a u ls) w x b g h i j q = cc
  links_unique (link o a u ls) (link p c v ms) w x b g h i j q =
      let r = operand_unique u v (spell_links ls ++ w) (spell_links ms ++ x) (omega (arith, b)) g.0 h.0 (links_first ls w i)
      (links_first ms x j) (sym (append_assoc (spell_expr u) (spell_links ls) w) ∙ tail_of _ _ _ _ q
      ∙ append_assoc (spell_expr v) (spell_links ms) x) in
      let s = links_unique ls ms w x (omega (arith, b)) g.1 h.1 i j r.1 in
      (link_same o p a c u v ls ms (head_of _ _ _ _ q) r.0 s.0, s.1)
  links_unique (choice a e c f) (choice a2 e2 c2 f2) w x b g h i j q =
      let r = un e e2 (token colon c ∷ (spell_expr f ++ w)) (token colon c2 ∷ (spell_expr f2 ++ x)) (omega (arith, b)) g.0 h.0 tt tt
      (sym (append_assoc (spell_expr e) (token colon c ∷ spell_expr f) w) ∙ tail_of _ _ _ _ q
      ∙ append_assoc (spell_expr e2) (token colon c2 ∷ spell_expr f2) x) in
      let s = un f f2 w x (omega (arith, b)) g.1 h.1 i j (tail_of _ _ _ _ r.1) in
      (choice_same a e c f a2 e2 c2 f2 (head_of _ _ _ _ q) r.0 (head_of _ _ _ _ r.1) s.0, s.1)

  expr_unique : ExprUnique (suc n)
  expr_unique e f w x b g h i j q =
      let c = flat_weight 0 e g in
      let r = operand_unique (first e) (first f) (spell_links (links e) ++ w) (spell_links (links f) ++ x) (omega (arith, b, c))
      (first_good 0 e g) (first_good 0 f h) (links_first (links e) w i) (links_first (links f) x j)
      (sym (append_assoc (spell_expr (first e)) (spell_links (links e)) w)
      ∙ ap (λ y. y ++ w) (sym (spell_flat 0 e g)) ∙ q ∙ ap (λ y. y ++ x) (spell_flat 0 f h)
      ∙ append_assoc (spell_expr (first f)) (spell_links (links f)) x) in
      let s = links_unique (links e) (links f) w x (omega (arith, b, c)) (links_good 0 e g) (links_good 0 f h) i j r.1 in
      (sym (again e g) ∙ ap₂ extend_all r.0 s.0 ∙ again f h, s.1)

-- expressions of each weight are the same where their spellings are
pub unique : (n : ℕ) → ExprUnique n
unique zero = λ e f w x b g h i j q. absurd (omega (arith, b))
unique (suc n) = expr_unique n (unique n)

-- expressions are the same where their spellings are
pub expr_once : (e f : Expr) (w x : List Token) → Groups 0 e → Groups 0 f → First AfterExpr w → First AfterExpr x
    → spell_expr e ++ w ≡ spell_expr f ++ x → (e ≡ f) × (w ≡ x)
expr_once e f w x g h i j q = unique (suc (weight e)) e f w x (omega arith) g h i j q

-- the brackets of a place are the same where their spellings are
pub subscripts_once : (is js : Subscripts) (w x : List Token) → GoodSubscripts is → GoodSubscripts js → First NoBracket w
    → First NoBracket x → spell_subscripts is ++ w ≡ spell_subscripts js ++ x → (is ≡ js) × (w ≡ x)
subscripts_once is js w x g h i j q =
    subscripts_unique (suc (subscripts_weight is)) (unique (suc (subscripts_weight is))) is js w x (omega arith) g h i j q

-- arguments are the same where their spellings are
pub arguments_once : (es fs : Arguments) (w x : List Token) → GoodArguments es → GoodArguments fs → First AfterList w → First AfterList x
    → spell_arguments es ++ w ≡ spell_arguments fs ++ x → (es ≡ fs) × (w ≡ x)
arguments_once es fs w x g h i j q =
    arguments_unique (suc (arguments_weight es)) (unique (suc (arguments_weight es))) es fs w x (omega arith) g h i j q
