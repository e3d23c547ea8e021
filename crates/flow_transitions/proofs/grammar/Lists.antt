-- Trees and the tokens behind them: what follows a part is determined by its tokens.
use Rattle.std.proofs.Common.{◌≡◌, ◌∙◌, ◌++◌, ℕ, suc, List, [], ◌∷◌, refl, sym, ap, arith, append_assoc}
use Rattle.lang_grammar.specs.Grammar.{a_name, comma, semicolon, right_brace, left_paren, right_paren, change_sign, replaces}
use Rattle.lang_grammar.specs.Grammar.{the_end, Token, token, Expr, spell_expr, Groups}
use Rattle.lang_grammar.proofs.grammar.Unique.{weight, unique, unique_expr}
use Rattle.flow_transitions.specs.AutoGrammar.{Spot, Names, commas_then, names_then, Act, sets, assumes, act_then, acts_then, Head}
use Rattle.flow_transitions.specs.AutoGrammar.{head_then}
use Rattle.flow_transitions.specs.AutoGrammar.{Written, edge_then}
use Rattle.flow_transitions.specs.AutoGrammar.{edges_then, Heads, vars_then, points_then, heads_then, Frame, condition, side, frame_then}
use Rattle.flow_transitions.specs.AutoGrammar.{Inside}
use Rattle.flow_transitions.specs.AutoGrammar.{inside_then}
use Rattle.flow_transitions.specs.AutoGrammar.{Begun, begun_then, no_token, some_variables, a_variable, all_variables, some_points, a_point}
use Rattle.flow_transitions.specs.AutoGrammar.{some_edges, an_edge}
use Rattle.flow_transitions.specs.AutoGrammar.{a_source, a_target, some_acts, an_assume, an_assigned, some_expression, an_expression}
use Rattle.flow_transitions.specs.AutoGrammar.{an_assumption, assume_word}
use Rattle.flow_transitions.specs.AutoGrammar.{GoodAct, GoodActs, GoodEdges}

-- ---- tokens behind a part
pub commas_append : (ss : List Spot) (xs ys : List Token) → commas_then ss xs ++ ys ≡ commas_then ss (xs ++ ys)
commas_append [] xs ys = refl
commas_append (s ∷ ss) xs ys = ap (λ z. token (a_name s.name) s.at ∷ token comma s.sign_at ∷ z) (commas_append ss xs ys)

-- tokens behind names and what follows them stand behind what follows
pub names_append : (ns : Names) (xs ys : List Token) → names_then ns xs ++ ys ≡ names_then ns (xs ++ ys)
names_append ns xs ys = commas_append ns.first_ones _ ys

act_append : (a : Act) (xs ys : List Token) → act_then a xs ++ ys ≡ act_then a (xs ++ ys)
act_append (sets x a b e s) xs ys = ap (λ z. token (a_name x) a ∷ token (change_sign replaces) b ∷ z) (append_assoc (spell_expr e) _ ys)
act_append (assumes a b e c s) xs ys = ap (λ z. token assume_word a ∷ token left_paren b ∷ z) (append_assoc (spell_expr e) _ ys)

-- tokens behind acts and what follows them stand behind what follows
pub acts_append : (hs : List Act) (xs ys : List Token) → acts_then hs xs ++ ys ≡ acts_then hs (xs ++ ys)
acts_append [] xs ys = refl
acts_append (a ∷ hs) xs ys = act_append a (acts_then hs xs) ys ∙ ap (act_then a) (acts_append hs xs ys)

head_append : (h : Head) (xs ys : List Token) → head_then h xs ++ ys ≡ head_then h (xs ++ ys)
head_append h xs ys = refl

edge_append : (e : Written) (xs ys : List Token) → edge_then e xs ++ ys ≡ edge_then e (xs ++ ys)
edge_append e xs ys = ap (head_then e.head) (acts_append e.acts (token right_brace e.closing_at ∷ xs) ys)

-- tokens behind edges and what follows them stand behind what follows
pub edges_append : (es : List Written) (xs ys : List Token) → edges_then es xs ++ ys ≡ edges_then es (xs ++ ys)
edges_append [] xs ys = refl
edges_append (e ∷ es) xs ys = edge_append e (edges_then es xs) ys ∙ ap (edge_then e) (edges_append es xs ys)

-- tokens behind the heads and what follows them stand behind what follows
pub heads_append : (h : Heads) (xs ys : List Token) → heads_then h xs ++ ys ≡ heads_then h (xs ++ ys)
heads_append h xs ys =
    ap (vars_then h.vars_at) (names_append h.variables _ ys ∙ ap (λ z. names_then h.variables (points_then h.points_at z))
    (names_append h.points xs ys))

-- tokens behind the inside of an edge and what follows it stand behind what follows
pub inside_append : (i : Inside) (xs ys : List Token) → inside_then i xs ++ ys ≡ inside_then i (xs ++ ys)
inside_append i xs ys =
    heads_append i.heads _ ys ∙ ap (heads_then i.heads) (edges_append i.edges _ ys
    ∙ ap (λ z. edges_then i.edges (head_then i.head z)) (acts_append i.acts xs ys))

frame_append : (f : Frame) (xs ys : List Token) → frame_then f xs ++ ys ≡ frame_then f (xs ++ ys)
frame_append (condition a b) xs ys = refl
frame_append (side x a b) xs ys = refl

-- tokens behind a beginning and what follows it stand behind what follows
pub begun_append : (b : Begun) (xs ys : List Token) → begun_then b xs ++ ys ≡ begun_then b (xs ++ ys)
begun_append no_token xs ys = refl
begun_append (some_variables v ss) xs ys = ap (vars_then v) (commas_append ss xs ys)
begun_append (a_variable v ss x a) xs ys = ap (vars_then v) (commas_append ss (token (a_name x) a ∷ xs) ys)
begun_append (all_variables v ns) xs ys = ap (vars_then v) (names_append ns xs ys)
begun_append (some_points v ns p ss) xs ys =
    ap (vars_then v) (names_append ns _ ys ∙ ap (λ z. names_then ns (points_then p z)) (commas_append ss xs ys))
begun_append (a_point v ns p ss x a) xs ys =
    ap (vars_then v) (names_append ns _ ys ∙ ap (λ z. names_then ns (points_then p z)) (commas_append ss (token (a_name x) a ∷ xs) ys))
begun_append (some_edges c es) xs ys = heads_append c _ ys ∙ ap (heads_then c) (edges_append es xs ys)
begun_append (an_edge c es w) xs ys = heads_append c _ ys ∙ ap (heads_then c) (edges_append es _ ys)
begun_append (a_source c es w x a) xs ys = heads_append c _ ys ∙ ap (heads_then c) (edges_append es _ ys)
begun_append (a_target c es w x a y b) xs ys = heads_append c _ ys ∙ ap (heads_then c) (edges_append es _ ys)
begun_append (some_acts i) xs ys = inside_append i xs ys
begun_append (an_assume i a) xs ys = inside_append i _ ys
begun_append (an_assigned i x a) xs ys = inside_append i _ ys
begun_append (some_expression i f begun) xs ys =
    inside_append i _ ys ∙ ap (inside_then i) (frame_append f (begun ++ xs) ys ∙ ap (frame_then f) (append_assoc begun xs ys))
begun_append (an_expression i f e) xs ys =
    inside_append i _ ys ∙ ap (inside_then i) (frame_append f (spell_expr e ++ xs) ys
    ∙ ap (frame_then f) (append_assoc (spell_expr e) xs ys))
begun_append (an_assumption i a b e d) xs ys =
    inside_append i _ ys ∙ ap (λ z. inside_then i (frame_then (condition a b) z))
    (append_assoc (spell_expr e) (token right_paren d ∷ xs) ys)

-- ---- one more
pub commas_more : (ss : List Spot) (s : Spot) (xs : List Token) → commas_then (ss ++ s ∷ []) xs
    ≡ commas_then ss (token (a_name s.name) s.at ∷ token comma s.sign_at ∷ xs)
commas_more [] s xs = refl
commas_more (t ∷ ss) s xs = ap (λ z. token (a_name t.name) t.at ∷ token comma t.sign_at ∷ z) (commas_more ss s xs)

-- one act more stands before what follows the others
pub acts_more : (hs : List Act) (a : Act) (xs : List Token) → acts_then (hs ++ a ∷ []) xs ≡ acts_then hs (act_then a xs)
acts_more [] a xs = refl
acts_more (b ∷ hs) a xs = ap (act_then b) (acts_more hs a xs)

-- one edge more stands before what follows the others
pub edges_more : (es : List Written) (e : Written) (xs : List Token) → edges_then (es ++ e ∷ []) xs ≡ edges_then es (edge_then e xs)
edges_more [] e xs = refl
edges_more (d ∷ es) e xs = ap (edge_then d) (edges_more es e xs)

-- good acts with a good one behind them are good
pub good_more : (hs : List Act) (a : Act) → GoodActs hs → GoodAct a → GoodActs (hs ++ a ∷ [])
good_more [] a g h = (h, tt)
good_more (b ∷ hs) a g h = (g.0, good_more hs a g.1 h)

-- good edges with one of good acts behind them are good
pub all_good_more : (es : List Written) (e : Written) → GoodEdges es → GoodActs e.acts → GoodEdges (es ++ e ∷ [])
all_good_more [] e g h = (h, tt)
all_good_more (d ∷ es) e g h = (g.0, all_good_more es e g.1 h)

-- ---- what follows is determined
pub cancel_commas : (ss ds : List Spot) (l : Spot) (xs tail : List Token)
    → commas_then ss xs ≡ commas_then ds (token (a_name l.name) l.at ∷ token semicolon l.sign_at ∷ tail)
    → (ns : Names) × (xs ≡ names_then ns tail)
cancel_commas [] ds l xs tail e = (record { first_ones = ds; last = l }, e)
cancel_commas (s ∷ ss) [] l xs tail e = cc
cancel_commas (s ∷ ss) (d ∷ ds) l xs tail e = cancel_commas ss ds l xs tail (cc)

-- names with the same tokens at the front have the same ones behind them
pub cancel_names : (ss ds : List Spot) (k l : Spot) (xs tail : List Token)
    → commas_then ss (token (a_name k.name) k.at ∷ token semicolon k.sign_at ∷ xs)
    ≡ commas_then ds (token (a_name l.name) l.at ∷ token semicolon l.sign_at ∷ tail) → xs ≡ tail
cancel_names [] [] k l xs tail e = cc
cancel_names [] (d ∷ ds) k l xs tail e = cc
cancel_names (s ∷ ss) [] k l xs tail e = cc
cancel_names (s ∷ ss) (d ∷ ds) k l xs tail e = cancel_names ss ds k l xs tail (cc)

cut : (e f : Expr) (a b : ℕ) (xs ys : List Token) → Groups 0 e → Groups 0 f
    → spell_expr e ++ token semicolon a ∷ xs ≡ spell_expr f ++ token semicolon b ∷ ys → xs ≡ ys
cut e f a b xs ys g h i =
    let q = (unique_expr (suc (weight e)) (unique (suc (weight e))) e f (token semicolon a) (token semicolon b) xs ys (omega arith) g h tt
    tt i).1 in cc

-- expressions with a `)` behind them and the same tokens have the same ones behind the `)`
pub cut_paren : (e f : Expr) (a b : ℕ) (xs ys : List Token) → Groups 0 e → Groups 0 f
    → spell_expr e ++ token right_paren a ∷ xs ≡ spell_expr f ++ token right_paren b ∷ ys → xs ≡ ys
cut_paren e f a b xs ys g h i =
    let q = (unique_expr (suc (weight e)) (unique (suc (weight e))) e f (token right_paren a) (token right_paren b) xs ys (omega arith) g h
    tt tt i).1 in cc

cancel_act : (a b : Act) (xs tail : List Token) → GoodAct a → GoodAct b → act_then a xs ≡ act_then b tail → xs ≡ tail
cancel_act (sets x a b e s) (sets y c d f t) xs tail g h i = cut e f s t xs tail g h (cc)
cancel_act (sets x a b e s) (assumes c d f p t) xs tail g h i = cc
cancel_act (assumes a b e c s) (sets y d p f t) xs tail g h i = cc
cancel_act (assumes a b e c s) (assumes d p f q t) xs tail g h i =
    let r : token semicolon s ∷ xs ≡ token semicolon t ∷ tail = cut_paren e f c q (token semicolon s ∷ xs) (token semicolon t ∷ tail) g h
    (cc) in cc

act_open : (a : Act) (xs ys : List Token) (c : ℕ) → act_then a xs ≡ token right_brace c ∷ ys → ⊥
act_open (sets x a b e s) xs ys c i = cc
act_open (assumes a b e d s) xs ys c i = cc

-- where acts begin whole acts with their `}`, what follows is acts with this `}`
pub cancel_acts : (hs bs : List Act) (xs : List Token) (c : ℕ) (tail : List Token) → GoodActs hs → GoodActs bs
    → acts_then hs xs ≡ acts_then bs (token right_brace c ∷ tail) → (cs : List Act) × (xs ≡ acts_then cs (token right_brace c ∷ tail))
    × GoodActs cs
cancel_acts [] bs xs c tail g h e = (bs, e, h)
cancel_acts (a ∷ hs) [] xs c tail g h e = absurd (act_open a (acts_then hs xs) tail c e)
cancel_acts (a ∷ hs) (b ∷ bs) xs c tail g h e =
    cancel_acts hs bs xs c tail g.1 h.1 (cancel_act a b (acts_then hs xs) (acts_then bs (token right_brace c ∷ tail)) g.0 h.0 e)

-- a `}` ends the acts
pub acts_over : (bs : List Act) (xs : List Token) (d c : ℕ) (tail : List Token)
    → token right_brace d ∷ xs ≡ acts_then bs (token right_brace c ∷ tail) → xs ≡ tail
acts_over [] xs d c tail e = cc
acts_over (b ∷ bs) xs d c tail e = absurd (act_open b (acts_then bs (token right_brace c ∷ tail)) xs d (sym e))

-- where edges begin the edges of a text, what follows is edges with the end behind them
pub cancel_edges : (es ds : List Written) (xs : List Token) (p : ℕ) → GoodEdges es → GoodEdges ds
    → edges_then es xs ≡ edges_then ds (token the_end p ∷ [])
    → (fs : List Written) × (xs ≡ edges_then fs (token the_end p ∷ [])) × GoodEdges fs
cancel_edges [] ds xs p g h e = (ds, e, h)
cancel_edges (w ∷ ws) [] xs p g h e = cc
cancel_edges (w ∷ ws) (d ∷ ds) xs p g h e =
    let i : acts_then w.acts (token right_brace w.closing_at ∷ edges_then ws xs)
    ≡ acts_then d.acts (token right_brace d.closing_at ∷ edges_then ds (token the_end p ∷ [])) = cc in
    let q = cancel_acts w.acts d.acts (token right_brace w.closing_at ∷ edges_then ws xs) d.closing_at
    (edges_then ds (token the_end p ∷ [])) g.0 h.0 i in
    cancel_edges ws ds xs p g.1 h.1 (acts_over q.0 (edges_then ws xs) w.closing_at d.closing_at (edges_then ds (token the_end p ∷ [])) q.1)
