-- How far the reading has come behind a beginning without fault.
use Rattle.std.proofs.Common.{◌≡◌, ◌++◌, ◌<◌, ℕ, List, [], ◌∷◌, length, map, Some, None, refl}
use Rattle.std.proofs.Common.{sym, ap, subst, arith, append_assoc}
use Rattle.std.proofs.lemmas.List.{length-append, map-append, append-nil}
use Rattle.lang_tokens.specs.Lines.{line_at}
use Rattle.lang_grammar.specs.Grammar.{Groups, Expr}
use Rattle.flow_transitions.specs.declared.limits.TheConstants.{MOST_VARIABLES}
use Rattle.lang_tree.specs.Tree.{Statement, Statements, nil, cons}
use Rattle.lang_meaning.specs.Names.{place_of}
use Rattle.flow_transitions.specs.declared.auto_edge.AutoEdge.{AutoEdge}
use Rattle.flow_transitions.specs.declared.reading.point_name.PointName.{PointName}
use Rattle.flow_transitions.specs.AutoReading.{Stand, Progress, progress, start, names_of, edge_to}
use Rattle.flow_transitions.specs.AutoReading.{then_act}
use Rattle.flow_transitions.specs.AutoReading.{at_variable, past_variable, at_points, at_point, past_point, at_edge, at_source, at_target}
use Rattle.flow_transitions.specs.AutoReading.{at_opening, at_act, at_paren}
use Rattle.flow_transitions.specs.AutoReading.{at_condition, past_condition, at_equal, at_right_side, past_act}
use Rattle.flow_transitions.specs.AutoGrammar.{Spot, Act, sets, assumes, Written, Heads, Frame, condition, side, Inside, Begun}
use Rattle.flow_transitions.specs.AutoGrammar.{no_token, some_variables, a_variable}
use Rattle.flow_transitions.specs.AutoGrammar.{all_variables, some_points, a_point, some_edges, an_edge, a_source, a_target, some_acts}
use Rattle.flow_transitions.specs.AutoGrammar.{an_assume}
use Rattle.flow_transitions.specs.AutoGrammar.{an_assigned}
use Rattle.flow_transitions.specs.AutoGrammar.{some_expression as begun_expression, an_expression as whole_expression, an_assumption}
use Rattle.flow_transitions.specs.AutoGrammar.{GoodAct}
use Rattle.flow_transitions.specs.AutoGrammar.{GoodActs, GoodEdges}
use Rattle.flow_transitions.specs.AutoTrees.{spot_names, all_spots, names_in, point_here, AreNew, AreVariables, FrameSays, frame_of}
use Rattle.flow_transitions.specs.AutoTrees.{expr_in}
use Rattle.flow_transitions.specs.AutoTrees.{ActsSay, HeadSays, EdgesSay}
use Rattle.flow_transitions.specs.AutoTrees.{Outer, Inner, Faultless}
use Rattle.flow_transitions.proofs.grammar.Accepts.{Good, GoodInside}

-- ---- names
pub new_more : (before : List (List ℕ)) (ss : List Spot) (s : Spot) → AreNew before ss → place_of s.name (before ++ spot_names ss) ≡ None
    → AreNew before (ss ++ s ∷ [])
new_more before [] s h n = (subst (λ z. place_of s.name z ≡ None) (append-nil before) n, tt)
new_more before (t ∷ ss) s h n = (
  h.0,
  new_more (before ++ t.name ∷ []) ss s h.1 (subst (λ z. place_of s.name z ≡ None)
      (sym (append_assoc before (t.name ∷ []) (spot_names ss))) n),
)

-- variables with a new one behind them, where there is room for it, are variables
pub variables_more : (ss : List Spot) (s : Spot) → AreVariables ss → place_of s.name (spot_names ss) ≡ None → length ss < MOST_VARIABLES
    → AreVariables (ss ++ s ∷ [])
variables_more ss s h n l = (new_more [] ss s h.0 n, let size = length-append ss (s ∷ []) in omega (arith, size, l))

-- the names of places with one more behind them
pub names_more : (ss : List Spot) (s : Spot) → spot_names (ss ++ s ∷ []) ≡ spot_names ss ++ s.name ∷ []
names_more ss s = map-append (λ (t : Spot). t.name) ss (s ∷ [])

-- the points of places with one more behind them
pub points_more : (text : List ℕ) (ss : List Spot) (s : Spot) → map (point_here text) (ss ++ s ∷ [])
    ≡ map (point_here text) ss ++ point_here text s ∷ []
points_more text ss s = map-append (point_here text) ss (s ∷ [])

-- the names of the points are those of their places
pub names_back : (text : List ℕ) (ss : List Spot) → names_of (map (point_here text) ss) ≡ spot_names ss
names_back text [] = refl
names_back text (s ∷ ss) = ap (λ z. s.name ∷ z) (names_back text ss)

-- ---- acts and edges
pub acts_say_more : (text : List ℕ) (names : List (List ℕ)) (hs : List Act) (ss : Statements) (a : Act) (s : Statement)
    → ActsSay text names hs ss
    → FrameSays text names (frame_of a) (expr_in a) s → ActsSay text names (hs ++ a ∷ []) (then_act ss s)
acts_say_more text names [] nil a s h k = (k, tt)
acts_say_more text names (b ∷ hs) (cons t ss) a s h k = (h.0, acts_say_more text names hs ss a s h.1 k)
acts_say_more text names [] (cons t ss) a s h k = absurd h
acts_say_more text names (b ∷ hs) nil a s h k = absurd h

-- edges without fault with one of such head and acts behind them are without fault
pub edges_say_more : (text : List ℕ) (names points : List (List ℕ)) (ws : List Written) (es : List AutoEdge) (w : Written) (e : AutoEdge)
    → EdgesSay text names points ws es → HeadSays text points w.head e → ActsSay text names w.acts e.acts
    → EdgesSay text names points (ws ++ w ∷ []) (es ++ e ∷ [])
edges_say_more text names points [] [] w e h k l = (k, l, tt)
edges_say_more text names points (v ∷ ws) (f ∷ es) w e h k l = (h.0, h.1, edges_say_more text names points ws es w e h.2 k l)
edges_say_more text names points [] (f ∷ es) w e h k l = absurd h
edges_say_more text names points (v ∷ ws) [] w e h k l = absurd h

-- ---- what is without fault groups as it must
frame_good : (text : List ℕ) (names : List (List ℕ)) (f : Frame) (e : Expr) (s : Statement) → FrameSays text names f e s → Groups 0 e
frame_good text names (condition a b) e s h = h.0
frame_good text names (side x a b) e s h = h.0

act_good : (text : List ℕ) (names : List (List ℕ)) (a : Act) (s : Statement) → FrameSays text names (frame_of a) (expr_in a) s → GoodAct a
act_good text names (sets x a b e t) s h = h.0
act_good text names (assumes a b e c t) s h = h.0

acts_good : (text : List ℕ) (names : List (List ℕ)) (hs : List Act) (ss : Statements) → ActsSay text names hs ss → GoodActs hs
acts_good text names [] nil h = tt
acts_good text names (a ∷ hs) (cons s ss) h = (act_good text names a s h.0, acts_good text names hs ss h.1)
acts_good text names [] (cons s ss) h = absurd h
acts_good text names (a ∷ hs) nil h = absurd h

edges_good : (text : List ℕ) (names points : List (List ℕ)) (ws : List Written) (es : List AutoEdge) → EdgesSay text names points ws es
    → GoodEdges ws
edges_good text names points [] [] h = tt
edges_good text names points (w ∷ ws) (e ∷ es) h = (acts_good text names w.acts e.acts h.1, edges_good text names points ws es h.2)
edges_good text names points [] (e ∷ es) h = absurd h
edges_good text names points (w ∷ ws) [] h = absurd h

-- the expressions of whole edges without fault group as they must
pub outer_good : (text : List ℕ) (h : Heads) (ws : List Written) → Outer text h ws → GoodEdges ws
outer_good text h ws o = edges_good text (names_in h.variables) (names_in h.points) ws o.edges o.say

-- the expressions within an edge without fault group as they must
pub inner_good : (text : List ℕ) (i : Inside) → Inner text i → GoodInside i
inner_good text i n = (outer_good text i.heads i.edges n.outer, acts_good text (names_in i.heads.variables) i.acts n.edge.acts n.acts)

-- the expressions of a beginning without fault group as they must
pub good_of : (text : List ℕ) (b : Begun) → Faultless text b → Good b
good_of text no_token f = tt
good_of text (some_variables v ss) f = tt
good_of text (a_variable v ss x a) f = tt
good_of text (all_variables v ns) f = tt
good_of text (some_points v ns p ss) f = tt
good_of text (a_point v ns p ss x a) f = tt
good_of text (some_edges h ws) f = outer_good text h ws f
good_of text (an_edge h ws w) f = outer_good text h ws f
good_of text (a_source h ws w x a) f = outer_good text h ws f.0
good_of text (a_target h ws w x a y b) f = outer_good text h ws f.0
good_of text (some_acts i) f = inner_good text i f
good_of text (an_assume i a) f = inner_good text i f
good_of text (an_assigned i x a) f = inner_good text i f.0
good_of text (begun_expression i f begun) g = (inner_good text i g.0, g.2.0, g.3)
good_of text (whole_expression i f e) g = (inner_good text i g.0, frame_good text (names_in i.heads.variables) f e g.1.0 g.1.1)
good_of text (an_assumption i a b e d) g = (inner_good text i g.0, g.1.1.0)

-- ---- how far the reading has come
abbrev pub points_in : List ℕ → Heads → List PointName
points_in text h = map (point_here text) (all_spots h.points)

abbrev pub outside : (text : List ℕ) (h : Heads) (ws : List Written) → Outer text h ws → Stand → Progress
outside text h ws o stand = progress (names_in h.variables) (points_in text h) o.edges stand

abbrev pub inside : (text : List ℕ) (i : Inside) → Inner text i → Stand → Progress
inside text i n stand = outside text i.heads i.edges n.outer stand

-- where the reading stands before an expression, and behind it
abbrev pub StandsBefore : (text : List ℕ) (i : Inside) → Inner text i → Frame → Stand → Type 0
StandsBefore text i n (condition a b) stand = stand ≡ at_condition n.edge (line_at text a)
StandsBefore text i n (side x a b) stand = (var : ℕ) × (place_of x (names_in i.heads.variables) ≡ Some var)
    × (stand ≡ at_right_side n.edge var (line_at text a) b)

abbrev pub stand_behind : Frame → AutoEdge → Statement → Stand
stand_behind (condition a b) e s = past_condition e s
stand_behind (side x a b) e s = past_act e s

abbrev pub Has : List ℕ → Begun → Progress → Type 0
Has text no_token r = r ≡ start
Has text (some_variables v ss) r = AreVariables ss × (r ≡ progress (spot_names ss) [] [] at_variable)
Has text (a_variable v ss x a) r =
    (AreVariables ss × (place_of x (spot_names ss) ≡ None) × (length ss < MOST_VARIABLES))
    × (r ≡ progress (spot_names ss ++ x ∷ []) [] [] past_variable)
Has text (all_variables v ns) r = AreVariables (all_spots ns) × (r ≡ progress (names_in ns) [] [] at_points)
Has text (some_points v ns p ss) r =
    (AreVariables (all_spots ns) × AreNew [] ss) × (r ≡ progress (names_in ns) (map (point_here text) ss) [] at_point)
Has text (a_point v ns p ss x a) r =
    (AreVariables (all_spots ns) × AreNew [] ss × (place_of x (spot_names ss) ≡ None))
    × (r ≡ progress (names_in ns) (map (point_here text) ss ++ record { name = x; line = line_at text a } ∷ []) [] past_point)
Has text (some_edges h ws) r = (o : Outer text h ws) × (r ≡ outside text h ws o at_edge)
Has text (an_edge h ws w) r = (o : Outer text h ws) × (r ≡ outside text h ws o (at_source (line_at text w)))
Has text (a_source h ws w x a) r =
    (o : Outer text h ws) × (p : ℕ) × (place_of x (names_in h.points) ≡ Some p) × (r ≡ outside text h ws o (at_target (line_at text w) p a))
Has text (a_target h ws w x a y b) r =
    (o : Outer text h ws) × (p : ℕ) × (place_of x (names_in h.points) ≡ Some p)
    × ((q : ℕ) × (place_of y (names_in h.points) ≡ Some q) × (0 < q)
    × (r ≡ outside text h ws o (at_opening (edge_to (line_at text w) p a q))))
Has text (some_acts i) r = (n : Inner text i) × (r ≡ inside text i n (at_act n.edge))
Has text (an_assume i a) r = (n : Inner text i) × (r ≡ inside text i n (at_paren n.edge (line_at text a)))
Has text (an_assigned i x a) r =
    (n : Inner text i) × (var : ℕ) × (place_of x (names_in i.heads.variables) ≡ Some var)
    × (r ≡ inside text i n (at_equal n.edge var (line_at text a)))
Has text (begun_expression i f begun) r = (begun ≡ []) × ((n : Inner text i) × (stand : Stand) × StandsBefore text i n f stand
    × (r ≡ inside text i n stand))
Has text (whole_expression i f e) r =
    (n : Inner text i) × (s : Statement) × FrameSays text (names_in i.heads.variables) f e s
    × (r ≡ inside text i n (stand_behind f n.edge s))
Has text (an_assumption i a b e d) r =
    (n : Inner text i) × (s : Statement) × FrameSays text (names_in i.heads.variables) (condition a b) e s
    × (r ≡ inside text i n (past_act n.edge s))
