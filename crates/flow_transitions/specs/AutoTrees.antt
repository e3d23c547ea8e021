-- What the tokens of a text say by its grammar: a transition system, or the first fault.
use Rattle.std.specs.Prelude.{◌≡◌, ◌⊎◌, ◌+◌, ◌<◌, ◌≤◌, ◌++◌, ℕ, List, [], ◌∷◌, length, map, Option, Some, None, Result, Ok, Err}
use Rattle.lang_tokens.specs.Lines.{line_at}
use Rattle.lang_grammar.specs.Expressions.{IsLongest, FindsExpr, FineExpr, ReadsExpr, nests_at}
use Rattle.lang_grammar.specs.Grammar.{Kind, a_name, semicolon, Token, token, Expr, spell_expr, Groups}
use Rattle.lang_tree.specs.declared.form.Form.{Form}
use Rattle.flow_transitions.specs.declared.limits.TheConstants.{MOST_VARIABLES}
use Rattle.lang_tree.specs.Tree.{Condition, Statement, Statements, assume, nil, cons}
use Rattle.flow_transitions.specs.declared.limits.TheConstants.{MOST_POINTS}
use Rattle.lang_meaning.specs.declared.fault.Limit.TheVariants.{Nesting, Variables}
use Rattle.lang_meaning.specs.declared.fault.ParseFault.{ParseFault}
use Rattle.lang_meaning.specs.declared.fault.ParseFault.TheVariants as parse
use Rattle.lang_meaning.specs.Names.{place_of}
use Rattle.lang_meaning.specs.Results.{◌>>=◌}
use Rattle.lang_meaning.specs.Walk.{assignment}
use Rattle.lang_meaning.specs.Expressions.{as_truth, first_place, meant}
use Rattle.flow_transitions.specs.declared.auto_edge.AutoEdge.{AutoEdge}
use Rattle.flow_transitions.specs.declared.fault.AutoFault.{AutoFault}
use Rattle.flow_transitions.specs.declared.fault.AutoFault.TheVariants as fault
use Rattle.flow_transitions.specs.declared.reading.point_name.PointName.{PointName}
use Rattle.flow_transitions.specs.AutoContents.{AutoAnswer, points_of, as_side}
use Rattle.flow_transitions.specs.AutoGrammar.{Spot, Names, Act, sets, assumes, Head, Written, Heads, System, ReadsSystem}
use Rattle.flow_transitions.specs.AutoGrammar.{IsUnexpected}
use Rattle.flow_transitions.specs.AutoGrammar.{Frame, condition, side, Inside, Begun, begun_then, no_token, some_variables, a_variable}
use Rattle.flow_transitions.specs.AutoGrammar.{all_variables}
use Rattle.flow_transitions.specs.AutoGrammar.{some_points, a_point, some_edges, an_edge, a_source, a_target, some_acts, an_assume}
use Rattle.flow_transitions.specs.AutoGrammar.{an_assigned}
use Rattle.flow_transitions.specs.AutoGrammar.{some_expression}
use Rattle.flow_transitions.specs.AutoGrammar.{an_expression, an_assumption}

-- ---- names
abbrev pub spot_names : List Spot → List (List ℕ)
spot_names ss = map (λ s. s.name) ss

-- all names, the last one included
abbrev pub all_spots : Names → List Spot
all_spots ns = ns.first_ones ++ ns.last ∷ []

abbrev pub names_in : Names → List (List ℕ)
names_in ns = spot_names (all_spots ns)

-- the point that a name is, with its line
abbrev pub point_here : List ℕ → Spot → PointName
point_here text s = record { name = s.name; line = line_at text s.at }

-- None of these names stands before it, where these stand before all.
abbrev pub AreNew : List (List ℕ) → List Spot → Type 0
AreNew before [] = Unit {0}
AreNew before (s ∷ ss) = (place_of s.name before ≡ None) × AreNew (before ++ s.name ∷ []) ss

-- The variables and points so far are new, and not too many variables.
abbrev pub AreVariables : List Spot → Type 0
AreVariables ss = AreNew [] ss × (length ss ≤ MOST_VARIABLES)

-- The heads are without fault: no name stands twice, and there are not too many variables, not too few and not too many points.
pub record AreHeads (h : Heads) : Type 0 where
  pub variables : AreVariables (all_spots h.variables)
  pub points : AreNew [] (all_spots h.points)
  pub some : 2 ≤ length (all_spots h.points)
  pub few : length (all_spots h.points) ≤ MOST_POINTS

-- ---- acts
-- what an expression says as a condition, and as the right side behind a `=` at this place
abbrev pub truth_of : List ℕ → List (List ℕ) → Expr → Result Condition ParseFault
truth_of text names e = meant text names (first_place (spell_expr e)) e >>= λ m. as_truth (first_place (spell_expr e)) m

abbrev pub side_of : List ℕ → List (List ℕ) → ℕ → Expr → Result (Option Form) ParseFault
side_of text names sign e = meant text names (first_place (spell_expr e)) e >>= λ m. as_side sign m

-- The expression behind this frame is without fault, and with it the act is this statement.
abbrev pub FrameSays : List ℕ → List (List ℕ) → Frame → Expr → Statement → Type 0
FrameSays text names (condition a b) e s =
    Groups 0 e × FineExpr (spell_expr e) × ((c : Condition) × (truth_of text names e ≡ Ok c) × (s ≡ assume c (line_at text a)))
FrameSays text names (side x a b) e s =
    Groups 0 e × FineExpr (spell_expr e)
    × ((var : ℕ) × (f : Option Form) × (place_of x names ≡ Some var) × (side_of text names b e ≡ Ok f)
    × (s ≡ assignment var f (line_at text a)))

-- an act's frame and its expression
abbrev pub frame_of : Act → Frame
frame_of (sets x a b e s) = side x a b
frame_of (assumes a b e c s) = condition a b

abbrev pub expr_in : Act → Expr
expr_in (sets x a b e s) = e
expr_in (assumes a b e c s) = e

-- The acts are without fault, and are these statements.
abbrev pub ActsSay : List ℕ → List (List ℕ) → List Act → Statements → Type 0
ActsSay text names [] nil = Unit {0}
ActsSay text names (a ∷ hs) (cons s ss) = FrameSays text names (frame_of a) (expr_in a) s × ActsSay text names hs ss
ActsSay text names [] (cons s ss) = ⊥
ActsSay text names (a ∷ hs) nil = ⊥

-- ---- edges
-- The head of an edge is without fault: it goes from a point to another than the first, and from here to there.
pub record HeadSays (text : List ℕ) (points : List (List ℕ)) (h : Head) (e : AutoEdge) : Type 0 where
  pub source : place_of h.source points ≡ Some e.from
  pub target : place_of h.target points ≡ Some e.to
  pub later : 0 < e.to
  pub line : e.line ≡ line_at text h.word_at
  pub place : e.at ≡ h.source_at

-- The edges are without fault, and are these.
abbrev pub EdgesSay : List ℕ → List (List ℕ) → List (List ℕ) → List Written → List AutoEdge → Type 0
EdgesSay text names points [] [] = Unit {0}
EdgesSay text names points (w ∷ ws) (e ∷ es) = HeadSays text points w.head e × ActsSay text names w.acts e.acts
    × EdgesSay text names points ws es
EdgesSay text names points [] (e ∷ es) = ⊥
EdgesSay text names points (w ∷ ws) [] = ⊥

-- Whole heads and edges are without fault, and say these edges.
pub record Outer (text : List ℕ) (h : Heads) (ws : List Written) : Type 0 where
  pub heads : AreHeads h
  pub edges : List AutoEdge
  pub say : EdgesSay text (names_in h.variables) (names_in h.points) ws edges

-- What stands within an edge is without fault: whole heads and edges, the edge's head, and its acts so far.
pub record Inner (text : List ℕ) (i : Inside) : Type 0 where
  pub outer : Outer text i.heads i.edges
  pub edge : AutoEdge
  pub head : HeadSays text (names_in i.heads.points) i.head edge
  pub acts : ActsSay text (names_in i.heads.variables) i.acts edge.acts

-- what stands before an expression is without fault: an assigned name is a variable
abbrev pub FrameStands : List (List ℕ) → Frame → Type 0
FrameStands names (condition a b) = Unit {0}
FrameStands names (side x a b) = (var : ℕ) × (place_of x names ≡ Some var)

-- ---- beginnings without fault
abbrev pub Faultless : List ℕ → Begun → Type 0
Faultless text no_token = Unit {0}
Faultless text (some_variables v ss) = AreVariables ss
Faultless text (a_variable v ss x a) = AreVariables ss × (place_of x (spot_names ss) ≡ None) × (length ss < MOST_VARIABLES)
Faultless text (all_variables v ns) = AreVariables (all_spots ns)
Faultless text (some_points v ns p ss) = AreVariables (all_spots ns) × AreNew [] ss
Faultless text (a_point v ns p ss x a) = AreVariables (all_spots ns) × AreNew [] ss × (place_of x (spot_names ss) ≡ None)
Faultless text (some_edges h ws) = Outer text h ws
Faultless text (an_edge h ws w) = Outer text h ws
Faultless text (a_source h ws w x a) = Outer text h ws × ((p : ℕ) × (place_of x (names_in h.points) ≡ Some p))
Faultless text (a_target h ws w x a y b) =
    Outer text h ws × ((p : ℕ) × (place_of x (names_in h.points) ≡ Some p))
    × ((q : ℕ) × (place_of y (names_in h.points) ≡ Some q) × (0 < q))
Faultless text (some_acts i) = Inner text i
Faultless text (an_assume i a) = Inner text i
Faultless text (an_assigned i x a) = Inner text i × ((var : ℕ) × (place_of x (names_in i.heads.variables) ≡ Some var))
Faultless text (some_expression i f begun) =
    Inner text i × FrameStands (names_in i.heads.variables) f × FineExpr begun × ((e : Expr) → ReadsExpr begun e → ⊥)
Faultless text (an_expression i f e) = Inner text i × ((s : Statement) × FrameSays text (names_in i.heads.variables) f e s)
Faultless text (an_assumption i a b e d) =
    Inner text i × ((s : Statement) × FrameSays text (names_in i.heads.variables) (condition a b) e s)

-- ---- the first fault
-- what an expression behind a frame says, if it has no fault
abbrev pub FrameFault : List ℕ → List (List ℕ) → Frame → Expr → ParseFault → Type 0
FrameFault text names (condition a b) e f = truth_of text names e ≡ Err f
FrameFault text names (side x a b) e f = side_of text names b e ≡ Err f

-- The tokens have this fault first.
pub data FirstFault (text : List ℕ) (tokens : List Token) (f : AutoFault) : Type 0 where
  -- the tokens before this one begin a transition system, and with it they begin none; and what stands before it is without fault
  unexpected : (b : Begun) (k : Kind) (a : ℕ) (rest : List Token) → tokens ≡ begun_then b (token k a ∷ rest)
      → IsUnexpected (begun_then b []) (token k a) → Faultless text b → f ≡ fault.Parse (parse.Unexpected a) → FirstFault text tokens f
  -- a variable's name stands a second time, or is one too many
  variable_twice : (v : ℕ) (ss : List Spot) (x : List ℕ) (a : ℕ) (rest : List Token) (i : ℕ)
      → tokens ≡ begun_then (some_variables v ss) (token (a_name x) a ∷ rest) → AreVariables ss → place_of x (spot_names ss) ≡ Some i
      → f ≡ fault.Parse (parse.NameTwice a) → FirstFault text tokens f
  many_variables : (v : ℕ) (ss : List Spot) (x : List ℕ) (a : ℕ) (rest : List Token)
      → tokens ≡ begun_then (some_variables v ss) (token (a_name x) a ∷ rest) → AreVariables ss → place_of x (spot_names ss) ≡ None
      → length ss ≡ MOST_VARIABLES → f ≡ fault.Parse (parse.Limit a Variables) → FirstFault text tokens f
  -- a point's name stands a second time
  point_twice : (b : Begun) (v : ℕ) (ns : Names) (p : ℕ) (ss : List Spot) (x : List ℕ) (a : ℕ) (rest : List Token) (i : ℕ)
      → b ≡ some_points v ns p ss
      → tokens ≡ begun_then b (token (a_name x) a ∷ rest) → Faultless text b → place_of x (spot_names ss) ≡ Some i
      → f ≡ fault.Parse (parse.NameTwice a) → FirstFault text tokens f
  -- the points are too few or too many
  point_count : (v : ℕ) (ns : Names) (p : ℕ) (ss : List Spot) (x : List ℕ) (a c : ℕ) (rest : List Token)
      → tokens ≡ begun_then (a_point v ns p ss x a) (token semicolon c ∷ rest) → Faultless text (a_point v ns p ss x a)
      → (length ss + 1 < 2) ⊎ (MOST_POINTS < length ss + 1) → f ≡ fault.Points (length ss + 1) → FirstFault text tokens f
  -- a name of an edge is no point, or its second one the first point
  no_source : (h : Heads) (ws : List Written) (w : ℕ) (x : List ℕ) (a : ℕ) (rest : List Token)
      → tokens ≡ begun_then (an_edge h ws w) (token (a_name x) a ∷ rest) → Outer text h ws → place_of x (names_in h.points) ≡ None
      → f ≡ fault.UnknownPoint a → FirstFault text tokens f
  no_target : (h : Heads) (ws : List Written) (w : ℕ) (x : List ℕ) (a : ℕ) (y : List ℕ) (b : ℕ) (rest : List Token)
      → tokens ≡ begun_then (a_source h ws w x a) (token (a_name y) b ∷ rest) → Faultless text (a_source h ws w x a)
      → place_of y (names_in h.points) ≡ None → f ≡ fault.UnknownPoint b → FirstFault text tokens f
  into_entry : (h : Heads) (ws : List Written) (w : ℕ) (x : List ℕ) (a : ℕ) (y : List ℕ) (b : ℕ) (rest : List Token)
      → tokens ≡ begun_then (a_source h ws w x a) (token (a_name y) b ∷ rest) → Faultless text (a_source h ws w x a)
      → place_of y (names_in h.points) ≡ Some 0 → f ≡ fault.IntoEntry b → FirstFault text tokens f
  -- the name that is assigned is no variable
  no_variable : (i : Inside) (x : List ℕ) (a : ℕ) (rest : List Token) → tokens ≡ begun_then (some_acts i) (token (a_name x) a ∷ rest)
      → Inner text i → place_of x (names_in i.heads.variables) ≡ None → f ≡ fault.Parse (parse.UnknownName a) → FirstFault text tokens f
  -- a token of an expression opens one construct too many
  too_deep : (i : Inside) (g : Frame) (rest : List Token) (d : ℕ) → tokens ≡ begun_then (some_expression i g []) rest → Inner text i
      → FrameStands (names_in i.heads.variables) g → FindsExpr (nests_at d) rest → f ≡ fault.Parse (parse.Limit d Nesting)
      → FirstFault text tokens f
  -- the longest expression behind the frame says no condition, or no right side
  says_nothing : (i : Inside) (g : Frame) (rest : List Token) (n : ℕ) (e : Expr) (p : ParseFault)
      → tokens ≡ begun_then (some_expression i g []) rest
      → Inner text i → FrameStands (names_in i.heads.variables) g → IsLongest rest n e → FrameFault text (names_in i.heads.variables) g e p
      → f ≡ fault.Parse p → FirstFault text tokens f

-- What tokens say: they read as a transition system without fault, or have this fault first.
abbrev pub SystemMeans : List ℕ → List Token → AutoAnswer → Type 0
SystemMeans text tokens (Ok c) =
    (s : System) × ReadsSystem tokens s × ((outer : Outer text s.heads s.edges)
    × (c ≡ record {
      names = names_in s.heads.variables;
      points = points_of (map (point_here text) (all_spots s.heads.points));
      edges =
          outer.edges;
    }))
SystemMeans text tokens (Err f) = FirstFault text tokens f
