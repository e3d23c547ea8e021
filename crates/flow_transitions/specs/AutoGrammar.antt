-- How transition systems are spelled: trees over the tokens of a text.
use Rattle.std.specs.Prelude.{◌≡◌, ◌+◌, ◌++◌, ℕ, List, [], ◌∷◌, codes, map, slice_range}
use Rattle.lang_tokens.specs.declared.word.Word.TheVariants as word
use Rattle.lang_tokens.specs.declared.token.Kind as lex_kind
use Rattle.lang_tokens.specs.declared.token.Token as lex_token
use Rattle.lang_grammar.specs.Grammar.{Kind, a_name, comma, semicolon, left_brace, right_brace, left_paren, right_paren, change_sign}
use Rattle.lang_grammar.specs.Grammar.{replaces}
use Rattle.lang_grammar.specs.Grammar.{demand_word, assumes as to_assume, other_word, the_end, Token, token, Expr, spell_expr, Groups}
use Rattle.lang_grammar.specs.View.{kind_of}

-- ---- tokens
-- what a token is here: `__VERIFIER_assume`, `assert` and `__VERIFIER_assert` stand nowhere, and each other one is what it is in a program
abbrev pub kind_here : List ℕ → lex_kind.Kind → Kind
kind_here bytes (lex_kind.TheVariants.Word word.VerifierAssume) = other_word
kind_here bytes (lex_kind.TheVariants.Word word.Assert) = other_word
kind_here bytes (lex_kind.TheVariants.Word word.VerifierAssert) = other_word
kind_here bytes k = kind_of bytes k

-- the word `assume`
abbrev pub assume_word : Kind
assume_word = demand_word to_assume

abbrev pub token_here : List ℕ → lex_token.Token → Token
token_here text t = token (kind_here (slice_range text t.at (t.at + t.len)) t.kind) t.at

abbrev pub tokens_here : List ℕ → List lex_token.Token → List Token
tokens_here text ts = map (token_here text) ts

-- ---- names
-- a name with the sign behind it, and their places
pub record Spot : Type 0 where
  pub name : List ℕ
  pub at : ℕ
  pub sign_at : ℕ

-- names, `,` behind each but the last one, and `;` behind that
pub record Names : Type 0 where
  pub first_ones : List Spot
  pub last : Spot

-- names with a `,` behind each, and then these tokens
abbrev pub commas_then : List Spot → List Token → List Token
commas_then [] rest = rest
commas_then (s ∷ ss) rest = token (a_name s.name) s.at ∷ token comma s.sign_at ∷ commas_then ss rest

abbrev pub names_then : Names → List Token → List Token
names_then ns rest = commas_then ns.first_ones (token (a_name ns.last.name) ns.last.at ∷ token semicolon ns.last.sign_at ∷ rest)

-- ---- edges
-- `NAME = expr ;`, or `assume ( expr ) ;`
pub data Act : Type 0 where
  sets : (name : List ℕ) → (at equal_at : ℕ) → Expr → (semicolon_at : ℕ) → Act
  assumes : (at opening_at : ℕ) → Expr → (closing_at semicolon_at : ℕ) → Act

abbrev pub act_then : Act → List Token → List Token
act_then (sets x a b e s) rest = token (a_name x) a ∷ token (change_sign replaces) b ∷ (spell_expr e ++ token semicolon s ∷ rest)
act_then (assumes a b e c s) rest =
    token assume_word a ∷ token left_paren b ∷ (spell_expr e ++ token right_paren c ∷ token semicolon s ∷ rest)

abbrev pub acts_then : List Act → List Token → List Token
acts_then [] rest = rest
acts_then (a ∷ hs) rest = act_then a (acts_then hs rest)

-- the head of an edge: `edge NAME NAME {`
pub record Head : Type 0 where
  pub word_at : ℕ
  pub source : List ℕ
  pub source_at : ℕ
  pub target : List ℕ
  pub target_at : ℕ
  pub opening_at : ℕ

-- an edge: its head, its acts and `}`
pub record Written : Type 0 where
  pub head : Head
  pub acts : List Act
  pub closing_at : ℕ

abbrev pub head_then : Head → List Token → List Token
head_then h rest =
    token (a_name (codes "edge")) h.word_at ∷ token (a_name h.source) h.source_at ∷ token (a_name h.target) h.target_at
    ∷ token left_brace h.opening_at
    ∷ rest

abbrev pub edge_then : Written → List Token → List Token
edge_then e rest = head_then e.head (acts_then e.acts (token right_brace e.closing_at ∷ rest))

abbrev pub edges_then : List Written → List Token → List Token
edges_then [] rest = rest
edges_then (e ∷ es) rest = edge_then e (edges_then es rest)

-- ---- texts
-- the heads of a text: `vars` and names, `points` and names
pub record Heads : Type 0 where
  pub vars_at : ℕ
  pub variables : Names
  pub points_at : ℕ
  pub points : Names

-- a transition system: its heads and its edges
pub record System : Type 0 where
  pub heads : Heads
  pub edges : List Written

abbrev pub vars_then : ℕ → List Token → List Token
vars_then a rest = token (a_name (codes "vars")) a ∷ rest

abbrev pub points_then : ℕ → List Token → List Token
points_then a rest = token (a_name (codes "points")) a ∷ rest

abbrev pub heads_then : Heads → List Token → List Token
heads_then h rest = vars_then h.vars_at (names_then h.variables (points_then h.points_at (names_then h.points rest)))

abbrev pub system_then : System → List Token → List Token
system_then s rest = heads_then s.heads (edges_then s.edges rest)

-- Expressions group as the rules on operators say.
abbrev pub GoodAct : Act → Type 0
GoodAct (sets x a b e s) = Groups 0 e
GoodAct (assumes a b e c s) = Groups 0 e

abbrev pub GoodActs : List Act → Type 0
GoodActs [] = Unit {0}
GoodActs (a ∷ hs) = GoodAct a × GoodActs hs

abbrev pub GoodEdges : List Written → Type 0
GoodEdges [] = Unit {0}
GoodEdges (e ∷ es) = GoodActs e.acts × GoodEdges es

-- The tokens read as this transition system, with the end of the text behind it.
pub record ReadsSystem (tokens : List Token) (s : System) : Type 0 where
  pub end_at : ℕ
  pub spelled : system_then s (token the_end end_at ∷ []) ≡ tokens
  pub good : GoodEdges s.edges

-- The tokens begin a transition system.
abbrev pub Begins : List Token → Type 0
Begins front = (s : System) × (rest : List Token) × ReadsSystem (front ++ rest) s

-- The tokens before this one begin a transition system, and with it they begin none.
abbrev pub IsUnexpected : List Token → Token → Type 0
IsUnexpected front t = Begins front × (Begins (front ++ t ∷ []) → ⊥)

-- ---- beginnings
-- what stands before an act's expression: `assume (`, or `NAME =`
pub data Frame : Type 0 where
  condition : (at opening_at : ℕ) → Frame
  side : (name : List ℕ) → (at equal_at : ℕ) → Frame

abbrev pub frame_then : Frame → List Token → List Token
frame_then (condition a b) rest = token assume_word a ∷ token left_paren b ∷ rest
frame_then (side x a b) rest = token (a_name x) a ∷ token (change_sign replaces) b ∷ rest

-- the sign behind the expression
abbrev pub closing : Frame → Kind
closing (condition a b) = right_paren
closing (side x a b) = semicolon

-- within an edge: the heads of the text, whole edges, the head of the edge and its whole acts
pub record Inside : Type 0 where
  pub heads : Heads
  pub edges : List Written
  pub head : Head
  pub acts : List Act

abbrev pub inside_then : Inside → List Token → List Token
inside_then i rest = heads_then i.heads (edges_then i.edges (head_then i.head (acts_then i.acts rest)))

-- What stands in a text before one of its tokens.
pub data Begun : Type 0 where
  -- nothing; `vars` and names so far, with a `,` behind each; these, and one more
  no_token : Begun
  some_variables : (vars_at : ℕ) → List Spot → Begun
  a_variable : (vars_at : ℕ) → List Spot → (name : List ℕ) → (at : ℕ) → Begun
  -- all variables; `points` and names so far, likewise
  all_variables : (vars_at : ℕ) → Names → Begun
  some_points : (vars_at : ℕ) → Names → (points_at : ℕ) → List Spot → Begun
  a_point : (vars_at : ℕ) → Names → (points_at : ℕ) → List Spot → (name : List ℕ) → (at : ℕ) → Begun
  -- the heads and whole edges; `edge`, and the names behind it so far
  some_edges : Heads → List Written → Begun
  an_edge : Heads → List Written → (word_at : ℕ) → Begun
  a_source : Heads → List Written → (word_at : ℕ) → (source : List ℕ) → (source_at : ℕ) → Begun
  a_target : Heads → List Written → (word_at : ℕ) → (source : List ℕ) → (source_at : ℕ) → (target : List ℕ) → (target_at : ℕ) → Begun
  -- whole acts; the first token of an act; what stands before its expression with what begins one, or with a whole one; a whole condition
  -- with its `)`
  some_acts : Inside → Begun
  an_assume : Inside → (at : ℕ) → Begun
  an_assigned : Inside → (name : List ℕ) → (at : ℕ) → Begun
  some_expression : Inside → Frame → List Token → Begun
  an_expression : Inside → Frame → Expr → Begun
  an_assumption : Inside → (at opening_at : ℕ) → Expr → (closing_at : ℕ) → Begun

-- the tokens of a beginning, and then these
abbrev pub begun_then : Begun → List Token → List Token
begun_then no_token rest = rest
begun_then (some_variables v ss) rest = vars_then v (commas_then ss rest)
begun_then (a_variable v ss x a) rest = vars_then v (commas_then ss (token (a_name x) a ∷ rest))
begun_then (all_variables v ns) rest = vars_then v (names_then ns rest)
begun_then (some_points v ns p ss) rest = vars_then v (names_then ns (points_then p (commas_then ss rest)))
begun_then (a_point v ns p ss x a) rest = vars_then v (names_then ns (points_then p (commas_then ss (token (a_name x) a ∷ rest))))
begun_then (some_edges c es) rest = heads_then c (edges_then es rest)
begun_then (an_edge c es w) rest = heads_then c (edges_then es (token (a_name (codes "edge")) w ∷ rest))
begun_then (a_source c es w x a) rest = heads_then c (edges_then es (token (a_name (codes "edge")) w ∷ token (a_name x) a ∷ rest))
begun_then (a_target c es w x a y b) rest =
    heads_then c (edges_then es (token (a_name (codes "edge")) w ∷ token (a_name x) a ∷ token (a_name y) b ∷ rest))
begun_then (some_acts i) rest = inside_then i rest
begun_then (an_assume i a) rest = inside_then i (token assume_word a ∷ rest)
begun_then (an_assigned i x a) rest = inside_then i (token (a_name x) a ∷ rest)
begun_then (some_expression i f begun) rest = inside_then i (frame_then f (begun ++ rest))
begun_then (an_expression i f e) rest = inside_then i (frame_then f (spell_expr e ++ rest))
begun_then (an_assumption i a b e d) rest = inside_then i (frame_then (condition a b) (spell_expr e ++ token right_paren d ∷ rest))
