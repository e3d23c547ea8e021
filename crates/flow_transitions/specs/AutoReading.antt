-- How a transition system is read, as the code does: token by token, and expression by expression, from place to place.
use Rattle.std.specs.Prelude.{◌≡◌, ◌+◌, ◌++◌, ℕ, zero, suc, Bool, true, if◌then◌else◌, List, [], ◌∷◌, length, map, codes, nat_le, nat_lt}
use Rattle.std.specs.Prelude.{Option, Some, None, Result, Ok, Err}
use Rattle.std.specs.Str.{bytes_eq}
use Rattle.lang_tokens.specs.declared.lexicon.Lexicon.TheVariants.{Own}
use Rattle.lang_tokens.specs.declared.token.Token.{Token}
use Rattle.lang_tokens.specs.declared.fault.LexFault.{LexFault}
use Rattle.lang_tokens.specs.Reading.{Reads}
use Rattle.lang_tokens.specs.Faults.{HasFault}
use Rattle.lang_grammar.specs.View.{tokens_of}
use Rattle.flow_transitions.specs.declared.limits.TheConstants.{MOST_VARIABLES}
use Rattle.lang_tree.specs.declared.form.Form.{Form}
use Rattle.lang_tree.specs.Tree.{Condition, Statement, Statements, assume, nil, cons}
use Rattle.lang_meaning.specs.declared.fault.ParseFault.{ParseFault}
use Rattle.lang_meaning.specs.declared.fault.ParseFault.TheVariants as parse
use Rattle.lang_meaning.specs.declared.fault.Limit.TheVariants.{Variables}
use Rattle.lang_meaning.specs.Forms.{is_whole_form}
use Rattle.lang_meaning.specs.Names.{place_of}
use Rattle.lang_meaning.specs.Walk.{assignment}
use Rattle.lang_meaning.specs.Expressions.{Meaning, as_truth}
use Rattle.lang_meaning.specs.ExpressionAnswers.{ExpressionMeans}
use Rattle.flow_transitions.specs.declared.limits.TheConstants.{MOST_POINTS}
use Rattle.flow_transitions.specs.declared.auto_edge.AutoEdge.{AutoEdge}
use Rattle.flow_transitions.specs.declared.fault.AutoFault.{AutoFault}
use Rattle.flow_transitions.specs.declared.fault.AutoFault.TheVariants as fault
use Rattle.flow_transitions.specs.declared.reading.point_name.PointName.{PointName}
use Rattle.flow_transitions.specs.declared.reading.symbol.Symbol.{Symbol}
use Rattle.flow_transitions.specs.declared.reading.symbol.Symbol.TheVariants as symbol
use Rattle.flow_transitions.specs.AutoSymbols.{Seen, seen_at}
pub use Rattle.flow_transitions.specs.AutoContents.{Content, AutoAnswer, label_of, points_of, as_side}

-- where the reading stands: what comes next
pub data Stand : Type 0 where
  -- `vars`, a variable's name, and the `,` or `;` behind it
  at_vars : Stand
  at_variable : Stand
  past_variable : Stand
  -- `points`, a point's name, and the `,` or `;` behind it
  at_points : Stand
  at_point : Stand
  past_point : Stand
  -- `edge` or the end; the names of the edge's points; `{`
  at_edge : Stand
  at_source : (line : ℕ) → Stand
  at_target : (line from at : ℕ) → Stand
  at_opening : AutoEdge → Stand
  -- an act or `}`, with what the edge is so far
  at_act : AutoEdge → Stand
  -- `(`, the condition, and `)` of an assumption
  at_paren : AutoEdge → (line : ℕ) → Stand
  at_condition : AutoEdge → (line : ℕ) → Stand
  past_condition : AutoEdge → Statement → Stand
  -- `=` and the right side of an assignment, with the place of `=`
  at_equal : AutoEdge → (var line : ℕ) → Stand
  at_right_side : AutoEdge → (var line sign : ℕ) → Stand
  -- the `;` behind an act
  past_act : AutoEdge → Statement → Stand
  -- nothing more
  at_end : Stand

-- what has been read so far, and where the reading stands
pub record Progress : Type 0 where
  pub variables : List (List ℕ)
  pub points : List PointName
  pub edges : List AutoEdge
  pub stand : Stand

abbrev pub progress : List (List ℕ) → List PointName → List AutoEdge → Stand → Progress
progress variables points edges stand = record { variables = variables; points = points; edges = edges; stand = stand }

-- a step of the reading: how it goes on, or the fault
abbrev pub Stepped : Type 0
Stepped = Result Progress AutoFault

-- the token can't stand in its place
abbrev pub unexpected_fault : Seen → AutoFault
unexpected_fault s = fault.Parse (parse.Unexpected s.at)

abbrev pub unexpected : Seen → Stepped
unexpected s = Err (unexpected_fault s)

abbrev pub going : Progress → Stand → Stepped
going r stand = Ok (record r { stand = stand })

-- this, if there is a next stand, and else the token is unexpected
abbrev pub going_if : Progress → Seen → Option Stand → Stepped
going_if r s None = unexpected s
going_if r s (Some stand) = going r stand

-- the result where the token is a name
abbrev pub if_name : Symbol → Stepped → Stepped → Stepped
if_name symbol.Name here other = here
if_name s here other = other

-- a name with these bytes
abbrev pub word_then : List ℕ → Stand → Progress → Seen → Stepped
word_then bytes stand r s = if_name s.symbol (if bytes_eq s.bytes bytes then going r stand else unexpected s) (unexpected s)

-- statements with one more behind them
abbrev pub then_act : Statements → Statement → Statements
then_act nil act = cons act nil
then_act (cons s rest) act = cons s (then_act rest act)

abbrev pub with_act : AutoEdge → Statement → AutoEdge
with_act e act = record e { acts = then_act e.acts act }

-- the signs that stand between names and parts, and where the reading stands behind them
abbrev pub behind_sign : ℕ → Stand → Symbol → Option Stand
behind_sign at past_variable symbol.Comma = Some at_variable
behind_sign at past_variable symbol.Semicolon = Some at_points
behind_sign at (at_opening e) symbol.LeftBrace = Some (at_act e)
behind_sign at (at_paren e line) symbol.LeftParen = Some (at_condition e line)
behind_sign at (past_condition e act) symbol.RightParen = Some (past_act e act)
behind_sign at (at_equal e var line) symbol.Equal = Some (at_right_side e var line at)
behind_sign at (past_act e act) symbol.Semicolon = Some (at_act (with_act e act))
behind_sign at stand s = None

-- a variable: a second time, one too many, or new
abbrev pub variable_if : Option ℕ → Progress → Seen → Stepped
variable_if (Some i) r s = Err (fault.Parse (parse.NameTwice s.at))
variable_if None r s =
    if nat_lt (length r.variables) MOST_VARIABLES then Ok (record r { variables = r.variables ++ s.bytes ∷ []; stand = past_variable })
    else Err (fault.Parse (parse.Limit s.at Variables))

-- the names of points
abbrev pub names_of : List PointName → List (List ℕ)
names_of points = map (λ p. p.name) points

-- a point: a second time, or new
abbrev pub point_if : Option ℕ → Progress → Seen → Stepped
point_if (Some i) r s = Err (fault.Parse (parse.NameTwice s.at))
point_if None r s = Ok (record r { points = r.points ++ record { name = s.bytes; line = s.line } ∷ []; stand = past_point })

-- `,` between points, or `;` behind them, where they are counted
abbrev pub counted_then : ℕ → Stepped → Stepped
counted_then count next = if nat_le 2 count then (if nat_le count MOST_POINTS then next else Err (fault.Points count)) else Err
    (fault.Points count)

abbrev pub behind_point : Symbol → Progress → Seen → Stepped
behind_point symbol.Comma r s = going r at_point
behind_point symbol.Semicolon r s = counted_then (length r.points) (going r at_edge)
behind_point sign r s = unexpected s

-- an edge's word, or the end
abbrev pub edge_or_end : Symbol → Progress → Seen → Stepped
edge_or_end symbol.End r s = going r at_end
edge_or_end sign r s = word_then (codes "edge") (at_source s.line) r s

-- the number of the point whose name this is, and of one that isn't the first
abbrev pub point_or : Option ℕ → Seen → Result ℕ AutoFault
point_or None s = Err (fault.UnknownPoint s.at)
point_or (Some p) s = Ok p

abbrev pub point_for : Symbol → Seen → List PointName → Result ℕ AutoFault
point_for symbol.Name s points = point_or (place_of s.bytes (names_of points)) s
point_for sign s points = Err (unexpected_fault s)

abbrev pub point_at : Seen → List PointName → Result ℕ AutoFault
point_at s points = point_for s.symbol s points

abbrev pub not_first : Result ℕ AutoFault → Seen → Result ℕ AutoFault
not_first (Ok zero) s = Err (fault.IntoEntry s.at)
not_first (Ok (suc p)) s = Ok (suc p)
not_first (Err f) s = Err f

abbrev pub target_at : Seen → List PointName → Result ℕ AutoFault
target_at s points = not_first (point_at s points) s

-- an edge between these points, with no acts so far
abbrev pub edge_to : ℕ → ℕ → ℕ → ℕ → AutoEdge
edge_to line from at to = record { from = from; to = to; acts = nil; line = line; at = at }

abbrev pub from_then : Result ℕ AutoFault → ℕ → ℕ → Progress → Stepped
from_then (Ok p) line at r = going r (at_target line p at)
from_then (Err f) line at r = Err f

abbrev pub to_then : Result ℕ AutoFault → ℕ → ℕ → ℕ → Progress → Stepped
to_then (Ok p) line from at r = going r (at_opening (edge_to line from at p))
to_then (Err f) line from at r = Err f

-- an assignment to a variable
abbrev pub assigned_if : Option ℕ → AutoEdge → Progress → Seen → Stepped
assigned_if None e r s = Err (fault.Parse (parse.UnknownName s.at))
assigned_if (Some var) e r s = going r (at_equal e var s.line)

-- `}`, an assumption or an assignment
abbrev pub act_or_end : Symbol → AutoEdge → Progress → Seen → Stepped
act_or_end symbol.RightBrace e r s = Ok (record r { edges = r.edges ++ e ∷ []; stand = at_edge })
act_or_end symbol.Assume e r s = going r (at_paren e s.line)
act_or_end symbol.Name e r s = assigned_if (place_of s.bytes r.variables) e r s
act_or_end sign e r s = unexpected s

-- a step with a token
abbrev pub token_at : Stand → Progress → Seen → Stepped
token_at at_vars r s = word_then (codes "vars") at_variable r s
token_at at_variable r s = if_name s.symbol (variable_if (place_of s.bytes r.variables) r s) (unexpected s)
token_at at_points r s = word_then (codes "points") at_point r s
token_at at_point r s = if_name s.symbol (point_if (place_of s.bytes (names_of r.points)) r s) (unexpected s)
token_at past_point r s = behind_point s.symbol r s
token_at at_edge r s = edge_or_end s.symbol r s
token_at (at_source line) r s = from_then (point_at s r.points) line s.at r
token_at (at_target line from at) r s = to_then (target_at s r.points) line from at r
token_at (at_act e) r s = act_or_end s.symbol e r s
token_at stand r s = going_if r s (behind_sign s.at stand s.symbol)

-- the condition of an assumption, and the right side of an assignment
abbrev pub assumed : Result Condition ParseFault → AutoEdge → ℕ → Progress → Stepped
assumed (Ok c) e line r = going r (past_condition e (assume c line))
assumed (Err f) e line r = Err (fault.Parse f)

abbrev pub assigned : Result (Option Form) ParseFault → AutoEdge → ℕ → ℕ → Progress → Stepped
assigned (Ok side) e var line r = going r (past_act e (assignment var side line))
assigned (Err f) e var line r = Err (fault.Parse f)

-- what comes next: a token, an expression, or nothing
pub data Wanted : Type 0 where
  a_token : Wanted
  an_expression : Wanted
  nothing : Wanted

abbrev pub wanted_at : Stand → Wanted
wanted_at (at_condition e line) = an_expression
wanted_at (at_right_side e var line sign) = an_expression
wanted_at at_end = nothing
wanted_at stand = a_token

-- a step with an expression whose first token has this place
abbrev pub expression_at : Stand → ℕ → Meaning → Progress → Stepped
expression_at (at_condition e line) first m r = assumed (as_truth first m) e line r
expression_at (at_right_side e var line sign) first m r = assigned (as_side sign m) e var line r
expression_at stand first m r = Ok r

-- the transition system that has been read so far
abbrev pub content_of : Progress → Content
content_of r = record { names = r.variables; points = points_of r.points; edges = r.edges }

-- From this step on the tokens from number i on read as the answer: a token or the longest expression at a time.
pub data ReadsTo (text : List ℕ) (tokens : List Token) : Stepped → ℕ → AutoAnswer → Type 0 where
  failed : (x : Stepped) (i : ℕ) (answer : AutoAnswer) (f : AutoFault) → x ≡ Err f → answer ≡ Err f → ReadsTo text tokens x i answer
  ended : (x : Stepped) (i : ℕ) (answer : AutoAnswer) (r : Progress) → x ≡ Ok r → wanted_at r.stand ≡ nothing → answer ≡ Ok (content_of r) →
      ReadsTo text tokens x i answer
  by_token : (x : Stepped) (i : ℕ) (answer : AutoAnswer) (r : Progress) → x ≡ Ok r → wanted_at r.stand ≡ a_token →
      ReadsTo text tokens (token_at r.stand r (seen_at text tokens i)) (i + 1) answer → ReadsTo text tokens x i answer
  by_expression : (x : Stepped) (i : ℕ) (answer : AutoAnswer) (r : Progress) (m : Meaning) (next : ℕ) → x ≡ Ok r
      → wanted_at r.stand ≡ an_expression →
      ExpressionMeans text (tokens_of text tokens) i r.variables (Ok (m, next)) →
      ReadsTo text tokens (expression_at r.stand (seen_at text tokens i).at m r) next answer → ReadsTo text tokens x i answer
  no_expression : (x : Stepped) (i : ℕ) (answer : AutoAnswer) (r : Progress) (f : ParseFault) → x ≡ Ok r → wanted_at r.stand ≡ an_expression
      →
      ExpressionMeans text (tokens_of text tokens) i r.variables (Err f) → answer ≡ Err (fault.Parse f) → ReadsTo text tokens x i answer

-- before the first token
abbrev pub start : Progress
start = progress [] [] [] at_vars

-- Token by token the text is read as this answer.
pub data IsRead (text : List ℕ) (answer : AutoAnswer) : Type 0 where
  no_tokens : (f : LexFault) → HasFault Own text f → answer ≡ Err (fault.Lex f) → IsRead text answer
  some_tokens : (tokens : List Token) → Reads Own text tokens → ReadsTo text tokens (Ok start) 0 answer → IsRead text answer

-- the form has one coefficient for each of n variables, if there is one
abbrev pub is_side : ℕ → Option Form → Bool
is_side n None = true
is_side n (Some f) = is_whole_form n f

-- a fault of an expression, as the code has it
abbrev pub parse_fault : ParseFault → AutoFault
parse_fault parse.NoMemory = fault.NoMemory
parse_fault f = fault.Parse f

-- What has been read of the text leads on to this step, or the fault is the answer.
abbrev pub Advances : {X : Type 0} → List ℕ → List Token → Progress → ℕ → Result X AutoFault → (X → Progress) → (X → ℕ) → Type 0
Advances text tokens r i (Ok x) after next = (answer : AutoAnswer) → ReadsTo text tokens (Ok (after x)) (next x) answer
    → ReadsTo text tokens (Ok r) i answer
Advances text tokens r i (Err f) after next = (f ≡ fault.NoMemory → ⊥) → ReadsTo text tokens (Ok r) i (Err f)
