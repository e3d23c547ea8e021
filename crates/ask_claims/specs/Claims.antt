-- What a file of claims says: each claim in order, or the first fault.
use Rattle.std.specs.Prelude.{◌≡◌, ◌⊎◌, ◌<◌, ◌≤◌, ◌++◌, if◌then◌else◌, ℕ, Bool, true, false, IsTrue, List, [], ◌∷◌, length}
use Rattle.std.specs.Prelude.{position}
use Rattle.std.specs.Prelude.{Option, Some, None, Result, Ok, Err}
use Rattle.std.specs.List.{All}
use Rattle.std.specs.Str.{bytes_eq}
use Rattle.lang_tokens.specs.declared.lexicon.Lexicon.TheVariants.{Own}
use Rattle.lang_tokens.specs.Faults.{HasFault}
use Rattle.lang_tokens.specs.Reading.{Reads}
use Rattle.lang_tokens.specs.declared.fault.LexFault.{LexFault}
use Rattle.lang_tokens.specs.declared.token.Token as lex_token
use Rattle.lang_grammar.specs.Expressions.{IsLongest, FindsExpr, FineExpr, ReadsExpr, nests_at}
use Rattle.lang_grammar.specs.Grammar.{Kind, a_name, colon, nondet_word, Token, token, Expr, spell_expr, Groups}
use Rattle.lang_grammar.specs.View.{tokens_of}
use Rattle.flow_systems.specs.Equations.{Equations}
use Rattle.flow_edges.specs.declared.graph.Flow.{Flow}
use Rattle.flow_edges.specs.declared.point.Place.{Place}
use Rattle.flow_edges.specs.declared.point.Place.TheVariants as place
use Rattle.flow_edges.specs.declared.point.Point.{Point}
use Rattle.lang_meaning.specs.declared.fault.Limit.TheVariants.{Nesting}
use Rattle.lang_meaning.specs.declared.fault.ParseFault.{ParseFault}
use Rattle.lang_meaning.specs.declared.fault.ParseFault.TheVariants as parse
use Rattle.lang_meaning.specs.Expressions.{as_truth, first_place, meant}
use Rattle.lang_tree.specs.Cases.{cases_of}
use Rattle.lang_tree.specs.Limits.{is_tested}
use Rattle.lang_tree.specs.Tree.{Condition}
use Rattle.lang_tree.specs.View.{condition_of}
use Rattle.ask_claims.specs.Grammar.{Written, claim_then, claims_then, ReadsClaims, IsUnexpected}
use Rattle.ask_claims.specs.Truth.{is_decided}
use Rattle.ask_claims.specs.declared.claim.Claim.{Claim}
use Rattle.ask_claims.specs.declared.fault.ClaimFault.{ClaimFault}
use Rattle.ask_claims.specs.declared.fault.ClaimFault.TheVariants as fault

-- a claim as it stands in a file: the point that its label names, the label and the condition
pub record Stated : Type 0 where
  pub point : ℕ
  pub label : List ℕ
  pub cond : Condition

-- all claims of a file, or the first fault
abbrev pub StatedClaims : Type 0
StatedClaims = Result (List Stated) ClaimFault

-- ---- results with a fault of claims
infixl 10 ◌>>=◌
abbrev pub ◌>>=◌ : {A B : Type 0} → Result A ClaimFault → (A → Result B ClaimFault) → Result B ClaimFault
(Ok x) >>= f = f x
(Err e) >>= f = Err e

-- a fault of the parser is one of the file
abbrev pub of_parse : ParseFault → ClaimFault
of_parse parse.NoMemory = fault.NoMemory
of_parse f = fault.Parse f

abbrev pub parsed : {A : Type 0} → Result A ParseFault → Result A ClaimFault
parsed (Ok x) = Ok x
parsed (Err f) = Err (of_parse f)

-- ---- the label
abbrev pub is_place : List ℕ → Place → Bool
is_place name (place.Label x) = bytes_eq name x
is_place name _ = false

-- the first point with this label
abbrev pub point_of : List ℕ → List Point → Option ℕ
point_of name points = position (λ p. is_place name p.place) points

-- ---- the condition
abbrev pub is_choice : Kind → Bool
is_choice nondet_word = true
is_choice _ = false

-- the place of the first `nondet` of these tokens
abbrev pub choice_at : List Token → ℕ
choice_at [] = 0
choice_at (token k a ∷ ts) = if is_choice k then a else choice_at ts

-- a condition without `nondet`; the first one, if there is one, stands at this place
abbrev pub decided : ℕ → Condition → Result (Unit {0}) ClaimFault
decided a c = if is_decided c then Ok tt else Err (fault.Parse (parse.NondetHere a))

-- what an expression says as a condition: its own faults come first, then that its number can't be a condition, then its `nondet`
abbrev pub truth_of : List ℕ → List (List ℕ) → Expr → Result Condition ClaimFault
truth_of text names e =
    parsed (meant text names (first_place (spell_expr e)) e) >>= λ m. parsed (as_truth (first_place (spell_expr e)) m)
    >>= λ c. decided (choice_at (spell_expr e)) c >>= λ _. Ok c

-- ---- what trees say
-- The claim is without fault, and says this: its expression groups as it must and nothing in it opens one construct too many, its name is
-- a label of this point, its expression says this condition, and that may be false in at most 64 cases.
pub record Says (text : List ℕ) (names : List (List ℕ)) (points : List Point) (c : Written) (s : Stated) : Type 0 where
  pub good : Groups 0 c.expr
  pub shallow : FineExpr (spell_expr c.expr)
  pub label : c.name ≡ s.label
  pub point : point_of c.name points ≡ Some s.point
  pub condition : truth_of text names c.expr ≡ Ok s.cond
  pub few : length (cases_of false s.cond) ≤ 64

-- Each of these claims says what stands at its place in the list.
abbrev pub AllSay : List ℕ → List (List ℕ) → List Point → List Written → List Stated → Type 0
AllSay text names points [] [] = Unit {0}
AllSay text names points (c ∷ cs) (s ∷ ss) = Says text names points c s × AllSay text names points cs ss
AllSay text names points [] (s ∷ ss) = ⊥
AllSay text names points (c ∷ cs) [] = ⊥

-- ---- the first fault
-- A claim behind these may have this name: they are fewer than 64, and it is a label.
pub record IsHead (points : List Point) (cs : List Written) (name : List ℕ) : Type 0 where
  pub within : length cs < 64
  pub point : ℕ
  pub labels : point_of name points ≡ Some point

-- These tokens are what a claim behind others has before some token of it, and nothing in them is at fault: no token, its name, or its
-- name and colon with what begins an expression, or with a whole one that says a condition.
pub data Faultless (text : List ℕ) (names : List (List ℕ)) (points : List Point) (cs : List Written) (part : List Token) : Type 0 where
  at_start : part ≡ [] → Faultless text names points cs part
  behind_name : (x : List ℕ) (a : ℕ) → part ≡ token (a_name x) a ∷ [] → IsHead points cs x → Faultless text names points cs part
  within_condition : (x : List ℕ) (a b : ℕ) (begun : List Token) → part ≡ token (a_name x) a ∷ token colon b ∷ begun → IsHead points cs x
      → FineExpr begun → ((e : Expr) → ReadsExpr begun e → ⊥) → Faultless text names points cs part
  behind_condition : (x : List ℕ) (a b : ℕ) (e : Expr) (d : Condition) → part ≡ token (a_name x) a ∷ token colon b ∷ spell_expr e
      → IsHead points cs x
      → Groups 0 e → FineExpr (spell_expr e) → truth_of text names e ≡ Ok d → Faultless text names points cs part

-- Behind these claims, which are without fault, these tokens have this fault first.
pub data FirstFault (text : List ℕ) (names : List (List ℕ)) (points : List Point) (cs : List Written) (tokens : List Token)
    (f : ClaimFault) : Type 0 where
  -- a 65th claim begins here
  too_many : (x : List ℕ) (a : ℕ) (rest : List Token) → tokens ≡ token (a_name x) a ∷ rest → length cs ≡ 64 → f ≡ fault.Count a
      → FirstFault text names points cs tokens f
  -- the name of a claim is no label
  unknown_label : (x : List ℕ) (a : ℕ) (rest : List Token) → tokens ≡ token (a_name x) a ∷ rest → length cs < 64 → point_of x points ≡ None
      → f ≡ fault.UnknownLabel a → FirstFault text names points cs tokens f
  -- a token of an expression opens one construct too many
  too_deep : (x : List ℕ) (a b : ℕ) (rest : List Token) (d : ℕ) → tokens ≡ token (a_name x) a ∷ token colon b ∷ rest → IsHead points cs x
      → FindsExpr (nests_at d) rest → f ≡ fault.Parse (parse.Limit d Nesting) → FirstFault text names points cs tokens f
  -- the longest expression behind the colon says no condition
  no_condition : (x : List ℕ) (a b : ℕ) (rest : List Token) (n : ℕ) (e : Expr) → tokens ≡ token (a_name x) a ∷ token colon b ∷ rest
      → IsHead points cs x
      → IsLongest rest n e → truth_of text names e ≡ Err f → FirstFault text names points cs tokens f
  -- a whole claim may be false in too many cases
  many_cases : (c : Written) (rest : List Token) (d : Condition) → tokens ≡ claim_then c rest → IsHead points cs c.name → Groups 0 c.expr
      → FineExpr (spell_expr c.expr) → truth_of text names c.expr ≡ Ok d → 64 < length (cases_of false d) → f ≡ fault.Cases c.name_at
      → FirstFault text names points cs tokens f
  -- the text's tokens before this one begin a file of claims, and with it none; and what stands before it is without fault
  unexpected : (part : List Token) (k : Kind) (a : ℕ) (rest : List Token) → tokens ≡ part ++ token k a ∷ rest
      → IsUnexpected (claims_then cs part) (token k a) → Faultless text names points cs part → f ≡ fault.Parse (parse.Unexpected a)
      → FirstFault text names points cs tokens f

-- ---- what a file says
-- The tokens read as at most 64 claims, of which each says what stands at its place in the list; or they begin with at most 64 such
-- claims, and what follows has this fault first.
abbrev pub ClaimsMean : List ℕ → List (List ℕ) → List Point → List Token → StatedClaims → Type 0
ClaimsMean text names points tokens (Ok ss) =
    (cs : List Written) × ReadsClaims tokens cs × AllSay text names points cs ss × (length cs ≤ 64)
ClaimsMean text names points tokens (Err f) =
    (cs : List Written) × (ss : List Stated) × (rest : List Token) × (tokens ≡ claims_then cs rest) × AllSay text names points cs ss
    × (length cs ≤ 64) × FirstFault text names points cs rest f

-- What a text says over a program's variables and points: its first fault as tokens, or what its tokens say.
abbrev pub FileMeans : List ℕ → List (List ℕ) → List Point → StatedClaims → Type 0
FileMeans text names points r =
    ((f : LexFault) × HasFault Own text f × (r ≡ Err (fault.Lex f)))
    ⊎ ((tokens : List lex_token.Token) × Reads Own text tokens × ClaimsMean text names points (tokens_of text tokens) r)

-- ---- the code's claims
abbrev pub stated_of : Claim → Stated
stated_of c = record { point = c.point; label = c.label; cond = condition_of c.cond }

-- a claim that a verdict may be asked on: over so many variables, at the point that its label names, decided, with the cases of its
-- negation
pub record Stands (names : List (List ℕ)) (points : List Point) (c : Claim) : Type 0 where
  pub within : c.point < length points
  pub named : point_of c.label points ≡ Some c.point
  pub condition : IsTrue (is_tested (length names) (condition_of c.cond))
  pub decided : IsTrue (is_decided (condition_of c.cond))
  pub against : c.against ≡ cases_of false (condition_of c.cond)

-- a claim at one of a flow's points, over its variables, with the cases in which its condition may be false
pub record IsClaimOf (flow : Flow) (claim : Claim) : Type 0 where
  pub point : claim.point < length flow.points
  pub condition : IsTrue (is_tested (length flow.names) (condition_of claim.cond))
  pub against : claim.against ≡ cases_of false (condition_of claim.cond)

-- the claims are at points of a system
abbrev pub AreAtPoints : Equations → List Claim → Type 0
AreAtPoints system claims = All (λ claim. claim.point < system.points) claims

-- What is answered is meant; want of memory may come at any time.
abbrev pub Answers : {A B : Type 0} → (A → B) → (Result B ClaimFault → Type 0) → Result A ClaimFault → Type 0
Answers view Means (Ok x) = Means (Ok (view x))
Answers view Means (Err f) = (f ≡ fault.NoMemory → ⊥) → Means (Err f)

-- The code answers what is wanted, unless it lacks memory.
abbrev pub Gives : {A B : Type 0} → (A → B) → Result A ClaimFault → Result B ClaimFault → Type 0
Gives view (Ok x) wanted = wanted ≡ Ok (view x)
Gives view (Err f) wanted = (f ≡ fault.NoMemory → ⊥) → wanted ≡ Err f
