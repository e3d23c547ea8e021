-- What the code's small functions compute over the tokens of a text by their numbers. What a file of claims says stands in Claims.antt.
use Rattle.std.specs.Prelude.{◌≡◌, ◌+◌, ◌<◌, if◌then◌else◌, nat_lt, ℕ, Bool, true, false, List, [], ◌∷◌, ◌++◌, drop, length, get_or}
use Rattle.std.specs.Prelude.{slice_range}
use Rattle.std.specs.Prelude.{Option, Some, None, Result, Ok, Err}
use Rattle.lang_tokens.specs.Reading.{end_at}
use Rattle.lang_tokens.specs.declared.sign.Sign.TheVariants as sign
use Rattle.lang_tokens.specs.declared.word.Word.TheVariants as word
use Rattle.lang_tokens.specs.declared.token.Kind as lex_kind
use Rattle.lang_tokens.specs.declared.token.Token.{Token}
use Rattle.lang_grammar.specs.View.{tokens_of}
use Rattle.flow_edges.specs.declared.point.Point.{Point}
use Rattle.lang_meaning.specs.declared.fault.ParseFault.TheVariants as parse
use Rattle.lang_meaning.specs.Expressions.{as_truth}
use Rattle.lang_meaning.specs.ExpressionAnswers.{ExpressionAnswer}
use Rattle.lang_tree.specs.Cases.{cases_of}
use Rattle.lang_tree.specs.Tree.{Condition}
use Rattle.ask_claims.specs.Claims.{Stated, ◌>>=◌, parsed, point_of, decided, Says, FirstFault}
use Rattle.ask_claims.specs.Grammar.{Written, claim_then, AllGroup}
use Rattle.ask_claims.specs.declared.fault.ClaimFault.{ClaimFault}
use Rattle.ask_claims.specs.declared.fault.ClaimFault.TheVariants as fault

-- ---- tokens
abbrev pub is_end : lex_kind.Kind → Bool
is_end lex_kind.TheVariants.End = true
is_end _ = false

abbrev pub is_colon : lex_kind.Kind → Bool
is_colon (lex_kind.TheVariants.Sign sign.Colon) = true
is_colon _ = false

abbrev pub is_semicolon : lex_kind.Kind → Bool
is_semicolon (lex_kind.TheVariants.Sign sign.Semicolon) = true
is_semicolon _ = false

abbrev pub is_nondet : lex_kind.Kind → Bool
is_nondet (lex_kind.TheVariants.Word word.Nondet) = true
is_nondet (lex_kind.TheVariants.Word word.VerifierNondetInt) = true
is_nondet _ = false

-- the token of this number
abbrev pub token_at : List Token → ℕ → Token
token_at tokens i = get_or tokens i (end_at 0)

-- the last token is the end of the text
abbrev pub IsEnded : List Token → Type 0
IsEnded tokens = (front : List Token) × (a : ℕ) × (front ++ end_at a ∷ [] ≡ tokens)

-- the bytes of a token
abbrev pub bytes_of : List ℕ → Token → List ℕ
bytes_of text t = slice_range text t.at (t.at + t.len)

-- a token that has to stand where it does
abbrev pub expected : Bool → ℕ → Result (Unit {0}) ClaimFault
expected true a = Ok tt
expected false a = Err (fault.Parse (parse.Unexpected a))

-- a token behind 64 claims that is not the end
abbrev pub surplus : lex_kind.Kind → ℕ → ClaimFault
surplus lex_kind.TheVariants.Name a = fault.Count a
surplus _ a = fault.Parse (parse.Unexpected a)

-- ---- the label
-- the point and the name of the label at this place
abbrev pub known : List ℕ → ℕ → Option ℕ → Result (ℕ × List ℕ) ClaimFault
known name a (Some p) = Ok (p, name)
known name a None = Err (fault.UnknownLabel a)

abbrev pub labelled : List Point → lex_kind.Kind → List ℕ → ℕ → Result (ℕ × List ℕ) ClaimFault
labelled points lex_kind.TheVariants.Name name a = known name a (point_of name points)
labelled points _ name a = Err (fault.Parse (parse.Unexpected a))

-- a label and the colon behind it
abbrev pub headed : List Point → List ℕ → Token → Token → Result (ℕ × List ℕ) ClaimFault
headed points text name colon = labelled points name.kind (bytes_of text name) name.at >>= λ h. expected (is_colon colon.kind) colon.at
    >>= λ _. Ok h

-- ---- the condition
-- the place of the first `nondet` of these tokens
abbrev pub first_choice : List Token → ℕ
first_choice [] = 0
first_choice (t ∷ ts) = if is_nondet t.kind then t.at else first_choice ts

-- the condition of the claim whose name stands here may be false in at most 64 cases
abbrev pub few_cases : ℕ → Condition → Result (Unit {0}) ClaimFault
few_cases a c = if nat_lt 64 (length (cases_of false c)) then Err (fault.Cases a) else Ok tt

-- the rest of the claim whose name is token i, behind its expression: that the expression is a condition without `nondet`, the semicolon,
-- the cases
abbrev pub finished : List Token → ℕ → ℕ × List ℕ → ExpressionAnswer → Result (Stated × ℕ) ClaimFault
finished tokens i h w =
    parsed w >>= λ m. parsed (as_truth (token_at tokens (i + 2)).at m.0)
    >>= λ c. decided (first_choice (slice_range tokens (i + 2) m.1)) c
    >>= λ _. expected (is_semicolon (token_at tokens m.1).kind) (token_at tokens m.1).at
    >>= λ _. few_cases (token_at tokens i).at c
    >>= λ _. Ok (record { point = h.0; label = h.1; cond = c }, m.1 + 1)

-- ---- one claim
-- From token i on the tokens begin with a claim that says this, and with this number the next token is behind it; or, behind fewer than
-- 64 claims, they have this fault first.
abbrev pub BeginsClaim : List ℕ → List (List ℕ) → List Point → List Token → ℕ → Result (Stated × ℕ) ClaimFault → Type 0
BeginsClaim text names points tokens i (Ok (s, next)) =
    (c : Written) × (drop i (tokens_of text tokens) ≡ claim_then c (drop next (tokens_of text tokens))) × Says text names points c s
BeginsClaim text names points tokens i (Err f) =
    (cs : List Written) → AllGroup cs → length cs < 64 → FirstFault text names points cs (drop i (tokens_of text tokens)) f
