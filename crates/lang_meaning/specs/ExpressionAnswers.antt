-- What tokens that begin with an expression mean: what it is, with the token behind it, or the first fault.
use Rattle.std.specs.Prelude.{◌≡◌, ◌⊎◌, ◌+◌, ℕ, List, drop, Result, Ok, Err, IsTrue}
use Rattle.lang_grammar.specs.Grammar.{Token, Expr}
use Rattle.lang_grammar.specs.Expressions.{IsLongest, FindsExpr, stops_at, nests_at}
use Rattle.lang_tree.specs.Limits.{is_tested}
use Rattle.lang_meaning.specs.declared.fault.ParseFault.{ParseFault}
use Rattle.lang_meaning.specs.declared.fault.ParseFault.TheVariants as fault
use Rattle.lang_meaning.specs.declared.fault.Limit.TheVariants.{Nesting}
use Rattle.lang_meaning.specs.Results.{◌>>=◌}
use Rattle.lang_meaning.specs.Forms.{is_whole_form}
use Rattle.lang_meaning.specs.Expressions.{Meaning, a_choice, a_condition, a_number, first_place, meant}

-- what it is, and the number of the token behind it
abbrev pub ExpressionAnswer : Type 0
ExpressionAnswer = Result (Meaning × ℕ) ParseFault

-- The tokens from this one on begin with an expression. The first that is unexpected or opens one construct too many is the fault; else
-- the walk of the longest expression decides.
abbrev pub ExpressionMeans : List ℕ → List Token → ℕ → List (List ℕ) → ExpressionAnswer → Type 0
ExpressionMeans text tokens from names r =
    ((a : ℕ) × FindsExpr (stops_at a) (drop from tokens) × (r ≡ Err (fault.Unexpected a)))
    ⊎ (((a : ℕ) × FindsExpr (nests_at a) (drop from tokens) × (r ≡ Err (fault.Limit a Nesting)))
    ⊎ ((e : Expr) × (n : ℕ) × IsLongest (drop from tokens) n e × (r ≡ meant text names (first_place (drop from tokens)) e
    >>= λ m. Ok (m, from + n))))

-- an expression over n variables: its numbers are within their ranges, and a condition has at most 64 leaves
abbrev pub MeaningFits : ℕ → Meaning → Type 0
MeaningFits n (a_number f) = IsTrue (is_whole_form n f)
MeaningFits n (a_condition c) = IsTrue (is_tested n c)
MeaningFits n a_choice = Unit {0}

-- what they have: the longest expression has n of these tokens
abbrev pub HasLongest : List Token → ℕ → Type 0
HasLongest ts n = (e : Expr) × IsLongest ts n e

-- the tokens are refused with this fault, whatever the names
abbrev pub IsRefused : List ℕ → List Token → ℕ → ParseFault → Type 0
IsRefused text tokens from f = (names : List (List ℕ)) → ExpressionMeans text tokens from names (Err f)
