-- Expressions by themselves: the longest one that tokens begin with, and the faults of tokens that begin with none.
use Rattle.std.specs.Prelude.{◌≡◌, ◌≤◌, ◌++◌, length, ℕ, List, [], ◌∷◌, Option, Some}
use Rattle.lang_grammar.specs.Grammar.{Kind, Token, token, Expr, spell_expr, Groups}
use Rattle.lang_grammar.specs.Depth.{opens_expr}
use Rattle.lang_grammar.specs.Faults.{AllShallow}

-- The tokens read as this expression.
pub record ReadsExpr (tokens : List Token) (e : Expr) : Type 0 where
  pub spelled : spell_expr e ≡ tokens
  pub good : Groups 0 e

-- The tokens begin an expression.
abbrev pub BeginsExpr : List Token → Type 0
BeginsExpr front = (e : Expr) × (rest : List Token) × ReadsExpr (front ++ rest) e

-- There is a number for each of these tokens, and each expression that begins with them opens so many constructs at them.
abbrev pub OpensExpr : List Token → List (Option ℕ) → Type 0
OpensExpr front depths =
    (length depths ≡ length front)
    × ((e : Expr) (rest : List Token) → ReadsExpr (front ++ rest) e → (more : List (Option ℕ)) × (opens_expr 0 e ≡ depths ++ more))

-- The tokens begin an expression, and none of them opens one construct too many.
abbrev pub FineExpr : List Token → Type 0
FineExpr front = BeginsExpr front × ((depths : List (Option ℕ)) × OpensExpr front depths × AllShallow depths)

-- The first n tokens read as this expression, and with the next one they begin none.
pub record IsLongest (ts : List Token) (n : ℕ) (e : Expr) : Type 0 where
  pub front : List Token
  pub next : Token
  pub rest : List Token
  pub split : ts ≡ front ++ next ∷ rest
  pub size : length front ≡ n
  pub reads : ReadsExpr front e
  pub ends : BeginsExpr (front ++ next ∷ []) → ⊥
  pub fine : FineExpr front

-- what becomes of tokens that begin with an expression
pub data Reach : Type 0 where
  -- the first so many are the longest expression
  reaches : ℕ → Reach
  -- they end too early
  runs_out : Reach
  -- the token at this place is the first at fault
  stops_at : ℕ → Reach
  nests_at : ℕ → Reach

-- What is found out about tokens.
abbrev pub FindsExpr : Reach → List Token → Type 0
FindsExpr (reaches n) ts = (e : Expr) × IsLongest ts n e
FindsExpr runs_out ts = FineExpr ts
FindsExpr (stops_at a) ts =
    (front : List Token) × (k : Kind) × (rest : List Token) × (ts ≡ front ++ token k a ∷ rest) × FineExpr front
    × ((e : Expr) → ReadsExpr front e → ⊥) × (BeginsExpr (front ++ token k a ∷ []) → ⊥)
FindsExpr (nests_at a) ts =
    (front : List Token) × (k : Kind) × (rest : List Token) × (ts ≡ front ++ token k a ∷ rest) × FineExpr front
    × BeginsExpr (front ++ token k a ∷ [])
    × ((depths : List (Option ℕ)) × (d : ℕ) × OpensExpr (front ++ token k a ∷ []) (depths ++ Some d ∷ []) × (64 ≤ d))
