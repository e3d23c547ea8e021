-- How claims are spelled: trees over the tokens of a text.
use Rattle.std.specs.Prelude.{◌≡◌, ◌++◌, ℕ, List, [], ◌∷◌}
use Rattle.lang_grammar.specs.Grammar.{a_name, colon, semicolon, the_end, Token, token, Expr, spell_expr, Groups}

-- A claim as it is written: a name, `:`, an expression and `;`, with the places of the three tokens.
pub record Written : Type 0 where
  pub name : List ℕ
  pub name_at : ℕ
  pub colon_at : ℕ
  pub expr : Expr
  pub semicolon_at : ℕ

-- the tokens of a claim, and then these
abbrev pub claim_then : Written → List Token → List Token
claim_then c rest = token (a_name c.name) c.name_at ∷ token colon c.colon_at ∷ (spell_expr c.expr ++ token semicolon c.semicolon_at ∷ rest)

-- the tokens of claims, and then these
abbrev pub claims_then : List Written → List Token → List Token
claims_then [] rest = rest
claims_then (c ∷ cs) rest = claim_then c (claims_then cs rest)

-- Each expression groups as the rules on operators say.
abbrev pub AllGroup : List Written → Type 0
AllGroup [] = Unit {0}
AllGroup (c ∷ cs) = Groups 0 c.expr × AllGroup cs

-- The tokens read as these claims, with the end of the text behind them.
pub record ReadsClaims (tokens : List Token) (cs : List Written) : Type 0 where
  pub end_at : ℕ
  pub spelled : claims_then cs (token the_end end_at ∷ []) ≡ tokens
  pub good : AllGroup cs

-- The tokens begin a file of claims.
abbrev pub Begins : List Token → Type 0
Begins front = (cs : List Written) × (rest : List Token) × ReadsClaims (front ++ rest) cs

-- The tokens before this one begin a file of claims, and with it they begin none.
abbrev pub IsUnexpected : List Token → Token → Type 0
IsUnexpected front t = Begins front × (Begins (front ++ t ∷ []) → ⊥)
