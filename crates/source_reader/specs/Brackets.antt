-- Brackets of elements, counted ahead.
use Rattle.std.specs.Prelude.{◌≡◌, ◌≤◌, ◌+◌, ℕ, zero, suc, List, [], ◌∷◌, Option, Some, None}
use Rattle.source_grammar.specs.Tokens as g
use Rattle.source_grammar.specs.Tokens.{Kind, Token, token}
use Rattle.source_reader.specs.declared.brackets.Bracket.{Bracket}
use Rattle.source_reader.specs.declared.brackets.Bracket.TheVariants.{Opens, Closes, Other}
use Rattle.source_reader.specs.declared.brackets.Brackets.{Brackets}

-- the bracket that a token of this kind is
abbrev pub bracket_in : Kind → Bracket
bracket_in g.left_bracket = Opens
bracket_in g.right_bracket = Closes
bracket_in k = Other

-- that of a token
abbrev pub bracket_of : Token → Bracket
bracket_of (token k a) = bracket_in k

-- how many brackets open outside of others, at this depth in them, up to the first token outside of them that opens none
abbrev pub opened_in : (depth : ℕ) → List Bracket → ℕ
opened_in depth [] = 0
opened_in zero (Opens ∷ bs) = suc (opened_in 1 bs)
opened_in zero (Closes ∷ bs) = 0
opened_in zero (Other ∷ bs) = 0
opened_in (suc depth) (Opens ∷ bs) = opened_in (suc (suc depth)) bs
opened_in (suc depth) (Closes ∷ bs) = opened_in depth bs
opened_in (suc depth) (Other ∷ bs) = opened_in (suc depth) bs

-- behind one more token the count goes on from here, or has ended
abbrev pub Counts : Brackets → Bracket → Option Brackets → Type 0
Counts b t None = (bs : List Bracket) → opened_in b.depth (t ∷ bs) ≡ 0
Counts b t (Some c) =
    ((bs : List Bracket) → b.opened + opened_in b.depth (t ∷ bs) ≡ c.opened + opened_in c.depth bs)
    × (c.opened + c.depth ≤ b.opened + b.depth + 2)
