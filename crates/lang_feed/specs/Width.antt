-- How many variables a text declares, told by its tokens.
use Rattle.std.specs.Prelude.{ℕ, ◌+◌, List, [], ◌∷◌}
use Rattle.lang_grammar.specs.Grammar.{Kind, comma, int_word, Token, token}

-- the sum of what each token counts
abbrev pub total : (Kind → ℕ) → List Token → ℕ
total f [] = 0
total f (token k a ∷ ts) = f k + total f ts

-- each declaration has an `int`, and a comma before each further declarator
abbrev pub mark : Kind → ℕ
mark comma = 1
mark int_word = 1
mark _ = 0
