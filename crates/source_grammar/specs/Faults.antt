-- The faults of a function's grammar, told by trees alone.
use Rattle.std.specs.Prelude.{◌≡◌, ◌≤◌, ◌<◌, ◌++◌, length, ℕ, List, [], ◌∷◌, Option, Some, None}
use Rattle.source_grammar.specs.Tokens.{Kind, Token, token}
use Rattle.source_grammar.specs.Grammar.{Function, Reads, Begins, IsUnexpected}
use Rattle.source_grammar.specs.Depth.{opens}

-- what becomes of tokens: they are a function, they end too early, or the token at this place is the first at fault
pub data Scan : Type 0 where
  whole : Scan
  short : Scan
  unexpected : ℕ → Scan
  nested : ℕ → Scan

-- None of these opens one construct too many.
abbrev pub AllShallow : List (Option ℕ) → Type 0
AllShallow [] = Unit {0}
AllShallow (None ∷ os) = AllShallow os
AllShallow (Some d ∷ os) = (d < 64) × AllShallow os

-- There is a number for each of these tokens, and each function that begins with them opens so many constructs at them.
abbrev pub Opens : List Token → List (Option ℕ) → Type 0
Opens front depths =
    (length depths ≡ length front)
    × ((f : Function) (rest : List Token) → Reads (front ++ rest) f → (more : List (Option ℕ)) × (opens f ≡ depths ++ more))

-- The tokens begin a function, and none of them opens one construct too many.
abbrev pub Fine : List Token → Type 0
Fine front = Begins front × ((depths : List (Option ℕ)) × Opens front depths × AllShallow depths)

-- What is found out about tokens.
abbrev pub Finds : Scan → List Token → Type 0
Finds whole ts = ((f : Function) × Reads ts f) × Fine ts
Finds short ts = ((f : Function) → Reads ts f → ⊥) × Fine ts
Finds (unexpected a) ts =
    (front : List Token) × (k : Kind) × (rest : List Token) × (ts ≡ front ++ token k a ∷ rest) × IsUnexpected front (token k a) × Fine front
Finds (nested a) ts =
    (front : List Token) × (k : Kind) × (rest : List Token) × (ts ≡ front ++ token k a ∷ rest) × Fine front
    × Begins (front ++ token k a ∷ [])
    × ((depths : List (Option ℕ)) × (d : ℕ) × Opens (front ++ token k a ∷ []) (depths ++ Some d ∷ []) × (64 ≤ d))
