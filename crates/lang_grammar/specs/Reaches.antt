-- How far an expression reaches, told by the machine of programs.
use Rattle.std.specs.Prelude.{ℕ, zero, suc, List, [], ◌∷◌, Bool, true, false, not}
use Rattle.lang_grammar.specs.Grammar.{Kind, infix_sign, Token, token}
use Rattle.lang_grammar.specs.Machine.{until_semicolon, Goal, operand, more}
use Rattle.lang_grammar.specs.Verdicts.{verdict, goes, refused, too_deep}
use Rattle.lang_grammar.specs.declared.expression.Extent as code_extent
use Rattle.lang_grammar.specs.Expressions.{Reach, nests_at, reaches, runs_out, stops_at}

-- ---- the machine of programs, at an expression
-- An expression has to come, and `;` behind it.
abbrev pub expression_start : List Goal
expression_start = operand 0 ∷ more until_semicolon 0 ∷ []

-- a sign that stands between two sides
abbrev pub is_infix : Kind → Bool
is_infix (infix_sign o) = true
is_infix _ = false

-- Where the `;` alone is left, the expression is whole; it ends before a token that does not go on with it.
abbrev pub ends_before : List Goal → Kind → Bool
ends_before (g ∷ []) k = not (is_infix k)
ends_before [] k = false
ends_before (g ∷ h ∷ gs) k = false

-- the same behind one token more
abbrev pub longer : Reach → Reach
longer (reaches n) = reaches (suc n)
longer runs_out = runs_out
longer (stops_at a) = stops_at a
longer (nests_at a) = nests_at a

-- how far an expression reaches from a stack on
abbrev pub reach : List Goal → List Token → Reach
reach gs [] = runs_out
reach gs (token k a ∷ ts) = elim (ends_before gs k) [
  | true ↦ reaches 0
  | false ↦ elim (verdict gs k) [ goes next ↦ longer (reach next ts) | refused ↦ stops_at a | too_deep ↦ nests_at a ]
]

-- the same behind so many tokens
abbrev pub longer_by : ℕ → Reach → Reach
longer_by zero x = x
longer_by (suc n) x = longer_by n (longer x)

-- what the code says
abbrev pub reach_of : code_extent.Extent → Reach
reach_of (code_extent.TheVariants.Reaches n) = reaches n
reach_of code_extent.TheVariants.Short = runs_out
reach_of (code_extent.TheVariants.Unexpected a) = stops_at a
reach_of (code_extent.TheVariants.Nested a) = nests_at a
