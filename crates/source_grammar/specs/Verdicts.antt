-- What becomes of a token and of a list of tokens, told by the machine: which constructs are opened, and which token is the first at fault.
use Rattle.std.specs.Prelude.{true, false, nat_lt, ℕ, List, [], ◌∷◌, Option, Some, None}
use Rattle.source_grammar.specs.Tokens.{Kind, infix_sign, bang, question, left_paren, left_bracket, left_brace, if_word, while_word}
use Rattle.source_grammar.specs.Tokens.{do_word, for_word, Token, token}
use Rattle.source_grammar.specs.Machine.{Goal, operand, named, more, maybe_expr, maybe_arguments, indexing, filling, maybe_values}
use Rattle.source_grammar.specs.Machine.{statement, after_name, step, entry, takes, skips, stops}
use Rattle.source_grammar.specs.Faults.{Scan, nested, short, unexpected, whole}

-- what a token opens where an operand has to come
abbrev pub opened_operand : ℕ → Kind → Option ℕ
opened_operand d (infix_sign o) = Some d
opened_operand d bang = Some d
opened_operand d left_paren = Some d
opened_operand d _ = None

-- what a token opens after a name: the parentheses of a call, or brackets
abbrev pub opened_named : ℕ → Kind → Option ℕ
opened_named d left_paren = Some d
opened_named d left_bracket = Some d
opened_named d _ = None

-- what a token opens after an operand
abbrev pub opened_more : ℕ → Kind → Option ℕ
opened_more d question = Some d
opened_more d _ = None

-- what a token opens where a value may stand
abbrev pub opened_value : ℕ → Kind → Option ℕ
opened_value d left_brace = Some d
opened_value d k = opened_operand d k

-- what a token opens where values in braces have to come
abbrev pub opened_filling : ℕ → Kind → Option ℕ
opened_filling d left_brace = Some d
opened_filling d _ = None

-- what a token opens where a statement has to come
abbrev pub opened_core : ℕ → Kind → Option ℕ
opened_core d left_brace = Some d
opened_core d if_word = Some d
opened_core d while_word = Some d
opened_core d do_word = Some d
opened_core d for_word = Some d
opened_core d _ = None

-- what a token opens that a goal takes
abbrev pub opened_by : Goal → Kind → Option ℕ
opened_by (operand d) k = opened_operand d k
opened_by (named d) k = opened_named d k
opened_by (more d) k = opened_more d k
opened_by (maybe_expr d) k = opened_operand d k
opened_by (maybe_arguments d) k = opened_operand d k
opened_by (indexing d) k = opened_named d k
opened_by (filling d) k = opened_filling d k
opened_by (maybe_values d) k = opened_value d k
opened_by (statement p d) k = opened_core d k
opened_by (after_name p d) k = opened_named d k
opened_by _ k = None

-- what a token opens at a stack
abbrev pub opened : List Goal → Kind → Option ℕ
opened [] k = None
opened (g ∷ gs) k = elim (entry g k) [ takes next ↦ opened_by g k | skips ↦ opened gs k | stops ↦ None ]

-- what each of some tokens opens at a stack
abbrev pub trace : List Goal → List Token → List (Option ℕ)
trace gs [] = []
trace gs (token k a ∷ ts) = opened gs k ∷ elim (step gs k) [ None ↦ [] | Some next ↦ trace next ts ]

-- what becomes of a token
pub data Verdict : Type 0 where
  goes : List Goal → Verdict
  refused : Verdict
  too_deep : Verdict

-- a token is refused, opens one construct too many, or the machine goes on
abbrev pub judged : Option (List Goal) → Option ℕ → Verdict
judged None depth = refused
judged (Some next) None = goes next
judged (Some next) (Some d) = elim (nat_lt d 64) [ true ↦ goes next | false ↦ too_deep ]

-- what becomes of a token at a stack
abbrev pub verdict : List Goal → Kind → Verdict
verdict gs k = judged (step gs k) (opened gs k)

-- tokens end well where nothing has to come, and else too early
abbrev pub end_of : List Goal → Scan
end_of [] = whole
end_of (g ∷ gs) = short

-- what becomes of tokens at a stack
abbrev pub scan : List Goal → List Token → Scan
scan gs [] = end_of gs
scan gs (token k a ∷ ts) = elim (verdict gs k) [ goes next ↦ scan next ts | refused ↦ unexpected a | too_deep ↦ nested a ]
