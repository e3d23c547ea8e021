-- What becomes of a token and of a text, told by the machine: which constructs are opened, and which token is the first at fault.
use Rattle.std.specs.Prelude.{true, false, nat_lt, ℕ, List, [], ◌∷◌, Option, Some, None}
use Rattle.lang_grammar.specs.Grammar.{Kind, infix_sign, bang, left_paren, left_brace, if_word, while_word, do_word, for_word, Token, token}
use Rattle.lang_grammar.specs.Machine.{Goal, operand, more, statement, after_name, maybe_else, condition, do_end, header, declarator}
use Rattle.lang_grammar.specs.Machine.{declared, some_name, parameters, returned, header_first, header_test, header_last, updating}
use Rattle.lang_grammar.specs.Machine.{some_number, only, step, entry, takes, skips, stops}
use Rattle.lang_grammar.specs.Faults.{Scan, nested, short, unexpected, whole}

-- what a token opens where an operand has to come
abbrev pub opened_operand : ℕ → Kind → Option ℕ
opened_operand d (infix_sign o) = Some d
opened_operand d bang = Some d
opened_operand d left_paren = Some d
opened_operand d _ = None

-- what a token opens where a statement has to come
abbrev pub opened_core : ℕ → Kind → Option ℕ
opened_core d left_brace = Some d
opened_core d if_word = Some d
opened_core d while_word = Some d
opened_core d do_word = Some d
opened_core d for_word = Some d
opened_core d _ = None

-- what a token opens that a goal takes
abbrev pub opened_by : Goal → Kind → Option ℕ
opened_by (operand d) k = opened_operand d k
opened_by (more e d) k = None
opened_by (statement p d) k = opened_core d k
opened_by (after_name p d) k = None
opened_by (maybe_else d) k = None
opened_by (condition d) k = None
opened_by (do_end d) k = None
opened_by (header d) k = None
opened_by (header_first d) k = None
opened_by (header_test d) k = opened_operand d k
opened_by (header_last d) k = None
opened_by (updating e d) k = None
opened_by (declarator d) k = None
opened_by (declared d) k = None
opened_by some_name k = None
opened_by parameters k = None
opened_by returned k = None
opened_by some_number k = None
opened_by (only m) k = None

-- what a token opens at a stack
abbrev pub opened : List Goal → Kind → Option ℕ
opened [] k = None
opened (g ∷ gs) k = elim (entry g k) [ takes next ↦ opened_by g k | skips ↦ opened gs k | stops ↦ None ]

-- what each token of a text opens at a stack
abbrev pub trace : List Goal → List Token → List (Option ℕ)
trace gs [] = []
trace gs (token k a ∷ ts) = opened gs k ∷ elim (step gs k) [ None ↦ [] | Some next ↦ trace next ts ]

-- what becomes of a token
pub data Verdict : Type 0 where
  goes : List Goal → Verdict
  refused : Verdict
  too_deep : Verdict

-- a token is refused, opens one construct too many, or the machine goes on
abbrev pub judged : Option (List Goal) → Option ℕ → Verdict
judged None depth = refused
judged (Some next) None = goes next
judged (Some next) (Some d) = elim (nat_lt d 64) [ true ↦ goes next | false ↦ too_deep ]

-- what becomes of a token at a stack
abbrev pub verdict : List Goal → Kind → Verdict
verdict gs k = judged (step gs k) (opened gs k)

-- a text ends well where nothing has to come, and else too early
abbrev pub end_of : List Goal → Scan
end_of [] = whole
end_of (g ∷ gs) = short

-- what becomes of a text at a stack
abbrev pub scan : List Goal → List Token → Scan
scan gs [] = end_of gs
scan gs (token k a ∷ ts) = elim (verdict gs k) [ goes next ↦ scan next ts | refused ↦ unexpected a | too_deep ↦ nested a ]
