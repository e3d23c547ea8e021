-- What the machine has taken can always be completed.
use Rattle.std.proofs.Common.{◌≡◌, ◌++◌, List, [], ◌∷◌, Option, Some, None, refl}
use Rattle.lang_grammar.specs.Grammar.{Token, token, a_name, a_number, right_paren, semicolon, else_word, right_brace, colon, left_paren}
use Rattle.lang_grammar.specs.Grammar.{step_sign, up, while_word}
use Rattle.lang_grammar.specs.Machine.{until_paren, until_semicolon, until_declared, in_sub, in_block, in_main, opening, closing}
use Rattle.lang_grammar.specs.Machine.{brace_opening, brace_closing}
use Rattle.lang_grammar.specs.Machine.{statement_end, main_name, int_type, text_end, mark_kind, ender_mark, Goal, operand, more, statement}
use Rattle.lang_grammar.specs.Machine.{after_name, maybe_else, condition}
use Rattle.lang_grammar.specs.Machine.{do_end, header, header_first, header_test, header_last, updating, declarator, declared, some_name}
use Rattle.lang_grammar.specs.Machine.{parameters, returned, some_number, only, step, run}

-- tokens with which a stack can be completed
abbrev pub finish : List Goal → List Token
finish [] = []
finish (operand d ∷ gs) = token (a_number 0) 0 ∷ finish gs
finish (more until_paren d ∷ gs) = token right_paren 0 ∷ finish gs
finish (more until_semicolon d ∷ gs) = token semicolon 0 ∷ finish gs
finish (more until_declared d ∷ gs) = token semicolon 0 ∷ finish gs
finish (statement in_sub d ∷ gs) = token semicolon 0 ∷ finish gs
finish (statement in_block d ∷ gs) = token right_brace 0 ∷ finish gs
finish (statement in_main d ∷ gs) = token right_brace 0 ∷ finish gs
finish (after_name in_sub d ∷ gs) = token colon 0 ∷ token semicolon 0 ∷ finish gs
finish (after_name in_block d ∷ gs) = token colon 0 ∷ finish gs
finish (after_name in_main d ∷ gs) = token colon 0 ∷ finish gs
finish (maybe_else d ∷ gs) = token else_word 0 ∷ token semicolon 0 ∷ finish gs
finish (condition d ∷ gs) = token left_paren 0 ∷ token (a_number 0) 0 ∷ token right_paren 0 ∷ finish gs
finish (do_end d ∷ gs) = token while_word 0 ∷ token left_paren 0 ∷ token (a_number 0) 0 ∷ token right_paren 0 ∷ token semicolon 0
    ∷ finish gs
finish (header d ∷ gs) = token left_paren 0 ∷ token semicolon 0 ∷ token semicolon 0 ∷ token right_paren 0 ∷ finish gs
finish (header_first d ∷ gs) = token semicolon 0 ∷ finish gs
finish (header_test d ∷ gs) = token semicolon 0 ∷ finish gs
finish (header_last d ∷ gs) = token right_paren 0 ∷ finish gs
finish (updating e d ∷ gs) = token (step_sign up) 0 ∷ token (mark_kind (ender_mark e)) 0 ∷ finish gs
finish (declarator d ∷ gs) = token (a_name []) 0 ∷ token semicolon 0 ∷ finish gs
finish (declared d ∷ gs) = token semicolon 0 ∷ finish gs
finish (some_name ∷ gs) = token (a_name []) 0 ∷ finish gs
finish (parameters ∷ gs) = token right_paren 0 ∷ finish gs
finish (returned ∷ gs) = token (a_number 0) 0 ∷ finish gs
finish (some_number ∷ gs) = token (a_number 0) 0 ∷ finish gs
finish (only m ∷ gs) = token (mark_kind m) 0 ∷ finish gs

-- the machine ends with those tokens
pub finishes : (gs : List Goal) → run gs (finish gs) ≡ Some []
finishes [] = refl
finishes (operand d ∷ gs) = finishes gs
finishes (more until_paren d ∷ gs) = finishes gs
finishes (more until_semicolon d ∷ gs) = finishes gs
finishes (more until_declared d ∷ gs) = finishes gs
finishes (statement in_sub d ∷ gs) = finishes gs
finishes (statement in_block d ∷ gs) = finishes gs
finishes (statement in_main d ∷ gs) = finishes gs
finishes (after_name in_sub d ∷ gs) = finishes gs
finishes (after_name in_block d ∷ gs) = finishes gs
finishes (after_name in_main d ∷ gs) = finishes gs
finishes (maybe_else d ∷ gs) = finishes gs
finishes (condition d ∷ gs) = finishes gs
finishes (do_end d ∷ gs) = finishes gs
finishes (header d ∷ gs) = finishes gs
finishes (header_first d ∷ gs) = finishes gs
finishes (header_test d ∷ gs) = finishes gs
finishes (header_last d ∷ gs) = finishes gs
finishes (updating until_paren d ∷ gs) = finishes gs
finishes (updating until_semicolon d ∷ gs) = finishes gs
finishes (updating until_declared d ∷ gs) = finishes gs
finishes (declarator d ∷ gs) = finishes gs
finishes (declared d ∷ gs) = finishes gs
finishes (some_name ∷ gs) = finishes gs
finishes (parameters ∷ gs) = finishes gs
finishes (returned ∷ gs) = finishes gs
finishes (some_number ∷ gs) = finishes gs
finishes (only opening ∷ gs) = finishes gs
finishes (only closing ∷ gs) = finishes gs
finishes (only brace_opening ∷ gs) = finishes gs
finishes (only brace_closing ∷ gs) = finishes gs
finishes (only statement_end ∷ gs) = finishes gs
finishes (only main_name ∷ gs) = finishes gs
finishes (only int_type ∷ gs) = finishes gs
finishes (only text_end ∷ gs) = finishes gs

front_step : (o : Option (List Goal)) (now : List Goal) (ts rest : List Token)
    → ((next : List Goal) → run next ts ≡ Some now → run next (ts ++ rest) ≡ run now rest)
    → elim o as (λ x. Option (List Goal)) [ None ↦ None | Some next ↦ run next ts ] ≡ Some now
    → elim o as (λ x. Option (List Goal)) [ None ↦ None | Some next ↦ run next (ts ++ rest) ] ≡ run now rest
front_step None now ts rest f h = cc
front_step (Some next) now ts rest f h = f next h

-- what comes of a front goes on
pub run_front : (gs now : List Goal) (front rest : List Token) → run gs front ≡ Some now → run gs (front ++ rest) ≡ run now rest
run_front gs now [] rest h = cc
run_front gs now (token k a ∷ ts) rest h = front_step (step gs k) now ts rest (λ next e. run_front next now ts rest e) h

none_step : (o : Option (List Goal)) (ts rest : List Token) → ((next : List Goal) → run next ts ≡ None → run next (ts ++ rest) ≡ None)
    → elim o as (λ x. Option (List Goal)) [ None ↦ None | Some next ↦ run next ts ] ≡ None
    → elim o as (λ x. Option (List Goal)) [ None ↦ None | Some next ↦ run next (ts ++ rest) ] ≡ None
none_step None ts rest f h = refl
none_step (Some next) ts rest f h = f next h

-- where the machine has stopped, it has stopped whatever comes
pub none_front : (gs : List Goal) (front rest : List Token) → run gs front ≡ None → run gs (front ++ rest) ≡ None
none_front gs [] rest h = cc
none_front gs (token k a ∷ ts) rest h = none_step (step gs k) ts rest (λ next e. none_front next ts rest e) h
