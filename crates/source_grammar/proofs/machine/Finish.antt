-- What the machine has taken can always be completed.
use Rattle.std.proofs.Common.{◌≡◌, ◌∙◌, ◌++◌, ℕ, List, [], ◌∷◌, Option, Some, None, refl, ap, sym, subst}
use Rattle.source_grammar.specs.Tokens.{Kind, Token, token, a_name, a_number, infix_sign, question, comma, right_paren, semicolon}
use Rattle.source_grammar.specs.Tokens.{else_word, right_brace, colon, left_paren, left_bracket, step_sign, up, while_word, int_word}
use Rattle.source_grammar.specs.Tokens.{void_word, main_word, left_brace, if_word, do_word, for_word, jump_word, return_word, demand_word}
use Rattle.source_grammar.specs.Tokens.{change_sign, const_word}
use Rattle.source_grammar.specs.Machine.{in_sub, in_block, Mark, opening, closing, brace_opening, bracket_closing, colon_mark}
use Rattle.source_grammar.specs.Machine.{statement_end, int_type, mark_kind, Goal, operand, named, more, maybe_expr, maybe_arguments}
use Rattle.source_grammar.specs.Machine.{more_arguments, indexing, effect, changing, more_changes, maybe_changes, declaring, initialising}
use Rattle.source_grammar.specs.Machine.{more_declarators, statement, after_name, maybe_else, condition, do_end, header, header_first}
use Rattle.source_grammar.specs.Machine.{header_rest, specifiers, function_name, parameters, more_parameters, some_name, only, Entry, takes}
use Rattle.source_grammar.specs.Machine.{skips, stops, entry, step, run, start, bounding, brace_closing, filling, maybe_size, maybe_values}
use Rattle.source_grammar.specs.Machine.{more_sizes, more_values, parameter_name, sizing, some_size, some_type}
use Rattle.source_grammar.proofs.machine.Goes.{First, skip_alike}
use Rattle.source_grammar.specs.Symbols.{nameless}

-- At the bottom of a stack a function's body has to come, or nothing has to come at all.
abbrev pub Based : List Goal → Type 0
Based [] = Unit {0}
Based (g ∷ []) = g ≡ statement in_block 0
Based (g ∷ h ∷ gs) = Based (h ∷ gs)

-- what is left of such a stack is one
based_tail : (g : Goal) (gs : List Goal) → Based (g ∷ gs) → Based gs
based_tail g [] h = tt
based_tail g (i ∷ gs) h = h

based_append : (next : List Goal) (g : Goal) (gs : List Goal) → Based (g ∷ gs) → Based (next ++ g ∷ gs)
based_append [] g gs h = h
based_append (n ∷ []) g gs h = h
based_append (n ∷ m ∷ next) g gs h = based_append (m ∷ next) g gs h

abbrev OnNext : Option (List Goal) → Type 0
OnNext None = Unit {0}
OnNext (Some next) = Based next

-- the body of a function stays at the bottom, or it has ended
body_step : (k : Kind) → OnNext (step (statement in_block 0 ∷ []) k)
body_step (a_name x) = refl
body_step semicolon = refl
body_step left_brace = refl
body_step right_brace = tt
body_step int_word = refl
body_step const_word = refl
body_step if_word = refl
body_step while_word = refl
body_step do_word = refl
body_step for_word = refl
body_step (jump_word j) = refl
body_step return_word = refl
body_step (demand_word d) = refl
body_step (step_sign g) = refl
body_step _ = tt

entry_based : (e : Entry) (g : Goal) (gs : List Goal) (o : Option (List Goal)) → Based (g ∷ gs) → OnNext o
    → OnNext (elim e as (λ x. Option (List Goal)) [ takes next ↦ Some (next ++ g ∷ gs) | skips ↦ o | stops ↦ None ])
entry_based (takes next) g gs o h i = based_append next g gs h
entry_based skips g gs o h i = i
entry_based stops g gs o h i = tt

step_based : (gs : List Goal) (k : Kind) → Based gs → OnNext (step gs k)
step_based [] k h = tt
step_based (g ∷ []) k h = subst (λ (x : Goal). OnNext (step (x ∷ []) k)) (sym h) (body_step k)
step_based (g ∷ i ∷ gs) k h = entry_based (entry g k) i gs (step (i ∷ gs) k) h (step_based (i ∷ gs) k h)

run_based : (ts : List Token) (gs now : List Goal) → Based gs → run gs ts ≡ Some now → Based now
run_based [] gs now h e = let i : gs ≡ now = cc in subst Based i h
run_based (token k a ∷ ts) gs now h e = on (step gs k) (step_based gs k h) (λ next i j. run_based ts next now i j) e where
  on : (o : Option (List Goal)) → OnNext o → ((next : List Goal) → Based next → run next ts ≡ Some now → Based now)
      → elim o as (λ x. Option (List Goal)) [ None ↦ None | Some next ↦ run next ts ] ≡ Some now → Based now
  on None i f e = cc
  on (Some next) i f e = f next i e

-- each stack that the machine has is such a one
pub start_based : (ts : List Token) (now : List Goal) → run start ts ≡ Some now → Based now
start_based ts now e = run_based ts start now refl e

-- tokens with which a stack can be completed
abbrev pub finish : List Goal → List Token
finish [] = []
finish (operand d ∷ gs) = token (a_number 0) 0 ∷ finish gs
finish (named d ∷ gs) = token (step_sign up) 0 ∷ finish gs
finish (more d ∷ gs) = finish gs
finish (maybe_expr d ∷ gs) = token (a_number 0) 0 ∷ finish gs
finish (maybe_arguments d ∷ gs) = token (a_number 0) 0 ∷ finish gs
finish (more_arguments d ∷ gs) = finish gs
finish (indexing d ∷ gs) = finish gs
finish (effect d ∷ gs) = token (step_sign up) 0 ∷ finish gs
finish (changing d ∷ gs) = token (a_name nameless) 0 ∷ token (step_sign up) 0 ∷ finish gs
finish (more_changes d ∷ gs) = finish gs
finish (maybe_changes d ∷ gs) = token (a_name nameless) 0 ∷ token (step_sign up) 0 ∷ finish gs
finish (declaring d ∷ gs) = token (a_name nameless) 0 ∷ finish gs
finish (initialising d ∷ gs) = finish gs
finish (more_declarators d ∷ gs) = finish gs
finish (sizing d ∷ gs) = finish gs
finish (filling d ∷ gs) = token left_brace 0 ∷ token right_brace 0 ∷ finish gs
finish (maybe_values d ∷ gs) = token (a_number 0) 0 ∷ finish gs
finish (more_values d ∷ gs) = finish gs
finish (statement in_sub d ∷ gs) = token semicolon 0 ∷ finish gs
finish (statement in_block d ∷ gs) = token right_brace 0 ∷ finish gs
finish (after_name in_sub d ∷ gs) = token colon 0 ∷ token semicolon 0 ∷ finish gs
finish (after_name in_block d ∷ gs) = token colon 0 ∷ finish gs
finish (maybe_else d ∷ gs) = token else_word 0 ∷ token semicolon 0 ∷ finish gs
finish (condition d ∷ gs) = token left_paren 0 ∷ token (a_number 0) 0 ∷ token right_paren 0 ∷ finish gs
finish (do_end d ∷ gs) = token while_word 0 ∷ token left_paren 0 ∷ token (a_number 0) 0 ∷ token right_paren 0 ∷ token semicolon 0
    ∷ finish gs
finish (header d ∷ gs) = token left_paren 0 ∷ token semicolon 0 ∷ token semicolon 0 ∷ token right_paren 0 ∷ finish gs
finish (header_first d ∷ gs) = token (a_name nameless) 0 ∷ token (step_sign up) 0 ∷ finish gs
finish (header_rest d ∷ gs) = token semicolon 0 ∷ token semicolon 0 ∷ token right_paren 0 ∷ finish gs
finish (specifiers ∷ gs) = token int_word 0 ∷ finish gs
finish (function_name ∷ gs) = token main_word 0 ∷ finish gs
finish (parameters ∷ gs) = token void_word 0 ∷ finish gs
finish (more_parameters ∷ gs) = finish gs
finish (some_type ∷ gs) = token int_word 0 ∷ finish gs
finish (parameter_name ∷ gs) = token (a_name nameless) 0 ∷ finish gs
finish (bounding ∷ gs) = finish gs
finish (more_sizes ∷ gs) = finish gs
finish (some_name ∷ gs) = token (a_name nameless) 0 ∷ finish gs
finish (some_size ∷ gs) = token (a_number 0) 0 ∷ finish gs
finish (maybe_size ∷ gs) = token (a_number 0) 0 ∷ finish gs
finish (only m ∷ gs) = token (mark_kind m) 0 ∷ finish gs

-- the kinds of token that go on with no list, no brackets, no values and no expression
abbrev Quiet : Kind → Type 0
Quiet (infix_sign o) = ⊥
Quiet question = ⊥
Quiet comma = ⊥
Quiet left_bracket = ⊥
Quiet (change_sign g) = ⊥
Quiet _ = Unit {0}

mark_quiet : (m : Mark) → Quiet (mark_kind m)
mark_quiet opening = tt
mark_quiet closing = tt
mark_quiet brace_opening = tt
mark_quiet brace_closing = tt
mark_quiet bracket_closing = tt
mark_quiet colon_mark = tt
mark_quiet statement_end = tt
mark_quiet int_type = tt

-- what completes a stack goes on with none of these
finish_first : (g : Goal) (gs : List Goal) → Based (g ∷ gs) → First Quiet (finish (g ∷ gs))
finish_first (more d) [] h = cc
finish_first (more d) (g ∷ gs) h = finish_first g gs h
finish_first (more_arguments d) [] h = cc
finish_first (more_arguments d) (g ∷ gs) h = finish_first g gs h
finish_first (more_changes d) [] h = cc
finish_first (more_changes d) (g ∷ gs) h = finish_first g gs h
finish_first (more_declarators d) [] h = cc
finish_first (more_declarators d) (g ∷ gs) h = finish_first g gs h
finish_first (indexing d) [] h = cc
finish_first (indexing d) (g ∷ gs) h = finish_first g gs h
finish_first (initialising d) [] h = cc
finish_first (initialising d) (g ∷ gs) h = finish_first g gs h
finish_first (sizing d) [] h = cc
finish_first (sizing d) (g ∷ gs) h = finish_first g gs h
finish_first (more_values d) [] h = cc
finish_first (more_values d) (g ∷ gs) h = finish_first g gs h
finish_first bounding [] h = cc
finish_first bounding (g ∷ gs) h = finish_first g gs h
finish_first more_sizes [] h = cc
finish_first more_sizes (g ∷ gs) h = finish_first g gs h
finish_first more_parameters [] h = cc
finish_first more_parameters (g ∷ gs) h = finish_first g gs h
finish_first (statement in_sub d) gs h = tt
finish_first (statement in_block d) gs h = tt
finish_first (after_name in_sub d) gs h = tt
finish_first (after_name in_block d) gs h = tt
finish_first (only m) gs h = mark_quiet m
finish_first _ gs h = tt

-- a goal that skips each token that goes on with none of these
abbrev Skips : Goal → Type 0
Skips g = (k : Kind) → Quiet k → entry g k ≡ skips

more_skips : (d : ℕ) → Skips (more d)
more_skips d (infix_sign o) h = absurd h
more_skips d question h = absurd h
more_skips d _ h = refl

more_arguments_skips : (d : ℕ) → Skips (more_arguments d)
more_arguments_skips d comma h = absurd h
more_arguments_skips d _ h = refl

more_changes_skips : (d : ℕ) → Skips (more_changes d)
more_changes_skips d comma h = absurd h
more_changes_skips d _ h = refl

more_declarators_skips : (d : ℕ) → Skips (more_declarators d)
more_declarators_skips d comma h = absurd h
more_declarators_skips d _ h = refl

indexing_skips : (d : ℕ) → Skips (indexing d)
indexing_skips d left_bracket h = absurd h
indexing_skips d _ h = refl

initialising_skips : (d : ℕ) → Skips (initialising d)
initialising_skips d (change_sign g) h = absurd h
initialising_skips d left_bracket h = absurd h
initialising_skips d _ h = refl

sizing_skips : (d : ℕ) → Skips (sizing d)
sizing_skips d (change_sign g) h = absurd h
sizing_skips d left_bracket h = absurd h
sizing_skips d _ h = refl

more_values_skips : (d : ℕ) → Skips (more_values d)
more_values_skips d comma h = absurd h
more_values_skips d _ h = refl

bounding_skips : Skips bounding
bounding_skips left_bracket h = absurd h
bounding_skips _ h = refl

more_sizes_skips : Skips more_sizes
more_sizes_skips left_bracket h = absurd h
more_sizes_skips _ h = refl

more_parameters_skips : Skips more_parameters
more_parameters_skips comma h = absurd h
more_parameters_skips _ h = refl

skipped : (g : Goal) (gs : List Goal) (ts : List Token) → Skips g → First Quiet ts → run (g ∷ gs) ts ≡ run gs ts
skipped g gs [] h i = absurd i
skipped g gs (token k a ∷ ts) h i =
    ap (λ (o : Option (List Goal)). elim o as (λ x. Option (List Goal)) [ None ↦ None | Some next ↦ run next ts ])
    (skip_alike g gs k (h k i)).steps

-- where a stack of such a goal is completed as without it
loose : (g i : Goal) (gs : List Goal) → Skips g → Based (i ∷ gs) → run (i ∷ gs) (finish (i ∷ gs)) ≡ Some []
    → run (g ∷ i ∷ gs) (finish (i ∷ gs)) ≡ Some []
loose g i gs h b r = skipped g (i ∷ gs) (finish (i ∷ gs)) h (finish_first i gs b) ∙ r

-- the same where the goal is skipped behind others
loosely : (g : Goal) (gs : List Goal) → (g ≡ statement in_block 0 → ⊥) → Skips g → Based (g ∷ gs) → run gs (finish gs) ≡ Some []
    → run (g ∷ gs) (finish gs) ≡ Some []
loosely g [] n h b r = absurd (n b)
loosely g (i ∷ gs) n h b r = loose g i gs h b r

-- the machine ends with those tokens
pub finishes : (gs : List Goal) → Based gs → run gs (finish gs) ≡ Some []
finishes [] h = refl
finishes (operand d ∷ gs) h = finishes gs (based_tail (operand d) gs h)
finishes (named d ∷ gs) h = finishes gs (based_tail (named d) gs h)
finishes (more d ∷ gs) h = loosely (more d) gs (λ e. cc) (more_skips d) h (finishes gs (based_tail (more d) gs h))
finishes (maybe_expr d ∷ []) h = cc
finishes (maybe_expr d ∷ g ∷ gs) h = loose (more d) g gs (more_skips d) h (finishes (g ∷ gs) h)
finishes (maybe_arguments d ∷ []) h = cc
finishes (maybe_arguments d ∷ g ∷ gs) h =
    skipped (more d) (more_arguments d ∷ g ∷ gs) (finish (g ∷ gs)) (more_skips d) (finish_first g gs h)
    ∙ loose (more_arguments d) g gs (more_arguments_skips d) h (finishes (g ∷ gs) h)
finishes (more_arguments d ∷ gs) h =
    loosely (more_arguments d) gs (λ e. cc) (more_arguments_skips d) h (finishes gs (based_tail (more_arguments d) gs h))
finishes (indexing d ∷ gs) h = loosely (indexing d) gs (λ e. cc) (indexing_skips d) h (finishes gs (based_tail (indexing d) gs h))
finishes (effect d ∷ gs) h = finishes gs (based_tail (effect d) gs h)
finishes (changing d ∷ gs) h = finishes gs (based_tail (changing d) gs h)
finishes (more_changes d ∷ gs) h =
    loosely (more_changes d) gs (λ e. cc) (more_changes_skips d) h (finishes gs (based_tail (more_changes d) gs h))
finishes (maybe_changes d ∷ []) h = cc
finishes (maybe_changes d ∷ g ∷ gs) h = loose (more_changes d) g gs (more_changes_skips d) h (finishes (g ∷ gs) h)
finishes (declaring d ∷ []) h = cc
finishes (declaring d ∷ g ∷ gs) h = loose (initialising d) g gs (initialising_skips d) h (finishes (g ∷ gs) h)
finishes (initialising d ∷ gs) h =
    loosely (initialising d) gs (λ e. cc) (initialising_skips d) h (finishes gs (based_tail (initialising d) gs h))
finishes (more_declarators d ∷ gs) h =
    loosely (more_declarators d) gs (λ e. cc) (more_declarators_skips d) h (finishes gs (based_tail (more_declarators d) gs h))
finishes (sizing d ∷ gs) h = loosely (sizing d) gs (λ e. cc) (sizing_skips d) h (finishes gs (based_tail (sizing d) gs h))
finishes (filling d ∷ gs) h = finishes gs (based_tail (filling d) gs h)
finishes (maybe_values d ∷ []) h = cc
finishes (maybe_values d ∷ g ∷ gs) h =
    skipped (more d) (more_values d ∷ g ∷ gs) (finish (g ∷ gs)) (more_skips d) (finish_first g gs h)
    ∙ loose (more_values d) g gs (more_values_skips d) h (finishes (g ∷ gs) h)
finishes (more_values d ∷ gs) h =
    loosely (more_values d) gs (λ e. cc) (more_values_skips d) h (finishes gs (based_tail (more_values d) gs h))
finishes (statement in_sub d ∷ gs) h = finishes gs (based_tail (statement in_sub d) gs h)
finishes (statement in_block d ∷ gs) h = finishes gs (based_tail (statement in_block d) gs h)
finishes (after_name in_sub d ∷ gs) h = finishes gs (based_tail (after_name in_sub d) gs h)
finishes (after_name in_block d ∷ gs) h = finishes gs (based_tail (after_name in_block d) gs h)
finishes (maybe_else d ∷ gs) h = finishes gs (based_tail (maybe_else d) gs h)
finishes (condition d ∷ gs) h = finishes gs (based_tail (condition d) gs h)
finishes (do_end d ∷ gs) h = finishes gs (based_tail (do_end d) gs h)
finishes (header d ∷ gs) h = finishes gs (based_tail (header d) gs h)
finishes (header_first d ∷ []) h = cc
finishes (header_first d ∷ g ∷ gs) h = loose (more_changes d) g gs (more_changes_skips d) h (finishes (g ∷ gs) h)
finishes (header_rest d ∷ gs) h = finishes gs (based_tail (header_rest d) gs h)
finishes (specifiers ∷ gs) h = finishes gs (based_tail specifiers gs h)
finishes (function_name ∷ gs) h = finishes gs (based_tail function_name gs h)
finishes (parameters ∷ gs) h = finishes gs (based_tail parameters gs h)
finishes (more_parameters ∷ gs) h =
    loosely more_parameters gs (λ e. cc) more_parameters_skips h (finishes gs (based_tail more_parameters gs h))
finishes (some_type ∷ gs) h = finishes gs (based_tail some_type gs h)
finishes (parameter_name ∷ []) h = cc
finishes (parameter_name ∷ g ∷ gs) h = loose bounding g gs bounding_skips h (finishes (g ∷ gs) h)
finishes (bounding ∷ gs) h = loosely bounding gs (λ e. cc) bounding_skips h (finishes gs (based_tail bounding gs h))
finishes (more_sizes ∷ gs) h = loosely more_sizes gs (λ e. cc) more_sizes_skips h (finishes gs (based_tail more_sizes gs h))
finishes (some_name ∷ gs) h = finishes gs (based_tail some_name gs h)
finishes (some_size ∷ gs) h = finishes gs (based_tail some_size gs h)
finishes (maybe_size ∷ gs) h = finishes gs (based_tail maybe_size gs h)
finishes (only opening ∷ gs) h = finishes gs (based_tail (only opening) gs h)
finishes (only closing ∷ gs) h = finishes gs (based_tail (only closing) gs h)
finishes (only brace_opening ∷ gs) h = finishes gs (based_tail (only brace_opening) gs h)
finishes (only brace_closing ∷ gs) h = finishes gs (based_tail (only brace_closing) gs h)
finishes (only bracket_closing ∷ gs) h = finishes gs (based_tail (only bracket_closing) gs h)
finishes (only colon_mark ∷ gs) h = finishes gs (based_tail (only colon_mark) gs h)
finishes (only statement_end ∷ gs) h = finishes gs (based_tail (only statement_end) gs h)
finishes (only int_type ∷ gs) h = finishes gs (based_tail (only int_type) gs h)
