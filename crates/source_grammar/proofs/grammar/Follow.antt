-- Which tokens may follow what, and which goals they skip.
use Rattle.std.proofs.Common.{◌≡◌, ◌++◌, ℕ, List, [], ◌∷◌, refl, append_assoc}
use Rattle.source_grammar.specs.Tokens.{Kind, a_name, a_number, infix_sign, plus_op, minus_op, bang, question, colon, left_paren}
use Rattle.source_grammar.specs.Tokens.{right_paren, right_brace, right_bracket, left_bracket, comma, semicolon, change_sign, step_sign}
use Rattle.source_grammar.specs.Tokens.{int_word, const_word, else_word, nondet_word, Token, token, negative, positive, negation}
use Rattle.source_grammar.specs.Grammar.{Ending, shut, waiting, Expr, prefixed, joined, chosen, spell_expr, MoreArguments, last_argument}
use Rattle.source_grammar.specs.Grammar.{next_argument, spell_more_arguments, MoreUpdates, last_update, next_update, spell_more_updates}
use Rattle.source_grammar.specs.Grammar.{MoreDeclarators, last_declarator, next_declarator, spell_more_declarators, Core, updates, Items}
use Rattle.source_grammar.specs.Grammar.{no_items, label, declaration, item, update, place, step_before, spell_core, spell_items, plain_int}
use Rattle.source_grammar.specs.Grammar.{Subscripts, last_subscript, next_subscript, spell_subscripts, Sizes, last_size, next_size}
use Rattle.source_grammar.specs.Grammar.{spell_sizes, const_int, MoreValues, last_value, last_comma, next_value, spell_more_values}
use Rattle.source_grammar.specs.Grammar.{Parameter, array_parameter, number_parameter, pointer_parameter, spell_parameter}
use Rattle.source_grammar.specs.Machine.{Goal, named, more, maybe_expr, maybe_arguments, more_arguments, indexing, effect, changing}
use Rattle.source_grammar.specs.Machine.{more_changes, maybe_changes, initialising, more_declarators, after_name, header_first, operand}
use Rattle.source_grammar.specs.Machine.{sizing, maybe_values, more_values, bounding, more_sizes, only, statement_end, Site, maybe_else}
use Rattle.source_grammar.specs.Machine.{skips, else_entry}
use Rattle.source_grammar.proofs.machine.Goes.{Alike, skip_alike, Meets, First}

-- the kinds of token that may follow a whole expression
abbrev pub AfterExpr : Kind → Type 0
AfterExpr semicolon = Unit {0}
AfterExpr right_paren = Unit {0}
AfterExpr right_brace = Unit {0}
AfterExpr right_bracket = Unit {0}
AfterExpr colon = Unit {0}
AfterExpr comma = Unit {0}
AfterExpr _ = ⊥

-- the kinds of token that may follow an operand
abbrev pub AfterOperand : Kind → Type 0
AfterOperand (infix_sign o) = Unit {0}
AfterOperand question = Unit {0}
AfterOperand semicolon = Unit {0}
AfterOperand right_paren = Unit {0}
AfterOperand right_brace = Unit {0}
AfterOperand right_bracket = Unit {0}
AfterOperand colon = Unit {0}
AfterOperand comma = Unit {0}
AfterOperand _ = ⊥

-- the kinds of token that may follow a list with commas
abbrev pub AfterList : Kind → Type 0
AfterList semicolon = Unit {0}
AfterList right_paren = Unit {0}
AfterList _ = ⊥

-- the kinds of token that may follow a part of such a list
abbrev pub AfterPart : Kind → Type 0
AfterPart semicolon = Unit {0}
AfterPart right_paren = Unit {0}
AfterPart comma = Unit {0}
AfterPart _ = ⊥

-- the kinds of token that may follow a place
abbrev pub AfterPlace : Kind → Type 0
AfterPlace (change_sign g) = Unit {0}
AfterPlace (step_sign g) = Unit {0}
AfterPlace semicolon = Unit {0}
AfterPlace right_paren = Unit {0}
AfterPlace comma = Unit {0}
AfterPlace _ = ⊥

-- the token is no `[`
abbrev pub NoBracket : Kind → Type 0
NoBracket left_bracket = ⊥
NoBracket _ = Unit {0}

-- the kinds of token that may follow the values between braces
abbrev pub AfterValues : Kind → Type 0
AfterValues right_brace = Unit {0}
AfterValues _ = ⊥

-- the token is no `else`
abbrev pub NotElse : Kind → Type 0
NotElse k = else_entry 0 k ≡ skips

-- the kinds of token that may follow a statement
abbrev pub AfterCore : Ending → Kind → Type 0
AfterCore shut k = Unit {0}
AfterCore waiting k = NotElse k

-- the kinds of token with which an expression begins
abbrev pub StartsExpr : Kind → Type 0
StartsExpr (a_name x) = Unit {0}
StartsExpr (a_number n) = Unit {0}
StartsExpr (infix_sign plus_op) = Unit {0}
StartsExpr (infix_sign minus_op) = Unit {0}
StartsExpr bang = Unit {0}
StartsExpr left_paren = Unit {0}
StartsExpr (step_sign g) = Unit {0}
StartsExpr nondet_word = Unit {0}
StartsExpr _ = ⊥

-- the kinds of token with which a change begins
abbrev pub StartsUpdate : Kind → Type 0
StartsUpdate (a_name x) = Unit {0}
StartsUpdate (step_sign g) = Unit {0}
StartsUpdate _ = ⊥

-- ---- what is skipped
-- what may follow a whole expression may follow an operand
pub expr_operand : (k : Kind) → AfterExpr k → AfterOperand k
expr_operand semicolon h = tt
expr_operand right_paren h = tt
expr_operand right_brace h = tt
expr_operand right_bracket h = tt
expr_operand colon h = tt
expr_operand comma h = tt
expr_operand _ h = absurd h

-- what may follow a list may follow an expression at its end
pub list_expr : (k : Kind) → AfterList k → AfterExpr k
list_expr semicolon h = tt
list_expr right_paren h = tt
list_expr _ h = absurd h

-- what may follow a list may follow its last part
pub list_part : (k : Kind) → AfterList k → AfterPart k
list_part semicolon h = tt
list_part right_paren h = tt
list_part _ h = absurd h

-- what may follow a part may follow an expression at its end
pub part_expr : (k : Kind) → AfterPart k → AfterExpr k
part_expr semicolon h = tt
part_expr right_paren h = tt
part_expr comma h = tt
part_expr _ h = absurd h

-- what may follow a part may follow a place at its end
pub part_place : (k : Kind) → AfterPart k → AfterPlace k
part_place semicolon h = tt
part_place right_paren h = tt
part_place comma h = tt
part_place _ h = absurd h

-- what may follow values may follow an expression at their end
pub values_expr : (k : Kind) → AfterValues k → AfterExpr k
values_expr right_brace h = tt
values_expr _ h = absurd h

-- what may follow an operand is no `[`
pub operand_no_bracket : (k : Kind) → AfterOperand k → NoBracket k
operand_no_bracket left_bracket h = h
operand_no_bracket _ h = tt

-- what may follow a place is no `[`
pub place_no_bracket : (k : Kind) → AfterPlace k → NoBracket k
place_no_bracket left_bracket h = h
place_no_bracket _ h = tt

-- what may follow a part is no `[`
pub part_no_bracket : (k : Kind) → AfterPart k → NoBracket k
part_no_bracket left_bracket h = h
part_no_bracket _ h = tt

-- what may follow an operand is no part of it
pub named_alike : (d : ℕ) (gs : List Goal) (k : Kind) → AfterOperand k → Alike k (named d ∷ gs) gs
named_alike d gs (infix_sign o) h = skip_alike (named d) gs (infix_sign o) refl
named_alike d gs question h = skip_alike (named d) gs question refl
named_alike d gs semicolon h = skip_alike (named d) gs semicolon refl
named_alike d gs right_paren h = skip_alike (named d) gs right_paren refl
named_alike d gs right_brace h = skip_alike (named d) gs right_brace refl
named_alike d gs right_bracket h = skip_alike (named d) gs right_bracket refl
named_alike d gs colon h = skip_alike (named d) gs colon refl
named_alike d gs comma h = skip_alike (named d) gs comma refl
named_alike d gs _ h = absurd h

-- what may follow an expression is no part of it
pub more_alike : (d : ℕ) (gs : List Goal) (k : Kind) → AfterExpr k → Alike k (more d ∷ gs) gs
more_alike d gs semicolon h = skip_alike (more d) gs semicolon refl
more_alike d gs right_paren h = skip_alike (more d) gs right_paren refl
more_alike d gs right_brace h = skip_alike (more d) gs right_brace refl
more_alike d gs right_bracket h = skip_alike (more d) gs right_bracket refl
more_alike d gs colon h = skip_alike (more d) gs colon refl
more_alike d gs comma h = skip_alike (more d) gs comma refl
more_alike d gs _ h = absurd h

-- where no expression stands
pub maybe_expr_alike : (d : ℕ) (gs : List Goal) (k : Kind) → AfterList k → Alike k (maybe_expr d ∷ gs) gs
maybe_expr_alike d gs semicolon h = skip_alike (maybe_expr d) gs semicolon refl
maybe_expr_alike d gs right_paren h = skip_alike (maybe_expr d) gs right_paren refl
maybe_expr_alike d gs _ h = absurd h

-- where no arguments stand
pub maybe_arguments_alike : (d : ℕ) (gs : List Goal) (k : Kind) → AfterList k → Alike k (maybe_arguments d ∷ gs) gs
maybe_arguments_alike d gs semicolon h = skip_alike (maybe_arguments d) gs semicolon refl
maybe_arguments_alike d gs right_paren h = skip_alike (maybe_arguments d) gs right_paren refl
maybe_arguments_alike d gs _ h = absurd h

-- where the arguments end
pub more_arguments_alike : (d : ℕ) (gs : List Goal) (k : Kind) → AfterList k → Alike k (more_arguments d ∷ gs) gs
more_arguments_alike d gs semicolon h = skip_alike (more_arguments d) gs semicolon refl
more_arguments_alike d gs right_paren h = skip_alike (more_arguments d) gs right_paren refl
more_arguments_alike d gs _ h = absurd h

-- where a place or an element has no further brackets
pub indexing_alike : (d : ℕ) (gs : List Goal) (k : Kind) → NoBracket k → Alike k (indexing d ∷ gs) gs
indexing_alike d gs left_bracket h = absurd h
indexing_alike d gs k h = skip_alike (indexing d) gs k refl

-- where the changes end
pub more_changes_alike : (d : ℕ) (gs : List Goal) (k : Kind) → AfterList k → Alike k (more_changes d ∷ gs) gs
more_changes_alike d gs semicolon h = skip_alike (more_changes d) gs semicolon refl
more_changes_alike d gs right_paren h = skip_alike (more_changes d) gs right_paren refl
more_changes_alike d gs _ h = absurd h

-- where no changes stand
pub maybe_changes_alike : (d : ℕ) (gs : List Goal) (k : Kind) → AfterList k → Alike k (maybe_changes d ∷ gs) gs
maybe_changes_alike d gs semicolon h = skip_alike (maybe_changes d) gs semicolon refl
maybe_changes_alike d gs right_paren h = skip_alike (maybe_changes d) gs right_paren refl
maybe_changes_alike d gs _ h = absurd h

-- where a `for`'s head has no first part
pub header_first_alike : (d : ℕ) (gs : List Goal) (k : Kind) → AfterList k → Alike k (header_first d ∷ gs) gs
header_first_alike d gs semicolon h = skip_alike (header_first d) gs semicolon refl
header_first_alike d gs right_paren h = skip_alike (header_first d) gs right_paren refl
header_first_alike d gs _ h = absurd h

-- where a name is declared and nothing more
pub initialising_alike : (d : ℕ) (gs : List Goal) (k : Kind) → AfterPart k → Alike k (initialising d ∷ gs) gs
initialising_alike d gs semicolon h = skip_alike (initialising d) gs semicolon refl
initialising_alike d gs right_paren h = skip_alike (initialising d) gs right_paren refl
initialising_alike d gs comma h = skip_alike (initialising d) gs comma refl
initialising_alike d gs _ h = absurd h

-- where a declared array has no further brackets and no values
pub sizing_alike : (d : ℕ) (gs : List Goal) (k : Kind) → AfterPart k → Alike k (sizing d ∷ gs) gs
sizing_alike d gs semicolon h = skip_alike (sizing d) gs semicolon refl
sizing_alike d gs right_paren h = skip_alike (sizing d) gs right_paren refl
sizing_alike d gs comma h = skip_alike (sizing d) gs comma refl
sizing_alike d gs _ h = absurd h

-- where no value stands between braces
pub maybe_values_alike : (d : ℕ) (gs : List Goal) (k : Kind) → AfterValues k → Alike k (maybe_values d ∷ gs) gs
maybe_values_alike d gs right_brace h = skip_alike (maybe_values d) gs right_brace refl
maybe_values_alike d gs _ h = absurd h

-- where the values end
pub more_values_alike : (d : ℕ) (gs : List Goal) (k : Kind) → AfterValues k → Alike k (more_values d ∷ gs) gs
more_values_alike d gs right_brace h = skip_alike (more_values d) gs right_brace refl
more_values_alike d gs _ h = absurd h

-- where a parameter has no brackets
pub bounding_alike : (gs : List Goal) (k : Kind) → NoBracket k → Alike k (bounding ∷ gs) gs
bounding_alike gs left_bracket h = absurd h
bounding_alike gs k h = skip_alike bounding gs k refl

-- where a parameter has no further brackets
pub more_sizes_alike : (gs : List Goal) (k : Kind) → NoBracket k → Alike k (more_sizes ∷ gs) gs
more_sizes_alike gs left_bracket h = absurd h
more_sizes_alike gs k h = skip_alike more_sizes gs k refl

-- where the declarators end
pub more_declarators_alike : (d : ℕ) (gs : List Goal) (k : Kind) → AfterList k → Alike k (more_declarators d ∷ gs) gs
more_declarators_alike d gs semicolon h = skip_alike (more_declarators d) gs semicolon refl
more_declarators_alike d gs right_paren h = skip_alike (more_declarators d) gs right_paren refl
more_declarators_alike d gs _ h = absurd h

-- where no `else` stands
pub else_alike : (d : ℕ) (gs : List Goal) (k : Kind) → NotElse k → Alike k (maybe_else d ∷ gs) gs
else_alike d gs else_word h = cc
else_alike d gs k h = skip_alike (maybe_else d) gs k (on k h) where
  on : (k : Kind) → NotElse k → else_entry d k ≡ skips
  on else_word h = cc
  on _ h = refl

-- ---- what stands first
-- where an expression stands that may be absent
pub maybe_expr_starts : (d : ℕ) (gs : List Goal) (k : Kind) → StartsExpr k → Alike k (maybe_expr d ∷ gs) (operand d ∷ more d ∷ gs)
maybe_expr_starts d gs (a_name x) h = record { steps = refl; opens = refl }
maybe_expr_starts d gs (a_number n) h = record { steps = refl; opens = refl }
maybe_expr_starts d gs (infix_sign plus_op) h = record { steps = refl; opens = refl }
maybe_expr_starts d gs (infix_sign minus_op) h = record { steps = refl; opens = refl }
maybe_expr_starts d gs bang h = record { steps = refl; opens = refl }
maybe_expr_starts d gs left_paren h = record { steps = refl; opens = refl }
maybe_expr_starts d gs (step_sign g) h = record { steps = refl; opens = refl }
maybe_expr_starts d gs nondet_word h = record { steps = refl; opens = refl }
maybe_expr_starts d gs _ h = absurd h

-- where arguments stand
pub maybe_arguments_starts : (d : ℕ) (gs : List Goal) (k : Kind) → StartsExpr k
    → Alike k (maybe_arguments d ∷ gs) (operand d ∷ more d ∷ more_arguments d ∷ gs)
maybe_arguments_starts d gs (a_name x) h = record { steps = refl; opens = refl }
maybe_arguments_starts d gs (a_number n) h = record { steps = refl; opens = refl }
maybe_arguments_starts d gs (infix_sign plus_op) h = record { steps = refl; opens = refl }
maybe_arguments_starts d gs (infix_sign minus_op) h = record { steps = refl; opens = refl }
maybe_arguments_starts d gs bang h = record { steps = refl; opens = refl }
maybe_arguments_starts d gs left_paren h = record { steps = refl; opens = refl }
maybe_arguments_starts d gs (step_sign g) h = record { steps = refl; opens = refl }
maybe_arguments_starts d gs nondet_word h = record { steps = refl; opens = refl }
maybe_arguments_starts d gs _ h = absurd h

-- where a value stands that is an expression
pub maybe_values_starts : (d : ℕ) (gs : List Goal) (k : Kind) → StartsExpr k
    → Alike k (maybe_values d ∷ gs) (operand d ∷ more d ∷ more_values d ∷ gs)
maybe_values_starts d gs (a_name x) h = record { steps = refl; opens = refl }
maybe_values_starts d gs (a_number n) h = record { steps = refl; opens = refl }
maybe_values_starts d gs (infix_sign plus_op) h = record { steps = refl; opens = refl }
maybe_values_starts d gs (infix_sign minus_op) h = record { steps = refl; opens = refl }
maybe_values_starts d gs bang h = record { steps = refl; opens = refl }
maybe_values_starts d gs left_paren h = record { steps = refl; opens = refl }
maybe_values_starts d gs (step_sign g) h = record { steps = refl; opens = refl }
maybe_values_starts d gs nondet_word h = record { steps = refl; opens = refl }
maybe_values_starts d gs _ h = absurd h

-- where changes stand
pub maybe_changes_starts : (d : ℕ) (gs : List Goal) (k : Kind) → StartsUpdate k
    → Alike k (maybe_changes d ∷ gs) (changing d ∷ more_changes d ∷ gs)
maybe_changes_starts d gs (a_name x) h = record { steps = refl; opens = refl }
maybe_changes_starts d gs (step_sign g) h = record { steps = refl; opens = refl }
maybe_changes_starts d gs _ h = absurd h

-- where changes stand first in a `for`'s head
pub header_first_starts : (d : ℕ) (gs : List Goal) (k : Kind) → StartsUpdate k
    → Alike k (header_first d ∷ gs) (changing d ∷ more_changes d ∷ gs)
header_first_starts d gs (a_name x) h = record { steps = refl; opens = refl }
header_first_starts d gs (step_sign g) h = record { steps = refl; opens = refl }
header_first_starts d gs _ h = absurd h

-- the kinds of token that stand behind a name at the begin of a change
abbrev pub InUpdate : Kind → Type 0
InUpdate left_bracket = Unit {0}
InUpdate (change_sign g) = Unit {0}
InUpdate (step_sign g) = Unit {0}
InUpdate _ = ⊥

-- a change that is a statement
pub after_name_starts : (p : Site) (d : ℕ) (gs : List Goal) (k : Kind) → InUpdate k
    → Alike k (after_name p d ∷ gs) (indexing d ∷ effect d ∷ only statement_end ∷ gs)
after_name_starts p d gs left_bracket h = record { steps = refl; opens = refl }
after_name_starts p d gs (change_sign g) h = record { steps = refl; opens = refl }
after_name_starts p d gs (step_sign g) h = record { steps = refl; opens = refl }
after_name_starts p d gs _ h = absurd h

-- the token is `[`
abbrev pub IsBracket : Kind → Type 0
IsBracket left_bracket = Unit {0}
IsBracket _ = ⊥

-- an element
pub named_starts : (d : ℕ) (gs : List Goal) (k : Kind) → IsBracket k → Alike k (named d ∷ gs) (indexing d ∷ gs)
named_starts d gs left_bracket h = record { steps = refl; opens = refl }
named_starts d gs _ h = absurd h

-- a declared array
pub initialising_starts : (d : ℕ) (gs : List Goal) (k : Kind) → IsBracket k → Alike k (initialising d ∷ gs) (sizing d ∷ gs)
initialising_starts d gs left_bracket h = record { steps = refl; opens = refl }
initialising_starts d gs _ h = absurd h

-- the brackets of an element begin with `[`
pub subscripts_first : (is : Subscripts) (w : List Token) → First IsBracket (spell_subscripts is ++ w)
subscripts_first (last_subscript a e b) w = tt
subscripts_first (next_subscript a e b is) w = tt

-- so do those of a declared array
pub sizes_first : (ss : Sizes) (w : List Token) → First IsBracket (spell_sizes ss ++ w)
sizes_first (last_size a s b) w = tt
sizes_first (next_size a s b ss) w = tt

-- the kinds of token with which a parameter begins
abbrev pub StartsParameter : Kind → Type 0
StartsParameter int_word = Unit {0}
StartsParameter const_word = Unit {0}
StartsParameter _ = ⊥

-- a parameter begins with one of these
pub parameter_first : (p : Parameter) (w : List Token) → First StartsParameter (spell_parameter p ++ w)
parameter_first (number_parameter (plain_int i) x a) w = tt
parameter_first (number_parameter (const_int i j) x a) w = tt
parameter_first (pointer_parameter (plain_int i) a x b) w = tt
parameter_first (pointer_parameter (const_int i j) a x b) w = tt
parameter_first (array_parameter (plain_int i) x a bs) w = tt
parameter_first (array_parameter (const_int i j) x a bs) w = tt

-- an expression begins with a token with which one may begin
pub expr_first : (e : Expr) (w : List Token) → First StartsExpr (spell_expr e ++ w)
expr_first (prefixed negative a e) w = tt
expr_first (prefixed positive a e) w = tt
expr_first (prefixed negation a e) w = tt
expr_first (joined e o a f) w = rw append_assoc (expr_first e _)
expr_first (chosen c a e b f) w = rw append_assoc (expr_first c _)
expr_first _ w = tt

-- ---- what meets what
-- after an argument
pub arguments_meet : (es : MoreArguments) → Meets AfterExpr AfterList (spell_more_arguments es)
arguments_meet last_argument = list_expr
arguments_meet (next_argument a e es) = tt

-- after a value
pub values_meet : (vs : MoreValues) → Meets AfterExpr AfterValues (spell_more_values vs)
values_meet last_value = values_expr
values_meet (last_comma a) = tt
values_meet (next_value a v vs) = tt

-- after a change
pub updates_meet : (us : MoreUpdates) → Meets AfterPart AfterList (spell_more_updates us)
updates_meet last_update = list_part
updates_meet (next_update a u us) = tt

-- after a declarator
pub declarators_meet : (xs : MoreDeclarators) → Meets AfterPart AfterList (spell_more_declarators xs)
declarators_meet last_declarator = list_part
declarators_meet (next_declarator a x xs) = tt

-- what is no `else` may follow any statement
pub any_after : (x : Ending) (k : Kind) → NotElse k → AfterCore x k
any_after shut k h = tt
any_after waiting k h = h

-- no statement begins with `else`
pub core_first : (c : Core) (w : List Token) → First NotElse (spell_core c ++ w)
core_first (updates (update (place x a i) f) c) w = refl
core_first (updates (step_before g a p) c) w = refl
core_first _ w = refl

-- tokens of one kind are some of these, where all of that kind are
pub first_of : (follow later : Kind → Type 0) (ts : List Token) → ((k : Kind) → later k → follow k) → First later ts
    → (less : Kind → Type 0) → Meets follow less ts
first_of follow later [] h m less = absurd m
first_of follow later (token k a ∷ ts) h m less = h k m

-- after a statement among others
pub items_meet : (x : Ending) (is : Items) → Meets (AfterCore x) NotElse (spell_items is)
items_meet x no_items = any_after x
items_meet x (label y b c is) = any_after x (a_name y) refl
items_meet x (declaration (plain_int a) xs b is) = any_after x int_word refl
items_meet x (declaration (const_int a b) xs c is) = any_after x const_word refl
items_meet x (item c is) = first_of (AfterCore x) NotElse _ (any_after x) (core_first c (spell_items is)) NotElse
