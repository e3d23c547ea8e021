-- The walk token by token, with a stack of what is pending.
use Rattle.std.specs.Prelude.{if◌then◌else◌, nat_lt, Bool, true, false, ℕ, pos, List, [], ◌∷◌, length, Option, Some, None, Result, Ok}
use Rattle.lang_grammar.specs.Grammar.{Op, or_op, and_op, compare_op, plus_op, minus_op, times_op, level, Prefix, negative, positive}
use Rattle.lang_grammar.specs.Grammar.{negation, Change, Direction, Demand}
use Rattle.lang_grammar.specs.Grammar.{Kind, a_name, a_number, infix_sign, bang, left_paren, right_paren, left_brace, right_brace, comma}
use Rattle.lang_grammar.specs.Grammar.{semicolon, colon}
use Rattle.lang_grammar.specs.Grammar.{change_sign, step_sign, int_word, if_word, else_word, while_word, do_word, for_word, jump_word}
use Rattle.lang_grammar.specs.Grammar.{return_word, demand_word, nondet_word, Token, token}
use Rattle.lang_tree.specs.declared.change.Change as tree_change
use Rattle.lang_tree.specs.declared.change.Change.TheVariants as change
use Rattle.lang_tree.specs.Tree as tree
use Rattle.lang_tree.specs.Tree.{Condition, Statement, Statements, nil, cons, leaf_count}
use Rattle.lang_meaning.specs.declared.fault.ParseFault.{ParseFault}
use Rattle.lang_meaning.specs.Results.{◌>>=◌}
use Rattle.lang_meaning.specs.Forms.{constant_form, variable_form}
use Rattle.lang_meaning.specs.Walk.{Value, a_form, a_truth, a_nondet, two_conditions, State, start_state, followed_by, one, counted}
use Rattle.lang_meaning.specs.Walk.{labelled_by, known_number}
use Rattle.lang_meaning.specs.Walk.{combined, prefix_value, ranged, regarded, tested, right_side, assignment, assigned, always, jump_kind}
use Rattle.lang_meaning.specs.Walk.{jumped, counted_for, demanded, step_node}
use Rattle.lang_meaning.specs.Walk.{declared_by, closed, program_of}

-- what a condition in parentheses belongs to
pub data Test : Type 0 where
  of_if : Test
  of_while : Test
  -- a `do` whose body has these nodes
  of_do : Statements → Test
  of_demand : Demand → Test

-- what statements belong to
pub data Within : Type 0 where
  -- items; so many names were known at their beginning
  of_items : ℕ → Within
  -- the first branch of an `if`, and its second one with the nodes of the first; the place is that of the `if`
  of_branch : Condition → ℕ → Within
  of_other : Condition → Statements → ℕ → Within
  -- the body of a `while`, and of a `do`
  of_loop : Condition → ℕ → Within
  of_body : ℕ → Within
  -- the body of a `for`: so many names were known before it; its place; the nodes of its first part, its condition and its change
  of_for : ℕ → ℕ → Statements → Condition → tree_change.Change → Within

-- what is pending
pub data Frame : Type 0 where
  -- a left side with its sign
  side : Value → Op → ℕ → Frame
  -- a sign before
  before : Prefix → ℕ → Frame
  -- a parenthesis
  group : ℕ → Frame
  -- the condition of a statement
  test : Test → ℕ → Frame
  -- an assignment: its variable, its sign and the sign's place, and the statement's place
  assigns : ℕ → Change → ℕ → ℕ → Frame
  -- a declarator with its place, and the place of `=`
  initial : List ℕ → ℕ → ℕ → Frame
  -- the head of a `for`, behind its first part and behind its condition
  header : ℕ → ℕ → Statements → Frame
  header_tested : ℕ → ℕ → Statements → Condition → Frame
  -- statements, with the nodes so far
  under : Within → Statements → Frame

-- what is read next
pub data Mode : Type 0 where
  -- the head of `main`
  heading : Mode
  -- a statement, or the end of items
  stands : Mode
  -- what follows a name at the beginning of a statement
  named : List ℕ → ℕ → Mode
  -- an operand, what follows a value, or the parentheses of `nondet()`
  wants : Mode
  has : Value → Mode
  calls : ℕ → Mode
  closes : ℕ → Mode
  -- the parenthesis of a condition
  opens : Test → ℕ → Mode
  -- the parenthesis of a `for`, and the parts of its head
  heads : ℕ → Mode
  first_part : Mode
  test_part : Mode
  last_part : Mode
  -- the name behind `++` or `--`
  stepping : Direction → ℕ → Mode
  -- the `;` of a statement with these nodes
  ends : Statements → Mode
  -- what follows a statement with these nodes
  after : Statements → Mode
  -- a name that is declared, and what follows it
  declares : Mode
  declared : List ℕ → ℕ → Mode
  -- the rest of `return`
  returning : Mode

pub data Machine : Type 0 where
  at : State → List Frame → Mode → Machine

-- the word that goes on with an `if`
abbrev pub is_else : Kind → Bool
is_else else_word = true
is_else k = false

abbrev pub Outcome : Type 0
Outcome = Result Machine ParseFault

abbrev pub prefix_of : Op → Option Prefix
prefix_of plus_op = Some positive
prefix_of minus_op = Some negative
prefix_of times_op = None
prefix_of or_op = None
prefix_of and_op = None
prefix_of (compare_op r) = None

-- two conditions joined; with more than 64 leaves, where the statement will be refused, the first one stays as it is
abbrev pub grown : (Condition → Condition → Condition) → Condition → Condition → Condition
grown join c d = if nat_lt 64 (leaf_count c) then c else join c d

-- what a sign makes of its sides, conditions kept small
abbrev pub combined_small : Op → ℕ → Value → Value → Result Value ParseFault
combined_small or_op a v w = two_conditions v w >>= λ p. Ok (a_truth (grown tree.either p.0 p.1))
combined_small and_op a v w = two_conditions v w >>= λ p. Ok (a_truth (grown tree.both p.0 p.1))
combined_small o a v w = combined o a v w

-- the signs before a whole operand are applied
abbrev pub complete : List Frame → Value → Result (List Frame × Value) ParseFault
complete (before p a ∷ fs) v = prefix_value p a v >>= λ u. complete fs u
complete [] v = Ok ([], v)
complete (side u o a ∷ fs) v = Ok (side u o a ∷ fs, v)
complete (group a ∷ fs) v = Ok (group a ∷ fs, v)
complete (test t a ∷ fs) v = Ok (test t a ∷ fs, v)
complete (assigns i g b a ∷ fs) v = Ok (assigns i g b a ∷ fs, v)
complete (initial x a b ∷ fs) v = Ok (initial x a b ∷ fs, v)
complete (header k a ns ∷ fs) v = Ok (header k a ns ∷ fs, v)
complete (header_tested k a ns c ∷ fs) v = Ok (header_tested k a ns c ∷ fs, v)
complete (under w ns ∷ fs) v = Ok (under w ns ∷ fs, v)

-- the left sides whose sign holds at least as tightly as the next one are joined
abbrev pub join_tighter : ℕ → List Frame → Value → Result (List Frame × Value) ParseFault
join_tighter l (side u o a ∷ fs) v = elim (nat_lt (level o) l) [
  | true ↦ Ok (side u o a ∷ fs, v)
  | false ↦ combined_small o a u v
      >>= λ x. join_tighter l fs x
]
join_tighter l [] v = Ok ([], v)
join_tighter l (before p a ∷ fs) v = Ok (before p a ∷ fs, v)
join_tighter l (group a ∷ fs) v = Ok (group a ∷ fs, v)
join_tighter l (test t a ∷ fs) v = Ok (test t a ∷ fs, v)
join_tighter l (assigns i g b a ∷ fs) v = Ok (assigns i g b a ∷ fs, v)
join_tighter l (initial x a b ∷ fs) v = Ok (initial x a b ∷ fs, v)
join_tighter l (header k a ns ∷ fs) v = Ok (header k a ns ∷ fs, v)
join_tighter l (header_tested k a ns c ∷ fs) v = Ok (header_tested k a ns c ∷ fs, v)
join_tighter l (under w ns ∷ fs) v = Ok (under w ns ∷ fs, v)

-- a node that stands behind those so far
abbrev pub pushed : Statement → List Frame → List Frame
pushed n (under w ns ∷ fs) = under w (followed_by ns (one n)) ∷ fs
pushed n (header k a ns ∷ fs) = header k a (followed_by ns (one n)) ∷ fs
pushed n fs = fs

-- the statement whose last part has these nodes
abbrev pub wrapped : (ℕ → ℕ) → Within → Statements → Statements
wrapped line (of_items k) ns = ns
wrapped line (of_branch c a) ns = one (tree.branch c ns nil (line a))
wrapped line (of_other c first a) ns = one (tree.branch c first ns (line a))
wrapped line (of_loop c a) ns = one (tree.loop (tree.while_loop []) c ns (line a))
wrapped line (of_body a) ns = ns
wrapped line (of_for k a bs c g) ns = followed_by bs (one (tree.loop (tree.for_loop [] (tree.change_deeds g)) c ns (line a)))

-- the body of a loop
abbrev pub is_body : Frame → Bool
is_body (under (of_loop c a) ns) = true
is_body (under (of_body a) ns) = true
is_body (under (of_for k a bs c g) ns) = true
is_body f = false

-- whether this stands in a loop's body
abbrev pub is_inside : List Frame → Bool
is_inside [] = false
is_inside (f ∷ fs) = if is_body f then true else is_inside fs

-- a statement with these nodes has ended, and with it all that ends where no `else` follows; with a `for` its names
abbrev pub close : (ℕ → ℕ) → State → Statements → List Frame → State × List Frame
close line st ms (under (of_items k) ns ∷ fs) = (st, under (of_items k) (followed_by ns ms) ∷ fs)
close line st ms (under (of_body a) ns ∷ fs) = (st, under (of_body a) (followed_by ns ms) ∷ fs)
close line st ms (under (of_branch c a) ns ∷ fs) = close line st (wrapped line (of_branch c a) (followed_by ns ms)) fs
close line st ms (under (of_other c first a) ns ∷ fs) = close line st (wrapped line (of_other c first a) (followed_by ns ms)) fs
close line st ms (under (of_loop c a) ns ∷ fs) = close line st (wrapped line (of_loop c a) (followed_by ns ms)) fs
close line st ms (under (of_for k a bs c g) ns ∷ fs) = close line (closed k st) (wrapped line (of_for k a bs c g) (followed_by ns ms)) fs
close line st ms [] = (st, under (of_items 0) ms ∷ [])
close line st ms (side u o a ∷ fs) = (st, fs)
close line st ms (before p a ∷ fs) = (st, fs)
close line st ms (group a ∷ fs) = (st, fs)
close line st ms (test t a ∷ fs) = (st, fs)
close line st ms (assigns i g b a ∷ fs) = (st, fs)
close line st ms (initial x a b ∷ fs) = (st, fs)
close line st ms (header k a ns ∷ fs) = (st, fs)
close line st ms (header_tested k a ns c ∷ fs) = (st, fs)

-- a statement with these nodes has ended, and an `else` follows: it belongs to the nearest `if` that has none
abbrev pub attach : (ℕ → ℕ) → State → Statements → List Frame → State × List Frame
attach line st ms (under (of_items k) ns ∷ fs) = (st, fs)
attach line st ms (under (of_body a) ns ∷ fs) = (st, fs)
attach line st ms (under (of_branch c a) ns ∷ fs) = (st, under (of_other c (followed_by ns ms) a) nil ∷ fs)
attach line st ms (under (of_other c first a) ns ∷ fs) = attach line st (wrapped line (of_other c first a) (followed_by ns ms)) fs
attach line st ms (under (of_loop c a) ns ∷ fs) = attach line st (wrapped line (of_loop c a) (followed_by ns ms)) fs
attach line st ms (under (of_for k a bs c g) ns ∷ fs) = attach line (closed k st) (wrapped line (of_for k a bs c g) (followed_by ns ms)) fs
attach line st ms [] = (st, [])
attach line st ms (side u o a ∷ fs) = (st, fs)
attach line st ms (before p a ∷ fs) = (st, fs)
attach line st ms (group a ∷ fs) = (st, fs)
attach line st ms (test t a ∷ fs) = (st, fs)
attach line st ms (assigns i g b a ∷ fs) = (st, fs)
attach line st ms (initial x a b ∷ fs) = (st, fs)
attach line st ms (header k a ns ∷ fs) = (st, fs)
attach line st ms (header_tested k a ns c ∷ fs) = (st, fs)

-- the change that these nodes are
abbrev pub change_in : Statements → tree_change.Change
change_in (cons (tree.set i f l) ns) = change.Set i f l
change_in (cons (tree.havoc i l) ns) = change.Havoc i l
change_in ns = change.Unchanged

-- a statement without statements in it has ended, or the first part or the change of a `for`
abbrev pub settled : State → List Frame → Statements → Machine
settled st (header k a ns ∷ fs) ms = at st (header k a (followed_by ns ms) ∷ fs) test_part
settled st (header_tested k a ns c ∷ fs) ms = at st (under (of_for k a ns c (change_in ms)) nil ∷ fs) stands
settled st fs ms = at st fs (after ms)

-- what follows a declaration
abbrev pub next_mode : List Frame → Mode
next_mode (header k a ns ∷ fs) = test_part
next_mode fs = stands

-- a `while` behind a statement: the end of a `do`, or a loop
abbrev pub while_behind : State × List Frame → ℕ → Machine
while_behind (st, under (of_body b) ns ∷ fs) a = at st fs (opens (of_do ns) b)
while_behind (st, fs) a = at st fs (opens of_while a)

-- a value is there
abbrev pub given : State → List Frame × Value → Machine
given st r = at st r.0 (has r.1)

-- a sign, a parenthesis or `nondet` where an operand has to stand
abbrev pub signed : List Frame → Kind → ℕ → List Frame × Mode
signed fs (infix_sign o) a = elim (prefix_of o) [ Some p ↦ (before p a ∷ fs, wants) | None ↦ (fs, wants) ]
signed fs bang a = (before negation a ∷ fs, wants)
signed fs left_paren a = (group a ∷ fs, wants)
signed fs nondet_word a = (fs, calls a)
signed fs _ a = (fs, wants)

-- the end of items
abbrev pub items_end : State → List Frame → Machine
items_end st (under (of_items k) ns ∷ fs) = at (closed k st) fs (after ns)
items_end st fs = at st fs stands

-- the condition of a `for` is there
abbrev pub headed : State → List Frame → Condition → Outcome
headed st (header k a ns ∷ fs) c = counted a st >>= λ now. Ok (at now (header_tested k a ns c ∷ fs) last_part)
headed st fs c = Ok (at st fs last_part)

-- the name that a declarator begins with
abbrev pub a_declarator : Kind → ℕ → Mode
a_declarator (a_name x) a = declared x a
a_declarator _ a = declares

-- the head of `main`, up to its `{`
abbrev pub in_heading : List Frame → Kind → List Frame × Mode
in_heading fs left_brace = (under (of_items 0) nil ∷ fs, stands)
in_heading fs _ = (fs, heading)

-- the rest of `return`, up to the `}` of `main`
abbrev pub in_return : State → List Frame → Kind → Machine
in_return st fs right_brace = items_end st fs
in_return st fs _ = at st fs returning

module _ (line : ℕ → ℕ) (width : ℕ) where
  abbrev pub wanted : State → List Frame → Kind → ℕ → Outcome
  wanted st fs (a_number n) a = ranged a (constant_form width (pos n)) >>= λ f. complete fs (a_form f a) >>= λ r. Ok (given st r)
  wanted st fs (a_name x) a = known_number x a st >>= λ i. complete fs (a_form (variable_form width i (pos 0)) a) >>= λ r. Ok (given st r)
  wanted st fs k a = Ok (at st (signed fs k a).0 (signed fs k a).1)

  -- the condition of a statement is there
  abbrev pub decided : Test → ℕ → State → List Frame → Condition → Outcome
  decided of_if a st fs c = counted a st >>= λ now. Ok (at now (under (of_branch c a) nil ∷ fs) stands)
  decided of_while a st fs c = counted a st >>= λ now. Ok (at now (under (of_loop c a) nil ∷ fs) stands)
  decided (of_do ns) a st fs c = Ok (at st fs (ends (one (tree.loop (tree.do_loop []) c ns (line a)))))
  decided (of_demand k) a st fs c = Ok (at st fs (ends (demanded line k a c)))

  -- behind a whole expression
  abbrev pub after_paren : State → List Frame × Value → Outcome
  after_paren st (group a ∷ fs, v) = complete fs (regarded a v) >>= λ r. Ok (given st r)
  after_paren st (test t a ∷ fs, v) = tested a v >>= λ c. decided t a st fs c
  after_paren st (assigns i g b a ∷ fs, v) = assigned width g i b v >>= λ o. Ok (settled st fs (one (assignment i o (line a))))
  after_paren st (fs, v) = Ok (at st fs (has v))

  abbrev pub after_semicolon : State → List Frame × Value → Outcome
  after_semicolon st (assigns i g b a ∷ fs, v) = assigned width g i b v >>= λ o. Ok (settled st fs (one (assignment i o (line a))))
  after_semicolon st (initial x a b ∷ fs, v) = right_side b v >>= λ o. declared_by line x a o st
      >>= λ r. Ok (at r.0 (pushed r.1 fs) (next_mode fs))
  after_semicolon st (header k a ns ∷ fs, v) = tested a v >>= λ c. headed st (header k a ns ∷ fs) c
  after_semicolon st (fs, v) = Ok (at st fs (has v))

  abbrev pub after_comma : State → List Frame × Value → Outcome
  after_comma st (initial x a b ∷ fs, v) = right_side b v >>= λ o. declared_by line x a o st >>= λ r. Ok (at r.0 (pushed r.1 fs) declares)
  after_comma st (fs, v) = Ok (at st fs (has v))

  abbrev pub followed : State → List Frame → Value → Kind → ℕ → Outcome
  followed st fs v (infix_sign o) a = join_tighter (level o) fs v >>= λ r. Ok (at st (side r.1 o a ∷ r.0) wants)
  followed st fs v right_paren a = join_tighter 0 fs v >>= λ r. after_paren st r
  followed st fs v semicolon a = join_tighter 0 fs v >>= λ r. after_semicolon st r
  followed st fs v comma a = join_tighter 0 fs v >>= λ r. after_comma st r
  followed st fs v _ a = Ok (at st fs (has v))

  -- the first token of a statement, or what follows items
  abbrev pub begun : State → List Frame → Kind → ℕ → Outcome
  begun st fs (a_name x) a = Ok (at st fs (named x a))
  begun st fs semicolon a = Ok (at st fs (after nil))
  begun st fs left_brace a = Ok (at st (under (of_items (length st.known)) nil ∷ fs) stands)
  begun st fs right_brace a = Ok (items_end st fs)
  begun st fs int_word a = Ok (at st fs declares)
  begun st fs return_word a = Ok (at st fs returning)
  begun st fs if_word a = Ok (at st fs (opens of_if a))
  begun st fs while_word a = Ok (at st fs (opens of_while a))
  begun st fs do_word a = counted a st >>= λ now. Ok (at now (under (of_body a) nil ∷ fs) stands)
  begun st fs for_word a = Ok (at st fs (heads a))
  begun st fs (jump_word j) a = jumped (is_inside fs) a st >>= λ now. Ok (at now fs (ends (one (tree.jump (jump_kind j) (line a)))))
  begun st fs (demand_word k) a = counted_for k a st >>= λ now. Ok (at now fs (opens (of_demand k) a))
  begun st fs (step_sign g) a = counted a st >>= λ now. Ok (at now fs (stepping g a))
  begun st fs _ a = Ok (at st fs stands)

  abbrev pub behind_name : State → List Frame → List ℕ → ℕ → Kind → ℕ → Outcome
  behind_name st fs x b colon a = labelled_by x b st >>= λ now. Ok (at now (pushed (tree.label x (line b)) fs) stands)
  behind_name st fs x b (change_sign g) a = known_number x b st >>= λ i. counted b st >>= λ now. Ok (at now (assigns i g a b ∷ fs) wants)
  behind_name st fs x b (step_sign g) a = known_number x b st >>= λ i. counted b st
      >>= λ now. Ok (at now fs (ends (step_node line width g i b)))
  behind_name st fs x b _ a = Ok (at st fs stands)

  abbrev pub behind_step : State → List Frame → Direction → ℕ → Kind → ℕ → Outcome
  behind_step st fs g b (a_name x) a = known_number x a st >>= λ i. Ok (at st fs (ends (step_node line width g i b)))
  behind_step st fs g b _ a = Ok (at st fs stands)

  -- the first token behind a statement, where it is no `else`
  abbrev pub behind_closed : State × List Frame → Kind → ℕ → Outcome
  behind_closed r while_word a = Ok (while_behind r a)
  behind_closed r k a = begun r.0 r.1 k a

  abbrev pub behind_statement : State → List Frame → Statements → Kind → ℕ → Outcome
  behind_statement st fs ms else_word a = Ok (at (attach line st ms fs).0 (attach line st ms fs).1 stands)
  behind_statement st fs ms k a = behind_closed (close line st ms fs) k a

  -- the parts of the head of a `for`
  abbrev pub in_first : State → List Frame → Kind → ℕ → Outcome
  in_first st fs semicolon a = Ok (at st fs test_part)
  in_first st fs k a = begun st fs k a

  abbrev pub in_test : State → List Frame → Kind → ℕ → Outcome
  in_test st fs semicolon a = headed st fs (always width)
  in_test st fs k a = wanted st fs k a

  abbrev pub in_last : State → List Frame → Kind → ℕ → Outcome
  in_last st fs right_paren a = Ok (settled st fs nil)
  in_last st fs k a = begun st fs k a

  abbrev pub behind_declarator : State → List Frame → List ℕ → ℕ → Kind → ℕ → Outcome
  behind_declarator st fs x b (change_sign g) a = Ok (at st (initial x b a ∷ fs) wants)
  behind_declarator st fs x b comma a = declared_by line x b None st >>= λ r. Ok (at r.0 (pushed r.1 fs) declares)
  behind_declarator st fs x b semicolon a = declared_by line x b None st >>= λ r. Ok (at r.0 (pushed r.1 fs) (next_mode fs))
  behind_declarator st fs x b _ a = Ok (at st fs stands)

  abbrev pub in_mode : Mode → State → List Frame → Kind → ℕ → Outcome
  in_mode heading st fs k a = Ok (at st (in_heading fs k).0 (in_heading fs k).1)
  in_mode stands st fs k a = begun st fs k a
  in_mode (named x b) st fs k a = behind_name st fs x b k a
  in_mode wants st fs k a = wanted st fs k a
  in_mode (has v) st fs k a = followed st fs v k a
  in_mode (calls b) st fs k a = Ok (at st fs (closes b))
  in_mode (closes b) st fs k a = complete fs (a_nondet b) >>= λ r. Ok (given st r)
  in_mode (opens t b) st fs k a = Ok (at st (test t b ∷ fs) wants)
  in_mode (stepping g b) st fs k a = behind_step st fs g b k a
  in_mode (heads b) st fs k a = Ok (at st (header (length st.known) b nil ∷ fs) first_part)
  in_mode first_part st fs k a = in_first st fs k a
  in_mode test_part st fs k a = in_test st fs k a
  in_mode last_part st fs k a = in_last st fs k a
  in_mode (ends ms) st fs k a = Ok (settled st fs ms)
  in_mode (after ms) st fs k a = behind_statement st fs ms k a
  in_mode declares st fs k a = Ok (at st fs (a_declarator k a))
  in_mode (declared x b) st fs k a = behind_declarator st fs x b k a
  in_mode returning st fs k a = Ok (in_return st fs k)

  -- one token
  abbrev pub feed_one : Machine → Token → Outcome
  feed_one (at st fs m) (token k a) = in_mode m st fs k a

  -- a loop over the tokens
  abbrev pub feed : List Token → Machine → Outcome
  feed [] s = Ok s
  feed (t ∷ ts) s = feed_one s t >>= λ r. feed ts r

-- before the first token
abbrev pub begin : Machine
begin = at start_state [] heading

-- the nodes of the whole text
abbrev pub nodes_under : List Frame → Statements
nodes_under (under (of_items k) ns ∷ fs) = ns
nodes_under fs = nil

abbrev pub result_of : Machine → Result (List (List ℕ) × Statements) ParseFault
result_of (at st fs m) = program_of (st, nodes_under fs)

-- what the loop over all tokens gives
abbrev pub reading : (ℕ → ℕ) → ℕ → List Token → Result (List (List ℕ) × Statements) ParseFault
reading line width ts = feed line width ts begin >>= λ s. result_of s
