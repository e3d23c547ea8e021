-- What the statements of a function are with their names resolved, or their first fault, in order of the text.
use Rattle.std.specs.Prelude.{ℕ, pos, ◌+◌, ◌∷◌, Bool, true, List, [], length, Result, Ok, Err, codes}
use Rattle.std.specs.Prelude.{if◌then◌else◌, ◌||◌}
use Rattle.std.specs.List.{list_any}
use Rattle.std.specs.Str.{bytes_eq}
use Rattle.lang_tree.specs.declared.cond.Rel.TheVariants.{Le}
use Rattle.lang_tree.specs.Tree.{breaks, continues, returns, nodes_in}
use Rattle.source_grammar.specs.Tokens as g
use Rattle.source_grammar.specs.Tokens.{Name, Jump, Demand}
use Rattle.source_grammar.specs.Grammar.{Expr, Arguments, Optional, absent, present, Update, MoreUpdates, last_update, next_update, Updates}
use Rattle.source_grammar.specs.Grammar.{no_updates, some_updates, bare, given, sized, filled, Declarator, declarator, MoreDeclarators}
use Rattle.source_grammar.specs.Grammar.{last_declarator, next_declarator, Declarators, ForFirst, declared_first, updated_first}
use Rattle.source_grammar.specs.Grammar.{Core, Sub, Items, empty, block, if_alone, if_else, repeat, repeat_after, repeat_for, jumps}
use Rattle.source_grammar.specs.Grammar.{demands}
use Rattle.source_grammar.specs.Grammar.{calls, updates, labelled, plain, no_items, item, spell_expr, spell_declarator}
use Rattle.source_grammar.specs.Grammar as tree
use Rattle.source_tree.specs.Expressions.{Expression, number, compared, none, more}
use Rattle.source_tree.specs.Statements.{Change, sets, evaluates, while_loop, for_loop, do_loop, Statement, Statements, declares, changes}
use Rattle.source_tree.specs.Statements.{assumes, asserts, never, branch, loop, jump, label, nil, cons}
use Rattle.source_core.specs.Elaborated.{Tested}
use Rattle.source_core.specs.Core.{taken_any, change_deeds, condition_of, core_in, core_of}
use Rattle.source_meaning.specs.declared.fault.FunctionFault.{FunctionFault}
use Rattle.source_meaning.specs.declared.fault.FunctionFault.TheVariants.{NameTwice, OutsideLoop}
use Rattle.source_meaning.specs.Results.{◌>>=◌, provided}
use Rattle.source_meaning.specs.Names.{State, with_variable, declared_number, fresh_array, with_array, closed, thing_of, as_called}
use Rattle.source_meaning.specs.Names.{among}
use Rattle.source_meaning.specs.Arrays.{read_sizes}
use Rattle.source_meaning.specs.Limits.{limited, counted}
use Rattle.source_meaning.specs.Expressions.{read, read_arguments, read_values, as_condition, first_of}
use Rattle.source_meaning.specs.Changes.{few, read_update}
use Rattle.base_integers.specs.declared.integers.Integers.{Integers}

-- statements in order and then others
abbrev pub followed_by : Statements → Statements → Statements
followed_by nil rest = rest
followed_by (cons s ss) rest = cons s (followed_by ss rest)

-- one statement
abbrev pub one : Statement → Statements
one s = cons s nil

-- changes as statements
abbrev pub as_statements : List Change → Statements
as_statements [] = nil
as_statements (g ∷ gs) = cons (changes g) (as_statements gs)

-- the condition of a `for` without one: 0 is at most 0
abbrev pub always : (at : ℕ) → Expression
always at = compared Le at (number (pos 0) at) (number (pos 0) at)

-- calls that end the run
abbrev pub is_end : List ℕ → Bool
is_end x = bytes_eq x (codes "abort") || bytes_eq x (codes "exit")

-- calls that are a place not to be reached
abbrev pub is_error : List ℕ → Bool
is_error x = bytes_eq x (codes "reach_error") || bytes_eq x (codes "__VERIFIER_error")

-- a label that has not been met
abbrev pub new_label : Name → (at : ℕ) → State → Result State FunctionFault
new_label x at st = if list_any (λ y. bytes_eq x.text y) st.labels then Err (NameTwice at)
    else counted at 1 (record st { labels = x.text ∷ st.labels })

-- a `break` or a `continue` stands in a loop's body
abbrev pub jumped : (inside : Bool) → (at : ℕ) → State → Result State FunctionFault
jumped inside at st = provided inside (OutsideLoop at) st >>= λ st. counted at 1 st

-- a `break` or a `continue`
abbrev pub jump_of : Jump → (line : ℕ) → Statement
jump_of g.breaks line = jump breaks line
jump_of g.continues line = jump continues line

-- an assumption or an assertion
abbrev pub demand_of : Demand → Expression → (at line : ℕ) → Statement
demand_of g.assumes e at line = assumes e line
demand_of g.asserts e at line = asserts e at line

-- what a call as a statement does behind its arguments
abbrev pub call_of : Name → (at line : ℕ) → Statements
call_of x at line = if is_error x.text then cons (never at line) (one (jump returns line))
    else (if is_end x.text then one (jump returns line) else nil)

module _ (integers : Integers) (line : ℕ → ℕ) (n : ℕ) where
  -- a condition of the statement that begins at this place, its limits told behind its faults
  abbrev pub read_condition : State → (at : ℕ) → Expr → Result Expression FunctionFault
  read_condition st at e =
      read integers (line at) (among (spell_expr e) st) e n >>= λ x. as_condition integers (line at) (first_of e) n x
      >>= λ x. (let t : Tested = condition_of integers n (line at) x in limited n at t.next t.prelude (t.condition ∷ []) x)

  -- how many statements the prelude of a condition is
  abbrev pub prelude_of : (at : ℕ) → Expression → ℕ
  prelude_of at e = length (condition_of integers n (line at) e).prelude

  -- what is evaluated at this place, its value not used
  abbrev pub read_evaluated : State → (at : ℕ) → Change → Result (State × Statements) FunctionFault
  read_evaluated st at g = few integers n (line at) at g st >>= λ now. counted at (length (change_deeds integers n g)) now
      >>= λ now. Ok (now, one (changes g))

  -- a name that is declared
  abbrev pub read_declarator : State → Declarator → Result (State × Statements) FunctionFault
  read_declarator st (declarator x at bare) =
      with_variable x at st
      >>= λ now. (let i = declared_number now in counted at (length (taken_any integers i (line at))) now
      >>= λ now. Ok (now, one (declares i (line at))))
  read_declarator st (declarator x at (given b e)) =
      read integers (line at) (among (spell_declarator (declarator x at (given b e))) st) e n >>= λ e. with_variable x at st
      >>= λ now. (let g : Change = sets (declared_number now) e (line at) in few integers n (line at) at g now
      >>= λ now. counted at (length (change_deeds integers n g)) now >>= λ now. Ok (now, one (changes g)))
  read_declarator st (declarator x at (sized ss)) =
      fresh_array x at st >>= λ now. read_sizes now ss >>= λ extents. Ok (with_array x extents now, nil)
  read_declarator st (declarator x at (filled ss a b vs c)) =
      fresh_array x at st >>= λ now. read_sizes now ss
      >>= λ extents. read_values integers (line at) (among (spell_declarator (declarator x at (filled ss a b vs c))) now) vs n
      >>= λ es. read_evaluated now at (evaluates es (line at))
      >>= λ r. Ok (with_array x extents r.0, r.1)

  -- the names that are declared behind the first
  abbrev pub read_more_declarators : State → MoreDeclarators → Result (State × Statements) FunctionFault
  read_more_declarators st last_declarator = Ok (st, nil)
  read_more_declarators st (next_declarator a x xs) =
      read_declarator st x >>= λ r. read_more_declarators r.0 xs >>= λ q. Ok (q.0, followed_by r.1 q.1)

  -- names that are declared
  abbrev pub read_declarators : State → Declarators → Result (State × Statements) FunctionFault
  read_declarators st (tree.declares x xs) =
      read_declarator st x >>= λ r. read_more_declarators r.0 xs >>= λ q. Ok (q.0, followed_by r.1 q.1)

  -- changes in order
  abbrev pub read_more_updates : State → MoreUpdates → Result (State × List Change) FunctionFault
  read_more_updates st last_update = Ok (st, [])
  read_more_updates st (next_update a u us) =
      read_update integers line n st u >>= λ r. read_more_updates r.0 us >>= λ q. Ok (q.0, r.1 ∷ q.1)

  -- changes with a comma between them, or none
  abbrev pub read_updates : State → Updates → Result (State × List Change) FunctionFault
  read_updates st no_updates = Ok (st, [])
  read_updates st (some_updates u us) =
      read_update integers line n st u >>= λ r. read_more_updates r.0 us >>= λ q. Ok (q.0, r.1 ∷ q.1)

  -- the first part of a `for`'s head
  abbrev pub read_first : State → ForFirst → Result (State × Statements) FunctionFault
  read_first st (declared_first t xs) = read_declarators st xs
  read_first st (updated_first us) = read_updates st us >>= λ r. Ok (r.0, as_statements r.1)

  -- the condition of the `for` at this place
  abbrev pub read_test : State → (at : ℕ) → Optional → Result Expression FunctionFault
  read_test st at absent = Ok (always at)
  read_test st at (present e) = read_condition st at e

  -- what is returned
  abbrev pub read_returned : State → (at : ℕ) → Optional → Result (State × Statements) FunctionFault
  read_returned st at absent = Ok (st, nil)
  read_returned st at (present e) =
      read integers (line at) (among (spell_expr e) st) e n >>= λ x. read_evaluated st at (evaluates (more x none) (line at))

  abbrev mutual
    -- a statement, and what has been met after it; `inside` says whether it stands in a loop's body
    pub read_core : (inside : Bool) → State → Core → Result (State × Statements) FunctionFault
    read_core inside st (empty a) = Ok (st, nil)
    read_core inside st (block a is b) = read_items inside st is >>= λ r. Ok (closed (length st.names) r.0, r.1)
    read_core inside st (if_alone at b e c s) =
        read_condition st at e >>= λ x. counted at (prelude_of at x + 1) st >>= λ now. read_sub inside now s
        >>= λ r. Ok (r.0, one (branch x r.1 nil (line at)))
    read_core inside st (if_else at b e c s d t) =
        read_condition st at e >>= λ x. counted at (prelude_of at x + 1) st >>= λ now. read_sub inside now s
        >>= λ r. read_sub inside r.0 t >>= λ q. Ok (q.0, one (branch x r.1 q.1 (line at)))
    read_core inside st (repeat at b e c s) =
        read_condition st at e >>= λ x. counted at (prelude_of at x + 1) st >>= λ now. read_sub true now s
        >>= λ r. Ok (r.0, one (loop while_loop x r.1 (line at)))
    read_core inside st (repeat_after at s b c e d i) =
        counted at 1 st >>= λ now. read_sub true now s >>= λ r. read_condition r.0 at e >>= λ x. counted at (prelude_of at x) r.0
        >>= λ now. Ok (now, one (loop do_loop x r.1 (line at)))
    read_core inside st (repeat_for at b f c t d us i s) =
        read_first st f >>= λ r. read_test r.0 at t >>= λ x. counted at (prelude_of at x + 1) r.0 >>= λ now. read_updates now us
        >>= λ u. read_sub true u.0 s
        >>= λ q. Ok (closed (length st.names) q.0, followed_by r.1 (one (loop (for_loop u.1) x q.1 (line at))))
    read_core inside st (jumps j at b) = jumped inside at st >>= λ now. Ok (now, one (jump_of j (line at)))
    read_core inside st (tree.returns at t b) =
        read_returned st at t >>= λ r. counted at 1 r.0 >>= λ now. Ok (now, followed_by r.1 (one (jump returns (line at))))
    read_core inside st (demands k at b e c d) =
        read_condition st at e
        >>= λ x. (let s : Statement = demand_of k x at (line at) in counted at (nodes_in (core_of integers n s)) st
        >>= λ now. Ok (now, one s))
    read_core inside st (calls x at b es c d) =
        as_called at (thing_of x st) es
        >>= λ es. read_arguments integers (line at) (among (spell_expr (tree.call x at b es c)) st) es n
        >>= λ es. read_evaluated st at (evaluates es (line at))
        >>= λ r. (let after : Statements = call_of x at (line at) in counted at (nodes_in (core_in integers n after)) r.0
        >>= λ now. Ok (now, followed_by r.1 after))
    read_core inside st (updates u c) = read_update integers line n st u >>= λ r. Ok (r.0, one (changes r.1))

    -- a statement with its labels
    pub read_sub : (inside : Bool) → State → Sub → Result (State × Statements) FunctionFault
    read_sub inside st (labelled x at b s) = new_label x at st >>= λ now. read_sub inside now s
        >>= λ r. Ok (r.0, cons (label x.text (line at)) r.1)
    read_sub inside st (plain c) = read_core inside st c

    -- the statements of a block
    pub read_items : (inside : Bool) → State → Items → Result (State × Statements) FunctionFault
    read_items inside st no_items = Ok (st, nil)
    read_items inside st (tree.label x at b is) = new_label x at st >>= λ now. read_items inside now is
        >>= λ r. Ok (r.0, cons (label x.text (line at)) r.1)
    read_items inside st (tree.declaration t xs b is) = read_declarators st xs >>= λ r. read_items inside r.0 is
        >>= λ q. Ok (q.0, followed_by r.1 q.1)
    read_items inside st (item c is) = read_core inside st c >>= λ r. read_items inside r.0 is >>= λ q. Ok (q.0, followed_by r.1 q.1)
