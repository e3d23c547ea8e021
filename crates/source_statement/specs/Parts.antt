-- Parts of statements, each with what it may be followed by, and what it is.
use Rattle.std.specs.Prelude.{◌≡◌, ◌+◌, ℕ, Bool, List, ◌∷◌, Result, Ok}
use Rattle.source_grammar.specs.Tokens.{Name, Kind, else_word, Token, token}
use Rattle.source_grammar.specs.Grammar.{Expr, Arguments, Optional, Updates, ForFirst, Sub, Core, Items, GoodSub, GoodCore}
use Rattle.source_grammar.specs.Grammar.{GoodDeclarators, Ending, shut, ending_sub, no_items, item}
use Rattle.source_grammar.specs.Grammar as tree
use Rattle.source_grammar.proofs.grammar.Follow.{NotElse, AfterCore}
use Rattle.source_tree.specs.Expressions.{Expression, Expressions}
use Rattle.source_tree.specs.Statements.{Change, Statements, nil, branch, label}
use Rattle.source_meaning.specs.declared.fault.FunctionFault.{FunctionFault}
use Rattle.source_meaning.specs.Results.{◌>>=◌}
use Rattle.source_meaning.specs.Names.{State, as_called, thing_of}
use Rattle.source_meaning.specs.Limits.{counted}
use Rattle.source_meaning.specs.Expressions.{read_arguments}
use Rattle.source_meaning.specs.Statements.{read_condition, prelude_of, read_sub, read_core, read_declarators, read_first, read_test}
use Rattle.source_meaning.specs.Statements.{read_updates, new_label, one}
use Rattle.source_statement.specs.Onto.{onto_sub}
use Rattle.base_integers.specs.declared.integers.Integers.{Integers}

-- what stands behind an `else`, if there is one
pub data Other : Type 0 where
  no_other : Other
  other : ℕ → Sub → Other

-- how that is spelled before other tokens
abbrev pub onto_other : Other → List Token → List Token
onto_other no_other w = w
onto_other (other d t) w = token else_word d ∷ onto_sub t w

-- it is good behind this statement
abbrev pub GoodOther : Sub → Other → Type 0
GoodOther s no_other = Unit {0}
GoodOther s (other d t) = (ending_sub s ≡ shut) × GoodSub t

-- a token of this kind may follow it
abbrev pub AfterOther : Other → Kind → Type 0
AfterOther no_other k = NotElse k
AfterOther (other d t) k = AfterCore (ending_sub t) k

-- the arguments of the call of this name at this place, in this line over n variables, where the name may be called
abbrev pub read_given : (integers : Integers) (line n : ℕ) → State → Name → (at : ℕ) → Arguments → Result Expressions FunctionFault
read_given integers line n st x at es = as_called at (thing_of x st) es >>= λ es. read_arguments integers line st es n

module _ (integers : Integers) (line : ℕ → ℕ) (n : ℕ) where
  -- what stands behind an `else`, with its names resolved
  abbrev pub read_other : (inside : Bool) → State → Other → Result (State × Statements) FunctionFault
  read_other inside st no_other = Ok (st, nil)
  read_other inside st (other d t) = read_sub integers line n inside st t

  -- an `if`
  abbrev pub read_branch : (inside : Bool) → State → (at : ℕ) → Expr → Sub → Other → Result (State × Statements) FunctionFault
  read_branch inside st at e s o =
      read_condition integers line n st at e >>= λ x. counted at
      (prelude_of integers line n at x + 1) st >>= λ now. read_sub integers line n inside now s
      >>= λ r. read_other inside r.0 o >>= λ q. Ok (q.0, one (branch x r.1 q.1 (line at)))

  -- the head of a `for`: the statements before it, its condition, and its changes
  abbrev pub read_head : State → (at : ℕ) → ForFirst → Optional → Updates
      → Result (State × Statements × Expression × List Change) FunctionFault
  read_head st at f t us =
      read_first integers line n st f >>= λ r. read_test integers line n r.0 at t >>= λ x. counted at
      (prelude_of integers line n at x + 1) r.0
      >>= λ now. read_updates integers line n now us >>= λ u. Ok (u.0, r.1, x, u.1)

  -- a label
  abbrev pub read_label : State → Name → (at : ℕ) → Result (State × Statements) FunctionFault
  read_label st x at = new_label x at st >>= λ now. Ok (now, one (label x.text (line at)))

  -- one thing of a block, before others
  abbrev pub read_one : (inside : Bool) → State → Items → Result (State × Statements) FunctionFault
  read_one inside st no_items = Ok (st, nil)
  read_one inside st (tree.label x at b is) = read_label st x at
  read_one inside st (tree.declaration t xs b is) = read_declarators integers line n st xs
  read_one inside st (item c is) = read_core integers line n inside st c

-- those behind it
abbrev pub others : Items → Items
others no_items = no_items
others (tree.label x at b is) = is
others (tree.declaration t xs b is) = is
others (item c is) = is

-- it is good
abbrev pub GoodOne : Items → Type 0
GoodOne no_items = ⊥
GoodOne (tree.label x at b is) = Unit {0}
GoodOne (tree.declaration t xs b is) = GoodDeclarators xs
GoodOne (item c is) = GoodCore c

-- a statement has no statements in it
abbrev pub IsSimple : Core → Type 0
IsSimple (tree.empty a) = Unit {0}
IsSimple (tree.jumps j a b) = Unit {0}
IsSimple (tree.returns a t b) = Unit {0}
IsSimple (tree.demands k a b e c d) = Unit {0}
IsSimple (tree.calls x a b es c d) = Unit {0}
IsSimple (tree.updates u c) = Unit {0}
IsSimple _ = ⊥

-- and begins with a name
abbrev pub IsNamed : Core → Type 0
IsNamed (tree.calls x a b es c d) = Unit {0}
IsNamed (tree.updates (tree.update p f) c) = Unit {0}
IsNamed (tree.updates (tree.step_before d a p) c) = ⊥
IsNamed _ = ⊥
