-- Parts of statements that were read.
use Rattle.std.specs.Prelude.{◌≡◌, ℕ, List, Result, Ok}
use Rattle.source_meaning.specs.declared.fault.FunctionFault.{FunctionFault}
use Rattle.lang_tree.specs.Tree as tree
use Rattle.lang_tree.specs.View.{deeds_of}
use Rattle.lang_tree.specs.declared.stmt.Stmt.{Stmt}
use Rattle.source_grammar.specs.Tokens.{Token}
use Rattle.source_tree.specs.Expressions.{Expression}
use Rattle.source_tree.specs.Statements.{Change, Statements}
use Rattle.source_core.specs.Core.{condition_of, changes_deeds, core_in}
use Rattle.source_meaning.specs.Names.{State}
use Rattle.source_reader.specs.Reading.{Reading, at_tokens}
use Rattle.source_change.specs.Tests.{IsTest}
use Rattle.source_change.specs.Pushed.{WasPushed}
use Rattle.source_statement.specs.declared.head.Head.{Head}
use Rattle.base_integers.specs.declared.integers.Integers.{Integers}

-- The head of a `for` of this line, over n variables, was read, up to these tokens.
pub record WasHeaded (integers : Integers) (n line : ℕ) (rest : List Token) (old new : Reading) (met : State) (before after : List Stmt)
    (h : Head)
    (r : State × Statements × Expression × List Change) : Type 0 where
  pub known : met ≡ r.0
  pub out : WasPushed integers n before after r.1
  pub test : IsTest h.test (condition_of integers n line r.2)
  pub change : deeds_of h.change.items ≡ changes_deeds integers n r.3
  pub reader : new ≡ at_tokens old rest

-- Statements over n variables were read as a block, up to these tokens.
pub record WasBlock (integers : Integers) (n : ℕ) (rest : List Token) (old new : Reading) (met : State) (made : tree.Statements)
    (r : State × Statements) :
    Type 0 where
  pub known : met ≡ r.0
  pub block : made ≡ core_in integers n r.1
  pub reader : new ≡ at_tokens old rest

-- there is no fault
abbrev pub no_fault : Result (Unit {0}) FunctionFault
no_fault = Ok tt
