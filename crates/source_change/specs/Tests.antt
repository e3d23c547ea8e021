-- Conditions of statements that were read, and statements.
use Rattle.std.specs.Prelude.{◌≡◌, ◌++◌, ℕ, List}
use Rattle.lang_tree.specs.View.{statements_of, deeds_of, condition_of}
use Rattle.lang_tree.specs.declared.stmt.Stmt.{Stmt}
use Rattle.source_grammar.specs.Tokens.{Name, Token}
use Rattle.lang_tree.specs.declared.deed.Deed.{Deed}
use Rattle.source_tree.specs.Statements.{Change, Statements}
use Rattle.source_core.specs.Elaborated as core
use Rattle.source_core.specs.Core.{followed_by, core_in, change_deeds, changes_deeds}
use Rattle.source_meaning.specs.Names.{State}
use Rattle.source_reader.specs.Reading.{Reading, at_tokens}
use Rattle.source_change.specs.declared.conditions.Test.{Test}
use Rattle.source_change.specs.declared.names.Named.{Named}
use Rattle.base_integers.specs.declared.integers.Integers.{Integers}

-- the code has this condition behind its prelude
pub record IsTest (t : Test) (u : core.Tested) : Type 0 where
  pub prelude : deeds_of t.prelude.items ≡ u.prelude
  pub condition : condition_of t.cond ≡ u.condition

-- Statements over n variables were read, up to these tokens: what was met of names is known, and the core's statements stand behind those
-- that were there.
pub record WasRead (integers : Integers) (n : ℕ) (rest : List Token) (old new : Reading) (met : State) (before after : List Stmt)
    (r : State × Statements) : Type 0 where
  pub known : met ≡ r.0
  pub out : statements_of after ≡ followed_by (statements_of before) (core_in integers n r.1)
  pub reader : new ≡ at_tokens old rest

-- A change over n variables was read, up to these tokens: what was met of names is known, and the code has its deeds.
pub record WasChanged (integers : Integers) (n : ℕ) (rest : List Token) (old new : Reading) (met : State) (list : List Deed) (r : State
    × Change) : Type 0 where
  pub known : met ≡ r.0
  pub deeds : deeds_of list ≡ change_deeds integers n r.1
  pub reader : new ≡ at_tokens old rest

-- So were changes in order; their deeds stand behind others.
pub record WereChanged (integers : Integers) (n : ℕ) (rest : List Token) (old new : Reading) (met : State) (before after : List Deed)
    (r : State × List Change) :
    Type 0 where
  pub known : met ≡ r.0
  pub deeds : deeds_of after ≡ deeds_of before ++ changes_deeds integers n r.1
  pub reader : new ≡ at_tokens old rest

-- a change was counted
abbrev pub WasCounted : (integers : Integers) (n : ℕ) (known : State) (deeds : List Deed) → State × Change → Type 0
WasCounted integers n known deeds r = (known ≡ r.0) × (deeds_of deeds ≡ change_deeds integers n r.1)

-- the name that the code has
abbrev pub name_of : Named → Name
name_of n = record { text = n.name; value = n.value }

-- a name was taken with its place
abbrev pub WasTaken : (rest : List Token) (old new : Reading) → Named → Name × ℕ → Type 0
WasTaken rest old new n p = (name_of n ≡ p.0) × (n.at ≡ p.1) × (new ≡ at_tokens old rest)
