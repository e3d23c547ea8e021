-- What stands in the core behind what was there.
use Rattle.std.specs.Prelude.{◌≡◌, ℕ, List}
use Rattle.lang_tree.specs.View.{statements_of}
use Rattle.lang_tree.specs.declared.stmt.Stmt.{Stmt}
use Rattle.source_tree.specs.Statements.{Statements}
use Rattle.source_core.specs.Core.{followed_by, core_in}
use Rattle.source_meaning.specs.Names.{State}
use Rattle.base_integers.specs.declared.integers.Integers.{Integers}

-- the core's statements over n variables stand behind those that were there
abbrev pub WasPushed : (integers : Integers) (n : ℕ) (before after : List Stmt) → Statements → Type 0
WasPushed integers n before after ss = statements_of after ≡ followed_by (statements_of before) (core_in integers n ss)

-- What is evaluated was counted, and stands behind what was there.
abbrev pub WasEvaluated : (integers : Integers) (n : ℕ) (met : State) (before after : List Stmt) → State × Statements → Type 0
WasEvaluated integers n known before after r = (known ≡ r.0) × WasPushed integers n before after r.1
