-- The function as a program.
use Rattle.std.specs.Prelude.{◌≡◌, ℕ, List, length}
use Rattle.lang_tree.specs.declared.program.Program.{Program}
use Rattle.source_tree.specs.Statements.{Statements}
use Rattle.source_core.specs.Core.{core_in}
use Rattle.lang_tree.specs.View.{statements_of}
use Rattle.source_statement.specs.declared.functions.Whole.{Whole}
use Rattle.base_integers.specs.declared.integers.Integers.{Integers}

-- the program has these variables, and these statements in the core
abbrev pub IsProgram : (integers : Integers) → Program → List (List ℕ) × Statements → Type 0
IsProgram integers p r = (p.names ≡ r.0) × (p.body ≡ core_in integers (length r.0) r.1)

-- the variables, and the statements in the core over n variables
abbrev pub IsWhole : (integers : Integers) (n : ℕ) → Whole → List (List ℕ) × Statements → Type 0
IsWhole integers n w r = (w.names ≡ r.0) × (statements_of w.list.items ≡ core_in integers n r.1)
