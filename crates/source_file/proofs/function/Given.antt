-- What the reading of a function's tokens gives.
use Rattle.std.proofs.Common.{◌≡◌, ◌∙◌, ℕ, List, Result, Ok, Err, length, sym, ap, subst}
use Rattle.lang_tree.specs.declared.program.Program.{Program}
use Rattle.source_tree.specs.Statements.{Statements}
use Rattle.source_core.specs.Core.{core_in}
use Rattle.source_meaning.specs.declared.fault.FunctionFault.{FunctionFault}
use Rattle.source_reader.specs.Answers.{Answers}
use Rattle.source_reader.specs.declared.stop.Stop.{Stop}
use Rattle.source_reader.specs.declared.stop.Stop.TheVariants.{Unlike}
use Rattle.source_statement.specs.Whole.{IsProgram}
use Rattle.source_file.specs.Gives.{FunctionGives}
use Rattle.base_integers.specs.declared.integers.Integers.{Integers}

-- what a function is, named so that equations between answers have their type
abbrev read : List (List ℕ) × Statements → Result (List (List ℕ) × Statements) FunctionFault
read r = Ok r

-- a program that the function is, is given
pub given : (integers : Integers) (p : Program) (wanted : Result (List (List ℕ) × Statements) FunctionFault)
    → ((r : List (List ℕ) × Statements) × (wanted ≡ Ok r) × IsProgram integers p r) → FunctionGives integers (Ok p) wanted
given integers p wanted ((names, body), e, is) =
    (body, e ∙ ap (λ xs. read (xs, body)) (sym is.0), is.1 ∙ ap (λ (xs : List (List ℕ)). core_in integers (length xs) body) (sym is.0))

-- what is read of tokens that are a function is never that they are unlike one
pub never_unlike : (integers : Integers) (s : Stop) (wanted : Result (List (List ℕ) × Statements) FunctionFault) → s ≡ Unlike
    → Answers (IsProgram integers) (Err s) wanted → ⊥
never_unlike integers s wanted e h = subst (λ t. Answers (IsProgram integers) (Err t) wanted) e h
