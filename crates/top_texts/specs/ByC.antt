-- What is so in every run by C of the function that a program asks about, whose variables are known. By a machine's integers such a run
-- goes up to its first operation that overflows. The runs of its core are those of docs/MEANING.md, "Runs"; these here are those of
-- "Functions of C" and of "Machine integers".
use Rattle.std.specs.Prelude.{◌≡◌, ℕ, List, Ok, Some, length, slice_get}
use Rattle.lang_tree.specs.declared.check.Check.{Check}
use Rattle.lang_tree.specs.Tree.{Statements}
use Rattle.lang_tree.specs.View.{condition_of}
use Rattle.source_tree.specs.Statements as c
use Rattle.flow_edges.specs.Checks.{Checked, checks_in}
use Rattle.flow_systems.specs.Equations.{Equations, Vector}
use Rattle.flow_source.specs.ByC.{AllHaveValues, AreRunsByAll, HoldsByC, IsKeptByC, IsOfOperation, IsTrueByC}
use Rattle.ask_claims.specs.Truth.{IsTrueAt}
use Rattle.ask_claims.specs.declared.claim.Claim.{Claim}
use Rattle.ask_verdicts.specs.declared.outcome.Verdict.{Verdict}
use Rattle.ask_verdicts.specs.declared.outcome.Verdict.TheVariants.{Proved}
use Rattle.top_texts.specs.Texts.{Program, Reading}

-- whichever statements of C the program means with these names, this is so of them
abbrev pub InSource : Program → List (List ℕ) → (c.Statements → Type 0) → Type 0
InSource program names IsSo = (statements : c.Statements) → Reading program (Ok (names, statements)) → IsSo statements

-- the bounds of a vector hold in every run by C
abbrev pub HoldsInSource : Program → List (List ℕ) → Equations → Vector → Type 0
HoldsInSource program names system vector = InSource program names (λ statements. HoldsByC program.integers system statements vector)

-- no run by C breaks the check of a place
abbrev pub CheckHoldsInSource : Program → List (List ℕ) → Check → Type 0
CheckHoldsInSource program names about =
    InSource program names (λ statements. IsTrueByC program.integers (length names) statements about)

-- a claim is true in every run by C, at every configuration at the claim's point
abbrev pub ClaimHoldsInSource : Program → List (List ℕ) → Claim → Type 0
ClaimHoldsInSource program names claim =
    InSource program names (λ statements. IsKeptByC program.integers (length names) statements claim.point
    (λ state. IsTrueAt (condition_of claim.cond) state))

-- verdicts call each check of a core proved that is about a place; there may be none
abbrev pub AreProved : Statements → List Verdict → Check → Type 0
AreProved body verdicts about = (k : ℕ) (check : Checked) → slice_get (checks_in body) k ≡ Some check → check.about ≡ about
    → slice_get verdicts k ≡ Some Proved

-- verdicts call each check of an operation proved: each of a result, of a divisor and of an index
abbrev pub OperationsAreProved : Statements → List Verdict → Type 0
OperationsAreProved body verdicts = (k : ℕ) (check : Checked) → slice_get (checks_in body) k ≡ Some check → IsOfOperation check.about.kind
    → slice_get verdicts k ≡ Some Proved

-- every operation has a value in every run by C: none overflows, none divides by 0, and each element is there
abbrev pub OperationsHaveValues : Program → List (List ℕ) → Type 0
OperationsHaveValues program names = InSource program names (λ statements. AllHaveValues program.integers (length names) statements)

-- each run by C is one by all integers
abbrev pub RunsAreByAll : Program → List (List ℕ) → Type 0
RunsAreByAll program names = InSource program names (λ statements. AreRunsByAll program.integers (length names) statements)
