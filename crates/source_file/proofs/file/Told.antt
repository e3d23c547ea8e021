-- What is told of a function's tokens.
use Rattle.std.proofs.Common.{◌≡◌, ◌∙◌, inr, ℕ, List, Result, Ok, Err, sym, ap, subst}
use Rattle.std.specs.Prelude.{IsErrAnd}
use Rattle.lang_tokens.specs.Lines.{line_at}
use Rattle.lang_tree.specs.declared.program.Program.{Program}
use Rattle.source_grammar.specs.Tokens.{Token}
use Rattle.source_grammar.specs.Grammar.{Function, Reads}
use Rattle.source_grammar.specs.Faults.{Finds, whole}
use Rattle.source_grammar.specs.View.{Are}
use Rattle.source_grammar.specs.Goals.{scan_of}
use Rattle.source_grammar.specs.declared.symbol.Piece as code_piece
use Rattle.source_grammar.specs.declared.machine.Syntax.{Syntax}
use Rattle.source_meaning.specs.Walk.{walk}
use Rattle.source_meaning.specs.declared.fault.FunctionFault.{FunctionFault}
use Rattle.source_meaning.specs.declared.fault.FunctionFault as function
use Rattle.source_file.specs.Gives.{FunctionGives, Gives, Tells}
use Rattle.source_file.specs.Meaning.{Answer, FunctionMeans, walked}
use Rattle.source_file.specs.declared.fault.SourceFault.{SourceFault}
use Rattle.source_file.specs.declared.fault.SourceFault.TheVariants.{NoMemory}
use Rattle.source_file.specs.declared.fault.SourceFault.TheVariants as fault
use Rattle.base_integers.specs.declared.integers.Integers.{Integers}

-- what is found of pieces is found of their tokens
pub found_scan : (syntax s : Syntax) (items slice : List code_piece.Piece) (tokens : List Token) → slice ≡ items → Are tokens items
    → ((ts : List Token) → Are ts slice → Finds (scan_of syntax) ts) → syntax ≡ s → Finds (scan_of s) tokens
found_scan syntax s items slice tokens e are f h =
    subst (λ (x : Syntax). Finds (scan_of x) tokens) h (f tokens (subst (λ (x : List code_piece.Piece). Are tokens x) (sym e) are))

-- what is told for one reason is told for another
pub tells_too : (integers : Integers) (r : Result Program SourceFault) (One Other : Answer → Type 0) → ((a : Answer) → One a → Other a)
    → Tells integers r One
    → Tells integers r Other
tells_too integers (Ok p) One Other f (body, one, core) = (body, f (Ok (p.names, body)) one, core)
tells_too integers (Err e) One Other f h = λ n. f (Err e) (h n)

-- a fault that is handed on is told
pub fault_told : (integers : Integers) (r : Result Program SourceFault) (e : SourceFault) (Means : Answer → Type 0)
    → IsErrAnd r (λ f. f ≡ e) → ((e ≡ NoMemory → ⊥) → Means (Err e)) → Tells integers r Means
fault_told integers (Ok p) e Means k h = absurd k
fault_told integers (Err f) e Means k h = λ n. subst (λ z. Means (Err z)) (sym k) (h (λ m. n (k ∙ m)))

-- what is told is given where it is the only thing
pub tells_gives : (integers : Integers) (r : Result Program SourceFault) (Means : Answer → Type 0) (wanted : Answer)
    → ((one : Answer) → Means one → one ≡ wanted) → Tells integers r Means → Gives integers r wanted
tells_gives integers (Ok p) Means wanted once (body, one, core) = (body, sym (once (Ok (p.names, body)) one), core)
tells_gives integers (Err e) Means wanted once h = λ n. sym (once (Err e) (h n))

module _ (integers : Integers) (text : List ℕ) (ts : List Token) where
  -- a program is told
  pub program_told : (p : Program) → Finds whole ts
      → ((f : Function) → Reads ts f → FunctionGives integers (Ok p) (walk integers (line_at text) f))
      → Tells integers (Ok p) (FunctionMeans integers text ts)
  program_told p ((f, reads), fine) gives =
      let g : FunctionGives integers (Ok p) (walk integers (line_at text) f) = gives f reads in
      (g.0, inr (inr (f, reads, fine, ap walked (sym g.1))), g.2)

  -- a fault is told
  pub walk_told : (e : FunctionFault) → Finds whole ts
      → ((f : Function) → Reads ts f → FunctionGives integers (Err e) (walk integers (line_at text) f))
      → (e ≡ function.TheVariants.NoMemory → ⊥)
      → FunctionMeans integers text ts (Err (fault.Function e))
  walk_told e ((f, reads), fine) gives n = inr (inr (f, reads, fine, sym (ap walked (gives f reads n))))
