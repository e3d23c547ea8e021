-- Tokens that are a function without a fault are one at other places.
use Rattle.std.proofs.Common.{◌≡◌, ◌∙◌, ◌++◌, ℕ, List, [], ◌∷◌, Option, Some, None, refl, sym, ap, subst}
use Rattle.std.proofs.lemmas.List.{append-nil}
use Rattle.source_grammar.specs.Tokens.{Token, token}
use Rattle.source_grammar.specs.Grammar.{Function, Reads}
use Rattle.source_grammar.specs.Machine.{Goal, step, run, start}
use Rattle.source_grammar.specs.Verdicts.{opened, trace}
use Rattle.source_grammar.specs.Faults.{AllShallow, Fine}
use Rattle.source_grammar.proofs.grammar.Taken.{accepted}
use Rattle.source_grammar.proofs.faults.Scanned.{opens_front}
use Rattle.source_grammar.proofs.faults.Exact.{append_same}
use Rattle.acsl_shift.specs.Moves.{moved}
use Rattle.acsl_shift.specs.Law.{WholeMayMove}
use Rattle.acsl_shift.proofs.moves.Trees.{move_function}
use Rattle.acsl_shift.proofs.moves.Spelled.{moved_reads}

-- What tokens open doesn't depend on their places.
same_trace : (to : ℕ → ℕ) (ts : List Token) (gs : List Goal) → trace gs (moved to ts) ≡ trace gs ts
same_trace to [] gs = refl
same_trace to (token k a ∷ ts) gs = by_step (step gs k) (same_trace to ts) where
  by_step : (s : Option (List Goal)) → ((next : List Goal) → trace next (moved to ts) ≡ trace next ts)
      → opened gs k ∷ elim s as (λ x. List (Option ℕ)) [ None ↦ [] | Some next ↦ trace next (moved to ts) ]
      ≡ opened gs k ∷ elim s as (λ x. List (Option ℕ)) [ None ↦ [] | Some next ↦ trace next ts ]
  by_step None h = refl
  by_step (Some next) h = ap (λ x. opened gs k ∷ x) (h next)

-- The machine takes what reads as a function.
reads_accepted : (ts : List Token) (f : Function) → Reads ts f → run start ts ≡ Some []
reads_accepted ts f r = ap (λ x. run start x) (sym r.spelled) ∙ accepted f r.good

-- What reads as a function still reads so with nothing behind it.
reads_alone : (ts : List Token) (f : Function) → Reads ts f → Reads (ts ++ []) f
reads_alone ts f r = subst (λ x. Reads x f) (sym (append-nil ts)) r

-- No construct is one too many, as the machine tells it.
shallow_trace : (ts : List Token) (f : Function) → Reads ts f → Fine ts → AllShallow (trace start ts)
shallow_trace ts f r (begins, (depths, o, h)) =
    let now = opens_front ts [] (reads_accepted ts f r) in
    let told = o.1 f [] (reads_alone ts f r) in
    let seen = now.1 f [] (reads_alone ts f r) in
    subst AllShallow (append_same depths (trace start ts) told.0 seen.0 (o.0 ∙ sym now.0) (sym told.1 ∙ seen.1)) h

-- Tokens that are fine are fine at other places.
moved_fine : (to : ℕ → ℕ) (ts : List Token) (f : Function) → Reads ts f → Fine ts → Fine (moved to ts)
moved_fine to ts f r fine =
    let q = moved_reads to ts f r in
    let shallow = subst AllShallow (sym (same_trace to ts start)) (shallow_trace ts f r fine) in (
      (move_function to f, [], reads_alone (moved to ts) (move_function to f) q),
      (trace start (moved to ts), opens_front (moved to ts) [] (reads_accepted (moved to ts) (move_function to f) q), shallow),
    )

-- So is a whole function.
pub whole_may_move : WholeMayMove
whole_may_move to ts ((f, r), fine) = ((move_function to f, moved_reads to ts f r), moved_fine to ts f r fine)
