-- What the stream of messages holds after a message was put in one piece.
use Rattle.std.proofs.Common.{◌≡◌, inl, inr, ◌≤◌, ℕ, Bool, false, List, Option, length, refl, sym, subst, arith}
use Rattle.std.specs.Prelude.{IsTrue, Ok, Err}
use Rattle.std.specs.Io.KnownBytes.{Appends}
use Rattle.std.proofs.Math.Seq.{take-length}
use Rattle.base_files.specs.Puts.{AddsPieces, HasPutCause, Put, Puts, Takes, as_pieces}
use Rattle.base_files.specs.declared.sink.PutFault.TheVariants.{Failed, NoMemory}
use Rattle.top_run.specs.Messages.{GetsMessage, IsInOnePiece}
use Rattle.top_status.specs.Status.{has_output}
use Rattle.top_status.specs.declared.status.Status.{Status}

-- an ending whose test for an output fails has none
pub untold : (status : Status) (b : Bool) → b ≡ has_output status → b ≡ false → IsTrue (has_output status) → ⊥
untold status b is fails h =
    let f : ⊥ = cc in
    f

gets : (status : Status) (message : List ℕ) (held now : Option (List ℕ)) (f f' s : ℕ) (r : Put) → (IsTrue (has_output status) → ⊥)
    → length message ≤ 1024
    → Puts held now message r → HasPutCause f f' s message r → GetsMessage status message held now f f' s
gets status message held now f f' s (Ok x) other short puts cause =
    record {
      silent = λ e. absurd (other e);
      part = λ n. (length message, subst (λ m. Appends held now m) (sym (take-length message)) puts);
      whole = λ n room calm. puts;
    }
gets status message held now f f' s (Err Failed) other short puts cause =
    record { silent = λ e. absurd (other e); part = λ n. puts; whole = λ n room calm. absurd (calm cause) }
gets status message held now f f' s (Err NoMemory) other short puts cause =
    record { silent = λ e. absurd (other e); part = λ n. puts; whole = λ n room calm. let small = cause.0 in absurd (omega arith) }

-- a run that has an output puts no message
pub quiet : (status : Status) (message : List ℕ) (held : Option (List ℕ)) (f f' s : ℕ) → IsTrue (has_output status)
    → GetsMessage status message held held f f' s
quiet status message held f f' s e = record { silent = λ i. refl; part = λ other. absurd (other e); whole = λ other. absurd (other e) }

-- the bytes of a message were put
pub told_by : (status : Status) (bytes message : List ℕ) (held now : Option (List ℕ)) (f f' s : ℕ) (r : Put) → bytes ≡ message
    → length bytes ≤ 1024 → (IsTrue (has_output status) → ⊥) → Puts held now bytes r → HasPutCause f f' s bytes r
    → GetsMessage status message held now f f' s
told_by status bytes message held now f f' s r e short other puts cause =
    subst (λ m. GetsMessage status m held now f f' s) e (gets status bytes held now f f' s r other short puts cause)

-- and were taken in one piece, if at all
pub one_piece : (bytes message : List ℕ) (taken now : Option (List (List ℕ))) (r : Put) → bytes ≡ message → Takes taken now bytes r
    → IsInOnePiece message taken now
one_piece bytes message taken now (Ok done) e takes = inr (subst (λ m. AddsPieces taken now (as_pieces m)) e takes)
one_piece bytes message taken now (Err fault) e takes = inl takes
