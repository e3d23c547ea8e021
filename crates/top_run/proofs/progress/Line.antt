-- What a stream holds after a line was put in one piece.
use Rattle.std.proofs.Common.{◌≡◌, inl, inr, ◌≤◌, ℕ, List, Option, length, sym, subst, arith}
use Rattle.std.specs.Prelude.{Ok, Err}
use Rattle.std.specs.Io.KnownBytes.{Appends}
use Rattle.std.proofs.Math.Seq.{take-length}
use Rattle.base_files.specs.Puts.{AddsPieces, HasPutCause, Put, Puts, Takes, as_pieces}
use Rattle.base_files.specs.declared.sink.PutFault.TheVariants.{Failed, NoMemory}
use Rattle.top_run.specs.Progress.{GetsLine}
use Rattle.top_run.specs.Seen.{sink_with}

gets : (line : List ℕ) (held held_now : Option (List ℕ)) (taken taken_now : Option (List (List ℕ))) (f f_now s s_now : ℕ) (r : Put)
    → length line ≤ 1024 → Puts held held_now line r → Takes taken taken_now line r → HasPutCause f f_now s line r
    → GetsLine line (sink_with held taken f s) (sink_with held_now taken_now f_now s_now)
gets line held held_now taken taken_now f f_now s s_now (Ok done) short puts takes cause = record {
  part = (length line, subst (λ m. Appends held held_now m) (sym (take-length line)) puts);
  whole = λ room calm. puts;
  piece = inr takes;
}
gets line held held_now taken taken_now f f_now s s_now (Err Failed) short puts takes cause =
    record { part = puts; whole = λ room calm. absurd (calm cause); piece = inl takes }
gets line held held_now taken taken_now f f_now s s_now (Err NoMemory) short puts takes cause =
    record { part = puts; whole = λ room calm. let small = cause.0 in absurd (omega arith); piece = inl takes }

-- the bytes of a line were put
pub told : (bytes line : List ℕ) (held held_now : Option (List ℕ)) (taken taken_now : Option (List (List ℕ))) (f f_now s s_now : ℕ)
    (r : Put) → bytes ≡ line → length bytes ≤ 1024 → Puts held held_now bytes r → Takes taken taken_now bytes r
    → HasPutCause f f_now s bytes r → GetsLine line (sink_with held taken f s) (sink_with held_now taken_now f_now s_now)
told bytes line held held_now taken taken_now f f_now s s_now r e short puts takes cause =
    subst (λ m. GetsLine m (sink_with held taken f s) (sink_with held_now taken_now f_now s_now)) e
    (gets bytes held held_now taken taken_now f f_now s s_now r short puts takes cause)
