-- What is said of bytes that are put, by how the put ends.
use Rattle.std.proofs.Common.{◌≡◌, ℕ, List, refl, sym, subst, subst₂}
use Rattle.std.specs.Prelude.{IfOk, Ok, Err, Option}
use Rattle.base_files.specs.Puts.{AddsPieces, HasPutCause, Put, Puts, Takes, as_pieces}
use Rattle.base_files.specs.declared.sink.PutFault.TheVariants.{Failed, NoMemory}
use Rattle.top_run.specs.Lines.{cut_by, lines_of}
use Rattle.top_run.specs.Parts.{IsPutBy, status_of, failed, wanting, whole}
use Rattle.top_run.specs.Seen.{SinkSeen, sink_with}
use Rattle.top_run.specs.declared.output.Pieces.{Pieces}
use Rattle.top_run.specs.declared.output.Pieces.TheVariants.{Lines, Whole}
use Rattle.top_status.specs.declared.status.Status.{Status}

module _ (held held_now : Option (List ℕ)) (taken taken_now : Option (List (List ℕ))) (f f' s s' : ℕ) (bytes : List ℕ) where
  -- what is seen of the sink before
  abbrev pub before : SinkSeen
  before = sink_with held taken f s

  -- and after
  abbrev pub after : SinkSeen
  after = sink_with held_now taken_now f' s'

  by_lines : (made : Put) → Puts held held_now bytes made → HasPutCause f f' s bytes made
      → IfOk made (λ done. AddsPieces taken taken_now (lines_of bytes)) → IsPutBy lines_of bytes (status_of made) before after
  by_lines (Ok done) puts cause takes = whole refl puts takes cause
  by_lines (Err Failed) puts cause takes = failed refl puts.0 puts.1 cause
  by_lines (Err NoMemory) puts cause takes = wanting refl puts.0 puts.1 cause.0 cause.1

  -- a put line by line, as it ends
  pub put_by_lines : (made : Put) (status : Status) → status ≡ status_of made → Puts held held_now bytes made
      → HasPutCause f f' s bytes made → IfOk made (λ done. AddsPieces taken taken_now (lines_of bytes))
      → IsPutBy lines_of bytes status before after
  put_by_lines made status e puts cause takes =
      subst (λ x. IsPutBy lines_of bytes x before after) (sym e) (by_lines made puts cause takes)

  in_one : (made : Put) → Puts held held_now bytes made → HasPutCause f f' s bytes made → Takes taken taken_now bytes made
      → IsPutBy as_pieces bytes (status_of made) before after
  in_one (Ok done) puts cause takes = whole refl puts takes cause
  in_one (Err Failed) puts cause takes = failed refl puts.0 puts.1 cause
  in_one (Err NoMemory) puts cause takes = wanting refl puts.0 puts.1 cause.0 cause.1

  -- a put in one piece, as it ends
  pub put_in_one : (made : Put) (status : Status) → status ≡ status_of made → Puts held held_now bytes made
      → HasPutCause f f' s bytes made → Takes taken taken_now bytes made → IsPutBy as_pieces bytes status before after
  put_in_one made status e puts cause takes =
      subst (λ x. IsPutBy as_pieces bytes x before after) (sym e) (in_one made puts cause takes)

-- ---- by pieces that are named

module _ (bytes : List ℕ) (status : Status) (out out_now : SinkSeen) where
  as_lines : IsPutBy lines_of bytes status out out_now → IsPutBy (cut_by Lines) bytes status out out_now
  as_lines (whole e appended takes calm) = whole e appended takes calm
  as_lines (failed e n appended rose) = failed e n appended rose
  as_lines (wanting e n appended long calm) = wanting e n appended long calm

  as_one : IsPutBy as_pieces bytes status out out_now → IsPutBy (cut_by Whole) bytes status out out_now
  as_one (whole e appended takes calm) = whole e appended takes calm
  as_one (failed e n appended rose) = failed e n appended rose
  as_one (wanting e n appended long calm) = wanting e n appended long calm

  -- lines are those of the pieces that say so
  pub lines_named : (pieces : Pieces) → pieces ≡ Lines → IsPutBy lines_of bytes status out out_now
      → IsPutBy (cut_by pieces) bytes status out out_now
  lines_named pieces e h = subst (λ p. IsPutBy (cut_by p) bytes status out out_now) (sym e) (as_lines h)

  -- and so is one piece
  pub one_named : (pieces : Pieces) → pieces ≡ Whole → IsPutBy as_pieces bytes status out out_now
      → IsPutBy (cut_by pieces) bytes status out out_now
  one_named pieces e h = subst (λ p. IsPutBy (cut_by p) bytes status out out_now) (sym e) (as_one h)

-- a put by other names for the bytes and the status
pub put_as : (cut : List ℕ → List (List ℕ)) (bytes others : List ℕ) (status other : Status) (out out_now : SinkSeen) → bytes ≡ others
    → other ≡ status → IsPutBy cut bytes status out out_now → IsPutBy cut others other out out_now
put_as cut bytes others status other out now same e h = subst₂ (λ b s. IsPutBy cut b s out now) same (sym e) h
