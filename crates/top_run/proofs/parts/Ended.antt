-- From an answer, its put and its message to what a run promises.
use Rattle.std.proofs.Common.{◌≡◌, ℕ, List, refl, sym, subst, subst₂}
use Rattle.std.specs.Prelude.{◌<◌, IsTrue, Some, length, take}
use Rattle.std.specs.Io.KnownBytes.{Appends}
use Rattle.ask_files.specs.Files.{Request}
use Rattle.ask_files.specs.Loads.{contents_of}
use Rattle.ask_files.specs.declared.which.ReadCause.TheVariants.{Failed}
use Rattle.ask_files.specs.declared.which.Which.{Which}
use Rattle.ask_words.specs.Request.{request_of}
use Rattle.base_files.specs.Faults.{Rose}
use Rattle.base_files.specs.Loads.{LoadedFile}
use Rattle.base_files.specs.Puts.{AddsPieces}
use Rattle.top_answer.specs.Answers as answers
use Rattle.top_answer.specs.Answers.{IsAnsweredBy, Ends, Holds, IsAnswer, IsMessage, IsOutput}
use Rattle.top_answer.specs.Commands.{Commands}
use Rattle.top_run.proofs.parts.Answering.{memory_without, placeless}
use Rattle.top_run.proofs.parts.Failing.{failed_in}
use Rattle.top_run.specs.Lines.{cut_by, pieces_of}
use Rattle.top_run.specs.Loading as loading
use Rattle.top_run.specs.Loading.{HasFailed, IsLoading}
use Rattle.top_run.specs.Messages.{GetsMessage, IsInOnePiece}
use Rattle.top_run.specs.Outputs as outputs
use Rattle.top_run.specs.Outputs.{OutputGets}
use Rattle.top_run.specs.Parts as parts
use Rattle.top_run.specs.Parts.{IsAnswerOver, IsAnswerTo, IsPutBy, PutsAnswer}
use Rattle.top_run.specs.Programs.{EndsInside, IsPlain}
use Rattle.top_run.specs.Run.{Gives, IsEnding, IsRun, answered, is_answer, is_unwritten, unwritten}
use Rattle.top_run.specs.Seen.{ShelfSeen, SinkSeen}
use Rattle.top_run.specs.declared.output.Pieces.{Pieces}
use Rattle.top_status.specs.Messages.{message_of}
use Rattle.top_status.specs.Status.{has_output}
use Rattle.top_status.specs.declared.status.Excess.{Excess}
use Rattle.top_status.specs.declared.status.Status.{Status}
use Rattle.top_status.specs.declared.status.Status.TheVariants.{Done, Exceeded, Memory, Read, Usage, Write}
use Rattle.top_texts.specs.Meanings.{Meanings}
use Rattle.top_texts.proofs.analyses.Found.{no_output}

-- ---- statuses differ

memory_done : (s : Status) → s ≡ Memory → s ≡ Done → ⊥
memory_done s h k = cc

write_done : (s : Status) → s ≡ Write → s ≡ Done → ⊥
write_done s h k = cc

memory_write : (s : Status) → s ≡ Memory → s ≡ Write → ⊥
memory_write s h k = cc

exceeded_write : (s : Status) (excess : Excess) → s ≡ Exceeded excess → s ≡ Write → ⊥
exceeded_write s excess h k = cc

usage_write : (s : Status) → s ≡ Usage → s ≡ Write → ⊥
usage_write s h k = cc

read_write : (s : Status) (cause : _) → s ≡ Read cause → s ≡ Write → ⊥
read_write s cause h k = cc

read_memory : (s : Status) (cause : _) → s ≡ Read cause → s ≡ Memory → ⊥
read_memory s cause h k = cc

-- ---- they have an output or none

exceeded_out : (s : Status) (excess : Excess) → s ≡ Exceeded excess → IsTrue (has_output s) → ⊥
exceeded_out s excess e = no_output s (Exceeded excess) e refl

read_out : (s : Status) (cause : _) → s ≡ Read cause → IsTrue (has_output s) → ⊥
read_out s cause e = no_output s (Read cause) e refl

module _ (commands : Commands) (lawful : EndsInside commands) (m : Meanings) (plain : IsPlain m) (words : List (List ℕ))
    (made : List LoadedFile) where
  -- ---- what an answer's status says

  not_write : (status : Status) → IsAnswer commands words (contents_of made) status → status ≡ Write → ⊥
  not_write status (answers.is_ending (answers.unasked none u)) w = usage_write status u w
  not_write status (answers.is_ending (answers.not_read request cause asked un u)) w = read_write status cause u w
  not_write status (answers.is_ending (answers.decided asked asks ends)) w =
      lawful.writes asked (subst (λ s. (commands asked).ends s) w ends)
  not_write status (answers.is_exceeded excess e h) w = exceeded_write status excess e w
  not_write status (answers.is_memory e) w = memory_write status e w

  out_ends : (status : Status) → IsTrue (has_output status) → IsAnswer commands words (contents_of made) status
      → Ends commands words (contents_of made) status
  out_ends status d (answers.is_ending h) = h
  out_ends status d (answers.is_exceeded excess e h) = absurd (exceeded_out status excess e d)
  out_ends status d (answers.is_memory e) = absurd (memory_without status e d)

  out_is : (ending status : Status) → IsTrue (has_output status) → IsAnsweredBy commands words (contents_of made) ending status
      → IsTrue (has_output ending)
  out_is ending status d (answers.given e) = subst (λ s. IsTrue (has_output s)) e d
  out_is ending status d (answers.no_memory e) = absurd (memory_without status e d)
  out_is ending status d (answers.exceeded excess e w r) = absurd (exceeded_out status excess e d)

  out_has : (status : Status) (bytes : List ℕ) → IsTrue (has_output status)
      → Holds (IsOutput commands words (contents_of made)) status bytes → IsOutput commands words (contents_of made) status bytes
  out_has status bytes d (answers.whole e is) = is
  out_has status bytes d (answers.nothing other e) = absurd (other d)

  loading_out : (shelf now : ShelfSeen) (status other : Status) → IsTrue (has_output status) → IsLoading words made shelf now status
      → IsLoading words made shelf now other
  loading_out shelf now status other d (loading.asks_nothing none e calm) = loading.asks_nothing none e calm
  loading_out shelf now status other d (loading.loads request result asked ends memory) =
      loading.loads request result asked ends (λ err. absurd (memory_without status (memory err) d))
  loading_out shelf now status other d (loading.loads_nothing e calm memory) = absurd (memory_without status memory d)

  -- ---- what a run says but of its message's put

  -- all that a run promises, but that the message was put
  pub record Ended (shelf now : ShelfSeen) (out out_now : SinkSeen) (status : Status) (message : List ℕ) : Type 0 where
    -- what was loaded
    pub loads : IsLoading words made shelf now status
    -- what is answered
    pub answer : IsEnding commands words (contents_of made) status
    -- what the output got
    pub output : OutputGets (IsOutput commands words (contents_of made)) words status out out_now
    -- what stands is given
    pub complete : (ending : Status) → Ends commands words (contents_of made) ending
        → Gives commands words (contents_of made) ending status out out_now
    -- a file that is not read failed
    pub read : (which : Which) → status ≡ Read (Failed which) → HasFailed words made which shelf now
    -- the message names the cause
    pub names : IsMessage m words (contents_of made) status message

  module _ (shelf now : ShelfSeen) (out out_now : SinkSeen) (pieces : Pieces) (status : Status) (bytes message : List ℕ)
      (loads : IsLoading words made shelf now status) (a : IsAnswerTo commands m words (contents_of made) status bytes message)
      (piecewise : (request : Request) → request_of words ≡ Some request → IsTrue (has_output status) → pieces ≡ pieces_of request) where
    kept : (IsTrue (has_output status) → ⊥) → out_now ≡ out → Ended shelf now out out_now status message
    kept other same = record {
      loads = loads;
      answer = is_answer a.answer;
      output = outputs.gets_nothing other (not_write status a.answer) same;
      complete = λ ending h. record { given = answered (a.complete ending h); unchanged = λ refused. same };
      read = λ which e. failed_in words made shelf now status which e commands lawful a.answer loads;
      names = a.names;
    }

    put : IsTrue (has_output status) → Appends out.held out_now.held bytes → AddsPieces out.taken out_now.taken (cut_by pieces bytes)
        → out_now.faults ≡ out.faults → Ended shelf now out out_now status message
    put d appended takes calm = record {
      loads = loads;
      answer = is_answer a.answer;
      output = outputs.gets_whole bytes d (out_has status bytes d a.output) (record {
        appended = appended;
        pieces = λ request asked. subst (λ p. AddsPieces out.taken out_now.taken (cut_by p bytes)) (piecewise request asked d) takes;
        calm = calm;
      });
      complete = λ ending h. record {
        given = answered (a.complete ending h);
        unchanged = λ refused. absurd (refused (out_is ending status d (a.complete ending h)));
      };
      read = λ which e. absurd (read_out status (Failed which) e d);
      names = a.names;
    }

    failed : IsTrue (has_output status) → (n : ℕ) → Appends out.held out_now.held (take n bytes) → Rose out.faults out_now.faults
        → (told : List ℕ) → told ≡ message_of 0 0 Write → Ended shelf now out out_now Write told
    failed d n appended rose told is = record {
      loads = loading_out shelf now status Write d loads;
      answer = is_unwritten status refl d (out_ends status d a.answer);
      output = outputs.gets_part status bytes n refl (out_has status bytes d a.output) appended rose;
      complete = λ ending h. record {
        given = unwritten refl (out_is ending status d (a.complete ending h));
        unchanged = λ refused. absurd (refused (out_is ending status d (a.complete ending h)));
      };
      read = λ which e. absurd (read_write Write (Failed which) e refl);
      names = placeless m words (contents_of made) Write told plain.write is;
    }

    wanting : IsTrue (has_output status) → (n : ℕ) → Appends out.held out_now.held (take n bytes) → out.spare < length bytes
        → out_now.faults ≡ out.faults → (told : List ℕ) → told ≡ message_of 0 0 Memory → Ended shelf now out out_now Memory told
    wanting d n appended long calm told is = record {
      loads = loading_out shelf now status Memory d loads;
      answer = is_answer (answers.is_memory refl);
      output = outputs.gets_fitting status bytes n refl (out_has status bytes d a.output) appended long calm;
      complete = λ ending h. record {
        given = answered (answers.no_memory refl);
        unchanged = λ refused. absurd (refused (out_is ending status d (a.complete ending h)));
      };
      read = λ which e. absurd (read_memory Memory (Failed which) e refl);
      names = placeless m words (contents_of made) Memory told plain.memory is;
    }

    -- a status by another name
    named : (s t : Status) (told : List ℕ) → t ≡ s → Ended shelf now out out_now s told → Ended shelf now out out_now t told
    named s t told e h = subst (λ x. Ended shelf now out out_now x told) (sym e) h

    by_put : (status_now : Status) (told : List ℕ) → IsTrue (has_output status) → (status_now ≡ Done → ⊥) → told ≡ message_of 0 0 status_now
        → IsPutBy (cut_by pieces) bytes status_now out out_now → Ended shelf now out out_now status_now told
    by_put s told d other is (parts.whole e appended takes calm) = absurd (other e)
    by_put s told d other is (parts.failed e n appended rose) =
        named Write s told e (failed d n appended rose told (subst (λ x. told ≡ message_of 0 0 x) e is))
    by_put s told d other is (parts.wanting e n appended long calm) =
        named Memory s told e (wanting d n appended long calm told (subst (λ x. told ≡ message_of 0 0 x) e is))

    by_whole : IsTrue (has_output status) → IsPutBy (cut_by pieces) bytes Done out out_now → Ended shelf now out out_now status message
    by_whole d (parts.whole i appended takes calm) = put d appended takes calm
    by_whole d (parts.failed i n appended rose) = absurd (write_done Done i refl)
    by_whole d (parts.wanting i n appended long calm) = absurd (memory_done Done i refl)

    -- whatever comes of the put
    pub ended : (status_now : Status) (told : List ℕ) → PutsAnswer pieces status bytes message out out_now status_now told
        → Ended shelf now out out_now status_now told
    ended s told (parts.is_kept other e is same) = subst₂ (λ x t. Ended shelf now out out_now x t) (sym e) (sym is) (kept other same)
    ended s told (parts.is_put d e is h) =
        subst₂ (λ x t. Ended shelf now out out_now x t) (sym e) (sym is) (by_whole d h)
    ended s told (parts.is_not_put d other is h) = by_put s told d other is h

-- an answer over the files of the words, whose bytes were put, and whose message was told, is a run
pub is_run : (commands : Commands) → EndsInside commands → (m : Meanings) → IsPlain m → (words : List (List ℕ)) (shelf now : ShelfSeen)
    (out out_now err err_now : SinkSeen) (pieces : Pieces) (status : Status) (bytes message : List ℕ) (status_now : Status) (told : List ℕ)
    → IsAnswerOver commands m words shelf now status bytes message
    → ((request : Request) → request_of words ≡ Some request → IsTrue (has_output status) → pieces ≡ pieces_of request)
    → PutsAnswer pieces status bytes message out out_now status_now told
    → GetsMessage status_now told err.held err_now.held err.faults err_now.faults err.spare
    → IsInOnePiece told err.taken err_now.taken → IsRun commands m words shelf now out out_now err err_now status_now
is_run commands lawful m plain words shelf now out out_now err err_now pieces status bytes message s told a piecewise puts gets piece =
    let e = ended commands lawful m plain words a.made shelf now out out_now pieces status bytes message a.loads a.is_answer piecewise
    s told puts in
    record {
      made = a.made;
      log = a.log;
      loads = e.loads;
      kept = a.kept;
      answer = e.answer;
      output = e.output;
      complete = e.complete;
      read = e.read;
      message = record { message = told; is_message = e.names; gets = gets; piece = piece };
    }
