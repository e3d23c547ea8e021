-- The headline, from what a run promises.
use Rattle.std.proofs.Common.{◌≡◌, ◌∙◌, ◌⊎◌, inl, inr, ℕ, List, [], refl, ap, subst, sym}
use Rattle.std.specs.Prelude.{Some, None, Option, Result, IsErr, IsTrue}
use Rattle.std.specs.declared.alloc.AllocError.{AllocError}
use Rattle.ask_files.proofs.loads.Unread.{unread_failed, unread_long, unread_none}
use Rattle.ask_files.specs.Files.{analysis_with, with_texts}
use Rattle.ask_files.specs.Files.{NamedFile, Request, files_of, unread}
use Rattle.ask_files.specs.Loads as loads
use Rattle.ask_files.specs.Loads.{AreRead, LoadsEnd, contents_of}
use Rattle.ask_files.specs.declared.which.ReadCause.{ReadCause}
use Rattle.ask_files.specs.declared.which.ReadCause.TheVariants.{Failed, TooLong}
use Rattle.ask_words.specs.Request.{request_of}
use Rattle.ask_words.specs.declared.format.Format.{Format}
use Rattle.ask_words.specs.declared.request.Analysis.{Analysis}
use Rattle.ask_words.specs.declared.request.Purpose.TheVariants.{Report}
use Rattle.ask_words.specs.declared.request.Request.TheVariants.{Analyse}
use Rattle.base_files.specs.Faults.{Rose}
use Rattle.top_answer.specs.Answers as answers
use Rattle.top_answer.specs.Answers.{IsAnsweredBy, Asks, Ends, IsOfRounds, IsOutput, IsExceeded}
use Rattle.top_answer.specs.Commands.{command_of}
use Rattle.top_run.specs.Headline as headline
use Rattle.top_run.specs.Headline.{Comes, IsAnalysed, IsGiven, IsHeadline, IsExcessAt, Prints}
use Rattle.top_run.specs.Loading as loading
use Rattle.top_run.specs.Loading.{IsLoading}
use Rattle.top_run.specs.Outputs as outputs
use Rattle.top_run.specs.Outputs.{OutputGets}
use Rattle.top_run.specs.Run as run
use Rattle.top_run.specs.Run.{IsRun}
use Rattle.top_run.specs.Seen.{ShelfSeen, SinkSeen}
use Rattle.top_status.specs.Status.{has_output}
use Rattle.top_status.specs.declared.status.Excess.{Excess}
use Rattle.top_status.specs.declared.status.Status.{Status}
use Rattle.top_status.specs.declared.status.Status.TheVariants.{Done, Memory, Read, Write}
use Rattle.top_texts.specs.LeastReports.{IsReportOf}
use Rattle.top_texts.specs.Meanings.{Meanings}
use Rattle.top_texts.proofs.analyses.Found.{no_output}
use Rattle.top_texts.specs.Questions.{rounds_end}

none_some : {A : Type 0} (o : Option A) (a : A) → o ≡ None → o ≡ Some a → ⊥
none_some o a h k = cc

same_some : {A : Type 0} (o : Option A) (a b : A) → o ≡ Some a → o ≡ Some b → a ≡ b
same_some o a b h k = cc

done_write : (s : Status) → s ≡ Done → s ≡ Write → ⊥
done_write s h k = cc

memory_write : (s : Status) → s ≡ Memory → s ≡ Write → ⊥
memory_write s h k = cc

read_not_of_rounds : (cause : ReadCause) → IsOfRounds (Read cause) → ⊥
read_not_of_rounds cause (answers.of_ended e) = cc
read_not_of_rounds cause (answers.of_open e) = cc
read_not_of_rounds cause (answers.of_spent number e) = cc

done_out : (s : Status) → s ≡ Done → IsTrue (has_output s)
done_out s e = subst (λ x. IsTrue (has_output x)) (sym e) refl

module _ (m : Meanings) (words : List (List ℕ)) (shelf now : ShelfSeen) (out out_now err err_now : SinkSeen) (status : Status)
    (r : IsRun (command_of m) m words shelf now out out_now err err_now status) (analysis : Analysis (List ℕ)) (format : Format)
    (asked : request_of words ≡ Some (Analyse Report analysis format)) where
  abbrev files : List NamedFile
  files = files_of (Analyse Report analysis format)

  abbrev contents : List (List ℕ)
  contents = contents_of r.made

  abbrev texts : Analysis (List ℕ)
  texts = analysis_with analysis contents

  -- ---- where a file isn't read

  given_read : (cause : ReadCause) → run.IsGiven (command_of m) words contents (Read cause) status
      → (status ≡ Read cause) ⊎ (status ≡ Memory)
  given_read cause (run.answered (answers.given e)) = inl e
  given_read cause (run.answered (answers.no_memory e)) = inr e
  given_read cause (run.answered (answers.exceeded excess e w of_rounds)) = absurd (read_not_of_rounds cause of_rounds)
  given_read cause (run.unwritten w d) = absurd (no_output (Read cause) (Read cause) refl refl d)

  unread_status : (cause : ReadCause) → unread files contents ≡ Some cause → (status ≡ Read cause) ⊎ (status ≡ Memory)
  unread_status cause un =
      given_read cause (r.complete (Read cause) (answers.not_read (Analyse Report analysis format) cause asked un refl)).given

  -- ---- where all are read

  module _ (all_read : AreRead shelf.files files r.made []) where
    asks : Asks words contents (Analyse Report texts format)
    asks = record {
      request = Analyse Report analysis format;
      request_is = asked;
      all_read = unread_none shelf.files files r.made all_read;
      asked_is = refl;
    }

    same_texts : (other : Request) → Asks words contents other → other ≡ Analyse Report texts format
    same_texts other a =
        a.asked_is
        ∙ ap (λ q. with_texts q contents) (same_some (request_of words) a.request (Analyse Report analysis format) a.request_is asked)

    report_of : (bytes : List ℕ) → IsOutput (command_of m) words contents Done bytes
        → IsReportOf texts.program texts.domain texts.policy texts.improvements format bytes
    report_of bytes o = subst (λ q. (command_of m q).writes Done bytes) (same_texts o.asked o.asks) o.written

    excess_at : (excess : Excess) → IsExceeded (command_of m) words contents excess → IsExcessAt m texts excess
    excess_at excess w = subst (λ q. (command_of m q).exceeds excess) (same_texts w.asked w.asks) w.exceeds

    prints : OutputGets (IsOutput (command_of m) words contents) words status out out_now → status ≡ Done → Prints texts format out out_now
    prints (outputs.gets_whole bytes d is put) e = record {
      bytes = bytes;
      is_report = report_of bytes (subst (λ s. IsOutput (command_of m) words contents s bytes) e is);
      appended = put.appended;
    }
    prints (outputs.gets_part ending bytes n w is appended rose) e = absurd (done_write status e w)
    prints (outputs.gets_fitting ending bytes n memory is appended long calm) e = let f : ⊥ = cc in absurd f
    prints (outputs.gets_nothing other written same) e = absurd (other (done_out status e))

    rose : OutputGets (IsOutput (command_of m) words contents) words status out out_now → status ≡ Write → Rose out.faults out_now.faults
    rose (outputs.gets_whole bytes d is put) w = absurd (no_output status Write w refl d)
    rose (outputs.gets_part ending bytes n e is appended rises) w = rises
    rose (outputs.gets_fitting ending bytes n memory is appended long calm) w = absurd (memory_write status memory w)
    rose (outputs.gets_nothing other written same) w = absurd (written w)

    given_done : run.IsGiven (command_of m) words contents Done status → IsGiven m texts out out_now status
    given_done (run.answered (answers.given e)) = headline.done e
    given_done (run.answered (answers.no_memory e)) = headline.no_memory e
    given_done (run.answered (answers.exceeded excess e w of_rounds)) = headline.exceeded excess e (excess_at excess w)
    given_done (run.unwritten w d) = headline.unwritten w (rose r.output w)

    analysed : IsAnalysed m texts format out out_now status
    analysed = record {
      sound = λ d. prints r.output d;
      complete = λ solvable. given_done
          (r.complete Done (answers.decided (Analyse Report texts format) asks (rounds_end solvable.0 refl solvable.1 solvable.2))).given;
    }

  -- ---- as the loads end

  comes_of : (result : Result (Unit {0}) AllocError) → (IsErr result → status ≡ Memory)
      → LoadsEnd shelf.files files r.made shelf.faults now.faults now.last_failed result
      → Comes m analysis format r.made shelf now out out_now status
  comes_of result memory (loads.all_read h calm ok) = headline.is_read h (analysed h)
  comes_of result memory (loads.failed file left h count last ok) =
      headline.has_failed file left h count last
      (unread_status (Failed file.0) (unread_failed shelf.files files r.made file left h))
  comes_of result memory (loads.too_long before long file left e h over calm ok) =
      headline.is_long before long file left e h over
      (unread_status (TooLong file.0)
      (ap (λ ls. unread files (contents_of ls)) e ∙ unread_long shelf.files files before long file left h over))
  comes_of result memory (loads.wants_memory file left h calm err) = headline.wants_memory (memory err)

  comes : IsLoading words r.made shelf now status → Comes m analysis format r.made shelf now out out_now status
  comes (loading.asks_nothing none e calm) = absurd (none_some (request_of words) (Analyse Report analysis format) none asked)
  comes (loading.loads request result is ends memory) =
      comes_of result memory
      (subst (λ q. LoadsEnd shelf.files (files_of q) r.made shelf.faults now.faults now.last_failed result)
      (same_some (request_of words) request (Analyse Report analysis format) is asked) ends)
  comes (loading.loads_nothing e calm memory) = headline.wants_memory memory

  -- what a run promises is the headline
  pub is_headline : IsHeadline m analysis format shelf now out out_now status
  is_headline = record { made = r.made; log = r.log; comes = comes r.loads }
