-- What is given of an analysis: the words of the headline.
use Rattle.std.specs.Prelude.{◌≡◌, ◌++◌, ◌⊎◌, ℕ, List, [], ◌∷◌}
use Rattle.std.specs.Io.KnownBytes.{Appends}
use Rattle.ask_files.specs.Files.{analysis_with}
use Rattle.ask_files.specs.Files.{NamedFile, files_of}
use Rattle.ask_files.specs.Loads.{AreRead, IsLong, contents_of}
use Rattle.ask_files.specs.declared.which.ReadCause.TheVariants.{Failed, TooLong}
use Rattle.ask_words.specs.declared.format.Format.{Format}
use Rattle.ask_words.specs.declared.request.Analysis.{Analysis}
use Rattle.ask_words.specs.declared.request.Purpose.TheVariants.{Report}
use Rattle.ask_words.specs.declared.request.Request.TheVariants.{Analyse}
use Rattle.base_files.specs.Faults.{Rose, next_count}
use Rattle.base_files.specs.Loads.{LoadedFile}
use Rattle.top_run.specs.Seen.{ShelfSeen, SinkSeen}
use Rattle.top_status.specs.declared.status.Excess.{Excess}
use Rattle.top_status.specs.declared.status.Status.{Status}
use Rattle.top_status.specs.declared.status.Status.TheVariants.{Done, Exceeded, Memory, Read, Write}
use Rattle.top_texts.specs.LeastReports.{IsReportOf}
use Rattle.top_texts.specs.Meanings.{Meanings}
use Rattle.top_texts.specs.Questions.{IsExcessIn, analysis_question}
use Rattle.top_texts.specs.Texts.{IsSolvable}

-- the output gets the whole report in a format of the least vector of these texts
pub record Prints (texts : Analysis (List ℕ)) (format : Format) (out out_now : SinkSeen) : Type 0 where
  pub bytes : List ℕ
  pub is_report : IsReportOf texts.program texts.domain texts.policy texts.improvements format bytes
  pub appended : Appends out.held out_now.held bytes

-- this exceeds exact work in their analysis
abbrev pub IsExcessAt : Meanings → Analysis (List ℕ) → Excess → Type 0
IsExcessAt m texts excess = IsExcessIn (analysis_question m Report texts.program texts.domain texts.policy texts.improvements) excess

-- what may come of texts whose improvements end within the limit: their report, or want of memory, an operation that is too wide or a joint
-- problem that is too large, or an output that failed in this call
pub data IsGiven (m : Meanings) (texts : Analysis (List ℕ)) (out out_now : SinkSeen) (status : Status) : Type 0 where
  done : status ≡ Done → IsGiven m texts out out_now status
  no_memory : status ≡ Memory → IsGiven m texts out out_now status
  exceeded : (excess : Excess) → status ≡ Exceeded excess → IsExcessAt m texts excess → IsGiven m texts out out_now status
  unwritten : status ≡ Write → Rose out.faults out_now.faults → IsGiven m texts out out_now status

-- the answer to the texts of an analysis: it is sound and complete
pub record IsAnalysed (m : Meanings) (texts : Analysis (List ℕ)) (format : Format) (out out_now : SinkSeen) (status : Status) : Type 0 where
  pub sound : status ≡ Done → Prints texts format out out_now
  pub complete : IsSolvable texts.program texts.domain texts.policy texts.improvements → IsGiven m texts out out_now status

-- what comes of the loads of the files of an analysis: all were read, and their contents are answered; or, after those that were, one
-- failed in this call, or is too long; or memory was wanted
pub data Comes (m : Meanings) (analysis : Analysis (List ℕ)) (format : Format) (made : List LoadedFile) (shelf shelf_now : ShelfSeen)
    (out out_now : SinkSeen) (status : Status) : Type 0 where
  is_read : AreRead shelf.files (files_of (Analyse Report analysis format)) made []
      → IsAnalysed m (analysis_with analysis (contents_of made)) format out out_now status
      → Comes m analysis format made shelf shelf_now out out_now status
  has_failed : (file : NamedFile) (left : List NamedFile)
      → AreRead shelf.files (files_of (Analyse Report analysis format)) made (file ∷ left)
      → shelf_now.faults ≡ next_count shelf.faults → shelf_now.last_failed ≡ file.1 → (status ≡ Read (Failed file.0)) ⊎ (status ≡ Memory)
      → Comes m analysis format made shelf shelf_now out out_now status
  is_long : (before : List LoadedFile) (long : LoadedFile) (file : NamedFile) (left : List NamedFile) → made ≡ before ++ long ∷ []
      → AreRead shelf.files (files_of (Analyse Report analysis format)) before (file ∷ left) → IsLong shelf.files file long
      → (status ≡ Read (TooLong file.0)) ⊎ (status ≡ Memory) → Comes m analysis format made shelf shelf_now out out_now status
  wants_memory : status ≡ Memory → Comes m analysis format made shelf shelf_now out out_now status

-- a run of an analysis: the loads of this call, behind those before, and what comes of them
pub record IsHeadline (m : Meanings) (analysis : Analysis (List ℕ)) (format : Format) (shelf shelf_now : ShelfSeen) (out out_now : SinkSeen)
    (status : Status) : Type 0 where
  pub made : List LoadedFile
  pub log : shelf_now.loads ≡ shelf.loads ++ made
  pub comes : Comes m analysis format made shelf shelf_now out out_now status
