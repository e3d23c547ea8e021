-- A file that isn't read failed in this run, or is too long.
use Rattle.std.proofs.Common.{◌≡◌, ◌∙◌, ℕ, List, ap, subst}
use Rattle.std.specs.Prelude.{Option, Some, None}
use Rattle.std.specs.declared.alloc.AllocError.{AllocError}
use Rattle.std.specs.Prelude.{Result, IsErr}
use Rattle.ask_files.proofs.loads.Unread.{unread_failed, unread_long, unread_none}
use Rattle.ask_files.specs.Files.{Request, files_of, unread}
use Rattle.ask_files.specs.Loads as loads
use Rattle.ask_files.specs.Loads.{LoadsEnd, contents_of}
use Rattle.ask_files.specs.declared.which.ReadCause.{ReadCause}
use Rattle.ask_files.specs.declared.which.ReadCause.TheVariants.{Failed, TooLong}
use Rattle.ask_files.specs.declared.which.Which.{Which}
use Rattle.ask_words.specs.Request.{request_of}
use Rattle.base_files.specs.Loads.{LoadedFile}
use Rattle.top_answer.specs.Answers as answers
use Rattle.top_answer.specs.Answers.{Ends, IsAnswer}
use Rattle.top_answer.specs.Commands.{Commands}
use Rattle.top_run.specs.Programs.{EndsInside}
use Rattle.top_run.specs.Loading as loading
use Rattle.top_run.specs.Loading.{HasFailed, IsLoading}
use Rattle.top_run.specs.Seen.{ShelfSeen}
use Rattle.top_status.specs.declared.status.Status.{Status}
use Rattle.top_status.specs.declared.status.Status.TheVariants.{Exceeded, Memory, Read, Usage}

none_some : {A : Type 0} (o : Option A) (a : A) → o ≡ None → o ≡ Some a → ⊥
none_some o a h k = cc

same_some : {A : Type 0} (o : Option A) (a b : A) → o ≡ Some a → o ≡ Some b → a ≡ b
same_some o a b h k = cc

failed_which : (a b : Which) → Failed a ≡ Failed b → a ≡ b
failed_which a b e = cc

long_failed : (a b : Which) → TooLong a ≡ Failed b → ⊥
long_failed a b e = cc

read_memory : (s : Status) (cause : ReadCause) → s ≡ Read cause → s ≡ Memory → ⊥
read_memory s cause h k = cc

read_usage : (s : Status) (cause : ReadCause) → s ≡ Read cause → s ≡ Usage → ⊥
read_usage s cause h k = cc

read_exceeded : (s : Status) (cause : ReadCause) (excess : _) → s ≡ Read cause → s ≡ Exceeded excess → ⊥
read_exceeded s cause excess h k = cc

read_cause : (s : Status) (a b : ReadCause) → s ≡ Read a → s ≡ Read b → a ≡ b
read_cause s a b h k = cc

module _ (words : List (List ℕ)) (made : List LoadedFile) (shelf now : ShelfSeen) (status : Status) (which : Which)
    (is : status ≡ Read (Failed which)) where
  in_loads : (request : Request) (result : Result (Unit {0}) AllocError) → request_of words ≡ Some request
      → unread (files_of request) (contents_of made) ≡ Some (Failed which) → (IsErr result → status ≡ Memory)
      → LoadsEnd shelf.files (files_of request) made shelf.faults now.faults now.last_failed result
      → HasFailed words made which shelf now
  in_loads request result asked un memory (loads.all_read r calm ok) =
      absurd (none_some (unread (files_of request) (contents_of made)) (Failed which)
      (unread_none shelf.files (files_of request) made r) un)
  in_loads request result asked un memory (loads.failed file left r count last ok) = record {
    request = request;
    asked = asked;
    file = file;
    left = left;
    which_is = failed_which file.0 which (same_some (unread (files_of request) (contents_of made)) (Failed file.0) (Failed which)
        (unread_failed shelf.files (files_of request) made file left r) un);
    before = r;
    counted = count;
    named = last;
  }
  in_loads request result asked un memory (loads.too_long before long file left e r over calm ok) =
      absurd (long_failed file.0 which (same_some (unread (files_of request) (contents_of made)) (TooLong file.0) (Failed which)
      (ap (λ ls. unread (files_of request) (contents_of ls)) e ∙ unread_long shelf.files (files_of request) before long file left r over)
      un))
  in_loads request result asked un memory (loads.wants_memory file left r calm err) =
      absurd (read_memory status (Failed which) is (memory err))

  in_loading : (request : Request) → request_of words ≡ Some request → unread (files_of request) (contents_of made) ≡ Some (Failed which)
      → IsLoading words made shelf now status → HasFailed words made which shelf now
  in_loading request asked un (loading.asks_nothing none e calm) = absurd (none_some (request_of words) request none asked)
  in_loading request asked un (loading.loads other result asked_other ends memory) =
      in_loads other result asked_other
      (subst (λ r. unread (files_of r) (contents_of made) ≡ Some (Failed which))
      (same_some (request_of words) request other asked asked_other) un) memory ends
  in_loading request asked un (loading.loads_nothing e calm memory) = absurd (read_memory status (Failed which) is memory)

  -- a file that isn't read, as the answer says, failed in this run
  pub failed_in : (commands : Commands) → EndsInside commands → IsAnswer commands words (contents_of made) status
      → IsLoading words made shelf now status → HasFailed words made which shelf now
  failed_in commands lawful (answers.is_ending (answers.unasked none u)) l = absurd (read_usage status (Failed which) is u)
  failed_in commands lawful (answers.is_ending (answers.not_read request cause asked un u)) l =
      in_loading request asked (un ∙ ap Some (read_cause status cause (Failed which) u is)) l
  failed_in commands lawful (answers.is_ending (answers.decided asked asks ends)) l =
      absurd (lawful.reads asked (Failed which) (subst (λ s. (commands asked).ends s) is ends))
  failed_in commands lawful (answers.is_exceeded excess e w) l = absurd (read_exceeded status (Failed which) excess is e)
  failed_in commands lawful (answers.is_memory e) l = absurd (read_memory status (Failed which) is e)
