-- From the loads of a request to an answer over them.
use Rattle.std.proofs.Common.{◌≡◌, ◌∙◌, ◌++◌, ⊎_elim, ℕ, List, [], zero, suc, ◌∷◌, ◌⊎◌, ◌-◌, refl, sym, ap, subst, length, drop, take}
use Rattle.std.proofs.Common.{append-nil, Option}
use Rattle.std.proofs.Math.Seq.{drop-append_seam}
use Rattle.std.proofs.lemmas.List.{take_rest}
use Rattle.std.specs.Prelude.{Some, None, Result, Ok, IsErr, IsTrue}
use Rattle.std.specs.declared.alloc.AllocError.{AllocError}
use Rattle.ask_files.specs.Files.{Request}
use Rattle.ask_files.specs.Loads.{contents_of}
use Rattle.ask_words.specs.Request.{request_of}
use Rattle.base_files.specs.Loads.{LoadedFile, loaded_files}
use Rattle.base_files.specs.declared.load.Load.{Load}
use Rattle.top_answer.specs.Commands.{Commands}
use Rattle.top_run.specs.Lines.{pieces_of}
use Rattle.top_run.specs.declared.output.Pieces.{Pieces}
use Rattle.top_run.specs.Loading.{IsLoading, asks_nothing, loads, loads_nothing}
use Rattle.top_run.specs.Parts.{IsAnswerOver, IsAnswerTo, IsRequestLoaded}
use Rattle.top_run.specs.Seen.{ShelfSeen}
use Rattle.top_status.specs.Status.{has_output}
use Rattle.top_status.specs.declared.status.Status.{Status}
use Rattle.top_status.specs.declared.status.Status.TheVariants.{Memory}
use Rattle.top_texts.specs.Meanings.{Meanings}
use Rattle.top_texts.proofs.analyses.Found.{no_output}

-- ---- the loads of this run

drop_files : (n : ℕ) (kept : List Load) → loaded_files (drop n kept) ≡ drop n (loaded_files kept)
drop_files zero kept = refl
drop_files (suc n) [] = refl
drop_files (suc n) (load ∷ kept) = drop_files n kept

length_files : (kept : List Load) → length kept ≡ length (loaded_files kept)
length_files [] = refl
length_files (load ∷ kept) = ap suc (length_files kept)

-- the loads behind those that were kept before are those that were made
pub behind : (kept kept_now : List Load) (before now made : List LoadedFile) → loaded_files kept ≡ before → loaded_files kept_now ≡ now
    → now ≡ before ++ made → loaded_files (take (length kept_now - length kept) (drop (length kept) kept_now)) ≡ made
behind kept kept_now before now made is is_now log =
    ap loaded_files (take_rest kept_now (length kept)) ∙ drop_files (length kept) kept_now
    ∙ ap (λ n. drop n (loaded_files kept_now)) (length_files kept ∙ ap length is)
    ∙ ap (drop (length before)) (is_now ∙ log) ∙ drop-append_seam before made

-- ---- the answer over them

is_loading : (words : List (List ℕ)) (request : Request) (shelf shelf_now : ShelfSeen) (result : Result (Unit {0}) AllocError)
    (status : Status) → request_of words ≡ Some request → (h : IsRequestLoaded request shelf shelf_now result)
    → (IsErr result → status ≡ Memory) → IsLoading words h.made shelf shelf_now status
is_loading words request shelf now result status asked h memory =
    ⊎_elim (λ ends. loads request result asked ends memory) (λ none. loads_nothing none.0 none.1 (memory none.2)) h.ends

-- a result that is `Ok` is no error
pub not_err : (result : Result (Unit {0}) AllocError) (done : Unit {0}) → result ≡ Ok done → IsErr result → ⊥
not_err result done e err = cc

-- an answer over the contents of these loads
pub over : (commands : Commands) (m : Meanings) (words : List (List ℕ)) (request : Request) (shelf shelf_now : ShelfSeen)
    (result : Result (Unit {0}) AllocError) (status : Status) (bytes message : List ℕ) (made : List LoadedFile)
    → request_of words ≡ Some request → (h : IsRequestLoaded request shelf shelf_now result) → (IsErr result → status ≡ Memory)
    → made ≡ h.made → IsAnswerTo commands m words (contents_of made) status bytes message
    → IsAnswerOver commands m words shelf shelf_now status bytes message
over commands m words request shelf now result status bytes message made asked h memory same answer = record {
  made = h.made;
  log = h.log;
  loads = is_loading words request shelf now result status asked h memory;
  kept = h.kept;
  is_answer = subst (λ loads. IsAnswerTo commands m words (contents_of loads) status bytes message) same answer;
}

-- ---- words whose request isn't read

-- where nothing is loaded, an answer is one over no contents
pub unloaded : (commands : Commands) (m : Meanings) (words : List (List ℕ)) (shelf : ShelfSeen) (status : Status) (bytes message : List ℕ)
    → (request_of words ≡ None) ⊎ (status ≡ Memory) → IsAnswerTo commands m words [] status bytes message
    → IsAnswerOver commands m words shelf shelf status bytes message
unloaded commands m words shelf status bytes message cause answer = record {
  made = [];
  log = sym (append-nil shelf.loads);
  loads = ⊎_elim (λ none. asks_nothing none refl refl) (λ memory. loads_nothing refl refl memory) cause;
  kept = refl;
  is_answer = answer;
}

same_request : (o : Option Request) (a b : Request) → o ≡ Some a → o ≡ Some b → a ≡ b
same_request o a b h k = cc

-- the pieces of the request that the words ask for
pub one_request : (words : List (List ℕ)) (read request : Request) (pieces : Pieces) → request_of words ≡ Some read
    → pieces ≡ pieces_of read → request_of words ≡ Some request → pieces ≡ pieces_of request
one_request words read request pieces is e asked = e ∙ ap pieces_of (same_request (request_of words) read request is asked)

none_some : (o : Option Request) (a : Request) → o ≡ None → o ≡ Some a → ⊥
none_some o a h k = cc

-- where there is no request, no run has an output
pub not_done : (words : List (List ℕ)) (status : Status) (request : Request) → (request_of words ≡ None) ⊎ (status ≡ Memory)
    → request_of words ≡ Some request → IsTrue (has_output status) → ⊥
not_done words status request cause asked out =
    ⊎_elim (λ none. none_some (request_of words) request none asked) (λ memory. no_output status Memory memory refl out) cause
