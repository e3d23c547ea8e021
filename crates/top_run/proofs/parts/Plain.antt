-- Over files and an output in memory nothing fails outside: what is loaded is what the files are.
use Rattle.std.proofs.Common.{◌≡◌, ◌∙◌, ◌⊎◌, inl, inr, ⊎_elim, ◌<◌, ◌≤◌, ◌+◌, ◌++◌, ◌∷◌, ℕ, List, []}
use Rattle.std.proofs.Common.{true, false, refl, sym, ap, subst, length, take, min, arith, append-nil, if◌then◌else◌}
use Rattle.std.proofs.Math.Seq.{take-length}
use Rattle.std.proofs.lemmas.List.{length-take, take_min}
use Rattle.std.specs.Prelude.{Some, None, Option, Result, IsErr, IsTrue, nat_lt, option_map}
use Rattle.std.specs.declared.alloc.AllocError.{AllocError}
use Rattle.ask_files.proofs.loads.Unread.{unread_failed}
use Rattle.ask_files.specs.Files.{NamedFile, Request, files_of, most_bytes, unread}
use Rattle.ask_files.specs.Loads as loads
use Rattle.ask_files.specs.Loads.{AreRead, IsLong, IsRead, LoadsEnd, contents_of}
use Rattle.ask_words.specs.Request.{request_of}
use Rattle.base_files.specs.Faults.{Rose, next_count}
use Rattle.base_files.specs.Files.{Contents}
use Rattle.base_files.specs.Loads.{LoadedFile}
use Rattle.top_answer.specs.Answers as answers
use Rattle.top_answer.specs.Answers.{IsAnsweredBy, Ends, IsAnswer, IsOutput}
use Rattle.top_answer.specs.Commands.{Commands}
use Rattle.top_run.specs.Loading as loading
use Rattle.top_run.specs.Loading.{IsLoading}
use Rattle.top_run.specs.Memory as memory
use Rattle.top_run.specs.Memory.{InMemory, content_before, contents_asked, contents_for, contents_in, front_of}
use Rattle.top_run.specs.Outputs as outputs
use Rattle.top_run.specs.Outputs.{OutputGets}
use Rattle.top_run.specs.Run as run
use Rattle.top_run.specs.Run.{IsRun}
use Rattle.top_run.specs.Seen.{ShelfSeen, SinkSeen}
use Rattle.top_status.specs.Status.{has_output}
use Rattle.top_status.specs.declared.status.Status.{Status}
use Rattle.top_status.specs.declared.status.Status.TheVariants.{Memory, Write}
use Rattle.top_texts.specs.Meanings.{Meanings}
use Rattle.top_texts.proofs.analyses.Found.{no_output}

none_some : {A : Type 0} (o : Option A) (a : A) → o ≡ None → o ≡ Some a → ⊥
none_some o a h k = cc

same_some : {A : Type 0} (o : Option A) (a b : A) → o ≡ Some a → o ≡ Some b → a ≡ b
same_some o a b h k = cc

some_inside : {A : Type 0} (a b : A) → Some a ≡ Some b → a ≡ b
some_inside a b e = cc

-- ---- the contents that are read

not_over : (most : ℕ) (content text : List ℕ) → take (most + 1) content ≡ text → length text ≤ most → nat_lt most (length content) ≡ false
not_over most content text e h =
    let l : min (most + 1) (length content) ≤ most = subst (λ n. n ≤ most) (length-take (most + 1) content)
    (subst (λ t. length t ≤ most) (sym e) h) in
    grind arith

not_over_le : (most : ℕ) (content text : List ℕ) → take (most + 1) content ≡ text → length text ≤ most → length content ≤ most + 1
not_over_le most content text e h =
    let l : min (most + 1) (length content) ≤ most = subst (λ n. n ≤ most) (length-take (most + 1) content)
    (subst (λ t. length t ≤ most) (sym e) h) in
    grind arith

take_all : (n : ℕ) (xs : List ℕ) → length xs ≤ n → take n xs ≡ xs
take_all n xs h =
    let short : min n (length xs) ≡ length xs = grind arith in
    sym (take_min n xs) ∙ ap (λ k. take k xs) short ∙ take-length xs

over : (most : ℕ) (content text : List ℕ) → take (most + 1) content ≡ text → most < length text → nat_lt most (length content) ≡ true
over most content text e h =
    let l : most < min (most + 1) (length content) =
    subst (λ n. most < n) (length-take (most + 1) content) (subst (λ t. most < length t) (sym e) h) in
    grind arith

module _ (files : Contents) where
  by_content : (file : NamedFile) (load : LoadedFile) (others : List (List ℕ)) (o : Option (List ℕ)) → files file.1 ≡ o
      → option_map (take (most_bytes file.0 + 1)) o ≡ Some load.1 → length load.1 ≤ most_bytes file.0
      → content_before file others o ≡ load.1 ∷ others
  by_content file load others None e front within = let f : ⊥ = cc in absurd f
  by_content file load others (Some content) e front within =
      let same = some_inside (front_of file content) load.1 front in
      ap (λ b. front_of file content ∷ (if b then [] else others)) (not_over (most_bytes file.0) content load.1 same within)
      ∙ ap (λ text. text ∷ others) same

  whole_by : (file : NamedFile) (load : LoadedFile) (o : Option (List ℕ)) → files file.1 ≡ o
      → option_map (take (most_bytes file.0 + 1)) o ≡ Some load.1 → length load.1 ≤ most_bytes file.0 → files file.1 ≡ Some load.1
  whole_by file load None e front within = let f : ⊥ = cc in absurd f
  whole_by file load (Some content) e front within =
      let same = some_inside (front_of file content) load.1 front in
      e ∙ ap Some (sym (take_all (most_bytes file.0 + 1) content
      (not_over_le (most_bytes file.0) content load.1 same within)) ∙ same)

  -- what is read of a file is its content
  pub whole : (file : NamedFile) (load : LoadedFile) → IsRead (Some files) file load → files file.1 ≡ Some load.1
  whole file load h = whole_by file load (files file.1) refl h.is_load.front h.within

  by_long : (file : NamedFile) (load : LoadedFile) (others : List (List ℕ)) (o : Option (List ℕ)) → files file.1 ≡ o
      → option_map (take (most_bytes file.0 + 1)) o ≡ Some load.1 → most_bytes file.0 < length load.1
      → content_before file others o ≡ load.1 ∷ []
  by_long file load others None e front long = let f : ⊥ = cc in absurd f
  by_long file load others (Some content) e front long =
      let same = some_inside (front_of file content) load.1 front in
      ap (λ b. front_of file content ∷ (if b then [] else others)) (over (most_bytes file.0) content load.1 same long)
      ∙ ap (λ text. text ∷ []) same

  -- files that were read have these contents
  read_contents : (named : List NamedFile) (made : List LoadedFile) (left : List NamedFile) → AreRead (Some files) named made left
      → contents_in files named ≡ contents_of made ++ contents_in files left
  read_contents named [] left h = ap (contents_in files) h
  read_contents [] (load ∷ made) left h = absurd h
  read_contents (file ∷ named) (load ∷ made) left h =
      by_content file load (contents_in files named) (files file.1) refl h.0.is_load.front h.0.within
      ∙ ap (λ texts. load.1 ∷ texts) (read_contents named made left h.1)

  absent_contents : (named : List NamedFile) (made : List LoadedFile) (file : NamedFile) (left : List NamedFile)
      → AreRead (Some files) named made (file ∷ left) → files file.1 ≡ None → contents_in files named ≡ contents_of made
  absent_contents named made file left h none =
      read_contents named made (file ∷ left) h
      ∙ ap (λ o. contents_of made ++ content_before file (contents_in files left) o) none ∙ append-nil (contents_of made)

  map_snoc : (before : List LoadedFile) (long : LoadedFile) → contents_of before ++ long.1 ∷ [] ≡ contents_of (before ++ long ∷ [])
  map_snoc [] long = refl
  map_snoc (load ∷ before) long = ap (λ texts. load.1 ∷ texts) (map_snoc before long)

  long_contents : (named : List NamedFile) (before : List LoadedFile) (long : LoadedFile) (file : NamedFile) (left : List NamedFile)
      → AreRead (Some files) named before (file ∷ left) → IsLong (Some files) file long
      → contents_in files named ≡ contents_of (before ++ long ∷ [])
  long_contents named before long file left h is =
      read_contents named before (file ∷ left) h
      ∙ ap (λ texts. contents_of before ++ texts) (by_long file long (contents_in files left) (files file.1) refl is.is_load.front is.over)
      ∙ map_snoc before long

counted_some : (f f' : ℕ) → f' ≡ next_count f → 0 < f'
counted_some f f' e = grind arith

same_files : (x y : Contents) → Some x ≡ Some y → x ≡ y
same_files x y e = cc

-- where there was no file among the same files, there is none
pub absent_in : (now before files : Contents) (name : List ℕ) → Some now ≡ Some before → Some before ≡ Some files → now name ≡ None
    → files name ≡ None
absent_in now before files name kept told none =
    subst (λ (fs : Contents). fs name ≡ None) (same_files now before kept ∙ same_files before files told) none

-- a count that stays at 0 doesn't rise
pub stays : Rose 0 0 → ⊥
stays rose = omega arith

memory_write : (s : Status) → s ≡ Memory → s ≡ Write → ⊥
memory_write s h k = cc

module _ (commands : Commands) (m : Meanings) (words : List (List ℕ)) (shelf now : ShelfSeen) (out out_now err err_now : SinkSeen)
    (status : Status) (r : IsRun commands m words shelf now out out_now err err_now status) (files : Contents)
    (told : shelf.files ≡ Some files) (absent : 0 < now.faults → files now.last_failed ≡ None)
    (never : Rose out.faults out_now.faults → ⊥) where
  -- what was loaded is what the files are; or memory was wanted before the end, and there is no output
  abbrev Same : List LoadedFile → Type 0
  Same made = (contents_of made ≡ contents_for files words)
      ⊎ ((status ≡ Memory) × ((ending : Status) (bytes : List ℕ) → IsOutput commands words (contents_of made) ending bytes → ⊥))

  none_written : (made : List LoadedFile) (request : Request) (cause : _) → request_of words ≡ Some request
      → unread (files_of request) (contents_of made) ≡ Some cause
      → (ending : Status) (bytes : List ℕ) → IsOutput commands words (contents_of made) ending bytes → ⊥
  none_written made request cause asked un ending bytes o =
      none_some (unread (files_of request) (contents_of made)) cause
      (subst (λ q. unread (files_of q) (contents_of made) ≡ None)
      (same_some (request_of words) o.asks.request request o.asks.request_is asked) o.asks.all_read) un

  asked_contents : (request : Request) → request_of words ≡ Some request → contents_in files (files_of request) ≡ contents_for files words
  asked_contents request asked = sym (ap (contents_asked files) asked)

  by_loads : (made : List LoadedFile) (request : Request) (result : Result (Unit {0}) AllocError) → request_of words ≡ Some request
      → (IsErr result → status ≡ Memory)
      → LoadsEnd (Some files) (files_of request) made shelf.faults now.faults now.last_failed result → Same made
  by_loads made request result asked wanting (loads.all_read h calm ok) =
      inl (sym (append-nil (contents_of made)) ∙ sym (read_contents files (files_of request) made [] h) ∙ asked_contents request asked)
  by_loads made request result asked wanting (loads.failed file left h count last ok) =
      inl (sym (absent_contents files (files_of request) made file left h
      (subst (λ name. files name ≡ None) last (absent (counted_some shelf.faults now.faults count)))) ∙ asked_contents request asked)
  by_loads made request result asked wanting (loads.too_long before long file left e h is calm ok) =
      inl (ap contents_of e ∙ sym (long_contents files (files_of request) before long file left h is) ∙ asked_contents request asked)
  by_loads made request result asked wanting (loads.wants_memory file left h calm failed) =
      inr (wanting failed, none_written made request _ asked (unread_failed (Some files) (files_of request) made file left h))

  by_nothing : (o : Option Request) → request_of words ≡ o → status ≡ Memory → Same []
  by_nothing None none wanting = inl (sym (ap (contents_asked files) none))
  by_nothing (Some request) asked wanting = by_files (files_of request) refl
    where
      by_files : (named : List NamedFile) → files_of request ≡ named → Same []
      by_files [] e = inl (sym (ap (contents_in files) e) ∙ asked_contents request asked)
      by_files (file ∷ left) e = inr (wanting, none_written [] request _ asked (ap (λ fs. unread fs []) e))

  by_loading : (made : List LoadedFile) → IsLoading words made shelf now status → Same made
  by_loading made (loading.asks_nothing none e calm) = inl (ap contents_of e ∙ sym (ap (contents_asked files) none))
  by_loading made (loading.loads request result asked ends wanting) =
      by_loads made request result asked wanting
      (subst (λ o. LoadsEnd o (files_of request) made shelf.faults now.faults now.last_failed result) told ends)
  by_loading made (loading.loads_nothing e calm wanting) = subst Same (sym e) (by_nothing (request_of words) refl wanting)

  -- ---- what is promised over these contents

  written : OutputGets (IsOutput commands words (contents_of r.made)) words status out out_now → status ≡ Write → ⊥
  written (outputs.gets_whole bytes d is put) w = no_output status Write w refl d
  written (outputs.gets_part ending bytes n e is appended rises) w = never rises
  written (outputs.gets_fitting ending bytes n e is appended long calm) w = memory_write status e w
  written (outputs.gets_nothing other no_write same) w = no_write w

  is_answer : run.IsEnding commands words (contents_of r.made) status → IsAnswer commands words (contents_of r.made) status
  is_answer (run.is_answer a) = a
  is_answer (run.is_unwritten ending w d h) = absurd (written r.output w)

  -- what is answered is so of the words and of these files
  pub answer : IsAnswer commands words (contents_for files words) status
  answer = ⊎_elim (λ same. subst (λ texts. IsAnswer commands words texts status) same (is_answer r.answer))
      (λ wanting. answers.is_memory wanting.0) (by_loading r.made r.loads)

  answers_given : (ending : Status) → run.IsGiven commands words (contents_of r.made) ending status
      → IsAnsweredBy commands words (contents_of r.made) ending status
  answers_given ending (run.answered a) = a
  answers_given ending (run.unwritten w d) = absurd (written r.output w)

  -- each ending of the words over these files is answered
  pub complete : (ending : Status) → Ends commands words (contents_for files words) ending
      → IsAnsweredBy commands words (contents_for files words) ending status
  complete ending h = ⊎_elim
      (λ same. subst (λ texts. IsAnsweredBy commands words texts ending status) same
      (let back = subst (λ texts. Ends commands words texts ending) (sym same) h in
      answers_given ending (r.complete ending back).given))
      (λ wanting. answers.no_memory wanting.0) (by_loading r.made r.loads)

  gets : ((ending : Status) (bytes : List ℕ) → IsOutput commands words (contents_of r.made) ending bytes → status ≡ Memory
      → IsOutput commands words (contents_for files words) ending bytes)
      → ((bytes : List ℕ) → IsOutput commands words (contents_of r.made) status bytes → IsTrue (has_output status)
      → IsOutput commands words (contents_for files words) status bytes)
      → OutputGets (IsOutput commands words (contents_of r.made)) words status out out_now
      → InMemory (IsOutput commands words (contents_for files words)) status out.held out_now.held
  gets f g (outputs.gets_whole bytes d is put) = memory.gets_whole bytes d (g bytes is d) put.appended
  gets f g (outputs.gets_part ending bytes n w is appended rises) = absurd (never rises)
  gets f g (outputs.gets_fitting ending bytes n e is appended long calm) = memory.gets_part ending bytes n e (f ending bytes is e) appended
  gets f g (outputs.gets_nothing other written same) = memory.gets_nothing other (ap (λ (sink : SinkSeen). sink.held) same)

  -- the output gets what the words ask for over these files
  pub output : InMemory (IsOutput commands words (contents_for files words)) status out.held out_now.held
  output = ⊎_elim
      (λ same. gets (λ ending bytes is e. subst (λ texts. IsOutput commands words texts ending bytes) same is)
      (λ bytes is d. subst (λ texts. IsOutput commands words texts status bytes) same is) r.output)
      (λ wanting. gets (λ ending bytes is e. absurd (wanting.1 ending bytes is))
      (λ bytes is d. absurd (no_output status Memory wanting.0 refl d)) r.output)
      (by_loading r.made r.loads)
