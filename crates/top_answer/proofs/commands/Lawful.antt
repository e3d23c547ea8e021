-- What commands have to keep to, so that an answer is one.
use Rattle.std.proofs.Common.{◌≡◌, ◌≢◌, ℕ, List, refl, subst, sym}
use Rattle.std.specs.Prelude.{None}
use Rattle.ask_files.specs.Files.{Request, files_of, unread, with_texts}
use Rattle.ask_files.specs.declared.which.ReadCause.{ReadCause}
use Rattle.ask_words.specs.declared.format.Format.{Format}
use Rattle.ask_words.specs.declared.request.Analysis.{Analysis}
use Rattle.ask_words.specs.declared.request.Purpose.TheVariants.{Certificate}
use Rattle.ask_words.specs.declared.request.Request.TheVariants.{Analyse}
use Rattle.top_answer.specs.Answers.{IsOfRounds}
use Rattle.top_answer.specs.Commands.{Commands, command_of, done_writes}
use Rattle.top_status.specs.declared.status.Excess.{Excess}
use Rattle.top_status.specs.declared.status.Status.{Status}
use Rattle.top_status.specs.declared.status.Status.TheVariants.{Done, Open, Certificate as Refused, Usage, Read, Text, Exceeded, Spent}
use Rattle.top_status.specs.declared.status.Status.TheVariants.{Memory, Write}
use Rattle.top_texts.specs.Exact.{exact}

-- a command whose answers are determined by what stands, by its endings, what may exceed exact work, and what it writes
pub record IsLawfulCommand (ends : Status → Type 0) (exceeds : Excess → Type 0) (writes : Status → List ℕ → Type 0) :
    Type 0 where
  -- texts have one ending
  pub ends_once : (s t : Status) → ends s → ends t → s ≡ t
  -- improvements decide it where something exceeds exact work
  pub exceeded_ends : (excess : Excess) (s : Status) → exceeds excess → ends s → IsOfRounds s
  -- it is the one at which something is written
  pub written_ends : (s : Status) (bytes : List ℕ) → writes s bytes → ends s
  -- it is no failed read
  pub never_unread : (cause : ReadCause) → ends (Read cause) → ⊥
  -- and no failed put
  pub never_unwritten : ends Write → ⊥

-- ---- what is written where a command is done alone

-- it is written at that ending
pub at_done : (writes : List ℕ → Type 0) (s : Status) (bytes : List ℕ) → done_writes writes s bytes → (s ≡ Done) × writes bytes
at_done writes Done bytes h = (refl, h)
at_done writes Open bytes h = absurd h
at_done writes (Refused cause) bytes h = absurd h
at_done writes Usage bytes h = absurd h
at_done writes (Read cause) bytes h = absurd h
at_done writes (Text cause) bytes h = absurd h
at_done writes (Exceeded excess) bytes h = absurd h
at_done writes (Spent n) bytes h = absurd h
at_done writes Memory bytes h = absurd h
at_done writes Write bytes h = absurd h

-- so that ending stands where success does
pub done_ends : (ends : Status → Type 0) (writes : List ℕ → Type 0) → ((bytes : List ℕ) → writes bytes → ends Done) → (s : Status)
    (bytes : List ℕ) → done_writes writes s bytes → ends s
done_ends ends writes law s bytes h =
    let w = at_done writes s bytes h in
    subst ends (sym w.0) (law bytes w.1)

-- and one text is written where one is at success
pub done_once : (writes : List ℕ → Type 0) → ((one other : List ℕ) → writes one → writes other → one ≡ other) → (s t : Status)
    (one other : List ℕ) → done_writes writes s one → done_writes writes t other → one ≡ other
done_once writes law s t one other h k = law one other (at_done writes s one h).1 (at_done writes t other k).1

-- ---- commands

-- commands that are such, whatever is asked
abbrev pub IsLawful : Commands → Type 0
IsLawful commands = (asked : Request) → IsLawfulCommand (commands asked).ends (commands asked).exceeds (commands asked).writes

-- the numbers of a request are within their limits
abbrev pub IsInRange : Request → Type 0
IsInRange request = (command_of exact request).in_range

-- the request is for no certificate
abbrev pub IsForNone : Request → Type 0
IsForNone request = (analysis : Analysis (List ℕ)) (format : Format) → request ≢ Analyse Certificate analysis format

-- what is shown of each request of the program
pub record IsCommand (request : Request) : Type 0 where
  -- its command is lawful
  pub lawful : IsLawfulCommand (command_of exact request).ends (command_of exact request).exceeds (command_of exact request).writes
  -- one text is written of its texts, unless it is a certificate
  pub writes_once : IsForNone request → (contents : List (List ℕ)) (s t : Status) (one other : List ℕ)
      → (command_of exact (with_texts request contents)).writes s one
      → (command_of exact (with_texts request contents)).writes t other → one ≡ other
  -- where its numbers are within their limits and its files are read, its texts are within theirs
  pub limits : (contents : List (List ℕ)) → IsInRange request → unread (files_of request) contents ≡ None
      → (command_of exact (with_texts request contents)).in_limits
