-- A run over files and an output in memory.
use Rattle.std.specs.Prelude.{◌≡◌, ◌+◌, ℕ, List, [], ◌∷◌, IsTrue, Option, Some, None, if◌then◌else◌, length, nat_lt, take}
use Rattle.std.specs.Io.KnownBytes.{Appends}
use Rattle.ask_files.specs.Files.{NamedFile, Request, files_of, most_bytes}
use Rattle.ask_words.specs.Request.{request_of}
use Rattle.base_files.specs.Files.{Contents}
use Rattle.top_status.specs.Status.{has_output}
use Rattle.top_status.specs.declared.status.Status.{Status}
use Rattle.top_status.specs.declared.status.Status.TheVariants.{Memory}

-- what the load of a file gives: its content, or the first bytes of one that is too long
abbrev pub front_of : NamedFile → List ℕ → List ℕ
front_of file content = take (most_bytes file.0 + 1) content

-- the content of a file before those of others: nothing where there is none, and only its own where it is too long
abbrev pub content_before : NamedFile → List (List ℕ) → Option (List ℕ) → List (List ℕ)
content_before file others None = []
content_before file others (Some content) =
    front_of file content ∷ (if nat_lt (most_bytes file.0) (length content) then [] else others)

-- the contents of named files, up to the first that isn't there or is too long
abbrev pub contents_in : Contents → List NamedFile → List (List ℕ)
contents_in files [] = []
contents_in files (file ∷ rest) = content_before file (contents_in files rest) (files file.1)

-- the contents of the files of a request, where there is one
abbrev pub contents_asked : Contents → Option Request → List (List ℕ)
contents_asked files None = []
contents_asked files (Some request) = contents_in files (files_of request)

-- the contents of the files that words name
abbrev pub contents_for : Contents → (words : List (List ℕ)) → List (List ℕ)
contents_for files words = contents_asked files (request_of words)

-- an output in memory gets all of it where the run is done or a check is open; where memory is wanted a part of what is written at some
-- ending, or nothing; and else nothing
pub data InMemory (IsIt : Status → List ℕ → Type 0) (status : Status) (held now : Option (List ℕ)) : Type 0 where
  gets_whole : (bytes : List ℕ) → IsTrue (has_output status) → IsIt status bytes → Appends held now bytes → InMemory IsIt status held now
  gets_part : (ending : Status) (bytes : List ℕ) (n : ℕ) → status ≡ Memory → IsIt ending bytes → Appends held now (take n bytes)
      → InMemory IsIt status held now
  gets_nothing : (IsTrue (has_output status) → ⊥) → now ≡ held → InMemory IsIt status held now
