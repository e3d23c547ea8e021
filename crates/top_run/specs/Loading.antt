-- What a run loads.
use Rattle.std.specs.Prelude.{◌≡◌, ℕ, List, [], ◌∷◌, Some, None, Result, IsErr}
use Rattle.std.specs.declared.alloc.AllocError.{AllocError}
use Rattle.ask_files.specs.Files.{NamedFile, Request, files_of}
use Rattle.ask_files.specs.Loads.{AreRead, LoadsEnd}
use Rattle.ask_files.specs.declared.which.Which.{Which}
use Rattle.ask_words.specs.Request.{request_of}
use Rattle.base_files.specs.Faults.{next_count}
use Rattle.base_files.specs.Loads.{LoadedFile}
use Rattle.top_run.specs.Seen.{ShelfSeen}
use Rattle.top_status.specs.declared.status.Status.{Status}
use Rattle.top_status.specs.declared.status.Status.TheVariants.{Memory}

-- these loads were made: words that ask for nothing load nothing; a request loads its files in their order, up to the first that isn't
-- read; and where memory was wanted before or between the loads, nothing else is said
pub data IsLoading (words : List (List ℕ)) (made : List LoadedFile) (shelf shelf_now : ShelfSeen) (status : Status) : Type 0 where
  asks_nothing : request_of words ≡ None → made ≡ [] → shelf_now.faults ≡ shelf.faults → IsLoading words made shelf shelf_now status
  loads : (request : Request) (result : Result (Unit {0}) AllocError) → request_of words ≡ Some request
      → LoadsEnd shelf.files (files_of request) made shelf.faults shelf_now.faults shelf_now.last_failed result
      → (IsErr result → status ≡ Memory) → IsLoading words made shelf shelf_now status
  loads_nothing : made ≡ [] → shelf_now.faults ≡ shelf.faults → status ≡ Memory → IsLoading words made shelf shelf_now status

-- a file of the request failed, after those before it were read: the count of the shelf rose by one, and its last failed name is that of
-- this file
pub record HasFailed (words : List (List ℕ)) (made : List LoadedFile) (which : Which) (shelf shelf_now : ShelfSeen) : Type 0 where
  pub request : Request
  pub asked : request_of words ≡ Some request
  pub file : NamedFile
  pub left : List NamedFile
  pub which_is : file.0 ≡ which
  pub before : AreRead shelf.files (files_of request) made (file ∷ left)
  pub counted : shelf_now.faults ≡ next_count shelf.faults
  pub named : shelf_now.last_failed ≡ file.1
